-- For the tests: whether a frame keeps scrolls as they are.
use Rattle.std.specs.Prelude.{ℕ, ◌==◌, ◌||◌, Bool, false, not, List, Option, Some, None, option_map, unwrap_or}
use Rattle.tx_compose.specs.Frame.{reported_entry}
use Rattle.tx_compose.specs.Presented.{Presented}
use Rattle.tx_node_map.specs.Held.{held}
use Rattle.tx_tree.specs.declared.row.Row.{Row}

abbrev pub differs : Option (ℕ × ℕ) → ℕ × ℕ → Bool
differs None scroll = false
differs (Some kept) scroll = not (kept.0 == scroll.0) || not (kept.1 == scroll.1)

-- whether a row is scrolled otherwise than the accepted frame keeps it
abbrev pub is_out : Option Presented → List (Option (ℕ × ℕ)) → Row → Bool
is_out accepted scrolls row = differs (option_map (λ entry. entry.scroll) (reported_entry accepted row.node)) (unwrap_or (held scrolls row.node.0) (0, 0))
