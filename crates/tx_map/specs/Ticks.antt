-- How many arrangements were made.
use Rattle.std.specs.Prelude.{ℕ, ◌+◌, ◌≤◌, List, [], ◌∷◌, replicate, if◌then◌else◌}
use Rattle.std.specs.List.{FoldsTo}
use Rattle.tx_io.specs.declared.steps.Tick.{Tick}
use Rattle.tx_io.specs.declared.steps.Tick.TheVariants.{Arranged}
use Rattle.tx_sizes.specs.Counts.{is_deeper}
use Rattle.tx_sizes.specs.Forest.{Styled}
use Rattle.tx_tree.specs.Kind.{holds_children}
use Rattle.tx_tree.specs.declared.row.Row.{Row}

-- arrangements were reported to a ledger, at most so many, and nothing else
pub record ArrangedAtMost {L : Type 0} (ticked : L → Tick → L → Type 0) (most : ℕ) (before after : L) : Type 0 where
  pub count : ℕ
  pub few : count ≤ most
  pub told : FoldsTo ticked before (replicate count Arranged) after

-- ---- containers, which alone are arranged

-- 1 for a container, a row of a kind that has children, and 0 for another one
abbrev pub container_number : Row → ℕ
container_number row = if holds_children row.kind then 1 else 0

-- how many containers there are among rows
unfoldable pub container_count : List Row → ℕ
container_count [] = 0
container_count (row ∷ rows) = container_number row + container_count rows

-- and among the first ones that are deeper than a depth
unfoldable pub containers_below : ℕ → List Styled → ℕ
containers_below least [] = 0
containers_below least (row ∷ rows) = if is_deeper least row then container_number row.row + containers_below least rows else 0
