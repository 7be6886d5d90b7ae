-- Which rows a map shows.
use Rattle.std.specs.Prelude.{ℕ, ◌+◌, ◌==◌, ◌&&◌, Bool, List, [], ◌∷◌, ◌++◌, if◌then◌else◌}
use Rattle.std.specs.List.{flat_map, list_any}
use Rattle.tx_layout.specs.Children.{layers, numbered}
use Rattle.tx_layout.specs.Laws.{celled}
use Rattle.tx_layout.specs.declared.children.Child.{Child}
use Rattle.tx_layout.specs.declared.styles.BoxStyle.{BoxStyle}
use Rattle.tx_look.specs.Boxes.{grid_style}
use Rattle.tx_sizes.specs.Forest.{Styled, Forest, Empty, Grown}
use Rattle.tx_sizes.specs.Measures.{boxes, is_taking_part}
use Rattle.tx_tree.specs.Kind.{holds_children}
use Rattle.tx_value.specs.StyleReads as style

-- Whether a row has room for the child with a number among those that take part, which have these boxes: for a docked one, for each that
-- follows others in a column or a row, and for one of a grid that finds a place. A row of a kind without children has none.
unfoldable pub has_room : Styled → List BoxStyle → ℕ → Bool
has_room row children n =
    holds_children row.row.kind
    && list_any (λ (c : Child). c.place == n) (flat_map (celled (style.layout row.style) (grid_style row.style)) (layers (numbered 0 children)))

-- Of the rows beside each other those that are displayed and have room, each with such rows below it. The first that is displayed has
-- this number.
abbrev pub shown : (ℕ → Bool) → ℕ → Forest → List Styled
shown room n Empty = []
shown room n (Grown row below beside) =
    if is_taking_part row then (if room n then row ∷ shown (has_room row (boxes row.style below)) 0 below else []) ++ shown room (n + 1) beside
    else shown room n beside

-- the Screen, whatever its style says, and such rows below it
abbrev pub shown_rows : Forest → List Styled
shown_rows Empty = []
shown_rows (Grown row below beside) = row ∷ shown (has_room row (boxes row.style below)) 0 below
