-- What is focused and pointed at as an application opens.
use Rattle.std.specs.Prelude.{◌&&◌, Bool, true, List, Option, None, find, option_map}
use Rattle.tx_route.specs.Focus.{is_enabled}
use Rattle.tx_select.specs.declared.value.Pseudo.{Pseudo}
use Rattle.tx_tree.specs.Kind.{can_focus}
use Rattle.tx_tree.specs.declared.row.NodeId.{NodeId}
use Rattle.tx_tree.specs.declared.row.Row.{Row}

-- whether a row may have the focus: it is of a focusable kind and enabled
abbrev pub may_have_focus : List Row → Row → Bool
may_have_focus rows row = can_focus row.kind && is_enabled rows row

-- the first such row in document order
abbrev pub first_focus : List Row → Option NodeId
first_focus rows = option_map (λ row. row.node) (find (may_have_focus rows) rows)

-- it has the focus, nothing is pointed at, and the theme is dark
abbrev pub opening_state : List Row → Pseudo
opening_state rows = record { focused = first_focus rows; pointed = None; dark = true }
