-- The focus order, and the step along it.
use Rattle.std.specs.Prelude.{ℕ, zero, suc, ◌&&◌, Bool, true, false, not, List, [], drop, filter, Option, Some, None, option_map}
use Rattle.std.specs.List.{list_any}
use Rattle.std.specs.Option.{option_or, option_map_or}
use Rattle.tx_select.specs.Holds.{is_disabled}
use Rattle.tx_select.specs.Match.{last_row}
use Rattle.tx_tree.specs.Kind.{can_focus}
use Rattle.tx_tree.specs.Rows.{row_at, first_row, before_of, from_of}
use Rattle.tx_tree.specs.Walk.{rest_up_from}
use Rattle.tx_tree.specs.declared.row.NodeId.{NodeId}
use Rattle.tx_tree.specs.declared.row.Row.{Row}
use Rattle.tx_widgets.specs.Frame.{FrameValue}

-- whether a row is enabled: neither it nor an ancestor is disabled
abbrev pub is_enabled : List Row → Row → Bool
is_enabled rows row = not (is_disabled rows row)

-- whether the row of a node, if there is one, or an ancestor of it is disabled
unfoldable pub is_closed : List Row → Option NodeId → Bool
is_closed rows node = list_any (λ row. row.disabled) (rest_up_from node rows)

-- whether a row is in the focus order: of a focusable kind, shown and enabled
unfoldable pub takes_focus : FrameValue → List Row → Row → Bool
takes_focus frame rows row = can_focus row.kind && (frame.shown row.node && is_enabled rows row)

-- whether the row with a number is
unfoldable pub is_in_order : FrameValue → List Row → ℕ → Bool
is_in_order frame rows n = option_map_or (takes_focus frame rows) (row_at n rows) false

-- the focus order: these rows in document order
abbrev pub focus_order : FrameValue → List Row → List Row
focus_order frame rows = filter (takes_focus frame rows) rows

-- the rows of an order before a node, and those after it: where there is no node, none
abbrev pub rows_before : Option NodeId → List Row → List Row
rows_before None order = []
rows_before (Some node) order = before_of node.0 order

abbrev pub rows_behind : Option NodeId → List Row → List Row
rows_behind None order = []
rows_behind (Some node) order = drop 1 (from_of node.0 order)

-- The next row is the first one after the node, or else the first of the order. The previous row is the last one before it, or
-- else the last of the order.
abbrev pub next_row : Option NodeId → List Row → Option Row
next_row node order = option_or (first_row (rows_behind node order)) (first_row order)

abbrev pub previous_row : Option NodeId → List Row → Option Row
previous_row node order = option_or (last_row (rows_before node order)) (last_row order)

abbrev pub row_after : Bool → Option NodeId → List Row → Option Row
row_after false node order = next_row node order
row_after true node order = previous_row node order

-- one step along an order, back or forwards
abbrev pub step_along : Bool → List Row → Option NodeId → Option NodeId
step_along back order node = option_map (λ row. row.node) (row_after back node order)

-- so many steps
abbrev pub steps_along : ℕ → Bool → List Row → Option NodeId → Option NodeId
steps_along zero back order node = node
steps_along (suc n) back order node = steps_along n back order (step_along back order node)
