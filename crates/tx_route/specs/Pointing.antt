-- What a click does, and the pointer where it moves: at a cell, or at a row.
use Rattle.std.specs.Prelude.{ℕ, pos, ◌-ℤ◌, nat_abs, ◌&&◌, Bool, List, Option, Some, None, option_map, if◌then◌else◌}
use Rattle.std.specs.Option.{option_map_or}
use Rattle.tx_geom.specs.declared.places.Region.{Region}
use Rattle.tx_tree.specs.Rows.{row_at}
use Rattle.tx_tree.specs.declared.row.NodeId.{NodeId}
use Rattle.tx_tree.specs.declared.row.Row.{Row}
use Rattle.tx_widgets.specs.Frame.{FrameValue}
use Rattle.tx_widgets.specs.declared.reactions.message.Message.{Message}
use Rattle.tx_widgets.specs.declared.reactions.message.Message.TheVariants.{Click}
use Rattle.tx_route.specs.Deliveries.{nothing, missed_by}
use Rattle.tx_route.specs.Focus.{is_enabled}
use Rattle.tx_route.specs.declared.deliveries.Deliveries.{Deliveries}
use Rattle.tx_route.specs.declared.deliveries.Why.TheVariants.{NoTarget, OffScreen, NotShown}

-- a click on a cell, with its place counted from the corner of a region
abbrev pub click_in : ℕ → ℕ → Region → Message
click_in x y region = Click (nat_abs (pos x -ℤ region.x)) (nat_abs (pos y -ℤ region.y))

-- a click goes to the row that owns its cell, if that one is enabled
abbrev pub click_for : List Row → FrameValue → Bool → ℕ → ℕ → Row → Option (NodeId × Message)
click_for rows frame is_click x y row =
    if is_click && is_enabled rows row then option_map (λ region. (row.node, click_in x y region)) (frame.region row.node) else None

-- the row that owns a cell becomes the pointed one
abbrev pub at_row : List Row → FrameValue → Bool → ℕ → ℕ → Row → Deliveries
at_row rows frame is_click x y row = record nothing { pointed = Some row.node; put = click_for rows frame is_click x y row }

abbrev pub at_owner : List Row → FrameValue → Bool → ℕ → ℕ → Option NodeId → Deliveries
at_owner rows frame is_click x y None = missed_by OffScreen
at_owner rows frame is_click x y (Some owner) = option_map_or (at_row rows frame is_click x y) (row_at owner.0 rows) (missed_by NoTarget)

-- at the cell in a column and a row
unfoldable pub at_cell : List Row → FrameValue → Bool → ℕ → ℕ → Deliveries
at_cell rows frame is_click x y = at_owner rows frame is_click x y (frame.owner x y)

-- at a row's own cell
abbrev pub at_spot : List Row → FrameValue → Bool → NodeId → Option (ℕ × ℕ) → Deliveries
at_spot rows frame is_click node None = missed_by NotShown
at_spot rows frame is_click node (Some spot) = record (at_cell rows frame is_click spot.0 spot.1) { target = Some node }

-- at the row that is meant
abbrev pub at_target : List Row → FrameValue → Bool → Option NodeId → Deliveries
at_target rows frame is_click None = missed_by NoTarget
at_target rows frame is_click (Some node) = at_spot rows frame is_click node (frame.spot node)
