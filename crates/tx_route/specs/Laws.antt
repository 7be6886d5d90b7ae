-- What holds of the definitions.
use Rattle.std.specs.Prelude.{◌≡◌, ℕ, ◌<◌, Bool, true, false, not, List, length, Option, Some, option_map}
use Rattle.std.specs.Bool.{Decides}
use Rattle.std.specs.Option.{option_map_or}
use Rattle.tx_select.specs.Match.{last_row}
use Rattle.tx_select.specs.declared.value.Pseudo.{Pseudo as State}
use Rattle.tx_tree.specs.Rows.{first_row}
use Rattle.tx_tree.specs.TreeValue.{TreeValue}
use Rattle.tx_tree.specs.Walk.{NumbersDiffer}
use Rattle.tx_tree.specs.declared.bind.Key.{Key}
use Rattle.tx_tree.specs.declared.row.NodeId.{NodeId}
use Rattle.tx_tree.specs.declared.row.Row.{Row}
use Rattle.tx_widgets.specs.Frame.{FrameValue}
use Rattle.tx_route.specs.Bindings.{is_same}
use Rattle.tx_route.specs.Focus.{is_in_order, focus_order, step_along, steps_along}
use Rattle.tx_route.specs.Routing.{AreDelivered}
use Rattle.tx_route.specs.declared.deliveries.Deliveries.{Deliveries}
use Rattle.tx_route.specs.declared.input.Input.{Input}

-- A step forwards from a row of the focus order is undone by a step back, and a step back by one forwards.
abbrev pub StepsAreUndone : Type 0
StepsAreUndone =
    (frame : FrameValue) (rows : List Row) → NumbersDiffer rows → (node : NodeId) → is_in_order frame rows node.0 ≡ true → (back : Bool)
    → step_along (not back) (focus_order frame rows) (step_along back (focus_order frame rows) (Some node)) ≡ Some node

-- A step forwards leads to the first row of an order, and a step back to the last one.
pub record ComesIn (order : List Row) (from : Option NodeId) : Type 0 where
  pub forwards : step_along false order from ≡ option_map (λ row. row.node) (first_row order)
  pub back : step_along true order from ≡ option_map (λ row. row.node) (last_row order)

-- So it is with the focus order where no row of it is focused.
abbrev pub StepsComeIn : Type 0
StepsComeIn =
    (frame : FrameValue) (rows : List Row) → NumbersDiffer rows → (from : Option NodeId) → option_map_or (λ node. is_in_order frame rows node.0) from false ≡ false
    → ComesIn (focus_order frame rows) from

-- As many steps as an order has rows lead from a node to itself, and fewer to each other one of some nodes.
pub record GoesRound (order : List Row) (back : Bool) (node : NodeId) (among : NodeId → Type 0) : Type 0 where
  pub home : steps_along (length order) back order (Some node) ≡ Some node
  pub through : (other : NodeId) → among other → (n : ℕ) × (n < length order) × (steps_along n back order (Some node) ≡ Some other)

-- So it is with the focus order, from each row of it and through all of them, forwards and back.
abbrev pub OrdersGoRound : Type 0
OrdersGoRound =
    (frame : FrameValue) (rows : List Row) → NumbersDiffer rows → (node : NodeId) → is_in_order frame rows node.0 ≡ true → (back : Bool)
    → GoesRound (focus_order frame rows) back node (λ other. is_in_order frame rows other.0 ≡ true)

-- An input comes to one thing alone.
abbrev pub DeliveriesAreOne : Type 0
DeliveriesAreOne =
    (tree : TreeValue) (state : State) (frame : FrameValue) (input : Input) (one other : Deliveries)
    → AreDelivered tree state frame input one → AreDelivered tree state frame input other → one ≡ other

-- Two keys that are reported to be one are.
abbrev pub KeysAreTold : Type 0
KeysAreTold = (a b : Key) → Decides (is_same a b) (a ≡ b)
