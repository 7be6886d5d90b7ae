-- To whom an input goes, and what it does there.
use Rattle.std.specs.Prelude.{◌≡◌, true, false, List, Option, Some, None}
use Rattle.tx_select.specs.Match.{IsFirstMatch}
use Rattle.tx_select.specs.SelectorValue.{SelectorValue}
use Rattle.tx_select.specs.declared.value.Pseudo.{Pseudo as State}
use Rattle.tx_tree.specs.Edits.{edit_refusal, remove_refusal, move_refusal}
use Rattle.tx_tree.specs.Mount.{mount_refusal}
use Rattle.tx_tree.specs.TreeValue.{TreeValue}
use Rattle.tx_tree.specs.declared.row.NodeId.{NodeId}
use Rattle.tx_tree.specs.declared.row.Row.{Row}
use Rattle.tx_widgets.specs.Frame.{FrameValue}
use Rattle.tx_route.specs.Changing.{changed, changed_both, advanced}
use Rattle.tx_route.specs.Deliveries.{nothing}
use Rattle.tx_route.specs.Pointing.{at_cell, at_target}
use Rattle.tx_route.specs.Pressing.{pressed}
use Rattle.tx_route.specs.declared.deliveries.Deliveries.{Deliveries}
use Rattle.tx_route.specs.declared.input.Input.{Input}
use Rattle.tx_route.specs.declared.input.Input.TheVariants.{Press, ClickAt, Click, HoverAt, Hover, Pause, Resize, AddClass, RemoveClass, SetText, SetInline, Disable, Enable, Mount, Remove, Before, Advance, Theme}

-- the selector of the row that an input means, if it has one
abbrev pub target_of : Input → Option SelectorValue
target_of (Click target) = Some target
target_of (Hover target) = Some target
target_of (AddClass target name) = Some target
target_of (RemoveClass target name) = Some target
target_of (SetText target text) = Some target
target_of (SetInline target text) = Some target
target_of (Disable target) = Some target
target_of (Enable target) = Some target
target_of (Mount target row) = Some target
target_of (Remove target) = Some target
target_of (Before target other) = Some target
target_of (Advance target by) = Some target
target_of _ = None

-- and of the second row
abbrev pub other_of : Input → Option SelectorValue
other_of (Before target other) = Some other
other_of _ = None

-- this is the first row that a selector matches, if there is one
abbrev pub IsMeant : State → List Row → Option SelectorValue → Option NodeId → Type 0
IsMeant state rows None node = node ≡ None
IsMeant state rows (Some selector) node = IsFirstMatch state rows selector.compounds node

-- what an input comes to, where its selectors mean these rows
unfoldable pub delivered : TreeValue → Option NodeId → FrameValue → Input → Option NodeId → Option NodeId → Deliveries
delivered tree focused frame (Press key) target other = pressed tree.rows focused key
delivered tree focused frame (ClickAt x y) target other = at_cell tree.rows frame true x y
delivered tree focused frame (Click selector) target other = at_target tree.rows frame true target
delivered tree focused frame (HoverAt x y) target other = at_cell tree.rows frame false x y
delivered tree focused frame (Hover selector) target other = at_target tree.rows frame false target
delivered tree focused frame Pause target other = nothing
delivered tree focused frame (Resize size) target other = nothing
delivered tree focused frame (AddClass selector name) target other = changed (λ node. edit_refusal tree.rows node.0) target
delivered tree focused frame (RemoveClass selector name) target other = changed (λ node. edit_refusal tree.rows node.0) target
delivered tree focused frame (SetText selector text) target other = changed (λ node. edit_refusal tree.rows node.0) target
delivered tree focused frame (SetInline selector text) target other = changed (λ node. edit_refusal tree.rows node.0) target
delivered tree focused frame (Disable selector) target other = changed (λ node. edit_refusal tree.rows node.0) target
delivered tree focused frame (Enable selector) target other = changed (λ node. edit_refusal tree.rows node.0) target
delivered tree focused frame (Mount selector row) target other = changed (λ node. mount_refusal tree.rows tree.made node.0 row) target
delivered tree focused frame (Remove selector) target other = changed (λ node. remove_refusal tree.rows node.0) target
delivered tree focused frame (Before selector second) target other =
    changed_both (λ node before. move_refusal tree.rows node.0 before.0) target other
delivered tree focused frame (Advance selector by) target other = advanced by target
delivered tree focused frame (Theme dark) target other = nothing

-- these are the deliveries of an input: its selectors mean the rows that they match first
pub record AreDelivered (tree : TreeValue) (state : State) (frame : FrameValue) (input : Input) (deliveries : Deliveries) : Type 0 where
  pub target : Option NodeId
  pub other : Option NodeId
  pub target_is : IsMeant state tree.rows (target_of input) target
  pub other_is : IsMeant state tree.rows (other_of input) other
  pub are : deliveries ≡ delivered tree state.focused frame input target other
