-- Where an input is missed, nothing else is delivered.
use Rattle.std.proofs.Common.{◌≡◌, ℕ, Bool, true, false, List, Option, Some, None, is_some, refl, sym, ap, ◌∙◌}
use Rattle.std.specs.Prelude.{unwrap_or, option_and_then}
use Rattle.std.specs.Option.{option_map_or}
use Rattle.tx_tree.specs.Edits.{edit_refusal, remove_refusal, move_refusal}
use Rattle.tx_tree.specs.Mount.{mount_refusal}
use Rattle.tx_tree.specs.Rows.{row_at}
use Rattle.tx_tree.specs.TreeValue.{TreeValue}
use Rattle.tx_tree.specs.declared.bind.Action.{Action}
use Rattle.tx_tree.specs.declared.bind.Key.{Key}
use Rattle.tx_tree.specs.declared.fault.TreeFault.{TreeFault}
use Rattle.tx_tree.specs.declared.row.NodeId.{NodeId}
use Rattle.tx_tree.specs.declared.row.Row.{Row}
use Rattle.tx_widgets.specs.Frame.{FrameValue, IsFrame}
use Rattle.tx_route.specs.Changing.{why_of, changed, changed_both, advanced}
use Rattle.tx_route.specs.Deliveries.{nothing, missed_by, IsAlone, IsThere}
use Rattle.tx_route.specs.Pointing.{at_row, at_owner, at_cell, at_spot, at_target}
use Rattle.tx_route.specs.Pressing.{acted_or_put, priority_on, path_to, key_row}
use Rattle.tx_route.specs.Routing.{delivered}
use Rattle.tx_route.specs.declared.deliveries.Deliveries.{Deliveries}
use Rattle.tx_route.specs.declared.deliveries.Why.{Why}
use Rattle.tx_route.specs.declared.deliveries.Why.TheVariants.{NoTarget, OffScreen, NotShown}
use Rattle.tx_route.specs.declared.input.Input.{Input}
use Rattle.tx_route.specs.declared.input.Input.TheVariants.{Press, ClickAt, Click, HoverAt, Hover, Pause, Resize, AddClass, RemoveClass, SetText, SetInline, Disable, Enable, Mount, Remove, Before, Advance, Theme}

only-missed : (missed : Why) → IsAlone (missed_by missed)
only-missed missed why is = ap missed_by (ap (λ (o : Option Why). unwrap_or o missed) is)

-- deliveries of an input that isn't missed
not-missed : (d : Deliveries) → d.missed ≡ None → IsAlone d
not-missed d none why is = let clash : None ≡ Some why = sym none ∙ is in cc

by-refusal : (refused : Option Why) (d : Deliveries) → d.missed ≡ None → IsAlone (option_map_or missed_by refused d)
by-refusal None d none = not-missed d none
by-refusal (Some why) d none = only-missed why

of-pressed : (key : Key) (node : NodeId) (bound : Option (NodeId × Action)) → IsAlone (acted_or_put key node bound)
of-pressed key node None = not-missed (acted_or_put key node None) refl
of-pressed key node (Some action) = not-missed (acted_or_put key node (Some action)) refl

of-keys : (rows : List Row) (key : Key) (node : Option NodeId) → IsAlone (option_map_or (λ n. acted_or_put key n (priority_on key (path_to n.0 rows))) node nothing)
of-keys rows key None = not-missed nothing refl
of-keys rows key (Some node) = of-pressed key node (priority_on key (path_to node.0 rows))

module _ (rows : List Row) (frame : FrameValue) (is_click : Bool) (x y : ℕ) where
  of-row : (row : Option Row) → IsAlone (option_map_or (at_row rows frame is_click x y) row (missed_by NoTarget))
  of-row None = only-missed NoTarget
  of-row (Some row) = not-missed (at_row rows frame is_click x y row) refl

  of-owner : (owner : Option NodeId) → IsAlone (at_owner rows frame is_click x y owner)
  of-owner None = only-missed OffScreen
  of-owner (Some owner) = of-row (row_at owner.0 rows)

  pub of-cell : IsAlone (at_cell rows frame is_click x y)
  unfolding at_cell
  of-cell = of-owner (frame.owner x y)

  -- a cell that a row of the tree owns isn't missed
  seen-row : (row : Option Row) → is_some row ≡ true → (option_map_or (at_row rows frame is_click x y) row (missed_by NoTarget)).missed ≡ None
  seen-row None there = cc
  seen-row (Some row) there = refl

  seen-cell : (node : NodeId) → frame.owner x y ≡ Some node → is_some (row_at node.0 rows) ≡ true → (at_cell rows frame is_click x y).missed ≡ None
  unfolding at_cell
  seen-cell node owned there = ap (λ (o : Option NodeId). (at_owner rows frame is_click x y o).missed) owned ∙ seen-row (row_at node.0 rows) there

module _ (rows : List Row) (frame : FrameValue) (is_frame : IsFrame frame) (is_click : Bool) where
  of-spot : (node : NodeId) → is_some (row_at node.0 rows) ≡ true → (spot : Option (ℕ × ℕ)) → frame.spot node ≡ spot → IsAlone (at_spot rows frame is_click node spot)
  of-spot node there None is = only-missed NotShown
  of-spot node there (Some spot) is =
      not-missed (at_spot rows frame is_click node (Some spot)) (seen-cell rows frame is_click spot.0 spot.1 node (is_frame.spotted node spot.0 spot.1 is) there)

  of-target : (target : Option NodeId) → IsThere rows target → IsAlone (at_target rows frame is_click target)
  of-target None there = only-missed NoTarget
  of-target (Some node) there = of-spot node (there node refl) (frame.spot node) refl

of-changed : (refusal : NodeId → Option TreeFault) (target : Option NodeId) → IsAlone (changed refusal target)
of-changed refusal None = only-missed NoTarget
of-changed refusal (Some node) = by-refusal (option_and_then why_of (refusal node)) (record nothing { target = Some node }) refl

of-both : (refusal : NodeId → NodeId → Option TreeFault) (target other : Option NodeId) → IsAlone (changed_both refusal target other)
of-both refusal None other = only-missed NoTarget
of-both refusal (Some node) None = only-missed NoTarget
of-both refusal (Some node) (Some other) =
    by-refusal (option_and_then why_of (refusal node other)) (record nothing { target = Some node; other = Some other }) refl

of-advanced : (by : ℕ) (target : Option NodeId) → IsAlone (advanced by target)
of-advanced by None = only-missed NoTarget
of-advanced by (Some node) = not-missed (advanced by (Some node)) refl

pub missed-alone : (tree : TreeValue) (focused : Option NodeId) (frame : FrameValue) → IsFrame frame → (input : Input) (target other : Option NodeId) → IsThere tree.rows target
    → IsAlone (delivered tree focused frame input target other)
unfolding delivered
missed-alone tree focused frame is (Press key) target other there = of-keys tree.rows key (key_row tree.rows focused)
missed-alone tree focused frame is (ClickAt x y) target other there = of-cell tree.rows frame true x y
missed-alone tree focused frame is (Click selector) target other there = of-target tree.rows frame is true target there
missed-alone tree focused frame is (HoverAt x y) target other there = of-cell tree.rows frame false x y
missed-alone tree focused frame is (Hover selector) target other there = of-target tree.rows frame is false target there
missed-alone tree focused frame is Pause target other there = not-missed nothing refl
missed-alone tree focused frame is (Resize size) target other there = not-missed nothing refl
missed-alone tree focused frame is (AddClass selector name) target other there = of-changed (λ node. edit_refusal tree.rows node.0) target
missed-alone tree focused frame is (RemoveClass selector name) target other there = of-changed (λ node. edit_refusal tree.rows node.0) target
missed-alone tree focused frame is (SetText selector text) target other there = of-changed (λ node. edit_refusal tree.rows node.0) target
missed-alone tree focused frame is (SetInline selector text) target other there = of-changed (λ node. edit_refusal tree.rows node.0) target
missed-alone tree focused frame is (Disable selector) target other there = of-changed (λ node. edit_refusal tree.rows node.0) target
missed-alone tree focused frame is (Enable selector) target other there = of-changed (λ node. edit_refusal tree.rows node.0) target
missed-alone tree focused frame is (Mount selector row) target other there = of-changed (λ node. mount_refusal tree.rows tree.made node.0 row) target
missed-alone tree focused frame is (Remove selector) target other there = of-changed (λ node. remove_refusal tree.rows node.0) target
missed-alone tree focused frame is (Before selector second) target other there = of-both (λ node before. move_refusal tree.rows node.0 before.0) target other
missed-alone tree focused frame is (Advance selector by) target other there = of-advanced by target
missed-alone tree focused frame is (Theme dark) target other there = not-missed nothing refl
