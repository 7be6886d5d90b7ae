-- Frames of pictures keep the law, and what is left of such a frame is all of it.
use Rattle.std.proofs.Common.{◌≡◌, ℕ, Bool, true, false, List, Option, Some, None, Ok, ◌∙◌, refl, sym, ap, subst}
use Rattle.std.proofs.lemmas.Bool.{eq-eqb}
use Rattle.std.specs.Prelude.{if◌then◌else◌}
use Rattle.std.specs.Option.{option_and_then, option_map_or}
use Rattle.tx_compose.specs.Frame.{entries_in, frame_of, frame_with}
use Rattle.tx_compose.specs.FrameLaws.{FramesAreLawful, SightTellsAll}
use Rattle.tx_compose.specs.Presented.{Presented, map_of}
use Rattle.tx_compose.specs.Sight.{held_owner, if_held, if_owned, is_held, is_node}
use Rattle.tx_compose.proofs.Mapping.{has_entries}
use Rattle.tx_compose.proofs.Owning.{KnowsOwners, is_frame}
use Rattle.tx_map.specs.Laws.{NodesHaveOneEntry, ScreenFills}
use Rattle.tx_map.specs.declared.entry.Entry.{Entry}
use Rattle.tx_owner.specs.Owner.{is_within}
use Rattle.tx_tree.specs.declared.row.NodeId.{NodeId}
use Rattle.tx_widgets.specs.Frame.{FrameValue, HasPlace, IsFrame}

pub frames_are_lawful : KnowsOwners → ScreenFills → NodesHaveOneEntry → FramesAreLawful
frames_are_lawful know fills one tree shown entries is same mapped =
    subst (λ m. IsFrame (frame_with shown (entries_in m))) (sym mapped) (is_frame know shown entries (has_entries fills one shown tree same is entries mapped))

module _ (frame : FrameValue) (is : IsFrame frame) where
  -- an owner whose region holds the cell is left
  stays : (x y : ℕ) (node : NodeId) → HasPlace frame node x y → if_held frame x y node ≡ Some node
  stays x y node has =
      ap (λ b. if b then Some node else None) (ap (λ r. option_map_or (λ region. is_within region x y) r false) has.1.0 ∙ is_held has.0 x y has.1.1)

  owner_by : (x y : ℕ) (owner : Option NodeId) → frame.owner x y ≡ owner → option_and_then (if_held frame x y) owner ≡ owner
  owner_by x y None at = refl
  owner_by x y (Some node) at = stays x y node (is.owned x y node at)

  pub same_owner : (x y : ℕ) → held_owner frame x y ≡ frame.owner x y
  same_owner x y = owner_by x y (frame.owner x y) refl

  -- a cell that a row owns is left as its spot
  spot_by : (node : NodeId) (spot : Option (ℕ × ℕ)) → frame.spot node ≡ spot → option_and_then (if_owned frame node) spot ≡ spot
  spot_by node None at = refl
  spot_by node (Some cell) at =
      ap (λ owner. if is_node node owner then Some cell else None) (same_owner cell.0 cell.1 ∙ is.spotted node cell.0 cell.1 at)
      ∙ ap (λ b. if b then Some cell else None) (eq-eqb node.0 node.0 refl)

  pub same_spot : (node : NodeId) → option_and_then (if_owned frame node) (frame.spot node) ≡ frame.spot node
  same_spot node = spot_by node (frame.spot node) refl

pub sight_tells_all : SightTellsAll
sight_tells_all frame is = record { owner = same_owner frame is; spot = same_spot frame is; region = λ node. refl; shown = λ node. refl }
