-- What holds of every frame.
use Rattle.std.specs.Prelude.{◌≡◌, ℕ, List, Ok}
use Rattle.tx_compose.specs.Frame.{frame_of}
use Rattle.tx_compose.specs.Presented.{Presented, map_of}
use Rattle.tx_compose.specs.Sight.{lawful}
use Rattle.tx_map.specs.declared.entry.Entry.{Entry}
use Rattle.tx_tree.specs.TreeValue.{TreeValue}
use Rattle.tx_tree.specs.WellFormed.{IsTree}
use Rattle.tx_tree.specs.declared.row.NodeId.{NodeId}
use Rattle.tx_widgets.specs.Frame.{FrameValue, IsFrame}

-- The frame of a picture of a tree keeps the law of frames wherever the picture is defined.
abbrev pub FramesAreLawful : Type 0
FramesAreLawful = (tree : TreeValue) (shown : Presented) (entries : List Entry) → IsTree tree → shown.rows ≡ tree.rows → map_of shown ≡ Ok entries → IsFrame (frame_of shown)

-- one frame reports what another does
pub record ReportsAs (told frame : FrameValue) : Type 0 where
  pub owner : (x y : ℕ) → told.owner x y ≡ frame.owner x y
  pub spot : (node : NodeId) → told.spot node ≡ frame.spot node
  pub region : (node : NodeId) → told.region node ≡ frame.region node
  pub shown : (node : NodeId) → told.shown node ≡ frame.shown node

-- Of a frame that keeps the law, what is left is all of it.
abbrev pub SightTellsAll : Type 0
SightTellsAll = (frame : FrameValue) → IsFrame frame → ReportsAs (lawful frame) frame
