use Rattle.std.proofs.Common.{◌≡◌, length}
use Rattle.unicode_segmentation.specs.Iter.{grapheme_indices_left}
use Rattle.tx_widgets.specs.Editing.{edge_after}
use Rattle.tx_widgets.proofs.EditLemmas.{edges_left, next_after}
use Rattle.tx_widgets.proofs.reactions.editing.edge_after.Given as goal

abbrev pub invariant-loop-start : goal.invariant-loop-start
invariant-loop-start l = next_after l.at (edges_left (length l.text) (grapheme_indices_left l.start-iterator)) ≡ edge_after l.text l.at
