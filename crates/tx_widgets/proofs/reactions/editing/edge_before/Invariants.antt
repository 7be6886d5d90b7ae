use Rattle.std.proofs.Common.{◌≡◌, length}
use Rattle.unicode_segmentation.specs.Iter.{grapheme_indices_left}
use Rattle.tx_widgets.specs.Editing.{edge_before}
use Rattle.tx_widgets.proofs.EditLemmas.{edges_left, last_before}
use Rattle.tx_widgets.proofs.reactions.editing.edge_before.Given as goal

abbrev pub invariant-loop-start : goal.invariant-loop-start
invariant-loop-start l = last_before l.at l.edge (edges_left (length l.text) (grapheme_indices_left l.start-iterator)) ≡ edge_before l.text l.at
