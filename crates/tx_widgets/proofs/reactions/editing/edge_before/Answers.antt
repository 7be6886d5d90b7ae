use Rattle.std.proofs.Common.{◌∙◌, ap, length}
use Rattle.unicode_segmentation.specs.Iter.{grapheme_indices_left}
use Rattle.tx_widgets.proofs.EditLemmas.{before-init, edges_left, last_before}
use Rattle.tx_widgets.proofs.reactions.editing.edge_before.Goals as goal

pub loop-start-init : goal.loop-start-init
loop-start-init c =
    ap (λ clusters. last_before c.args.at c.args.at (edges_left (length c.args.text.now) clusters))
    (ap grapheme_indices_left c.into_iter-start-iterator.ensures.into_iter_gives ∙ c.grapheme_indices-start-items.ensures.left)
    ∙ before-init c.args.text.now c.args.at
