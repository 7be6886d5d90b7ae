use Rattle.std.proofs.Common.{◌∙◌, sym, ap, length}
use Rattle.unicode_segmentation.specs.Iter.{grapheme_indices_left}
use Rattle.tx_widgets.proofs.EditLemmas.{after-init, after-taken, edges_left, next_after}
use Rattle.tx_widgets.proofs.reactions.editing.edge_after.Goals as goal

pub loop-start-init : goal.loop-start-init
loop-start-init c =
    ap (λ clusters. next_after c.args.at (edges_left (length c.args.text.now) clusters))
    (ap grapheme_indices_left c.into_iter-start-iterator.ensures.into_iter_gives ∙ c.grapheme_indices-start-items.ensures.left)
    ∙ after-init c.args.text.now c.args.at

pub returns-then-at-start : goal.returns-then-at-start
returns-then-at-start c =
    sym (after-taken c.args.at c.in-Some.start (edges_left (length c.args.text.now) (grapheme_indices_left c.next.new.self)) c.if-at-start.true)
    ∙ (ap (λ clusters. next_after c.args.at (edges_left (length c.args.text.now) clusters)) (sym c.in-Some.ensures.steps) ∙ c.loop-start.invariant)
