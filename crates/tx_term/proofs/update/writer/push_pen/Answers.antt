use Rattle.tx_term.proofs.GatherLemmas.{Adds-then}
use Rattle.tx_term.proofs.update.writer.push_pen.Goals as goal

pub returns-clause-added : goal.returns-clause-added
returns-clause-added g c =
    Adds-then _ _ (Adds-then _ _ (Adds-then _ _ (Adds-then _ _ (Adds-then _ _ (Adds-then _ _ c.push.ensures.added c.push_style.ensures.added)
    c.push-2.ensures.added) c.push_channels.ensures.added) c.push-3.ensures.added) c.push_channels-2.ensures.added) c.push-4.ensures.added
