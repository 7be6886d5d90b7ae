use Rattle.tx_term.proofs.DrawingLemmas.{Adds-start}
use Rattle.tx_term.proofs.GatherLemmas.{Adds-then, Sends-from_Adds}
use Rattle.tx_term.specs.Update.{update}
use Rattle.tx_term.proofs.update.send_update.Goals as goal

pub returns : goal.returns
unfolding update
returns g c =
    let all = Adds-then _ _ c.push_opening.ensures.added (Adds-then _ _ c.write_rows.ensures.drawn.added c.flush.ensures.added) in
    Sends-from_Adds _ _ _ c.flush.new.self _ (Adds-start c.new-writer.result _ _ c.new-writer.ensures all) c.flush.ensures.empty c.sent.ensures.taken c.sent.ensures.failed
