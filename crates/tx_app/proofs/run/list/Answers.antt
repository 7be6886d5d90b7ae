use Rattle.tx_app.proofs.CourseLemmas.{Does-list, Does-unlisted}
use Rattle.tx_app.proofs.run.list.Goals as goal

pub returns-in-Some : goal.returns-in-Some
returns-in-Some g c = Does-list _ _ _ _ _ _ _ c.in-Some.ensures c.deref.ensures.value c.print.ensures

pub returns-in-None : goal.returns-in-None
returns-in-None g c = Does-unlisted _ _ _
