use Rattle.tx_app.proofs.PlanLemmas.{Begun-read, Begun-unread}
use Rattle.tx_app.proofs.plans.show.open_show.Goals as goal

pub returns-in-Ok-clause-opens : goal.returns-in-Ok-clause-opens
returns-in-Ok-clause-opens g c = Begun-read _ _ _ _ _ c.in-Ok.bytes _ _ c.in-Ok.ensures c.deref.ensures.value c.open_tree.ensures.opens

pub returns-in-Err-clause-opens : goal.returns-in-Err-clause-opens
returns-in-Err-clause-opens g c = Begun-unread _ _ _ _ _ c.in-Err.ensures
