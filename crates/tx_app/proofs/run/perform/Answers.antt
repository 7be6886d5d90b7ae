use Rattle.tx_app.proofs.CourseLemmas.{Does-nothing}
use Rattle.tx_app.proofs.run.perform.Goals as goal

pub returns-in-Err-clause-does : goal.returns-in-Err-clause-does
returns-in-Err-clause-does g c = rw c.requires.empty (rw c.in-Err.is (Does-nothing _ c.in-Err.cause))
