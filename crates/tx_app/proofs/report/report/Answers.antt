use Rattle.tx_app.proofs.ReportLemmas.{IsReported-line, IsReported-nothing}
use Rattle.tx_app.proofs.report.report.Goals as goal

pub returns-in-Some : goal.returns-in-Some
returns-in-Some g c = rw c.in-Some.is (IsReported-line _ _ _ _ c.say_cause-failed.ensures)

pub returns-in-None : goal.returns-in-None
returns-in-None g c = rw c.in-None.is (IsReported-nothing _)
