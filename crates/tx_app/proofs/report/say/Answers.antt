use Rattle.tx_app.proofs.ReportLemmas.{Says-failed, Says-sent}
use Rattle.tx_app.proofs.report.say.Goals as goal

pub returns : goal.returns
returns g c = rw c.if-failed.false (Says-sent _ _ c.args.piece.now c.send_all.result c.send_all.ensures)

pub returns-then-failed : goal.returns-then-failed
returns-then-failed g c = rw c.if-failed.true (Says-failed _ c.args.piece.now)
