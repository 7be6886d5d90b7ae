use Rattle.std.proofs.Common.{ap, ◌∙◌}
use Rattle.tx_app.specs.Causes.{sink_cause}
use Rattle.tx_app.proofs.CourseLemmas.{Does-print}
use Rattle.tx_app.proofs.run.print.Goals as goal

pub returns : goal.returns
returns g c = Does-print _ _ _ c.send_all-sent.result _ c.send_all-sent.ensures (c.sink_cause.ensures ∙ ap sink_cause c.failures.ensures)
