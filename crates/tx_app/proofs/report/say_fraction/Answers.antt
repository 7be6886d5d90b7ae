use Rattle.tx_app.proofs.ReportLemmas.{Says-then, Says-along}
use Rattle.tx_app.proofs.report.say_fraction.Goals as goal

pub returns : goal.returns
returns g c =
    let axis = Says-along _ _ c.axis_bytes.ensures c.say-failed-3.ensures in
    Says-then _ _ (Says-then _ _ (Says-then _ _ (Says-then _ _ c.say-failed.ensures c.say_number-failed.ensures) c.say-failed-2.ensures) axis) c.say.ensures
