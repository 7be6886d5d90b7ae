use Rattle.tx_app.proofs.ReportLemmas.{Says-then, Says-along}
use Rattle.tx_app.proofs.report.say_refused.Goals as goal

pub returns : goal.returns
returns g c =
    let file = Says-along _ _ c.as_bytes.ensures.value c.say-failed-2.ensures in
    let kind = Says-along _ _ c.kind_bytes.ensures c.say-failed-6.ensures in
    Says-then _ _ (Says-then _ _ (Says-then _ _ (Says-then _ _ (Says-then _ _ (Says-then _ _ (Says-then _ _ (Says-then _ _ c.say-failed.ensures file)
    c.say-failed-3.ensures) c.say_number-failed.ensures) c.say-failed-4.ensures) c.say_number-failed-2.ensures) c.say-failed-5.ensures) kind) c.say.ensures
