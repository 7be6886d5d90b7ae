use Rattle.std.proofs.Common.{None, ap, sym, ◌∙◌, option_map}
use Rattle.tx_app.specs.Words.{task_of}
use Rattle.tx_app.proofs.PlanLemmas.{Begun-misuse, Planned-task, Planned-unjudged}
use Rattle.tx_app.proofs.plans.open_words.Goals as goal

pub returns-in-Ok-None-clause-planned : goal.returns-in-Ok-None-clause-planned
returns-in-Ok-None-clause-planned g c =
    Planned-task _ _ _ None _ (sym (ap (λ task. option_map task_of task) c.in-Ok-None.field-0-is) ∙ c.in-Ok-None.ensures.asks) (Begun-misuse _)

pub returns-in-Err-clause-planned : goal.returns-in-Err-clause-planned
returns-in-Err-clause-planned g c = Planned-unjudged _ _
