use Rattle.std.proofs.Common.{◌∙◌, sym}
use Rattle.tx_opening.proofs.Judged.{built_in, inline}
use Rattle.tx_opening.proofs.judging.judge.Goals as goal

pub returns-in-Ok-None-clause-built_in : goal.returns-in-Ok-None-clause-built_in
returns-in-Ok-None-clause-built_in c = built_in _ 1 (sym c.first_unknown.ensures ∙ c.in_default.is)

pub returns-in-Ok-None-clause-inline : goal.returns-in-Ok-None-clause-inline
returns-in-Ok-None-clause-inline c = inline _ 1 (sym c.in-Ok-None.ensures ∙ c.in-Ok-None.field-0-is)
