use Rattle.std.proofs.Common.{sym, ap, ◌∙◌}
use Rattle.tx_value.specs.declared.value.Value.TheVariants as value
use Rattle.tx_cascade.proofs.SameStyles.{same-marks}
use Rattle.tx_cascade.proofs.sameness.is_marks.Goals as goal

pub returns-in-Marks : goal.returns-in-Marks
returns-in-Marks c = λ is. ap (λ m. value.Marks m) (same-marks c.args.marks c.in-Marks.held (sym c.eq.ensures ∙ is)) ∙ sym c.in-Marks.is
