use Rattle.std.proofs.Common.{ℕ, Option, None, subst, sym}
use Rattle.tx_cascade.specs.Styles.{StandsAt}
use Rattle.tx_cascade.proofs.sharing.SharedStyles.new.Goals as goal

pub returns-clause-none : goal.returns-clause-none
returns-clause-none c = λ n. subst (λ (f : ℕ → Option ℕ). StandsAt c.new.result.items (f n) None) (sym c.new-2.ensures) tt
