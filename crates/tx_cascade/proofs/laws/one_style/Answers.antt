use Rattle.tx_cascade.proofs.OneStyle.{agree, one-style, those}
use Rattle.tx_cascade.proofs.laws.one_style.Goals as goal

pub returns-clause-matchers : goal.returns-clause-matchers
returns-clause-matchers c = agree

pub returns-clause-one : goal.returns-clause-one
returns-clause-one c = one-style

pub returns-clause-those : goal.returns-clause-those
returns-clause-those c = those
