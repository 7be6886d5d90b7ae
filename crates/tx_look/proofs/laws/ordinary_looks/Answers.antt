use Rattle.tx_look.proofs.Ordinary.{ordinary_looks}
use Rattle.tx_look.proofs.laws.ordinary_looks.Goals as goal

pub returns : goal.returns
returns c = ordinary_looks c.one_form.ensures c.reads_are_within.ensures
