use Rattle.tx_box.proofs.Shares.{one_unit}
use Rattle.tx_box.proofs.laws.one_unit.Goals as goal

pub returns : goal.returns
returns c = one_unit c.one_form.ensures c.products_over_two.ensures
