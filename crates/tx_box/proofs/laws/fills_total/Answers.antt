use Rattle.tx_box.proofs.Totals.{fills_total}
use Rattle.tx_box.proofs.laws.fills_total.Goals as goal

pub returns : goal.returns
returns c = fills_total (record { forms = c.one_form.ensures; sums = c.sums_over_one.ensures; products = c.products_over_two.ensures })
