use Rattle.tx_box.proofs.Decimals.{ordinary_box}
use Rattle.tx_box.proofs.laws.ordinary_box.Goals as goal

pub returns : goal.returns
returns c =
    ordinary_box
    (record {
      known = record { forms = c.one_form.ensures; sums = c.sums_over_one.ensures; products = c.products_over_two.ensures };
      defined = c.defined_in_range.ensures;
    })
