use Rattle.tx_box.proofs.Ordinary.{ordinary_axis}
use Rattle.tx_box.proofs.laws.ordinary_axis.Goals as goal

pub returns : goal.returns
returns c =
    ordinary_axis
    (record {
      known = record { forms = c.one_form.ensures; sums = c.sums_over_one.ensures; products = c.products_over_two.ensures };
      defined = c.defined_in_range.ensures;
    })
