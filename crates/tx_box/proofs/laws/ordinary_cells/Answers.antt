use Rattle.tx_box.proofs.ShortSpans.{ordinary_cells}
use Rattle.tx_box.proofs.laws.ordinary_cells.Goals as goal

pub returns : goal.returns
returns c =
    ordinary_cells
    (record {
      known = record { forms = c.one_form.ensures; sums = c.sums_over_one.ensures; products = c.products_over_two.ensures };
      defined = c.defined_in_range.ensures;
    })
