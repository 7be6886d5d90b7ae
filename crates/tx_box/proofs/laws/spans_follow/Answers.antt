use Rattle.tx_box.proofs.Follows.{spans_follow}
use Rattle.tx_box.proofs.laws.spans_follow.Goals as goal

pub returns : goal.returns
returns c = spans_follow (record { forms = c.one_form.ensures; sums = c.sums_over_one.ensures; products = c.products_over_two.ensures })
