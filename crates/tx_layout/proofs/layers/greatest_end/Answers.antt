use Rattle.std.proofs.Common.{◌∙◌, sym, ap}
use Rattle.std.specs.Prelude.{map}
use Rattle.std.proofs.Math.ListN.{drop_of_length-le}
use Rattle.tx_layout.specs.Room.{outer_end}
use Rattle.tx_layout.proofs.Greatest.{greatest_found, greatest_from}
use Rattle.tx_layout.proofs.layers.greatest_end.Goals as goal

pub returns-clause-exact : goal.returns-clause-exact
returns-clause-exact c =
    let f = outer_end c.args.axis in
    let cs = c.args.children.now in
    sym (ap (λ l. greatest_from c.loop-child.most (map f l)) (drop_of_length-le cs {i = c.loop-child.child-index} c.loop-child-test.false)) ∙ (sym c.loop-child.invariant.done ∙ greatest_found (map f cs))
