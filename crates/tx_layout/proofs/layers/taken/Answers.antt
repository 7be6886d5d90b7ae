use Rattle.std.proofs.Common.{◌∙◌, sym, ap}
use Rattle.std.specs.Prelude.{map}
use Rattle.std.specs.List.{filter}
use Rattle.std.proofs.Math.ListN.{drop_of_length-le}
use Rattle.tx_layout.specs.Room.{outer_end, stands_at, taken}
use Rattle.tx_layout.proofs.Greatest.{greatest_found, greatest_from}
use Rattle.tx_layout.proofs.layers.taken.Goals as goal

pub returns-clause-exact : goal.returns-clause-exact
unfolding taken
returns-clause-exact c =
    let f = outer_end c.args.axis in
    let p = stands_at c.args.edge in
    let cs = c.args.children.now in
    sym (ap (λ l. greatest_from c.loop-child.most (map f (filter p l))) (drop_of_length-le cs {i = c.loop-child.child-index} c.loop-child-test.false)) ∙ (sym c.loop-child.invariant.done ∙ greatest_found (map f (filter p cs)))
