use Rattle.std.proofs.Common.{◌∙◌, filter, None, option_copied, arith}
use Rattle.std.specs.List.{fold}
use Rattle.tx_cascade.specs.Cascade.{counts, winner}
use Rattle.tx_cascade.specs.Key.{key_parts}
use Rattle.tx_cascade.specs.declared.reaching.Reached.{Reached}
use Rattle.tx_cascade.proofs.Greatest.{greater_where, fold-greatest, fold-where, fold-end}
use Rattle.tx_cascade.proofs.winning.winner.Goals as goal

pub returns : goal.returns
unfolding winner
returns c =
    let parts = λ (one : Reached). key_parts one.key in
    let test = λ (one : Reached). counts c.args.property c.args.only_default one in
    let all = c.args.all.now in
    fold-end (greater_where test parts) all c.loop-one.one-index (option_copied c.loop-one.best) (fold (greater_where test parts) None all) (omega arith) c.loop-one.invariant
    ∙ (fold-where parts test None all ∙ fold-greatest parts (filter test all))
