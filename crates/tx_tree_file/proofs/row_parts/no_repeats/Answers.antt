use Rattle.std.proofs.Common.{sym, ◌∙◌, arith}
use Rattle.tx_tree_file.proofs.Repeats.{stands_twice, stands_once, known_more, not_true, not_false}
use Rattle.tx_tree_file.proofs.row_parts.no_repeats.Goals as goal

pub returns-then-not-added : goal.returns-then-not-added
returns-then-not-added c =
    let found = not_true _ (sym c.in_ok-added.ensures.added ∙ c.if-not-added.true) in
    stands_twice c.loop-left.left c.args.names.now c.index-names-left.result c.loop-left-test.true c.loop-left.invariant.bound c.index-names-left.is (sym (c.loop-left.invariant.known c.index-names-left.result) ∙ found)

pub loop-left-preserved : goal.loop-left-preserved
loop-left-preserved c =
    let new = not_false _ (sym c.in_ok-added.ensures.added ∙ c.if-not-added.false) in
    record {
      bound = omega (arith, c.loop-left.invariant.bound);
      apart = stands_once c.loop-left.left c.args.names.now c.index-names-left.result c.loop-left-test.true c.loop-left.invariant.bound c.index-names-left.is (sym (c.loop-left.invariant.known c.index-names-left.result) ∙ new) c.loop-left.invariant.apart;
      known = λ name. known_more c.loop-left.left c.args.names.now c.index-names-left.result name _ _ c.loop-left-test.true c.loop-left.invariant.bound c.index-names-left.is (c.in_ok-added.ensures.updates.0 name) (c.loop-left.invariant.known name);
    }
