use Rattle.std.proofs.Common.{◌+◌, drop, refl, arith}
use Rattle.tx_cascade.specs.Reaching.{of_rule, of_rules, selectors_of}
use Rattle.tx_cascade.specs.Matchers.{matchers_of}
use Rattle.tx_cascade.proofs.Rules.{selectors-step, rules-step}
use Rattle.tx_cascade.proofs.Ticks.{within-none, within-next, within-all}
use Rattle.tx_cascade.proofs.reaching.push_rules.Goals as goal

pub loop-number-init : goal.loop-number-init
unfolding of_rules
loop-number-init g c = record { all = refl; ticks = within-none g.L.Ledger.ticked (selectors_of c.args.rules.now) c.args.steps.now.ledger }

pub returns-in_err-push_rule-clause-ticks : goal.returns-in_err-push_rule-clause-ticks
returns-in_err-push_rule-clause-ticks g c =
    within-all (within-next {next = selectors_of (drop (c.loop-number.number + 1) c.args.rules.now)} c.loop-number.invariant.ticks c.push_rule.ensures.ticks
    (selectors-step c.args.rules.now c.loop-number.number c.index-rules-number.result (omega arith) c.index-rules-number.is))

pub loop-number-preserved : goal.loop-number-preserved
loop-number-preserved g c = record {
  all = rules-step (of_rule (matchers_of c.args.pseudo.now c.args.tree.now.rows c.args.node.0) c.args.origin) c.args.rules.now c.loop-number.number c.index-rules-number.result c.loop-number.all.items c.push_rule.new.all.items _
      (omega arith) c.index-rules-number.is c.in_ok-push_rule.ensures.exact c.loop-number.invariant.all;
  ticks = within-next c.loop-number.invariant.ticks c.push_rule.ensures.ticks
      (selectors-step c.args.rules.now c.loop-number.number c.index-rules-number.result (omega arith) c.index-rules-number.is);
}
