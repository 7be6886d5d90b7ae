use Rattle.std.proofs.Common.{◌≡◌, drop, None}
use Rattle.std.specs.List.{fold}
use Rattle.tx_cascade.proofs.Greatest.{weighed}
use Rattle.tx_cascade.specs.Tested.{TestedAtMost}
use Rattle.tx_cascade.specs.Matchers.{matchers_of}
use Rattle.tx_cascade.proofs.reaching.weight_at.Given as goal

-- the greatest so far, with what is left, is the greatest of all
abbrev pub invariant-loop-selector : goal.invariant-loop-selector
invariant-loop-selector g l = record {
  best : fold (weighed (matchers_of l.pseudo l.tree.rows l.node.0)) l.best (drop l.selector-index l.selectors) ≡ fold (weighed (matchers_of l.pseudo l.tree.rows l.node.0)) None l.selectors;
  ticks : TestedAtMost g.L.Ledger.ticked l.selector-index l.fn.steps.ledger l.steps.ledger;
}
