use Rattle.std.proofs.Common.{◌≡◌, ◌++◌, drop}
use Rattle.std.specs.List.{enumerate_from, flat_map}
use Rattle.tx_cascade.specs.Reaching.{of_rule, of_rules, selectors_of}
use Rattle.tx_cascade.specs.Matchers.{matchers_of}
use Rattle.tx_cascade.proofs.Ticks.{TestedWithin}
use Rattle.tx_cascade.proofs.reaching.push_rules.Given as goal

-- those so far, with those of the rules that are left, are all
abbrev pub invariant-loop-number : goal.invariant-loop-number
invariant-loop-number g l = record {
  all :
      l.all.items ++ flat_map (of_rule (matchers_of l.pseudo l.tree.rows l.node.0) l.origin) (enumerate_from l.number (drop l.number l.rules))
      ≡ l.fn.all.items ++ of_rules (matchers_of l.pseudo l.tree.rows l.node.0) l.origin l.rules;
  ticks : TestedWithin g.L.Ledger.ticked (selectors_of (drop l.number l.rules)) (selectors_of l.rules) l.fn.steps.ledger l.steps.ledger;
}
