-- A step of a walk.
use Rattle.std.proofs.Common.{◌≡◌, List, [], sym, ap, ◌∙◌, length, rules}
use Rattle.tx_tree.specs.declared.row.Row.{Row}
use Rattle.tx_tree.proofs.Walks.{walk-end, walk-none, walk-step}
use Rattle.tx_tree.proofs.tree.walks.WalkIterator.next.Goals as goal

pub returns-then-eq-clause-steps : goal.returns-then-eq-clause-steps
returns-then-eq-clause-steps c =
    let none : c.args.self.now ≡ [] = sym c.self.view_is
    ∙ walk-end c.self.inside.tree.now.rows c.in_ok-node.node c.self.inside.here c.self.inside.end c.in_ok-node.was (sym c.eq.ensures ∙ c.if-eq.true) in
    (none, none)

pub returns-in_err-row-clause-steps : goal.returns-in_err-row-clause-steps
returns-in_err-row-clause-steps c =
    let none : c.args.self.now ≡ [] = sym c.self.view_is
    ∙ walk-none c.self.inside.tree.now.rows c.in_ok-node.node c.self.inside.here c.self.inside.end c.in_ok-node.was c.in_err-row.ensures in
    rw c.from_residual-in_err-row.ensures (none, none)

pub returns-clause-steps : goal.returns-clause-steps
returns-clause-steps c =
    sym c.self.view_is
    ∙ walk-step c.self.inside.tree.now.rows c.self.invariant c.in_ok-node.node c.self.inside.here c.self.inside.end c.next-self-inside.result _
    c.in_ok-node.was (sym c.eq.ensures ∙ c.if-eq.false) c.in_ok-row.ensures c.next-self-inside.ensures

pub returns-clause-goes : goal.returns-clause-goes
returns-clause-goes c = let step = ap (λ (rows : List Row). length rows) (returns-clause-steps c) in search rules
