-- The rows that the nodes stand for are a tree.
use Rattle.std.proofs.Common.{ap, sym}
use Rattle.tx_tree.specs.TreeValue.{TreeValue}
use Rattle.tx_tree.proofs.WholeTree.{whole_tree}
use Rattle.tx_tree.proofs.tree.Tree.made.Goals as goal

pub returns-clause-known : goal.returns-clause-known
returns-clause-known c =
    whole_tree _ _ _ c.self.invariant c.args.self.now (ap (λ (t : TreeValue). t.rows) (sym c.self.view_is)) (ap (λ (t : TreeValue). t.made) (sym c.self.view_is))
