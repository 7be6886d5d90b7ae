-- The first node is the first row.
use Rattle.std.proofs.Common.{ap, sym, ◌∙◌, option_map}
use Rattle.tx_tree.specs.Rows.{first_row}
use Rattle.tx_tree.specs.TreeValue.{TreeValue}
use Rattle.tx_tree.proofs.Lookups.{first_of}
use Rattle.tx_tree.proofs.WholeTree.{whole_tree}
use Rattle.tx_tree.proofs.tree.Tree.root.Goals as goal

pub returns-clause-first : goal.returns-clause-first
returns-clause-first c =
    ap (λ (t : TreeValue). option_map (λ row. row.node) (first_row t.rows)) (sym c.self.view_is) ∙ first_of c.self.invariant.linked

pub returns-clause-known : goal.returns-clause-known
returns-clause-known c =
    whole_tree _ _ _ c.self.invariant c.args.self.now (ap (λ (t : TreeValue). t.rows) (sym c.self.view_is)) (ap (λ (t : TreeValue). t.made) (sym c.self.view_is))
