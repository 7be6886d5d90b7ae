-- The ancestors are those from the parent up.
use Rattle.std.proofs.Common.{sym, ap, subst, ◌∙◌}
use Rattle.tx_tree.specs.TreeValue.{TreeValue}
use Rattle.tx_tree.specs.Walk.{rest_up_from, ClimbsOn}
use Rattle.tx_tree.proofs.Walks.{climbs}
use Rattle.tx_tree.proofs.tree.Tree.ancestors.Goals as goal

pub invariant_of-result : goal.invariant_of-result
invariant_of-result c = let P : TreeValue → Type 0 = λ t. ClimbsOn t.rows in subst P c.self.view_is (climbs c.self.invariant.linked)

pub returns : goal.returns
returns c =
    ap (λ o. rest_up_from o c.args.self.now.rows) c.parent.ensures ∙ sym (invariant_of-result c c.args.node.0)
