-- A subtree ends before the first row behind it.
use Rattle.std.proofs.Common.{ap, subst, ◌∙◌, Option, List, option_map}
use Rattle.tx_tree.specs.Rows.{first_row, after_of}
use Rattle.tx_tree.specs.TreeValue.{TreeValue}
use Rattle.tx_tree.specs.Walk.{NumbersDiffer}
use Rattle.tx_tree.specs.Links.{slots, rows_of}
use Rattle.tx_tree.specs.declared.tree.node.Node.{Node}
use Rattle.tx_tree.proofs.Lookups.{at_most_once}
use Rattle.tx_tree.proofs.Walks.{subtree-between}
use Rattle.tx_tree.proofs.tree.Tree.subtree.Goals as goal

pub invariant_of-result : goal.invariant_of-result
invariant_of-result c = let P : TreeValue → Type 0 = λ t. NumbersDiffer t.rows in subst P c.self.view_is (at_most_once c.self.invariant.linked)

pub returns : goal.returns
returns c =
    subtree-between c.args.self.now.rows (invariant_of-result c) c.args.node _
    (c.first_after-end.ensures
    ∙ (ap (λ (nodes : List (Option Node)). option_map (λ row. row.node) (first_row (after_of c.args.node.0 (rows_of (slots nodes))))) c.deref.ensures.value
    ∙ ap (λ (t : TreeValue). option_map (λ row. row.node) (first_row (after_of c.args.node.0 t.rows))) c.self.view_is))
