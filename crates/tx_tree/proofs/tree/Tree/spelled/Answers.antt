-- The rows of the nodes are all rows.
use Rattle.std.proofs.Common.{ap, ◌∙◌}
use Rattle.std.specs.List.{list_all}
use Rattle.tx_tree.specs.Spelled.{is_spelled}
use Rattle.tx_tree.specs.Links.{slot_is_spelled}
use Rattle.tx_tree.specs.TreeValue.{TreeValue}
use Rattle.tx_tree.proofs.Listings.{all_spelled-rows}
use Rattle.tx_tree.proofs.tree.Tree.spelled.Goals as goal

pub returns : goal.returns
returns c =
    c.all_spelled.ensures
    ∙ (ap (list_all slot_is_spelled) c.deref.ensures.value
    ∙ (all_spelled-rows c.self.inside.nodes.items c.self.invariant.linked ∙ ap (λ (t : TreeValue). list_all is_spelled t.rows) c.self.view_is))
