-- The map finds exactly the ids of the rows.
use Rattle.std.proofs.Common.{ap, sym, ◌∙◌, List, ℕ, Option}
use Rattle.std.specs.List.{list_any}
use Rattle.tx_tree.specs.Rows.{has_id}
use Rattle.tx_tree.specs.Mount.{is_taken}
use Rattle.tx_tree.specs.TreeValue.{TreeValue}
use Rattle.tx_tree.proofs.Ids.{taken-found}
use Rattle.tx_tree.proofs.tree.Tree.has_id.Goals as goal

pub returns-in-Some : goal.returns-in-Some
returns-in-Some c =
    c.contains_key.ensures
    ∙ (sym (taken-found c.self.invariant.linked _ c.self.invariant.ids c.in-Some.name)
    ∙ (ap (λ (t : TreeValue). list_any (has_id c.in-Some.name) t.rows) c.self.view_is
    ∙ ap (λ (o : Option (List ℕ)). is_taken o c.args.self.now.rows) (sym c.in-Some.is)))
