use Rattle.std.proofs.Common.{List, [], ◌∷◌, subst, sym}
use Rattle.tx_tree.specs.declared.row.Row.{Row}
use Rattle.tx_cascade.specs.Edits.{Leads}
use Rattle.tx_cascade.specs.Styles.{StylesValue}
use Rattle.tx_cascade.specs.declared.edit.Edit.TheVariants.{Removed}
use Rattle.tx_cascade.proofs.tests.restyled_rows.after_removed.Goals as goal

pub restyle-requires-clause-lead : goal.restyle-requires-clause-lead
restyle-requires-clause-lead c =
    let tree = c.args.tree.now in
    let state = c.args.pseudo.now in
    let parent = c.in-Some.parent in
    let edits = Removed c.args.node parent ∷ [] in
    subst (λ (v : StylesValue). Leads edits v.rows v.state c.remove.new.self.rows state) (sym c.requires)
    (subst (λ (rs : List Row). Leads edits tree.rows state rs state) (sym c.in-Ok.ensures.rows)
    ((c.tree_edits_lead.ensures.each tree state c.root-root.ensures.known).remove c.args.node parent (sym c.in-Some.ensures)))
