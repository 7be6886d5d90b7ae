use Rattle.std.proofs.Common.{◌≡◌, List, [], ◌∷◌, Option, None, Some, Ok, refl, subst, sym}
use Rattle.tx_tree.specs.Refusal.{Answers}
use Rattle.tx_tree.specs.declared.fault.TreeFault.{TreeFault}
use Rattle.tx_tree.specs.declared.row.NodeId.{NodeId}
use Rattle.tx_tree.specs.declared.row.Row.{Row}
use Rattle.tx_cascade.specs.Edits.{Leads}
use Rattle.tx_cascade.specs.Styles.{StylesValue}
use Rattle.tx_cascade.specs.declared.edit.Edit.TheVariants.{Mounted}
use Rattle.tx_cascade.proofs.tests.restyled_rows.after_mounted.Goals as goal

granted : (refusal : Option TreeFault) (node : NodeId) → Answers refusal (Ok node) → refusal ≡ None
granted None node ok = refl
granted (Some fault) node refused = cc

pub restyle-requires-clause-lead : goal.restyle-requires-clause-lead
restyle-requires-clause-lead c =
    let tree = c.args.tree.now in
    let state = c.args.pseudo.now in
    let node = c.in-Ok.node in
    let edits = Mounted node c.args.parent ∷ [] in
    subst (λ (v : StylesValue). Leads edits v.rows v.state c.mount.new.self.rows state) (sym c.requires)
    (subst (λ (rs : List Row). Leads edits tree.rows state rs state) (sym c.in-Ok.ensures.rows)
    ((c.tree_edits_lead.ensures.each tree state c.root-root.ensures.known).mount c.args.parent node c.args.row (granted _ node c.in-Ok.ensures.refusal) c.in-Ok.ensures.number))
