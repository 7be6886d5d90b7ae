use Rattle.std.proofs.Common.{◌≡◌, List, [], ◌∷◌, Option, None, Some, Ok, refl, subst, sym}
use Rattle.tx_tree.specs.Refusal.{AnswersAtOnce}
use Rattle.tx_tree.specs.declared.fault.TreeFault.{TreeFault}
use Rattle.tx_tree.specs.declared.row.Row.{Row}
use Rattle.tx_cascade.specs.Edits.{Leads}
use Rattle.tx_cascade.specs.Styles.{StylesValue}
use Rattle.tx_cascade.specs.declared.edit.Edit.TheVariants.{Moved}
use Rattle.tx_cascade.proofs.tests.restyled_rows.after_moved.Goals as goal

granted : (refusal : Option TreeFault) → AnswersAtOnce refusal (Ok (tt {0})) → refusal ≡ None
granted None ok = refl
granted (Some fault) refused = cc

pub restyle-requires-clause-lead : goal.restyle-requires-clause-lead
restyle-requires-clause-lead c =
    let tree = c.args.tree.now in
    let state = c.args.pseudo.now in
    let parent = c.in-Some.parent in
    let edits = Moved c.args.node parent ∷ [] in
    subst (λ (v : StylesValue). Leads edits v.rows v.state c.move_before.new.self.rows state) (sym c.requires)
    (subst (λ (rs : List Row). Leads edits tree.rows state rs state) (sym c.in-Ok.ensures.rows)
    ((c.tree_edits_lead.ensures.each tree state c.root-root.ensures.known).move_before c.args.node c.args.before parent (sym c.in-Some.ensures) (granted _ c.in-Ok.ensures.refusal)))
