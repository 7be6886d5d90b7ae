use Rattle.std.proofs.Common.{List, [], ◌∷◌, subst, sym}
use Rattle.tx_tree.specs.declared.row.Row.{Row}
use Rattle.tx_cascade.specs.Edits.{Leads}
use Rattle.tx_cascade.specs.Styles.{StylesValue}
use Rattle.tx_cascade.specs.declared.edit.Edit.TheVariants.{Disabled}
use Rattle.tx_cascade.proofs.tests.restyled_states.after_disabled.Goals as goal

pub restyle-requires-clause-lead : goal.restyle-requires-clause-lead
restyle-requires-clause-lead c =
    let rows = c.args.tree.now.rows in
    let state = c.args.pseudo.now in
    let edits = Disabled c.args.node ∷ [] in
    subst (λ (v : StylesValue). Leads edits v.rows v.state c.set_disabled.new.self.rows state) (sym c.requires)
    (subst (λ (rs : List Row). Leads edits rows state rs state) (sym c.in-Ok.ensures.rows) (((c.edits_lead.ensures.each rows state).0 c.args.node).disabled c.args.to))
