use Rattle.std.proofs.Common.{[], ◌∷◌, subst, sym}
use Rattle.tx_cascade.specs.Edits.{Leads}
use Rattle.tx_cascade.specs.Styles.{StylesValue}
use Rattle.tx_cascade.specs.declared.edit.Edit.TheVariants.{Dark}
use Rattle.tx_cascade.proofs.tests.restyled_states.after_dark.Goals as goal

pub restyle-requires-clause-lead : goal.restyle-requires-clause-lead
restyle-requires-clause-lead c =
    let rows = c.args.tree.now.rows in
    let state = c.args.pseudo.now in
    subst (λ (v : StylesValue). Leads (Dark ∷ []) v.rows v.state rows (record state { dark = c.args.to })) (sym c.requires)
    ((c.edits_lead.ensures.each rows state).1.dark c.args.to)
