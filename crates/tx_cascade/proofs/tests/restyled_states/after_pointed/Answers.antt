use Rattle.std.proofs.Common.{[], ◌∷◌, subst, sym}
use Rattle.tx_cascade.specs.Edits.{Leads}
use Rattle.tx_cascade.specs.Styles.{StylesValue}
use Rattle.tx_cascade.specs.declared.edit.Edit.TheVariants.{Pointed}
use Rattle.tx_cascade.proofs.tests.restyled_states.after_pointed.Goals as goal

pub restyle-requires-clause-lead : goal.restyle-requires-clause-lead
restyle-requires-clause-lead c =
    let rows = c.args.tree.now.rows in
    let state = c.args.pseudo.now in
    subst (λ (v : StylesValue). Leads (Pointed state.pointed c.args.to ∷ []) v.rows v.state rows (record state { pointed = c.args.to })) (sym c.requires)
    ((c.edits_lead.ensures.each rows state).1.pointed c.args.to)
