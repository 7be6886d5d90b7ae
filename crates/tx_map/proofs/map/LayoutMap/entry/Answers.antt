use Rattle.std.proofs.Common.{◌≡◌, List, None, ap, ◌∙◌, subst}
use Rattle.std.specs.Prelude.{option_copied, slice_get}
use Rattle.tx_map.specs.Lookup.{entry_of}
use Rattle.tx_map.specs.declared.entry.Entry.{Entry}
use Rattle.tx_map.proofs.Looking.{looked_up, not_there}
use Rattle.tx_node_map.specs.Held.{held}
use Rattle.tx_map.proofs.map.LayoutMap.entry.Goals as goal

pub returns-in-Some : goal.returns-in-Some
returns-in-Some c =
    let entries = c.self.inside.entries.items in
    subst (λ (es : List Entry). option_copied c.entry_at.result ≡ entry_of c.args.node.0 es) c.self.view_is
    (c.entry_at.ensures ∙ ap (λ (es : List Entry). slice_get es c.in-Some.at.now) c.deref.ensures.value
    ∙ looked_up (held c.self.inside.places) entries c.args.node.0 c.in-Some.at.now c.self.invariant c.in-Some.ensures)

pub returns-in-None : goal.returns-in-None
returns-in-None c =
    subst (λ (es : List Entry). None ≡ entry_of c.args.node.0 es) c.self.view_is
    (not_there (held c.self.inside.places) c.self.inside.entries.items c.args.node.0 c.self.invariant c.in-None.ensures)
