use Rattle.std.proofs.Common.{◌≡◌, List, refl, sym, subst}
use Rattle.tx_cascade.specs.Styles.{StylesValue, all_styles}
use Rattle.tx_compose.specs.Kept.{IsKept}
use Rattle.tx_compose.specs.Presented.{Presented, presented}
use Rattle.tx_compose.specs.Seen.{AreSeen}
use Rattle.tx_compose.proofs.Keeping.{is_kept}
use Rattle.tx_compose.proofs.frame.Frame.of.Goals as goal
use Rattle.tx_map.specs.declared.entry.Entry.{Entry}
use Rattle.tx_node_map.specs.Held.{held}
use Rattle.tx_owner.specs.Owner.{is_seen}

pub invariant_of-result : goal.invariant_of-result
invariant_of-result c =
    let a : c.args.sheet.now ≡ c.of.result.value = sym c.of.ensures in
    let b : c.args.present.now.tree.now ≡ c.of-2.result.value = sym c.of-2.ensures in
    let d : c.args.present.now.pseudo.now ≡ c.of-3.result.value = sym c.of-3.ensures in
    let e : c.args.present.now.scrolls.now ≡ c.of-4.result.value = sym c.of-4.ensures in
    let shown = presented c.args.sheet.now c.args.present.now.tree.now.rows c.args.present.now.pseudo.now c.args.present.now.scrolls.now c.args.present.now.size in
    let kept : shown ≡ presented c.of.result.value c.of-2.result.value.rows c.of-3.result.value c.of-4.result.value c.args.present.now.size = cc in
    let of_map : AreSeen (is_seen (all_styles c.args.styles.now.sheet c.args.styles.now.state c.args.styles.now.rows)) c.args.map (held c.in_ok-seen.seen) =
    subst (λ (l : List Entry). AreSeen (is_seen (all_styles c.args.styles.now.sheet c.args.styles.now.state c.args.styles.now.rows)) l (held c.in_ok-seen.seen)) c.entries.ensures
    c.in_ok-seen.ensures in
    let visible : AreSeen (is_seen (all_styles c.args.sheet.now c.args.present.now.pseudo.now c.args.present.now.tree.now.rows)) c.args.map (held c.in_ok-seen.seen) =
    subst (λ (s : StylesValue). AreSeen (is_seen (all_styles s.sheet s.state s.rows)) c.args.map (held c.in_ok-seen.seen)) c.requires.styles of_map in
    subst (λ (p : Presented). IsKept p c.args.map c.args.owners (held c.in_ok-seen.seen)) kept
    (is_kept (record { that = c.topmost_is_that.ensures; of_cells = c.owners_are_of_cells.ensures; each = c.each_cell_is_owned.ensures }) c.screen_fills.ensures c.nodes_have_one_entry.ensures shown
    c.args.present.now.tree.now refl c.root-root.ensures.known c.args.map c.requires.map c.args.owners c.requires.owners (held c.in_ok-seen.seen) visible)
