use Rattle.std.proofs.Common.{◌∙◌, ap, arith, ◌+◌, ◌-◌, ◌≡◌, ◌≤◌, refl, length, List, ℕ, ◌++◌, ◌∷◌, []}
use Rattle.tx_tree.specs.Mount.{mounted, mount_refusal}
use Rattle.tx_tree.specs.declared.row.NewRow.{NewRow}
use Rattle.tx_tree.specs.declared.row.NodeId.{NodeId}
use Rattle.tx_tree_file.proofs.Growing.{refused-here, at_once-ok, at_once-err, answers-err, fault_of, grown-rows, grown-fault, grown, node_above, met_few}
use Rattle.tx_tree_file.proofs.read.add_row.Goals as goal

pub returns-in-Err-clause-fault : goal.returns-in-Err-clause-fault
returns-in-Err-clause-fault c =
    let widget = c.requires.met.widget in
    let few = met_few (length c.args.path.now.items) c.args.met.depth (length c.args.path.now.items - 1) c.requires.grown.some refl widget.step in
    let up = node_above c.args.tree.now.rows c.args.path.now.items _ c.parent_at-parent.result.0 c.args.met.depth c.requires.grown.above c.deref.ensures.value c.parent_at-parent.ensures widget.below few in
    let shallow : c.args.met.depth - 1 ≤ 62 = omega (arith, widget.shallow) in
    let next : c.args.met.depth ≡ c.args.met.depth - 1 + 1 = omega (arith, widget.below) in
    let r = at_once-err _ _ c.in-Err.refusal c.in-Err.ensures in
    refused-here c.args.tree.now.rows c.args.tree.now.made (c.args.met.depth - 1) c.parent_at-parent.result.0 c.args.met.line c.args.met.depth c.args.met.row c.args.met.rest.now c.in-Err.refusal c.refused.result up shallow widget.other c.requires.grown.made r next c.refused.ensures

pub returns-in-Err-read_section-clause-fault : goal.returns-in-Err-read_section-clause-fault
returns-in-Err-read_section-clause-fault c =
    let widget = c.requires.met.widget in
    let few = met_few (length c.args.path.now.items) c.args.met.depth (length c.args.path.now.items - 1) c.requires.grown.some refl widget.step in
    let up = node_above c.args.tree.now.rows c.args.path.now.items _ c.parent_at-parent.result.0 c.args.met.depth c.requires.grown.above c.deref.ensures.value c.parent_at-parent.ensures widget.below few in
    let shallow : c.args.met.depth - 1 ≤ 62 = omega (arith, widget.shallow) in
    let next : c.args.met.depth ≡ c.args.met.depth - 1 + 1 = omega (arith, widget.below) in
    let may = at_once-ok _ _ _ c.in_default.ensures in
    grown-fault c.args.tree.now.rows c.args.tree.now.made (c.args.met.depth - 1) c.parent_at-parent.result.0 c.args.met.line c.args.met.depth c.args.met.row c.args.met.rest.now c.in-Err-read_section.refusal up shallow widget.other c.requires.grown.made may next c.in-Err-read_section.ensures.leads

pub returns-clause-rows : goal.returns-clause-rows
returns-clause-rows c =
    let widget = c.requires.met.widget in
    let few = met_few (length c.args.path.now.items) c.args.met.depth (length c.args.path.now.items - 1) c.requires.grown.some refl widget.step in
    let up = node_above c.args.tree.now.rows c.args.path.now.items _ c.parent_at-parent.result.0 c.args.met.depth c.requires.grown.above c.deref.ensures.value c.parent_at-parent.ensures widget.below few in
    let shallow : c.args.met.depth - 1 ≤ 62 = omega (arith, widget.shallow) in
    let next : c.args.met.depth ≡ c.args.met.depth - 1 + 1 = omega (arith, widget.below) in
    let may = at_once-ok _ _ _ c.in_default.ensures in
    grown-rows c.args.tree.now.rows c.mount.new.self.rows c.args.tree.now.made (c.args.met.depth - 1) c.parent_at-parent.result.0 c.args.met.line _ c.args.met.depth c.args.met.row c.in-Ok.section.binds.items c.args.met.rest.now c.in-Ok.section.met up shallow widget.other c.requires.grown.made may widget.alone next
    c.in-Ok.ensures.leads c.in-Ok-mount.ensures.number (c.in-Ok-mount.ensures.rows ∙ ap (λ (row : NewRow). mounted c.parent_at-parent.result.0 c.in-Ok-mount.node.0 row c.args.tree.now.rows) c.with_binds.ensures)

pub returns-in-Err-mount-clause-fault : goal.returns-in-Err-mount-clause-fault
returns-in-Err-mount-clause-fault c =
    let widget = c.requires.met.widget in
    let few = met_few (length c.args.path.now.items) c.args.met.depth (length c.args.path.now.items - 1) c.requires.grown.some refl widget.step in
    let up = node_above c.args.tree.now.rows c.args.path.now.items _ c.parent_at-parent.result.0 c.args.met.depth c.requires.grown.above c.deref.ensures.value c.parent_at-parent.ensures widget.below few in
    let shallow : c.args.met.depth - 1 ≤ 62 = omega (arith, widget.shallow) in
    let next : c.args.met.depth ≡ c.args.met.depth - 1 + 1 = omega (arith, widget.below) in
    let may = at_once-ok _ _ _ c.in_default.ensures in
    fault_of _ c.in-Err-mount.refusal (answers-err NodeId _ c.in-Err-mount.refusal (ap (λ (row : NewRow). mount_refusal c.args.tree.now.rows c.args.tree.now.made c.parent_at-parent.result.0 row) c.with_binds.ensures ∙ may) c.in-Err-mount.ensures.refusal)

pub returns-clause-grown : goal.returns-clause-grown
returns-clause-grown c =
    let widget = c.requires.met.widget in
    let few = met_few (length c.args.path.now.items) c.args.met.depth (length c.args.path.now.items - 1) c.requires.grown.some refl widget.step in
    let up = node_above c.args.tree.now.rows c.args.path.now.items _ c.parent_at-parent.result.0 c.args.met.depth c.requires.grown.above c.deref.ensures.value c.parent_at-parent.ensures widget.below few in
    let shallow : c.args.met.depth - 1 ≤ 62 = omega (arith, widget.shallow) in
    let next : c.args.met.depth ≡ c.args.met.depth - 1 + 1 = omega (arith, widget.below) in
    grown c.args.tree.now c.mount.new.self c.args.path.now.items _ (c.args.met.depth - 1) c.parent_at-parent.result.0 c.in-Ok-mount.node.0 c.args.met.depth _ c.requires.grown up next few c.in-Ok-mount.ensures.number c.in-Ok-mount.ensures.made c.in-Ok-mount.ensures.rows
    (c.in_ok-add.ensures ∙ ap (λ (z : List ℕ). z ++ c.in-Ok-mount.node.0 ∷ []) c.truncate.ensures.items)
