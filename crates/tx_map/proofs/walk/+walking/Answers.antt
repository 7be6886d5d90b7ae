use Rattle.std.proofs.Common.{◌≡◌, List, [], ◌∷◌, ◌++◌, length, Option, Ok, sym, ap, ◌∙◌, subst, arith}
use Rattle.std.specs.Prelude.{unwrap_or}
use Rattle.tx_geom.specs.declared.places.Region.{Region}
use Rattle.tx_geom.specs.declared.places.Size.{Size}
use Rattle.tx_layout.specs.Ask.{told as layout_told}
use Rattle.tx_map.specs.Faults.{Adds, fault_at, told}
use Rattle.tx_map.specs.LayoutMap.{Mapped, docked_number, scroll_in}
use Rattle.tx_map.specs.Subtrees.{barred_in, child_entries, place_at, seen_container, setting, subtree_entries}
use Rattle.tx_map.specs.Ticks.{containers_below}
use Rattle.tx_map.specs.declared.entry.Entry.{Entry}
use Rattle.tx_map.specs.declared.fault.ComposeFault.{ComposeFault}
use Rattle.tx_map.specs.declared.places.Frame.{Frame}
use Rattle.tx_map.proofs.Adding.{child_part, entry_made, frame_made, row_done, row_size, same_place, without_bars}
use Rattle.tx_map.proofs.Rows.{child_at, ends_all, ends_here}
use Rattle.tx_sizes.proofs.lemmas.RowsBelow.{length-counts}
use Rattle.tx_map.proofs.Ticking.{arranged_both, arranged_more}
use Rattle.tx_map.proofs.Walking.{gone_all, gone_next, gone_refused, gone_refused_ticks}
use Rattle.tx_look.specs.Layers.{layer_number}
use Rattle.tx_node_map.specs.Held.{held, nothing}
use Rattle.tx_read.specs.Answer.{Tells}
use Rattle.tx_scroll.specs.Scroll.{kept_scroll}
use Rattle.tx_sizes.specs.Forest.{depth}
use Rattle.tx_tree.specs.declared.row.NodeId.{NodeId}
use Rattle.tx_tree.specs.declared.row.Row.{Row}
use Rattle.tx_value.specs.StyleReads.{dock, overflow_x, overflow_y}
use Rattle.tx_value.specs.declared.value.Value.{Value}
use Rattle.tx_map.proofs.walk.+walking.Goals as goal

-- ---- one child

pub push_child-returns-clause-exact : goal.push_child-returns-clause-exact
push_child-returns-clause-exact g t c =
    let scene = setting nothing (held c.args.scrolls.now) c.args.screen in
    let above = seen_container c.args.container.now c.args.frame c.args.key.now in
    let own = c.args.own.now in
    let r = c.in-Some.region in
    let key = c.as_slice.ensures.value ∙ c.in-Ok.ensures
    ∙ ap (λ l. c.args.key.now ++ l ∷ (c.docked_number-docked.result ∷ (c.args.place ∷ []))) (c.layer_number-layer.ensures ∙ ap (layer_number c.args.container.now) c.style.ensures)
    ∙ ap (λ d. c.args.key.now ++ layer_number c.args.container.now own.style ∷ (d ∷ (c.args.place ∷ []))) (c.docked_number-docked.ensures ∙ ap docked_number (c.dock.ensures ∙ ap dock c.style-2.ensures)) in
    let whole =
    ap (λ (o : Option Region). child_entries scene own c.args.behind.now above c.args.place (o ∷ [])) c.in-Some.is
    ∙ child_part scene own c.args.behind.now above c.args.place r (sym c.is_taking_part.ensures ∙ c.if-not-is_taking_part.false)
    ∙ ap (subtree_entries scene own c.args.behind.now) (sym (same_place above own c.args.place r c.child_region.result c.as_slice.result.now c.child_region.ensures.exact key)) in
    subst (λ (m : Mapped (List Entry)). Adds c.args.found.now.items c.push_row.new.found.items c.push_row.result m) (sym whole) c.push_row.ensures.exact

-- ---- all children

pub push_children-returns-then-depth-frame-clause-exact : goal.push_children-returns-then-depth-frame-clause-exact
push_children-returns-then-depth-frame-clause-exact g t c =
    gone_all c.loop-at.invariant (ends_here c.args.rows.now c.row_at-row.result.now c.loop-at-test.true c.row_at-row.ensures.is (omega (arith, c.if-depth-frame.true, c.depth.ensures)))

pub push_children-bounds-below-at : goal.push_children-bounds-below-at
push_children-bounds-below-at g t c = omega (arith, ap length c.requires.below, length-counts c.args.rows.now, c.loop-at-test.true)

pub push_children-returns-in-Err-clause-exact : goal.push_children-returns-in-Err-clause-exact
push_children-returns-in-Err-clause-exact g t c =
    let row = c.row_at-row.result.now in
    let child = child_at c.args.frame.depth c.args.rows.now c.loop-at.at row c.loop-at-test.true c.row_at-row.ensures.is (omega (arith, c.if-depth-frame.false, c.depth.ensures)) in
    gone_refused c.region_at-region.result c.in-Err.fault c.loop-at.invariant child c.region_at-region.ensures.exact
    (rw (← c.behind_at.ensures.rows) c.in-Err.ensures.exact)

pub push_children-returns-in-Err-clause-ticks : goal.push_children-returns-in-Err-clause-ticks
push_children-returns-in-Err-clause-ticks g t c =
    let row = c.row_at-row.result.now in
    let child = child_at c.args.frame.depth c.args.rows.now c.loop-at.at row c.loop-at-test.true c.row_at-row.ensures.is (omega (arith, c.if-depth-frame.false, c.depth.ensures)) in
    gone_refused_ticks c.loop-at.invariant child (rw (← c.behind_at.ensures.rows) c.push_child.ensures.ticks)

pub push_children-loop-at-preserved : goal.push_children-loop-at-preserved
push_children-loop-at-preserved g t c =
    let row = c.row_at-row.result.now in
    let child = child_at c.args.frame.depth c.args.rows.now c.loop-at.at row c.loop-at-test.true c.row_at-row.ensures.is (omega (arith, c.if-depth-frame.false, c.depth.ensures)) in
    rw c.requires.below
    (gone_next c.region_at-region.result c.regions_taken-used.result c.loop-at.invariant child c.region_at-region.ensures.exact c.regions_taken-used.ensures
    (rw (← c.behind_at.ensures.rows) c.in-Ok.ensures.exact) (rw (← c.behind_at.ensures.rows) c.push_child.ensures.ticks))

pub push_children-returns-clause-exact : goal.push_children-returns-clause-exact
push_children-returns-clause-exact g t c = gone_all c.loop-at.invariant (ends_all c.args.frame.depth c.args.rows.now (omega (arith, c.loop-at-test.false)))

-- ---- one row

pub push_row-returns-in-Err-clause-exact : goal.push_row-returns-in-Err-clause-exact
push_row-returns-in-Err-clause-exact g t c =
    let scene = setting nothing (held c.args.scrolls.now) c.args.screen in
    let own = c.args.own.now in
    let behind = c.args.behind.now in
    let place = place_at c.args.region c.args.clip c.args.key.now in
    let size = row_size own c.args.region c.content_of-content.result c.size.result c.size.ensures.size c.content_of-content.ensures.exact in
    let said = subst (λ (s : Size). Tells (layout_told c.in-Err.fault) (barred_in nothing c.args.screen own behind s)) size c.in-Err.ensures.exact in
    let node : c.row-row.result.now.node ≡ own.row.node = ap (λ (r : Row). r.node) c.row-row.ensures in
    subst (λ (f : ComposeFault). Tells (told f) (subtree_entries scene own behind place)) (sym (c.fault_at.ensures ∙ ap (λ n. fault_at n c.in-Err.fault) node))
    (without_bars scene own behind place c.in-Err.fault said)

pub push_row-returns-clause-exact : goal.push_row-returns-clause-exact
push_row-returns-clause-exact g t c =
    let scene = setting nothing (held c.args.scrolls.now) c.args.screen in
    let own = c.args.own.now in
    let behind = c.args.behind.now in
    let place = place_at c.args.region c.args.clip c.args.key.now in
    let bars = c.in-Ok.bars in
    let size = row_size own c.args.region c.content_of-content.result c.size.result c.size.ensures.size c.content_of-content.ensures.exact in
    let is = subst (λ (s : Size). barred_in nothing c.args.screen own behind s ≡ Ok bars) size c.in-Ok.ensures.exact in
    let node : c.row-row.result.now.node ≡ own.row.node = ap (λ (r : Row). r.node) c.row-row.ensures in
    let scrolled : c.scroll_in-scroll.result ≡ scroll_in scene own bars =
    c.scroll_in-scroll.ensures
    ∙ ap (λ (n : NodeId). kept_scroll (unwrap_or (held c.args.scrolls.now n.0) (0, 0)) bars.arrangement.over (overflow_x c.style-style.result.now) (overflow_y c.style-style.result.now)) node
    ∙ ap (λ (s : List Value). kept_scroll (unwrap_or (held c.args.scrolls.now own.row.node.0) (0, 0)) bars.arrangement.over (overflow_x s) (overflow_y s)) c.style-style.ensures in
    let framed = frame_made scene own place bars c.content_of-content.result c.scroll_in-scroll.result c.frame_of-frame.result c.frame_of-frame.ensures.exact c.content_of-content.ensures.exact scrolled in
    let made = entry_made scene own place bars c.row-row.result.now.node c.scroll_in-scroll.result c.in-Ok-entry_of.entry c.in-Ok-entry_of.ensures node scrolled in
    row_done scene own behind place bars c.frame_of-frame.result c.style-style.result.now c.in-Ok-entry_of.entry c.args.found.now.items c.push_children.new.found.items c.push_children.result is framed c.style-style.ensures made
    (rw (← c.as_slice.ensures, ← c.in-Ok-push.ensures.items) c.push_children.ensures.exact)

pub push_row-returns-clause-ticks : goal.push_row-returns-clause-ticks
push_row-returns-clause-ticks g t c =
    let deep : c.frame_of-frame.result.depth ≡ depth c.args.own.now = ap (λ (f : Frame). f.depth) c.frame_of-frame.ensures.exact in
    let later = ap (λ d. containers_below d c.args.behind.now) deep in
    arranged_more (arranged_both c.in-Ok.ensures.ticks c.push_children.ensures.ticks) (omega (arith, later))
