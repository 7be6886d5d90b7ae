use Rattle.std.proofs.Common.{◌≡◌, ◌+◌, ◌-◌, ◌<◌, length, Some, sym, ap, ◌∙◌, arith}
use Rattle.tx_cascade.specs.Styles.{all_styles}
use Rattle.tx_compose.proofs.Looking.{seen_next, seen_none}
use Rattle.tx_compose.proofs.seen.seen_of.Goals as goal
use Rattle.tx_map.specs.declared.entry.Entry.{Entry}
use Rattle.tx_node_map.specs.Held.{held, with_at}
use Rattle.tx_owner.specs.Owner.{is_seen}

pub loop-at-init : goal.loop-at-init
loop-at-init c =
    seen_none (is_seen (all_styles c.args.styles.now.sheet c.args.styles.now.state c.args.styles.now.rows)) (held c.new-seen.result) c.args.entries.now (length c.args.entries.now)
    c.new-seen.ensures (omega arith)

pub loop-at-preserved : goal.loop-at-preserved
loop-at-preserved c =
    let at = c.loop-at.at in
    let step : at ≡ at - 1 + 1 = omega (arith, c.loop-at-test.true) in
    let within : at - 1 < length c.args.entries.now = omega (arith, c.loop-at-test.true, c.loop-at.auto.at) in
    let seen = is_seen (all_styles c.args.styles.now.sheet c.args.styles.now.state c.args.styles.now.rows) in
    seen_next seen (held c.loop-at.seen) (held c.insert.new.self) c.args.entries.now (at - 1) at c.index-entries-at.result step within c.index-entries-at.is
    (c.in-Ok.ensures.ok ∙ ap (λ (b : _). with_at (held c.loop-at.seen) c.index-entries-at.result.node.0 (Some b)) c.is_seen.ensures) c.loop-at.invariant
