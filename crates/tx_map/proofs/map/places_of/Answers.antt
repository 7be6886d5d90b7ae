use Rattle.std.proofs.Common.{◌≡◌, ◌+◌, ◌-◌, ◌<◌, length, Some, sym, ap, ◌∙◌, arith}
use Rattle.tx_map.specs.declared.entry.Entry.{Entry}
use Rattle.tx_map.proofs.Looking.{found_next, found_none}
use Rattle.tx_node_map.specs.Held.{held, with_at}
use Rattle.tx_map.proofs.map.places_of.Goals as goal

pub loop-at-init : goal.loop-at-init
loop-at-init c = found_none (held c.new-places.result) c.args.entries.now (length c.args.entries.now) c.new-places.ensures (omega arith)

pub loop-at-preserved : goal.loop-at-preserved
loop-at-preserved c =
    let at = c.loop-at.at in
    let step : at ≡ at - 1 + 1 = omega (arith, c.loop-at-test.true) in
    let within : at - 1 < length c.args.entries.now = omega (arith, c.loop-at-test.true, c.loop-at.auto.at) in
    found_next (held c.loop-at.places) (held c.insert.new.self) c.args.entries.now (at - 1) at c.index-entries-at.result step within c.index-entries-at.is
    (c.in-Ok.ensures.ok ∙ ap (λ (e : Entry). with_at (held c.loop-at.places) e.node.0 (Some (at - 1))) (sym c.index-entries-at.is)) c.loop-at.invariant
