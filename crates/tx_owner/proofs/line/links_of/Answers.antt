use Rattle.std.proofs.Common.{◌∙◌, ap, sym, arith, ◌≡◌, ◌++◌, ◌∷◌, []}
use Rattle.std.specs.List.{range_with_len}
use Rattle.tx_owner.proofs.Ranges.{next_number}
use Rattle.tx_owner.proofs.line.links_of.Goals as goal

pub loop-at-preserved : goal.loop-at-preserved
loop-at-preserved c = rw (c.in_ok-push.ensures {u = tt}).items (next_number c.loop-at.at c.loop-at.links.items c.loop-at.invariant)

pub returns : goal.returns
returns c =
    let end : c.loop-at.at ≡ c.args.width = omega (arith, c.loop-at.auto.at-end) in
    rw (c.in_ok-push-2.ensures {u = tt}).items (next_number c.args.width c.loop-at.links.items (c.loop-at.invariant ∙ ap (λ n. range_with_len 0 n) end))
