use Rattle.std.proofs.Common.{◌≡◌, ◌+◌, ◌-◌, ◌<◌, length, drop, length-set, rules, sym, ap, ◌∙◌, arith}
use Rattle.std.specs.List.{prefix_len}
use Rattle.tx_sizes.specs.Counts.{is_deeper}
use Rattle.tx_sizes.proofs.Counting.{counted_behind, counts_end, counts_next}
use Rattle.tx_sizes.proofs.counts.counts_below.Goals as goal

pub loop-at-init : goal.loop-at-init
loop-at-init c =
    let long : length c.in_ok-below.below.items ≡ length c.args.rows.now = first_of (omega (arith, c.in_ok-below.below.ok, c.in_ok-below.ensures.len), search rules) in
    record { done = counts_end c.args.rows.now c.in_ok-below.below.items long; long = long; within = omega arith }

pub loop-at-preserved : goal.loop-at-preserved
loop-at-preserved c =
    let i = c.loop-at.invariant in
    let rows = c.args.rows.now in
    let at = c.loop-at.at in
    let step : at ≡ at - 1 + 1 = omega (arith, c.loop-at-test.true) in
    let here : at - 1 < length rows = omega (arith, c.loop-at-test.true, i.within) in
    let counted = counted_behind rows _ at _ _ (sym step) c.count_deeper-count.ensures ∙ ap (λ d. prefix_len (is_deeper d) (drop at rows)) c.depth.ensures in
    record {
      done = counts_next rows c.loop-at.below.items (at - 1) at c.index-rows-at.result c.count_deeper-count.result step here c.index-rows-at.is i.long i.done counted;
      long = length-set _ _ _ ∙ i.long;
      within = omega (arith, i.within);
    }
