use Rattle.std.proofs.Common.{◌≤◌, ◌^◌, ◌∙◌, length, arith, refl}
use Rattle.tx_value.proofs.Digits.{power_small, power_some, value_small, uncapped, below_end, fraction_defined, fraction_of}
use Rattle.tx_value.proofs.numbers.amount.Goals as goal

pub unreachable-requires : goal.unreachable-requires
unreachable-requires c =
    let scale : c.pow-scale.result ≤ 10 ^ 18 = rw c.pow-scale.ensures (power_small (length c.args.decimals.now) c.requires.short_decimals) in
    let some : 1 ≤ c.pow-scale.result = rw c.pow-scale.ensures (power_some (length c.args.decimals.now)) in
    let whole = value_small c.args.whole.now c.requires.whole_digits (omega (arith, c.requires.short_whole)) in
    let decimals = value_small c.args.decimals.now c.requires.decimal_digits c.requires.short_decimals in
    let small = below_end c.capped_value.result c.pow-scale.result c.capped_value-2.result (omega (arith, whole, c.capped_value.ensures)) scale (omega (arith, decimals, c.capped_value-2.ensures)) in
    let h = c.in-None.ensures.defined.1 (fraction_defined _ c.pow-scale.result small some (omega (arith, scale))) in
    cc

pub returns : goal.returns
returns c =
    let scale : c.pow-scale.result ≤ 10 ^ 18 = rw c.pow-scale.ensures (power_small (length c.args.decimals.now) c.requires.short_decimals) in
    let whole = c.capped_value.ensures ∙ uncapped c.args.whole.now c.requires.whole_digits (omega (arith, c.requires.short_whole)) in
    let decimals = c.capped_value-2.ensures ∙ uncapped c.args.decimals.now c.requires.decimal_digits c.requires.short_decimals in
    let whole_small = value_small c.args.whole.now c.requires.whole_digits (omega (arith, c.requires.short_whole)) in
    let decimals_small = value_small c.args.decimals.now c.requires.decimal_digits c.requires.short_decimals in
    let small = below_end c.capped_value.result c.pow-scale.result c.capped_value-2.result (omega (arith, whole, whole_small)) scale (omega (arith, decimals, decimals_small)) in
    c.in-Some.ensures.exact ∙ (fraction_of _ c.pow-scale.result small (omega (arith, scale)) ∙ rw (whole, decimals, c.pow-scale.ensures) refl)
