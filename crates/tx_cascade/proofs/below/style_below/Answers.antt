use Rattle.std.proofs.Common.{◌∙◌, List, get_or, sym, ap, arith}
use Rattle.std.specs.List.{fold}
use Rattle.tx_value.specs.Style.{with_value, initial_style}
use Rattle.tx_value.specs.declared.property.Property.{Property}
use Rattle.tx_value.specs.declared.property.Property.TheVariants.{Display}
use Rattle.tx_value.specs.declared.value.Value.{Value}
use Rattle.tx_cascade.specs.Cascade.{value_below, style_below}
use Rattle.tx_cascade.proofs.Values.{all-set}
use Rattle.tx_cascade.proofs.Greatest.{fold-at, fold-end}
use Rattle.tx_cascade.proofs.below.style_below.Goals as goal

pub loop-property-preserved : goal.loop-property-preserved
loop-property-preserved c =
    let choice = value_below c.args.above.now c.args.all.now in
    let step = λ (style : List Value) (p : Property). with_value style p (choice p) in
    let items = c.all_properties-property-items.result.now in
    fold-at step items c.loop-property.property-index Display c.loop-property.style c.set.new.self (fold step initial_style items) (omega arith)
    (ap (λ v. with_value c.loop-property.style (get_or items c.loop-property.property-index Display) v) (sym c.in_ok-value.ensures) ∙ sym c.set.ensures.exact)
    c.loop-property.invariant

pub returns : goal.returns
unfolding style_below
returns c =
    let choice = value_below c.args.above.now c.args.all.now in
    let step = λ (style : List Value) (p : Property). with_value style p (choice p) in
    let items = c.all_properties-property-items.result.now in
    fold-end step items c.loop-property.property-index c.loop-property.style (fold step initial_style items) (omega arith) c.loop-property.invariant
    ∙ (ap (λ ps. fold step initial_style ps) c.all_properties-property-items.ensures ∙ all-set choice)
