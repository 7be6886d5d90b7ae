use Rattle.std.proofs.Common.{arith}
use Rattle.tx_value.specs.declared.property.Property.TheVariants.{Display}
use Rattle.tx_cascade.proofs.SameStyles.{same-step, same-end}
use Rattle.tx_cascade.proofs.sameness.is_same_style.Goals as goal

pub loop-property-init : goal.loop-property-init
loop-property-init c = λ same. same

pub loop-property-preserved : goal.loop-property-preserved
loop-property-preserved c =
    same-step c.args.first.now c.args.second.now c.all_properties-property-items.result.now c.loop-property.property-index Display (omega arith) (c.has_same.ensures c.if-not-has_same.false) c.loop-property.invariant

pub returns : goal.returns
returns c = λ is.
    same-end c.args.first.now c.args.second.now c.all_properties-property-items.result.now c.loop-property.property-index c.styles_are_values.ensures.alone c.all_properties-property-items.ensures
    c.requires.first c.requires.second (omega arith) c.loop-property.invariant
