-- What the calls answer.
use Rattle.std.specs.Prelude.{Option, Some, None, Result}
use Rattle.tx_read.specs.Answer.{Gives, or_refused}
use Rattle.tx_value.specs.declared.fault.ValueFault.{ValueFault}
use Rattle.tx_value.specs.declared.fault.ValueFault.TheVariants.{UnknownProperty, BadValue, NoMemory}

-- what a fault tells: out of memory tells nothing
abbrev pub told : ValueFault → Option ValueFault
told UnknownProperty = Some UnknownProperty
told BadValue = Some BadValue
told NoMemory = None

-- What a call returned, seen so, is what there is, or `BadValue` where there is nothing, unless memory was wanting.
abbrev pub GivesSome : {R A : Type 0} → (R → A) → Result R ValueFault → Option A → Type 0
GivesSome view result there_is = Gives view told result (or_refused BadValue there_is)
