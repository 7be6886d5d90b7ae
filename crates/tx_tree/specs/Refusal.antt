-- How a call answers where it is refused, and where it isn't.
use Rattle.std.specs.Prelude.{◌≡◌, Option, Some, None, Result, Err, IsOk, IfErr}
use Rattle.tx_tree.specs.declared.fault.TreeFault.{TreeFault}
use Rattle.tx_tree.specs.declared.fault.TreeFault.TheVariants.{NoMemory}

-- a call that takes no memory: it answers the refusal where there is one, and else it succeeds
abbrev pub AnswersAtOnce : {T : Type 0} → Option TreeFault → Result T TreeFault → Type 0
AnswersAtOnce None result = IsOk result
AnswersAtOnce (Some fault) result = result ≡ Err fault

-- a call that takes memory: it answers the refusal where there is one, and else it succeeds or
-- finds no memory
abbrev pub Answers : {T : Type 0} → Option TreeFault → Result T TreeFault → Type 0
Answers None result = IfErr result (λ fault. fault ≡ NoMemory)
Answers (Some fault) result = result ≡ Err fault
