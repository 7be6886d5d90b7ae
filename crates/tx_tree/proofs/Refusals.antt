-- How one call's refusal is another's.
use Rattle.std.proofs.Common.{◌≡◌, Option, Some, None, Result, Ok, Err, refl, sym, ap, ◌∙◌}
use Rattle.std.specs.Prelude.{IsErrAnd, OnErr, is_ok}
use Rattle.std.proofs.lemmas.Bool.{false≢true}
use Rattle.tx_tree.specs.Refusal.{Answers, AnswersAtOnce}
use Rattle.tx_tree.specs.declared.fault.TreeFault.{TreeFault}
use Rattle.tx_tree.specs.declared.fault.TreeFault.TheVariants.{NoMemory}

-- the fault of an answer
fault_of : {T : Type 0} → Result T TreeFault → TreeFault
fault_of (Ok x) = NoMemory
fault_of (Err fault) = fault

-- the refusal of a test is that of the call
pub passed_on : {S T : Type 0} (refusal : Option TreeFault) (fault : TreeFault) (result : Result T TreeFault) (test : Result S TreeFault)
    → test ≡ Err fault → AnswersAtOnce refusal test → IsErrAnd result (λ e. e ≡ fault) → Answers refusal result
unfolding fault_of
passed_on None fault (Ok x) test t h e = tt
passed_on {S} None fault (Err g) test t h e = absurd (false≢true (ap (λ (r : Result S TreeFault). is_ok r) (sym t) ∙ h))
passed_on (Some f) fault (Ok x) test t h e = absurd e
passed_on {S} {T} (Some f) fault (Err g) test t h e =
    let wrap : TreeFault → Result T TreeFault = λ z. Err z in
    ap wrap (e ∙ ap (λ (r : Result S TreeFault). fault_of r) (sym t ∙ h))

-- a test that passes finds no refusal
pub not_refused : {T : Type 0} (refusal : Option TreeFault) (x : T) → AnswersAtOnce refusal (Ok x) → refusal ≡ None
not_refused None x h = refl
not_refused (Some f) x h = cc

-- without a refusal only memory is wanting
pub by_memory : {T : Type 0} (refusal : Option TreeFault) (result : Result T TreeFault) → refusal ≡ None
    → IsErrAnd result (λ e. e ≡ NoMemory) → Answers refusal result
by_memory refusal (Ok x) none h = absurd h
by_memory {T} refusal (Err g) none h = rw none h

pub succeeds : {T : Type 0} (refusal : Option TreeFault) (x : T) → refusal ≡ None → Answers refusal (Ok x)
succeeds refusal x none = rw none tt

-- the same for a call that takes no memory
pub refused_at_once : (T : Type 0) (refusal : Option TreeFault) (fault : TreeFault) → refusal ≡ Some fault → AnswersAtOnce {T = T} refusal (Err fault)
refused_at_once T refusal fault e = rw e refl

pub succeeds_at_once : {T : Type 0} (refusal : Option TreeFault) (x : T) → refusal ≡ None → AnswersAtOnce refusal (Ok x)
succeeds_at_once refusal x none = rw none refl

pub refused : (T : Type 0) (refusal : Option TreeFault) (fault : TreeFault) → refusal ≡ Some fault → Answers {T = T} refusal (Err fault)
refused T refusal fault e = rw e refl

-- what holds anyway holds of an error
pub on_err : {T E : Type 0} (result : Result T E) (P : Type 0) → P → OnErr result P
on_err (Ok x) P p = tt
on_err (Err e) P p = p
