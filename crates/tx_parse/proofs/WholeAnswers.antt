-- What the answers of the calls say, by what was read.
use Rattle.std.proofs.Common.{◌≡◌, ℕ, List, Result, Ok, Err, IfOk, refl, subst}
use Rattle.tx_read.specs.Answer.{Gives}
use Rattle.tx_parse.specs.Texts.{Report, fault_at, located, told}
use Rattle.tx_parse.specs.declared.fault.SheetFault.{SheetFault}

-- an answer that is no refusal was read, and of what is read something holds
pub answer_read : {R A B : Type 0} (view : R → B) (value : A → B) (Is : A → Type 0) (bytes : List ℕ) (result : Result R SheetFault) (read : Result A Report) → ((a : A) → read ≡ Ok a → Is a)
    → Gives view told result (located value bytes read) → IfOk result (λ r. (a : A) × (view r ≡ value a) × Is a)
answer_read view value Is bytes (Ok r) (Ok a) law is = (a, (let same : view r ≡ value a = cc in same), law a refl)
answer_read {B = B} view value Is bytes (Ok r) (Err report) law is = absurd (let clash : ◌≡◌ {A = Result B SheetFault} (Err (fault_at bytes report)) (Ok (view r)) = is in cc)
answer_read view value Is bytes (Err fault) read law is = tt

-- what was read is answered
pub read_answered : {R A B : Type 0} (view : R → B) (value : A → B) (bytes : List ℕ) (result : Result R SheetFault) (read : Result A Report) (a : A)
    → read ≡ Ok a → Gives view told result (located value bytes read) → Gives view told result (Ok (value a))
read_answered view value bytes result read a is gives = subst (λ r. Gives view told result (located value bytes r)) is gives
