-- What is known of an answer, said of an equal value.
use Rattle.std.proofs.Common.{◌≡◌, ℕ, List, length, ap, subst, ◌∙◌}
use Rattle.std.specs.Prelude.{Result, Ok, Err, IfOk}

pub ok_same : {A E : Type 0} (answer : Result A E) (x y : A) → x ≡ y → IfOk answer (λ v. v ≡ x) → IfOk answer (λ v. v ≡ y)
ok_same answer x y same is = subst (λ z. IfOk answer (λ v. v ≡ z)) same is

pub ok_length : {A E : Type 0} (answer : Result (List A) E) (x : List A) (n : ℕ) → length x ≡ n → IfOk answer (λ v. v ≡ x) → IfOk answer (λ v. length v ≡ n)
ok_length (Ok v) x n long is = ap length is ∙ long
ok_length (Err e) x n long is = is
