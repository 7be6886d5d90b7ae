-- Bytes that are sent one piece after another.
use Rattle.std.proofs.Common.{◌≡◌, ℕ, ◌+◌, ◌-◌, ◌≤◌, List, ◌++◌, length, take, drop, Option, None, Some, refl, ap, sym, ◌∙◌, append_assoc, arith, length-drop}
use Rattle.std.proofs.Math.Seq.{take-add}
use Rattle.std.proofs.lemmas.List.{drop-drop}
use Rattle.std.specs.Io.KnownBytes.{append_known}

-- one piece behind another
pub append_known-append : (known : Option (List ℕ)) (a b : List ℕ) → append_known (append_known known a) b ≡ append_known known (a ++ b)
append_known-append None a b = refl
append_known-append (Some xs) a b = ap Some (append_assoc xs a b)

-- what is left after a further piece
pub drop-rest : (bytes rest left : List ℕ) (n : ℕ) → length rest ≤ length bytes → n ≤ length rest
    → rest ≡ drop (length bytes - length rest) bytes → left ≡ drop n rest
    → left ≡ drop (length bytes - length left) bytes
drop-rest bytes rest left n short fits front back =
    let k : ℕ = length bytes - length rest in
    let count : k + n ≡ length bytes - length left = omega (arith, length-drop n rest, ap length back) in
    back ∙ ap (drop n) front ∙ drop-drop n k bytes ∙ ap (λ m. drop m bytes) count

-- what is taken of the rest stands behind what was taken before
pub append_known-rest : (known now next : Option (List ℕ)) (bytes rest left : List ℕ) (n : ℕ)
    → length rest ≤ length bytes → n ≤ length rest
    → rest ≡ drop (length bytes - length rest) bytes → left ≡ drop n rest
    → now ≡ append_known known (take (length bytes - length rest) bytes)
    → next ≡ append_known now (take n rest)
    → next ≡ append_known known (take (length bytes - length left) bytes)
append_known-rest known now next bytes rest left n short fits front back before after =
    let k : ℕ = length bytes - length rest in
    let count : k + n ≡ length bytes - length left = omega (arith, length-drop n rest, ap length back) in
    after ∙ ap (λ told. append_known told (take n rest)) before
    ∙ ap (λ r. append_known (append_known known (take k bytes)) (take n r)) front
    ∙ append_known-append known (take k bytes) (take n (drop k bytes))
    ∙ ap (append_known known) (sym (take-add k n bytes))
    ∙ ap (λ m. append_known known (take m bytes)) count
