-- The first piece of bytes, and what stands behind a prefix.
use Rattle.std.proofs.Common.{◌≡◌, ◌≢◌, ℕ, ◌+◌, ◌<◌, zero, suc, Bool, true, false, ◌&&◌, cond, Bor, List, [], ◌∷◌, length, take, drop, get_or, Option, Some, None, refl, ap, arith, eqb, MatchOption, option_map}
use Rattle.std.proofs.lemmas.Bool.{eq-eqb}
use Rattle.std.specs.Cmp.Lexicographic.{pointwise}
use Rattle.std.specs.Prelude.{nat_eq}
use Rattle.std.proofs.lemmas.Bool.Decides.{nat_tests}
use Rattle.tx_read.specs.Pieces.{pieces, behind}

other_than : (a b : ℕ) → a ≢ b → eqb a b ≡ false
other_than a b h = grind (arith, nat_tests)

-- the mark is the first at this place
pub pieces_at_mark : (mark : ℕ) (bytes : List ℕ) (i : ℕ) → ((k : ℕ) → k < i → get_or bytes k 0 ≢ mark) → i < length bytes → get_or bytes i 0 ≡ mark
    → pieces mark bytes ≡ take i bytes ∷ pieces mark (drop (suc i) bytes)
pieces_at_mark mark [] i none inside here = absurd (omega arith)
pieces_at_mark mark (byte ∷ bytes) zero none inside here = rw (eq-eqb byte mark here) refl
pieces_at_mark mark (byte ∷ bytes) (suc i) none inside here =
    rw (other_than byte mark (none 0 (omega arith)), pieces_at_mark mark bytes i (λ k h. none (suc k) (omega arith)) (omega arith) here) refl

-- there is no mark
pub pieces_without_mark : (mark : ℕ) (bytes : List ℕ) → ((k : ℕ) → k < length bytes → get_or bytes k 0 ≢ mark) → pieces mark bytes ≡ bytes ∷ []
pieces_without_mark mark [] none = refl
pieces_without_mark mark (byte ∷ bytes) none =
    rw (other_than byte mark (none 0 (omega arith)), pieces_without_mark mark bytes (λ k h. none (suc k) (omega arith))) refl

and_cond : {A : Type 0} (a b : Bool) (x y : A) → cond a (cond b x y) y ≡ cond (a && b) x y
and_cond true b x y = refl
and_cond false b x y = refl

-- by the front that is as long as the prefix
pub behind_by_front : (prefix bytes : List ℕ) → behind prefix bytes ≡ cond (pointwise nat_eq (take (length prefix) bytes) prefix) (Some (drop (length prefix) bytes)) None
behind_by_front [] bytes = refl
behind_by_front (first ∷ prefix) [] = refl
behind_by_front (first ∷ prefix) (byte ∷ bytes) = rw (behind_by_front prefix bytes) (and_cond (eqb byte first) _ _ _)

-- as `strip_prefix` of std says it
pub behind_from_strip : (prefix bytes : List ℕ) (found : Option (Bor (List ℕ)))
    → MatchOption found (pointwise nat_eq (take (length prefix) bytes) prefix ≡ false) (λ x. (pointwise nat_eq (take (length prefix) bytes) prefix ≡ true) × (x.now ≡ drop (length prefix) bytes) × (length x.now + length prefix ≡ length bytes))
    → option_map (λ x. x.now) found ≡ behind prefix bytes
behind_from_strip prefix bytes None h = rw (behind_by_front prefix bytes, h) refl
behind_from_strip prefix bytes (Some x) h = rw (behind_by_front prefix bytes, h.0) (ap Some h.1)
