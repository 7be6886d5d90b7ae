-- What stands in front.
use Rattle.std.proofs.Common.{◌≡◌, ℕ, ◌==◌, Bool, true, false, cond, List, [], ◌∷◌, ◌++◌, Option, Some, None, refl, ap₂}
use Rattle.std.proofs.lemmas.Bool.Decides.{Decides-eqb}
use Rattle.tx_read.specs.Pieces.{behind}

pub some-same : {A : Type 0} {x y : A} → Some x ≡ Some y → x ≡ y
some-same h = cc

pub none-some : {A B : Type 0} {x : A} → ◌≡◌ {A = Option A} None (Some x) → B
none-some h = absurd cc

pub same-byte : (x y : ℕ) → (x == y) ≡ true → x ≡ y
same-byte x y e = (Decides-eqb x y).0 e

pub self-byte : (x : ℕ) → (x == x) ≡ true
self-byte x = (Decides-eqb x x).1 refl

pub front_of : (prefix bytes rest : List ℕ) → behind prefix bytes ≡ Some rest → bytes ≡ prefix ++ rest
front_of [] bytes rest h = some-same h
front_of (first ∷ prefix) [] rest h = none-some h
front_of (first ∷ prefix) (byte ∷ bytes) rest h = by (byte == first) refl h (front_of prefix bytes rest)
  where
    by : (b : Bool) → (byte == first) ≡ b → cond b (behind prefix bytes) None ≡ Some rest → (behind prefix bytes ≡ Some rest → bytes ≡ prefix ++ rest) → byte ∷ bytes ≡ (first ∷ prefix) ++ rest
    by true e g more = ap₂ (λ (x : ℕ) (xs : List ℕ). x ∷ xs) (same-byte byte first e) (more g)
    by false e g more = none-some g

pub behind-front : (prefix rest : List ℕ) → behind prefix (prefix ++ rest) ≡ Some rest
behind-front [] rest = refl
behind-front (first ∷ prefix) rest = rw (self-byte first) (behind-front prefix rest)
