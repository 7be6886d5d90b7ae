-- The longest front that passes a test, one byte after another.
use Rattle.std.proofs.Common.{◌≡◌, ℕ, zero, suc, ◌+◌, ◌<◌, ◌≤◌, Bool, true, false, cond, ◌&&◌, List, [], ◌∷◌, length, take, Option, None, Some, option_map, refl, ap, sym, ◌∙◌, subst, arith}
use Rattle.std.specs.List.{list_all, prefix_len}
use Rattle.tx_lex.specs.Tokens.{is_none, IsLongest, PassesNone}

-- the longest front, or that there is none
abbrev pub Finds : (List ℕ → Bool) → List ℕ → Option ℕ → Type 0
Finds test bytes None = PassesNone test bytes
Finds test bytes (Some n) = IsLongest test bytes n

-- ---- one byte on

pub longest-next : (test tail : List ℕ → Bool) (b : ℕ) (bytes : List ℕ) (n : ℕ) → ((xs : List ℕ) → test (b ∷ xs) ≡ tail xs)
    → IsLongest tail bytes n → IsLongest test (b ∷ bytes) (suc n)
longest-next test tail b bytes n same longest = record {
  within = omega (arith, longest.within);
  passes = same (take n bytes) ∙ longest.passes;
  none_longer = none;
}
  where
    none : (m : ℕ) → suc n < m → m ≤ length (b ∷ bytes) → test (take m (b ∷ bytes)) ≡ false
    none zero above within = absurd (omega (arith, above))
    none (suc m) above within = same (take m bytes) ∙ longest.none_longer m (omega (arith, above)) (omega (arith, within))

pub none-next : (test tail : List ℕ → Bool) (b : ℕ) (bytes : List ℕ) → ((xs : List ℕ) → test (b ∷ xs) ≡ tail xs) → test [] ≡ false
    → PassesNone tail bytes → PassesNone test (b ∷ bytes)
none-next test tail b bytes same empty none zero within = empty
none-next test tail b bytes same empty none (suc m) within = same (take m bytes) ∙ none m (omega (arith, within))

-- no front passes where the first byte is refused
pub none-first : (test : List ℕ → Bool) (b : ℕ) (bytes : List ℕ) → test [] ≡ false → ((xs : List ℕ) → test (b ∷ xs) ≡ false) → PassesNone test (b ∷ bytes)
none-first test b bytes empty refused zero within = empty
none-first test b bytes empty refused (suc m) within = refused (take m bytes)

none-nothing : (test : List ℕ → Bool) → test [] ≡ false → PassesNone test []
none-nothing test empty zero within = empty
none-nothing test empty (suc m) within = empty

pub nothing-finds : (test : List ℕ → Bool) → test [] ≡ false → Finds test [] None
nothing-finds test empty = none-nothing test empty

pub finds-next : (test tail : List ℕ → Bool) (b : ℕ) (bytes : List ℕ) (found : Option ℕ) → ((xs : List ℕ) → test (b ∷ xs) ≡ tail xs) → test [] ≡ false
    → Finds tail bytes found → Finds test (b ∷ bytes) (option_map (λ n. n + 1) found)
finds-next test tail b bytes None same empty finds = none-next test tail b bytes same empty finds
finds-next test tail b bytes (Some n) same empty finds =
    let next : n + 1 ≡ suc n = omega arith in
    subst (IsLongest test (b ∷ bytes)) (sym next) (longest-next test tail b bytes n same finds)

-- ---- the same test

pub longest-same : (test other : List ℕ → Bool) (bytes : List ℕ) (n : ℕ) → ((xs : List ℕ) → test xs ≡ other xs) → IsLongest other bytes n → IsLongest test bytes n
longest-same test other bytes n same longest = record {
  within = longest.within;
  passes = same (take n bytes) ∙ longest.passes;
  none_longer = λ m above within. same (take m bytes) ∙ longest.none_longer m above within;
}

-- nothing passes but no bytes
pub longest-zero : (test : List ℕ → Bool) (b : ℕ) (bytes : List ℕ) → test [] ≡ true → ((m : ℕ) → m ≤ length bytes → test (b ∷ take m bytes) ≡ false) → IsLongest test (b ∷ bytes) 0
longest-zero test b bytes empty refused = record { within = omega arith; passes = empty; none_longer = none }
  where
    none : (m : ℕ) → 0 < m → m ≤ length (b ∷ bytes) → test (take m (b ∷ bytes)) ≡ false
    none zero above within = absurd (omega (arith, above))
    none (suc m) above within = refused m (omega (arith, within))

pub longest-nothing : (test : List ℕ → Bool) → test [] ≡ true → IsLongest test [] 0
longest-nothing test empty = record { within = omega arith; passes = empty; none_longer = λ m above within. absurd (omega (arith, above, within)) }

-- ---- tests of each byte

pub longest-is_none : (bytes : List ℕ) → IsLongest is_none bytes 0
longest-is_none [] = longest-nothing is_none refl
longest-is_none (b ∷ bytes) = longest-zero is_none b bytes refl (λ m within. refl)

pub longest-all : (p : ℕ → Bool) (bytes : List ℕ) → IsLongest (list_all p) bytes (prefix_len p bytes)
longest-all p [] = longest-nothing (list_all p) refl
longest-all p (b ∷ bytes) = of (p b) refl (longest-all p bytes)
  where
    of : (passes : Bool) → p b ≡ passes → IsLongest (list_all p) bytes (prefix_len p bytes) → IsLongest (list_all p) (b ∷ bytes) (cond passes (1 + prefix_len p bytes) 0)
    of true is rest =
        let next : 1 + prefix_len p bytes ≡ suc (prefix_len p bytes) = omega arith in
        subst (IsLongest (list_all p) (b ∷ bytes)) (sym next)
        (longest-next (list_all p) (list_all p) b bytes (prefix_len p bytes) (λ xs. ap (λ first. first && list_all p xs) is) rest)
    of false is rest = longest-zero (list_all p) b bytes refl (λ m within. ap (λ first. first && list_all p (take m bytes)) is)

-- one byte that passes or more
abbrev pub some_of : (ℕ → Bool) → List ℕ → Bool
some_of p [] = false
some_of p (b ∷ bytes) = p b && list_all p bytes

pub longest-some : (p : ℕ → Bool) (b : ℕ) (bytes : List ℕ) → p b ≡ true → IsLongest (some_of p) (b ∷ bytes) (1 + prefix_len p bytes)
longest-some p b bytes is =
    let next : 1 + prefix_len p bytes ≡ suc (prefix_len p bytes) = omega arith in
    subst (IsLongest (some_of p) (b ∷ bytes)) (sym next)
    (longest-next (some_of p) (list_all p) b bytes (prefix_len p bytes) (λ xs. ap (λ first. first && list_all p xs) is) (longest-all p bytes))

pub none-some : (p : ℕ → Bool) (b : ℕ) (bytes : List ℕ) → p b ≡ false → PassesNone (some_of p) (b ∷ bytes)
none-some p b bytes is = none-first (some_of p) b bytes refl (λ xs. ap (λ first. first && list_all p xs) is)
