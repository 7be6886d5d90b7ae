-- How rounds end: each one that isn't the last leaves fewer parts without a size.
use Rattle.std.proofs.Common.{◌≡◌, ℕ, zero, suc, ◌+◌, ◌<◌, ◌≤◌, ◌⊎◌, inl, inr, List, [], ◌∷◌, refl, sym, ◌∙◌, ap, arith, false, Option, Some, None, eq-eqb}
use Rattle.std.specs.Prelude.{◌==◌}
use Rattle.tx_frac.specs.Ratio.{Ratio, mul, sub}
use Rattle.tx_box.specs.declared.parts.Part.{Part}
use Rattle.tx_box.specs.declared.parts.Part.TheVariants.{Settled, Growing}
use Rattle.tx_box.specs.Sizes.{clamp}
use Rattle.tx_box.specs.Axis.{same, shares, growing, above_zero, unit_of, part_round, round, round_with, next_round, last_round}
use Rattle.tx_box.proofs.Options.{and_then_some, map_some, bool_cases, same_first, same_second}

-- ---- one part

-- a part stays with what is left, or gets a size
pub part_outcome : (u r : Ratio) (p q : Part) (t : Ratio) → part_round u r p ≡ Some (q, t) → ((q ≡ p) × (t ≡ r)) ⊎ ((growing (p ∷ []) ≡ 1) × (growing (q ∷ []) ≡ 0))
unfolding part_round
part_outcome u r (Settled c) q t e = inl (sym (same_first (Settled c) q r t e), sym (same_second (Settled c) q r t e))
part_outcome u r (Growing s l) q t e =
    let wish = and_then_some _ (mul s u) (q, t) e in
    let size = and_then_some _ (clamp l wish.0) (q, t) wish.2 in
    elim (bool_cases (same size.0 wish.0)) [
      | inl b ↦ let k = rw b at size.2 in inl (sym (same_first (Growing s l) q r t k), sym (same_second (Growing s l) q r t k))
      | inr b ↦
          let k = map_some (λ left. (Settled size.0, left)) (sub r size.0) (q, t) (rw b at size.2) in
          let is : Settled size.0 ≡ q = ap (λ x. x.0) k.2 in
          inr (refl, rw (← is) refl)
    ]

-- ---- a round

growing-cons : (p : Part) (ps : List Part) → growing (p ∷ ps) ≡ growing (p ∷ []) + growing ps
growing-cons (Settled c) ps = omega arith
growing-cons (Growing s l) ps = omega arith

same_cons : (p q : Part) (ps qs : List Part) → p ≡ q → ps ≡ qs → p ∷ ps ≡ q ∷ qs
same_cons p q ps qs e h = cc

outcome_of : (ps qs new : List Part) (r t left : Ratio) → new ≡ qs → left ≡ t → (growing new ≤ growing ps) × (growing new ≡ growing ps → (new ≡ ps) × (left ≡ r))
    → (growing qs ≤ growing ps) × (growing qs ≡ growing ps → (qs ≡ ps) × (t ≡ r))
outcome_of ps qs new r t left e h k = rw (e, h) at k

-- no part loses its size; where as many are without one as before, nothing changed
pub round_outcome : (u r : Ratio) (ps qs : List Part) (t : Ratio) → round u r ps ≡ Some (t, qs)
    → (growing qs ≤ growing ps) × (growing qs ≡ growing ps → (qs ≡ ps) × (t ≡ r))
round_outcome u r [] qs t e = let q : qs ≡ [] = sym (same_second r t [] qs e) in let s : t ≡ r = sym (same_first r t [] qs e) in (rw q (omega arith), λ _. (q, s))
round_outcome u r (p ∷ ps) qs t e =
    let first = and_then_some _ (part_round u r p) (t, qs) e in
    let q = first.0.0 in
    let later = map_some _ (round u first.0.1 ps) (t, qs) first.2 in
    let tail = round_outcome u first.0.1 ps later.0.1 later.0.0 later.1 in
    let is : q ∷ later.0.1 ≡ qs = ap (λ x. x.1) later.2 in
    let left : later.0.0 ≡ t = ap (λ x. x.0) later.2 in
    let more = growing-cons p ps in
    let more_after = growing-cons q later.0.1 in
    let step = part_outcome u r p q first.0.1 first.1 in
    let claim : (growing (q ∷ later.0.1) ≤ growing (p ∷ ps)) × (growing (q ∷ later.0.1) ≡ growing (p ∷ ps) → (q ∷ later.0.1 ≡ p ∷ ps) × (later.0.0 ≡ r)) =
    elim step [
      | inl k ↦
          let one : growing (q ∷ []) ≡ growing (p ∷ []) = ap (λ x. growing (x ∷ [])) k.0 in
          let low = tail.0 in (
            omega arith,
            λ same_count.
                let rest = tail.1 (omega arith) in
                (same_cons q p later.0.1 ps k.0 rest.0, rest.1 ∙ k.1),
          )
      | inr k ↦
          let low = tail.0 in
          let none = k.1 in
          let one = k.0 in
          (omega arith, λ same_count. absurd (omega arith))
    ] in
    outcome_of (p ∷ ps) qs (q ∷ later.0.1) r t later.0.0 is left claim

-- ---- the next round

shares-nil : (ps : List Part) → growing ps ≡ 0 → shares ps ≡ []
shares-nil [] h = refl
shares-nil (Settled c ∷ ps) h = shares-nil ps h
shares-nil (Growing s l ∷ ps) h = absurd (omega arith)

pub next_outcome : (r : Ratio) (ps qs : List Part) (t : Ratio) → next_round r ps ≡ Some (t, qs) → (growing qs ≤ growing ps) × (growing qs ≡ growing ps → qs ≡ ps)
unfolding next_round
next_outcome r ps qs t e =
    let unit = and_then_some _ (unit_of r ps) (t, qs) e in
    outcome unit.0 (above_zero r) ps qs t unit.2
  where
    outcome : (u : Option Ratio) (r : Ratio) (ps qs : List Part) (t : Ratio) → round_with u r ps ≡ Some (t, qs) → (growing qs ≤ growing ps) × (growing qs ≡ growing ps → qs ≡ ps)
    outcome None r ps qs t e = let k : qs ≡ ps = sym (same_second r t ps qs e) in (rw k (omega arith), λ _. k)
    outcome (Some u) r ps qs t e = let k = round_outcome u r ps qs t e in (k.0, λ same_count. (k.1 same_count).0)

next-nothing : (r : Ratio) (ps : List Part) → growing ps ≡ 0 → next_round r ps ≡ Some (above_zero r, ps)
unfolding next_round unit_of
next-nothing r ps h = rw (shares-nil ps h) refl

-- ---- the last round

last-stop : (n : ℕ) (r : Ratio) (ps qs : List Part) (t : Ratio) → next_round r ps ≡ Some (t, qs) → growing qs ≡ growing ps → last_round (suc n) r ps ≡ Some (r, ps)
unfolding last_round
last-stop n r ps qs t e h = rw (e, eq-eqb (growing qs) (growing ps) h) refl

last-on : (n : ℕ) (r : Ratio) (ps qs : List Part) (t : Ratio) → next_round r ps ≡ Some (t, qs) → growing qs < growing ps → last_round (suc n) r ps ≡ last_round n t qs
unfolding last_round
last-on n r ps qs t e h = let b : (growing qs == growing ps) ≡ false = grind arith in rw (e, b) refl

last-none : (n : ℕ) (r : Ratio) (ps : List Part) → next_round r ps ≡ None → last_round (suc n) r ps ≡ None
unfolding last_round
last-none n r ps e = rw e refl

last-zero : (r : Ratio) (ps : List Part) → last_round zero r ps ≡ Some (r, ps)
unfolding last_round
last-zero r ps = refl

pub last-settled : (n : ℕ) (r : Ratio) (ps : List Part) → growing ps ≡ 0 → last_round n r ps ≡ Some (r, ps)
last-settled zero r ps h = last-zero r ps
last-settled (suc n) r ps h = last-stop n r ps ps (above_zero r) (next-nothing r ps h) refl

option_cases : {A : Type 0} (o : Option A) → (o ≡ None) ⊎ ((x : A) × (o ≡ Some x))
option_cases None = inl refl
option_cases (Some x) = inr (x, refl)

-- a count of rounds that is large enough makes no difference
enough : (n m : ℕ) (r : Ratio) (ps : List Part) → growing ps ≤ n → growing ps ≤ m → last_round n r ps ≡ last_round m r ps
enough zero m r ps h k = last-settled zero r ps (omega arith) ∙ sym (last-settled m r ps (omega arith))
enough (suc n) zero r ps h k = last-settled (suc n) r ps (omega arith) ∙ sym (last-settled zero r ps (omega arith))
enough (suc n) (suc m) r ps h k =
    elim (option_cases (next_round r ps)) [
      | inl e ↦ last-none n r ps e ∙ sym (last-none m r ps e)
      | inr x ↦
          let q = x.0.1 in
          let t = x.0.0 in
          let low = (next_outcome r ps q t x.1).0 in
          elim (below_or_same (growing q) (growing ps) low) [
            | inl less ↦ last-on n r ps q t x.1 less ∙ (enough n m t q (omega arith) (omega arith) ∙ sym (last-on m r ps q t x.1 less))
            | inr same_count ↦ last-stop n r ps q t x.1 same_count ∙ sym (last-stop m r ps q t x.1 same_count)
          ]
    ]
  where
    below_or_same : (a b : ℕ) → a ≤ b → (a < b) ⊎ (a ≡ b)
    below_or_same a b h = grind arith

-- ---- what the loop keeps

pub loop_stops : (n : ℕ) (r : Ratio) (ps qs : List Part) (t : Ratio) → 0 < n → next_round r ps ≡ Some (t, qs) → growing qs ≡ growing ps
    → (last_round n r ps ≡ Some (r, ps)) × (qs ≡ ps)
loop_stops zero r ps qs t h e k = absurd (omega arith)
loop_stops (suc n) r ps qs t h e k = (last-stop n r ps qs t e k, (next_outcome r ps qs t e).1 k)

pub loop_goes_on : (n : ℕ) (r : Ratio) (ps qs : List Part) (t : Ratio) → n ≡ growing ps → 0 < n → next_round r ps ≡ Some (t, qs) → (growing qs ≡ growing ps → ⊥)
    → (last_round n r ps ≡ last_round (growing qs) t qs) × (growing qs < n)
loop_goes_on zero r ps qs t is h e k = absurd (omega arith)
loop_goes_on (suc n) r ps qs t is h e k =
    let low = (next_outcome r ps qs t e).0 in
    let less : growing qs < growing ps = omega arith in
    (last-on n r ps qs t e less ∙ enough n (growing qs) t qs (omega arith) (omega arith), omega arith)

pub loop_fails : (n : ℕ) (r : Ratio) (ps : List Part) → 0 < n → next_round r ps ≡ None → last_round n r ps ≡ None
loop_fails zero r ps h e = absurd (omega arith)
loop_fails (suc n) r ps h e = last-none n r ps e
