-- Where room is shared, the sizes with the gaps come to the total.
use Rattle.std.proofs.Common.{◌≡◌, ℕ, zero, suc, ◌+◌, ◌*◌, ◌<◌, ◌≤◌, ◌⊎◌, inl, inr, List, [], ◌∷◌, length, drop, refl, sym, ◌∙◌, ap, subst, arith, ℤ, pos, negsuc, Option, Some, None}
use Rattle.std.specs.Prelude.{◌==◌, ◌+ℤ◌, ◌-ℤ◌, ◌*ℤ◌, ◌≤ℤ◌, ◌<ℤ◌, neg_ℤ, sum, All, Any, unwrap_or, slice_index}
use Rattle.std.specs.List.{AllByRecursion as Every, AllZip, zip, last_or}
use Rattle.std.proofs.lemmas.Int.{ints}
use Rattle.std.proofs.Math.Nat.{mul_comm, mul-pos, div-one}
use Rattle.std.proofs.Math.IntN.{*ℤ_comm}
use Rattle.tx_frac.specs.Ratio.{Ratio, IsLowest, IsRatio, whole_of, floor_of, negated, sum_of, product_of, quotient_of, add, sub, mul, div}
use Rattle.tx_box.specs.declared.parts.Part.{Part}
use Rattle.tx_box.specs.declared.parts.Part.TheVariants.{Settled, Growing}
use Rattle.tx_box.specs.declared.items.Span.{Span}
use Rattle.tx_box.specs.Item.{NotNegative, IsSized}
use Rattle.tx_geom.specs.Along.{side}
use Rattle.tx_box.specs.Sizes.{cells, clamp}
use Rattle.tx_box.specs.Axis.{bases, part_of, axis_parts, axis_sizes, axis_spans, each, settled_sizes, shares, growing, room, less_each, above_zero, above_zero_in, total_from, unit_of, same, part_round, round, round_with, next_round, last_round, final_size, final_sizes, last_of, sizes_of, placed, spans_from}
use Rattle.tx_box.proofs.Options.{and_then_some, map_some, bool_cases, same_some, same_first, same_second}
use Rattle.tx_box.proofs.Ends.{next_outcome}
use Rattle.tx_box.proofs.Amounts.{Known, IsAmount, IsAmountPart, amount_part, growing_comes, settled_comes, product_is, quotient_is, difference_is, amount_cells, amount_product, amount_clamp, amount_total, amount_shares, amount_unit, amount_next, unit_is, same_true, positive_ratio, over_both, lowest_sum, lowest_negated}
use Rattle.tx_frac.proofs.lemmas.Whole.{*ℤ_assoc, +ℤ-*ℤ, neg-*ℤ, cancel_pos}
use Rattle.std.proofs.Math.IntN.{zero-*ℤ, +ℤ_idl}
use Rattle.std.proofs.lemmas.List.Sums.{sum_by-cons}
use Rattle.tx_geom.specs.declared.places.Size.{Size}
use Rattle.tx_geom.specs.declared.choices.Axis.{Axis}
use Rattle.tx_box.specs.declared.items.Item.{Item}
use Rattle.tx_box.specs.declared.items.Basis.{Basis}
use Rattle.std.proofs.lemmas.List.Elements.{All-head, All-tail}
use Rattle.tx_box.specs.Laws.{HasFractions, IsPositive, FillsTotal}
use Rattle.tx_box.proofs.Numbers.{common, same_number, same_den, AreOver, HasNumber, AreAligned, settled_number, settled_total, growing_total, total, total-parts, over_difference, over_sum, over_cells, over_less_each, AreShares, common_shares, over_total}

-- ---- a round, by numbers

number_after : Known → (k : ℕ) (u r : Ratio) (p q : Part) (t : Ratio) (n : ℤ) → 0 < k → part_round u r p ≡ Some (q, t) → HasNumber k q n
    → HasNumber k p n × ((m : ℤ) → IsRatio m k r → IsRatio ((m +ℤ settled_number p n) -ℤ settled_number q n) k t)
number_after w k u r (Settled d) q t n hk e h =
    let c = settled_comes u r d q t e in
    let same : HasNumber k (Settled d) n = subst (λ x. HasNumber k x n) c.0 h in
    (same, λ m g. subst (λ x. IsRatio ((m +ℤ n) -ℤ settled_number x n) k t) (sym c.0) (subst (IsRatio ((m +ℤ n) -ℤ n) k) (sym c.1) (same_number k m ((m +ℤ n) -ℤ n) r (omega (arith, ints)) g)))
number_after w k u r (Growing s l) q t n hk e h =
    elim (growing_comes u r s l q t e) [
      | inl c ↦ (
        tt,
        λ m g. subst (λ x. IsRatio ((m +ℤ pos 0) -ℤ settled_number x n) k t) (sym c.part)
            (subst (IsRatio ((m +ℤ pos 0) -ℤ pos 0) k) (sym c.left) (same_number k m ((m +ℤ pos 0) -ℤ pos 0) r (omega (arith, ints)) g)),
      )
      | inr c ↦
          let d : IsRatio n k c.size = subst (λ x. HasNumber k x n) c.part h in (
            tt,
            λ m g. subst (λ x. IsRatio ((m +ℤ pos 0) -ℤ settled_number x n) k t) (sym c.part)
                (same_number k (m -ℤ n) ((m +ℤ pos 0) -ℤ n) t (omega (arith, ints)) (over_difference w k m n r c.size t hk g d c.left)),
          )
    ]

moved : (m a b c d : ℤ) → ((m +ℤ a) -ℤ b) +ℤ c -ℤ d ≡ (m +ℤ (a +ℤ c)) -ℤ (b +ℤ d)
moved m a b c d = omega (arith, ints)

-- what is left and what the settled sizes take stay the same together
number_round : Known → (k : ℕ) (u r : Ratio) (ps qs : List Part) (t : Ratio) (ns : List ℤ) → 0 < k → round u r ps ≡ Some (t, qs) → AreAligned k qs ns
    → AreAligned k ps ns × ((m : ℤ) → IsRatio m k r → IsRatio ((m +ℤ settled_total ps ns) -ℤ settled_total qs ns) k t)
number_round w k u r [] qs t ns hk e h =
    let is = same_second r t [] qs e in
    let left = same_first r t [] qs e in
    (subst (λ x. AreAligned k x ns) (sym is) h, λ m g. subst (λ x. IsRatio ((m +ℤ pos 0) -ℤ settled_total x ns) k t) is (subst (IsRatio ((m +ℤ pos 0) -ℤ pos 0) k) left (same_number k m ((m +ℤ pos 0) -ℤ pos 0) r (omega (arith, ints)) g)))
number_round w k u r (p ∷ ps) qs t ns hk e h =
    let first = and_then_some _ (part_round u r p) (t, qs) e in
    let later = map_some _ (round u first.0.1 ps) (t, qs) first.2 in
    let is : first.0.0 ∷ later.0.1 ≡ qs = ap (λ x. x.1) later.2 in
    let left : later.0.0 ≡ t = ap (λ x. x.0) later.2 in
    let claim = front w k u r p ps first.0.0 later.0.1 first.0.1 later.0.0 ns hk first.1 (λ more g. number_round w k u first.0.1 ps later.0.1 later.0.0 more hk later.1 g) (subst (λ x. AreAligned k x ns) (sym is) h) in
    (claim.0, λ m g. subst (λ x. IsRatio ((m +ℤ settled_total (p ∷ ps) ns) -ℤ settled_total x ns) k t) is (subst (IsRatio ((m +ℤ settled_total (p ∷ ps) ns) -ℤ settled_total (first.0.0 ∷ later.0.1) ns) k) left (claim.1 m g)))
  where
    front : Known → (k : ℕ) (u r : Ratio) (p : Part) (ps : List Part) (q : Part) (qs : List Part) (s t : Ratio) (ns : List ℤ) → 0 < k → part_round u r p ≡ Some (q, s)
        → ((ns : List ℤ) → AreAligned k qs ns → AreAligned k ps ns × ((m : ℤ) → IsRatio m k s → IsRatio ((m +ℤ settled_total ps ns) -ℤ settled_total qs ns) k t))
        → AreAligned k (q ∷ qs) ns → AreAligned k (p ∷ ps) ns × ((m : ℤ) → IsRatio m k r → IsRatio ((m +ℤ settled_total (p ∷ ps) ns) -ℤ settled_total (q ∷ qs) ns) k t)
    front w k u r p ps q qs s t [] hk e rec h = absurd h
    front w k u r p ps q qs s t (n ∷ ns) hk e rec h =
        let one = number_after w k u r p q s n hk e h.0 in
        let rest = rec ns h.1 in (
          (one.0, rest.0),
          λ m g.
              same_number k (((m +ℤ settled_number p n) -ℤ settled_number q n) +ℤ settled_total ps ns -ℤ settled_total qs ns)
              ((m +ℤ (settled_number p n +ℤ settled_total ps ns)) -ℤ (settled_number q n +ℤ settled_total qs ns)) t
              (moved m (settled_number p n) (settled_number q n) (settled_total ps ns) (settled_total qs ns))
              (rest.1 ((m +ℤ settled_number p n) -ℤ settled_number q n) (one.1 m g)),
        )

number_round_with : Known → (k : ℕ) (u : Option Ratio) (r : Ratio) (ps qs : List Part) (t : Ratio) (ns : List ℤ) → 0 < k → round_with u r ps ≡ Some (t, qs) → AreAligned k qs ns
    → AreAligned k ps ns × ((m : ℤ) → IsRatio m k r → IsRatio ((m +ℤ settled_total ps ns) -ℤ settled_total qs ns) k t)
number_round_with w k None r ps qs t ns hk e h =
    let is = same_second r t ps qs e in
    let left = same_first r t ps qs e in (
      subst (λ x. AreAligned k x ns) (sym is) h,
      λ m g.
          subst (λ x. IsRatio ((m +ℤ settled_total ps ns) -ℤ settled_total x ns) k t) is
          (subst (IsRatio ((m +ℤ settled_total ps ns) -ℤ settled_total ps ns) k) left (same_number k m ((m +ℤ settled_total ps ns) -ℤ settled_total ps ns) r (back m (settled_total ps ns)) g)),
    )
  where
    back : (m a : ℤ) → m ≡ (m +ℤ a) -ℤ a
    back m a = omega (arith, ints)
number_round_with w k (Some u) r ps qs t ns hk e h = number_round w k u r ps qs t ns hk e h

above_is : (r : Ratio) → NotNegative r → above_zero r ≡ r
above_is r h = by_sign r.num refl
  where
    by_sign : (z : ℤ) → r.num ≡ z → above_zero_in z r ≡ r
    by_sign (pos n) e = refl
    by_sign (negsuc n) e = absurd (let l : pos 0 ≤ℤ negsuc n = rw e at h in omega (arith, ints))

number_next : Known → (k : ℕ) (r : Ratio) (ps qs : List Part) (t : Ratio) (ns : List ℤ) → 0 < k → NotNegative r → next_round r ps ≡ Some (t, qs) → AreAligned k qs ns
    → AreAligned k ps ns × ((m : ℤ) → IsRatio m k r → IsRatio ((m +ℤ settled_total ps ns) -ℤ settled_total qs ns) k t)
unfolding next_round
number_next w k r ps qs t ns hk low e h =
    let unit = and_then_some _ (unit_of r ps) (t, qs) e in
    let x = number_round_with w k unit.0 (above_zero r) ps qs t ns hk unit.2 h in
    (x.0, λ m g. x.1 m (subst (IsRatio m k) (sym (above_is r low)) g))

-- ---- what is below 0 stays below 0

abbrev pub IsBelow : Ratio → Type 0
IsBelow x = x.num <ℤ pos 0

below_ratio : (n : ℤ) (d : ℕ) (x : Ratio) → 0 < d → n <ℤ pos 0 → IsRatio n d x → IsBelow x
below_ratio n d x hd low h = by_sign x.num n x.den d hd h.lowest_terms.positive low h.same
  where
    by_sign : (z n : ℤ) (e d : ℕ) → 0 < d → 0 < e → n <ℤ pos 0 → z *ℤ pos d ≡ n *ℤ pos e → z <ℤ pos 0
    by_sign (negsuc m) n e d hd he low same = omega (arith, ints)
    by_sign (pos m) (pos n) e d hd he low same = absurd (omega (arith, ints))
    by_sign (pos m) (negsuc n) e d hd he low same = absurd (let h : 0 < suc n * e = mul-pos (omega arith) he in omega (arith, ints))

-- 0 or less, less a number above 0
below_difference : Known → (x y : Ratio) → IsLowest x → IsLowest y → x.num ≤ℤ pos 0 → pos 0 <ℤ y.num → IsBelow (sum_of x (negated y))
below_difference w x y hx hy low high =
    let b = over_both w x y hx hy in
    let hd : 0 < x.den * y.den = mul-pos hx.positive hy.positive in
    below_ratio ((x.num *ℤ pos y.den) +ℤ neg_ℤ (y.num *ℤ pos x.den)) (x.den * y.den) (sum_of x (negated y)) hd (numbers x.num y.num x.den y.den hx.positive low high)
    (w.sums.sum (x.den * y.den) (x.num *ℤ pos y.den) (neg_ℤ (y.num *ℤ pos x.den)) x (negated y) hd b.0 (w.sums.opposite (x.den * y.den) (y.num *ℤ pos x.den) y b.1))
  where
    numbers : (a b : ℤ) (p q : ℕ) → 0 < p → a ≤ℤ pos 0 → pos 0 <ℤ b → ((a *ℤ pos q) +ℤ neg_ℤ (b *ℤ pos p)) <ℤ pos 0
    numbers (pos m) (pos n) p q hp l h = let g : 0 < n * p = mul-pos (omega (arith, ints)) hp in let z : m ≡ 0 = omega (arith, ints) in rw z (omega (arith, ints))
    numbers (negsuc m) (pos n) p q hp l h = let g : 0 < n * p = mul-pos (omega (arith, ints)) hp in omega (arith, ints)
    numbers a (negsuc n) p q hp l h = absurd (omega (arith, ints))

zero_ratio : Known → (d : ℕ) (x : Ratio) → 0 < d → IsRatio (pos 0) d x → x ≡ cells 0
zero_ratio w d x hd h = w.forms.fraction d (pos 0) x (cells 0) hd h (same_number d (pos (0 * d)) (pos 0) (cells 0) (ap pos (omega arith)) (over_cells w d 0))

-- an amount that isn't 0 is above it
above_unless : Known → (c : Ratio) → IsAmount c → (c ≡ cells 0 → ⊥) → pos 0 <ℤ c.num
above_unless w c a apart = by_sign c.num refl
  where
    by_sign : (z : ℤ) → c.num ≡ z → pos 0 <ℤ c.num
    by_sign (pos zero) e = absurd (apart (zero_ratio w c.den c a.lowest.positive (same_number c.den c.num (pos 0) c e (w.forms.itself c a.lowest))))
    by_sign (pos (suc n)) e = rw e (omega (arith, ints))
    by_sign (negsuc n) e = absurd (let l : pos 0 ≤ℤ negsuc n = rw e at a.not_negative in omega (arith, ints))

no_units : Known → (s : Ratio) → IsLowest s → product_of s (cells 0) ≡ cells 0
no_units w s h = zero_ratio w (s.den * 1) (product_of s (cells 0)) (mul-pos h.positive (omega arith)) (same_number (s.den * 1) (s.num *ℤ pos 0) (pos 0) (product_of s (cells 0)) (times_zero s.num) (w.products.product s.den 1 s.num (pos 0) s (cells 0) (w.forms.itself s h) (w.forms.whole (pos 0) 1)))
  where
    times_zero : (z : ℤ) → z *ℤ pos 0 ≡ pos 0
    times_zero z = omega (arith, ints)

-- a round without units, from 0 or less: nothing changes, or what is left is below 0
below_round : Known → (r : Ratio) (ps qs : List Part) (t : Ratio) → IsLowest r → r.num ≤ℤ pos 0 → Every IsAmountPart ps → round (cells 0) r ps ≡ Some (t, qs)
    → ((qs ≡ ps) × (t ≡ r)) ⊎ IsBelow t
below_round w r [] qs t h low a e = inl (sym (same_second r t [] qs e), sym (same_first r t [] qs e))
below_round w r (p ∷ ps) qs t h low a e =
    let first = and_then_some _ (part_round (cells 0) r p) (t, qs) e in
    let later = map_some _ (round (cells 0) first.0.1 ps) (t, qs) first.2 in
    let claim = front w r p ps first.0.0 later.0.1 first.0.1 later.0.0 h low a first.1 (λ g k. below_round w first.0.1 ps later.0.1 later.0.0 g k a.1 later.1) in
    let is : first.0.0 ∷ later.0.1 ≡ qs = ap (λ x. x.1) later.2 in
    let left : later.0.0 ≡ t = ap (λ x. x.0) later.2 in
    elim claim [ inl c ↦ inl (sym is ∙ c.0, sym left ∙ c.1) | inr b ↦ inr (subst IsBelow left b) ]
  where
    grown : (p q : Part) (ps qs : List Part) → q ≡ p → qs ≡ ps → q ∷ qs ≡ p ∷ ps
    grown p q ps qs e h = cc

    kept : (r : Ratio) (p : Part) (ps : List Part) (q : Part) (qs : List Part) (s t : Ratio) → q ≡ p → s ≡ r → ((qs ≡ ps) × (t ≡ s)) ⊎ IsBelow t → ((q ∷ qs ≡ p ∷ ps) × (t ≡ r)) ⊎ IsBelow t
    kept r p ps q qs s t e h x = elim x [ inl c ↦ inl (grown p q ps qs e c.0, c.1 ∙ h) | inr b ↦ inr b ]

    front : Known → (r : Ratio) (p : Part) (ps : List Part) (q : Part) (qs : List Part) (s t : Ratio) → IsLowest r → r.num ≤ℤ pos 0 → Every IsAmountPart (p ∷ ps) → part_round (cells 0) r p ≡ Some (q, s)
        → (IsLowest s → s.num ≤ℤ pos 0 → ((qs ≡ ps) × (t ≡ s)) ⊎ IsBelow t) → ((q ∷ qs ≡ p ∷ ps) × (t ≡ r)) ⊎ IsBelow t
    front w r (Settled d) ps q qs s t h low a e rec =
        let c = settled_comes (cells 0) r d q s e in
        kept r (Settled d) ps q qs s t c.0 c.1 (rec (subst IsLowest (sym c.1) h) (subst (λ x. x.num ≤ℤ pos 0) (sym c.1) low))
    front w r (Growing g l) ps q qs s t h low a e rec =
        elim (growing_comes (cells 0) r g l q s e) [
          | inl c ↦ kept r (Growing g l) ps q qs s t c.part c.left (rec (subst IsLowest (sym c.left) h) (subst (λ x. x.num ≤ℤ pos 0) (sym c.left) low))
          | inr c ↦
              let none = no_units w g a.0.0.lowest in
              let size = amount_clamp w l (product_of g (cells 0)) c.size a.0.1 (amount_product w g (cells 0) a.0.0 (amount_cells w 0)) c.is in
              let more = above_unless w c.size size (λ k. c.differs (k ∙ sym none)) in
              let b : IsBelow s = subst IsBelow (sym c.left) (below_difference w r c.size h size.lowest low more) in
              let lows : IsLowest s = subst IsLowest (sym c.left) (lowest_sum w r (negated c.size) h (lowest_negated w c.size size.lowest)) in
              elim (rec lows (omega (arith, ints))) [ inl k ↦ inr (subst IsBelow (sym k.1) b) | inr k ↦ inr k ]
        ]

below_next : Known → (r : Ratio) (ps qs : List Part) (t : Ratio) → IsLowest r → IsBelow r → Every IsAmountPart ps → next_round r ps ≡ Some (t, qs) → (qs ≡ ps) ⊎ IsBelow t
unfolding next_round
below_next w r ps qs t h low a e =
    let unit = and_then_some _ (unit_of r ps) (t, qs) e in
    by_unit unit.0 unit.1 unit.2
  where
    none_left : above_zero r ≡ cells 0
    none_left = by_sign r.num refl
      where
        by_sign : (z : ℤ) → r.num ≡ z → above_zero_in z r ≡ cells 0
        by_sign (pos n) e = absurd (let l : pos n <ℤ pos 0 = rw e at low in omega (arith, ints))
        by_sign (negsuc n) e = refl

    by_unit : (u : Option Ratio) → unit_of r ps ≡ Some u → round_with u (above_zero r) ps ≡ Some (t, qs) → (qs ≡ ps) ⊎ IsBelow t
    by_unit None is e = inl (sym (same_second (above_zero r) t ps qs e))
    by_unit (Some u) is e =
        let s = unit_is r ps u is in
        let q = quotient_is (above_zero r) s.0 u s.2 in
        let amount = amount_total w (cells 0) (shares ps) s.0 (amount_cells w 0) (amount_shares ps a) s.1 in
        let j = positive_ratio w s.0 amount q.1 in
        let nothing : u ≡ cells 0 =
        zero_ratio w (1 * j.0) u (mul-pos (omega arith) j.1)
        (same_number (1 * j.0) (pos 0 *ℤ pos s.0.den) (pos 0) u (ap pos (omega arith))
        (subst (IsRatio (pos 0 *ℤ pos s.0.den) (1 * j.0)) (sym (q.0 ∙ ap (λ x. quotient_of x s.0) none_left))
        (w.products.quotient 1 s.0.den j.0 (pos 0) (cells 0) s.0 amount.lowest.positive j.1 (w.forms.whole (pos 0) 1) j.2))) in
        let again : round (cells 0) (cells 0) ps ≡ Some (t, qs) = subst (λ x. round x (cells 0) ps ≡ Some (t, qs)) nothing (subst (λ x. round u x ps ≡ Some (t, qs)) none_left e) in
        elim (below_round w (cells 0) ps qs t (amount_cells w 0).lowest (omega (arith, ints)) a again) [ inl c ↦ inl c.0 | inr b ↦ inr b ]

below_last : Known → (n : ℕ) (r : Ratio) (ps qs : List Part) (left : Ratio) → IsLowest r → IsBelow r → Every IsAmountPart ps → last_round n r ps ≡ Some (left, qs) → IsBelow left
unfolding last_round
below_last w zero r ps qs left h low a e = subst IsBelow (same_first r left ps qs e) low
below_last w (suc n) r ps qs left h low a e =
    let next = and_then_some _ (next_round r ps) (left, qs) e in
    elim (bool_cases (growing next.0.1 == growing ps)) [
      | inl b ↦ subst IsBelow (same_first r left ps qs (rw b at next.2)) low
      | inr b ↦
          elim (below_next w r ps next.0.1 next.0.0 h low a next.1) [
            | inl c ↦ absurd (let x : growing next.0.1 ≡ growing ps = ap growing c in grind (arith, x, b))
            | inr c ↦
                let more = amount_next w r ps next.0.1 next.0.0 h a next.1 in
                below_last w n next.0.0 next.0.1 qs left more.1 c more.0 (rw b at next.2)
          ]
    ]

-- ---- all rounds, by numbers

number_last : Known → (k n : ℕ) (r : Ratio) (ps qs : List Part) (left : Ratio) (ns : List ℤ) → 0 < k → IsLowest r → Every IsAmountPart ps → NotNegative left
    → last_round n r ps ≡ Some (left, qs) → AreAligned k qs ns
    → AreAligned k ps ns × ((m : ℤ) → IsRatio m k r → IsRatio ((m +ℤ settled_total ps ns) -ℤ settled_total qs ns) k left)
unfolding last_round
number_last w k zero r ps qs left ns hk h a low e g = number_round_with w k None r ps qs left ns hk e g
number_last w k (suc n) r ps qs left ns hk h a low e g =
    let next = and_then_some _ (next_round r ps) (left, qs) e in
    elim (bool_cases (growing next.0.1 == growing ps)) [
      | inl b ↦ number_round_with w k None r ps qs left ns hk (rw b at next.2) g
      | inr b ↦
          let more = amount_next w r ps next.0.1 next.0.0 h a next.1 in
          let rest = number_last w k n next.0.0 next.0.1 qs left ns hk more.1 more.0 low (rw b at next.2) g in
          elim (sign r.num) [
            | inr neg ↦ absurd (let x = below_last w (suc n) r ps qs left h neg a e in omega (arith, ints))
            | inl up ↦
                let one = number_next w k r ps next.0.1 next.0.0 ns hk up next.1 rest.0 in (
                  one.0,
                  λ m f.
                      same_number k (((m +ℤ settled_total ps ns) -ℤ settled_total next.0.1 ns) +ℤ settled_total next.0.1 ns -ℤ settled_total qs ns) ((m +ℤ settled_total ps ns) -ℤ settled_total qs ns) left
                      (through m (settled_total ps ns) (settled_total next.0.1 ns) (settled_total qs ns)) (rest.1 ((m +ℤ settled_total ps ns) -ℤ settled_total next.0.1 ns) (one.1 m f)),
                )
          ]
    ]
  where
    sign : (z : ℤ) → (pos 0 ≤ℤ z) ⊎ (z <ℤ pos 0)
    sign (pos n) = inl (omega (arith, ints))
    sign (negsuc n) = inr (omega (arith, ints))

    through : (m a b c : ℤ) → ((m +ℤ a) -ℤ b) +ℤ b -ℤ c ≡ (m +ℤ a) -ℤ c
    through m a b c = omega (arith, ints)

-- ---- the last round

done_last : (n : ℕ) (r : Ratio) (ps qs : List Part) (left : Ratio) → growing ps ≤ n → last_round n r ps ≡ Some (left, qs) → (growing qs ≡ 0) ⊎ ((t : Ratio) × (next_round left qs ≡ Some (t, qs)))
unfolding last_round
done_last zero r ps qs left h e = inl (subst (λ x. growing x ≡ 0) (same_second r left ps qs e) (omega arith))
done_last (suc n) r ps qs left h e =
    let next = and_then_some _ (next_round r ps) (left, qs) e in
    elim (bool_cases (growing next.0.1 == growing ps)) [
      | inl b ↦
          let k = rw b at next.2 in
          let stays = (next_outcome r ps next.0.1 next.0.0 next.1).1 (grind (arith, b)) in
          let again : next_round r ps ≡ Some (next.0.0, ps) = subst (λ x. next_round r ps ≡ Some (next.0.0, x)) stays next.1 in
          inr (next.0.0, subst (λ x. next_round left x ≡ Some (next.0.0, x)) (same_second r left ps qs k) (subst (λ x. next_round x ps ≡ Some (next.0.0, ps)) (same_first r left ps qs k) again))
      | inr b ↦
          let low = (next_outcome r ps next.0.1 next.0.0 next.1).0 in
          done_last n next.0.0 next.0.1 qs left (grind (arith, b, low, h)) (rw b at next.2)
    ]

pub amount_last : Known → (n : ℕ) (r : Ratio) (ps qs : List Part) (left : Ratio) → IsLowest r → Every IsAmountPart ps → last_round n r ps ≡ Some (left, qs) → Every IsAmountPart qs × IsLowest left
unfolding last_round
amount_last w zero r ps qs left h a e = (subst (Every IsAmountPart) (same_second r left ps qs e) a, subst IsLowest (same_first r left ps qs e) h)
amount_last w (suc n) r ps qs left h a e =
    let next = and_then_some _ (next_round r ps) (left, qs) e in
    elim (bool_cases (growing next.0.1 == growing ps)) [
      | inl b ↦ let k = rw b at next.2 in (subst (Every IsAmountPart) (same_second r left ps qs k) a, subst IsLowest (same_first r left ps qs k) h)
      | inr b ↦ let more = amount_next w r ps next.0.1 next.0.0 h a next.1 in amount_last w n next.0.0 next.0.1 qs left more.1 more.0 (rw b at next.2)
    ]

-- the size of a part in the last round: its own, or its share in units
abbrev IsInUnits : Ratio → Part → Ratio → Type 0
IsInUnits u (Settled d) c = c ≡ d
IsInUnits u (Growing s l) c = c ≡ product_of s u

heads : (p q : Part) (ps qs : List Part) → p ∷ ps ≡ q ∷ qs → p ≡ q
heads p q ps qs e = cc

tails : (p q : Part) (ps qs : List Part) → p ∷ ps ≡ q ∷ qs → ps ≡ qs
tails p q ps qs e = cc

in_units : (u r s : Ratio) (p : Part) (c : Ratio) → part_round u r p ≡ Some (p, s) → final_size (Some u) p ≡ Some c → IsInUnits u p c
in_units u r s (Settled d) c e f = sym (same_some d c f)
in_units u r s (Growing g l) c e f =
    let v = and_then_some _ (mul g u) c f in
    let is : clamp l (product_of g u) ≡ Some c = ap (clamp l) (sym (product_is g u v.0 v.1)) ∙ v.2 in
    elim (growing_comes u r g l (Growing g l) s e) [
      | inl k ↦ same_some c (product_of g u) (sym is ∙ k.within)
      | inr k ↦ absurd (let x = k.part in cc)
    ]

all_in_units : (u r t : Ratio) (ps : List Part) (cs : List Ratio) → round u r ps ≡ Some (t, ps) → each (final_size (Some u)) ps ≡ Some cs → AllZip (IsInUnits u) ps cs
all_in_units u r t [] cs e f = subst (AllZip (IsInUnits u) []) (same_some [] cs f) tt
all_in_units u r t (p ∷ ps) cs e f =
    let first = and_then_some _ (part_round u r p) (t, p ∷ ps) e in
    let later = map_some _ (round u first.0.1 ps) (t, p ∷ ps) first.2 in
    let is : first.0.0 ∷ later.0.1 ≡ p ∷ ps = ap (λ x. x.1) later.2 in
    let c = and_then_some _ (final_size (Some u) p) cs f in
    let rest = map_some (λ ys. c.0 ∷ ys) (each (final_size (Some u)) ps) cs c.2 in
    let one : part_round u r p ≡ Some (p, first.0.1) = subst (λ x. part_round u r p ≡ Some (x, first.0.1)) (heads first.0.0 p later.0.1 ps is) first.1 in
    let others : round u first.0.1 ps ≡ Some (later.0.0, ps) = subst (λ x. round u first.0.1 ps ≡ Some (later.0.0, x)) (tails first.0.0 p later.0.1 ps is) later.1 in
    subst (AllZip (IsInUnits u) (p ∷ ps)) rest.2 (in_units u r first.0.1 p c.0 one c.1, all_in_units u first.0.1 later.0.0 ps rest.0 others rest.1)

final_amounts : Known → (u : Ratio) (ps : List Part) (cs : List Ratio) → IsAmount u → Every IsAmountPart ps → each (final_size (Some u)) ps ≡ Some cs → Every IsLowest cs
final_amounts w u [] cs a h e = subst (Every IsLowest) (same_some [] cs e) tt
final_amounts w u (p ∷ ps) cs a h e =
    let c = and_then_some _ (final_size (Some u) p) cs e in
    let rest = map_some (λ ys. c.0 ∷ ys) (each (final_size (Some u)) ps) cs c.2 in
    subst (Every IsLowest) rest.2 (one p c.0 h.0 c.1, final_amounts w u ps rest.0 a h.1 rest.1)
  where
    one : (p : Part) (c : Ratio) → IsAmountPart p → final_size (Some u) p ≡ Some c → IsLowest c
    one (Settled d) c g f = subst IsLowest (same_some d c f) g.lowest
    one (Growing s l) c g f =
        let v = and_then_some _ (mul s u) c f in
        (amount_clamp w l v.0 c g.1 (subst IsAmount (sym (product_is s u v.0 v.1)) (amount_product w s u g.0 a)) v.2).lowest

aligned : (k : ℕ) (u : Ratio) (ps : List Part) (cs : List Ratio) (ns : List ℤ) → AllZip (IsInUnits u) ps cs → AreOver k cs ns → AreAligned k ps ns
aligned k u [] [] [] h o = tt
aligned k u [] [] (n ∷ ns) h o = absurd o
aligned k u [] (c ∷ cs) ns h o = absurd h
aligned k u (p ∷ ps) [] ns h o = absurd h
aligned k u (p ∷ ps) (c ∷ cs) [] h o = absurd o
aligned k u (Settled d ∷ ps) (c ∷ cs) (n ∷ ns) h o = (subst (IsRatio n k) h.0 o.0, aligned k u ps cs ns h.1 o.1)
aligned k u (Growing s l ∷ ps) (c ∷ cs) (n ∷ ns) h o = (tt, aligned k u ps cs ns h.1 o.1)

-- ---- what the shares get is what is left

distributed : (a b : ℤ) (k : ℕ) → (a +ℤ b) *ℤ pos k ≡ a *ℤ pos k +ℤ b *ℤ pos k
distributed a b k = +ℤ-*ℤ a b (pos k)

-- a share's number of units, over both denominators
share_number : Known → (k l j : ℕ) (a m n : ℤ) (s u c : Ratio) → 0 < l → IsRatio (m *ℤ pos l) (k * j) u → IsRatio a l s → IsRatio n k c → c ≡ product_of s u → n *ℤ pos j ≡ a *ℤ m
share_number w k l j a m n s u c hl hu hs hc e =
    let p : IsRatio (a *ℤ (m *ℤ pos l)) (l * (k * j)) c = subst (IsRatio (a *ℤ (m *ℤ pos l)) (l * (k * j))) (sym e) (w.products.product l (k * j) a (m *ℤ pos l) s u hs hu) in
    let q : IsRatio (n *ℤ pos (l * j)) (l * (k * j)) c = same_den (k * (l * j)) (l * (k * j)) (n *ℤ pos (l * j)) c (omega arith) (w.forms.wider k (l * j) n c hc) in
    let same : n *ℤ pos (l * j) ≡ a *ℤ (m *ℤ pos l) = w.forms.number (l * (k * j)) (n *ℤ pos (l * j)) (a *ℤ (m *ℤ pos l)) c q p in
    cancel_pos (n *ℤ pos j) (a *ℤ m) l hl
    (*ℤ_assoc n (pos j) (pos l) ∙ (ap (λ x. n *ℤ pos x) (mul_comm j l) ∙ (same ∙ sym (*ℤ_assoc a m (pos l)))))

grown : Known → (k l j : ℕ) (m : ℤ) (u : Ratio) (ps : List Part) (cs : List Ratio) (ns as' : List ℤ) → 0 < l → IsRatio (m *ℤ pos l) (k * j) u
    → AllZip (IsInUnits u) ps cs → AreOver k cs ns → AreShares l ps as' → growing_total ps ns *ℤ pos j ≡ growing_total ps as' *ℤ m
grown w k l j m u [] cs ns as' hl hu h o g = zero-*ℤ (pos j) ∙ sym (zero-*ℤ m)
grown w k l j m u (p ∷ ps) [] ns as' hl hu h o g = absurd h
grown w k l j m u (p ∷ ps) (c ∷ cs) [] as' hl hu h o g = absurd o
grown w k l j m u (p ∷ ps) (c ∷ cs) (n ∷ ns) [] hl hu h o g = absurd g
grown w k l j m u (Settled d ∷ ps) (c ∷ cs) (n ∷ ns) (a ∷ as') hl hu h o g =
    ap (λ z. z *ℤ pos j) (+ℤ_idl (growing_total ps ns)) ∙ (grown w k l j m u ps cs ns as' hl hu h.1 o.1 g.1 ∙ ap (λ z. z *ℤ m) (sym (+ℤ_idl (growing_total ps as'))))
grown w k l j m u (Growing s x ∷ ps) (c ∷ cs) (n ∷ ns) (a ∷ as') hl hu h o g =
    let one = share_number w k l j a m n s u c hl hu g.0 o.0 h.0 in
    let rest = grown w k l j m u ps cs ns as' hl hu h.1 o.1 g.1 in
    +ℤ-*ℤ n (growing_total ps ns) (pos j) ∙ (ap (λ z. z +ℤ growing_total ps ns *ℤ pos j) one ∙ (ap (λ z. a *ℤ m +ℤ z) rest ∙ sym (+ℤ-*ℤ a (growing_total ps as') m)))

-- ---- some share is greater than 0

number_sign : (z a : ℤ) (d l : ℕ) → 0 < d → 0 < l → z *ℤ pos l ≡ a *ℤ pos d → (pos 0 ≤ℤ z → pos 0 ≤ℤ a) × (pos 0 <ℤ z → pos 0 <ℤ a)
number_sign z (pos zero) d l hd hl e = (λ h. omega (arith, ints), λ h. absurd (zero_case z l hl h (e ∙ zero-*ℤ (pos d))))
  where
    zero_case : (z : ℤ) (l : ℕ) → 0 < l → pos 0 <ℤ z → z *ℤ pos l ≡ pos 0 → ⊥
    zero_case (pos n) l hl h e = let g : 0 < n * l = mul-pos (omega (arith, ints)) hl in omega (arith, ints)
    zero_case (negsuc n) l hl h e = omega (arith, ints)
number_sign z (pos (suc n)) d l hd hl e = (λ h. omega (arith, ints), λ h. omega (arith, ints))
number_sign (pos m) (negsuc n) d l hd hl e = absurd (let g : 0 < suc n * d = mul-pos (omega arith) hd in omega (arith, ints))
number_sign (negsuc m) (negsuc n) d l hd hl e = (λ h. absurd (omega (arith, ints)), λ h. absurd (omega (arith, ints)))

any_cases : {A : Type 0} (P : A → Type 0) (x : A) (xs : List A) → Any P (x ∷ xs) → P x ⊎ Any P xs
any_cases P x xs (zero, y, h, e, p) = inl (subst P (sym e) p)
any_cases P x xs (suc k, y, h, e, p) = inr (k, y, omega arith, e, p)

shares_positive : (l : ℕ) (ps : List Part) (ns : List ℤ) → 0 < l → Every IsAmountPart ps → AreShares l ps ns
    → (pos 0 ≤ℤ growing_total ps ns) × (Any IsPositive (shares ps) → pos 0 <ℤ growing_total ps ns)
shares_positive l [] ns hl a h = (omega (arith, ints), λ x. absurd (omega (arith, x.2)))
shares_positive l (p ∷ ps) [] hl a h = absurd h
shares_positive l (Settled c ∷ ps) (n ∷ ns) hl a h =
    let rest = shares_positive l ps ns hl a.1 h.1 in
    (rw (+ℤ_idl (growing_total ps ns)) rest.0, λ x. rw (+ℤ_idl (growing_total ps ns)) (rest.1 x))
shares_positive l (Growing s x ∷ ps) (n ∷ ns) hl a h =
    let rest = shares_positive l ps ns hl a.1 h.1 in
    let sign = number_sign s.num n s.den l a.0.0.lowest.positive hl h.0.same in
    let low = sign.0 a.0.0.not_negative in
    let others = rest.0 in (
      added n (growing_total ps ns) low others,
      λ y.
          elim (any_cases IsPositive s (shares ps) y) [
            | inl here ↦ more n (growing_total ps ns) (sign.1 here) others
            | inr there ↦ more_behind n (growing_total ps ns) low (rest.1 there)
          ],
    )
  where
    added : (a b : ℤ) → pos 0 ≤ℤ a → pos 0 ≤ℤ b → pos 0 ≤ℤ (a +ℤ b)
    added a b p q = omega (arith, ints)

    more : (a b : ℤ) → pos 0 <ℤ a → pos 0 ≤ℤ b → pos 0 <ℤ (a +ℤ b)
    more a b p q = omega (arith, ints)

    more_behind : (a b : ℤ) → pos 0 ≤ℤ a → pos 0 <ℤ b → pos 0 <ℤ (a +ℤ b)
    more_behind a b p q = omega (arith, ints)

-- ---- the spans

floor_whole : (z : ℤ) → floor_of (whole_of z) ≡ z
floor_whole (pos a) = ap pos (div-one a)
floor_whole (negsuc a) = ap negsuc (div-one a)

sum-cons : (g : ℕ) (gs : List ℕ) → sum (g ∷ gs) ≡ g + sum gs
sum-cons g gs = sum_by-cons (λ x. x) g gs

-- the last gap
last_gap : List ℕ → ℕ
last_gap gs = unwrap_or (last_or None gs) 0

-- the last span of a list, with the place where it ends
record Ends (k : ℕ) (m : ℤ) (o : Option Span) (spans : List Span) : Type 0 where
  pub end : Span
  pub last : last_or o spans ≡ Some end
  pub place : Ratio
  pub to : end.to ≡ floor_of place
  pub over : IsRatio m k place

one_placed : Known → (k : ℕ) (m n : ℤ) (x c : Ratio) (g : ℕ) (s : Span) (y : Ratio) → 0 < k → IsRatio m k x → IsRatio n k c → placed x c g ≡ Some (s, y)
    → (end : Ratio) × (s.to ≡ floor_of end) × IsRatio (m +ℤ n) k end × IsRatio ((m +ℤ n) +ℤ pos (g * k)) k y
unfolding placed
one_placed w k m n x c g s y hk hx hc e =
    let end = and_then_some _ (add x c) (s, y) e in
    let next = map_some _ (add end.0 (cells g)) (s, y) end.2 in
    let at = over_sum w k m n x c end.0 hk hx hc end.1 in
    let behind = over_sum w k (m +ℤ n) (pos (g * k)) end.0 (cells g) next.0 hk at (over_cells w k g) next.1 in
    (end.0, ap (λ z. z.0.to) (sym next.2), at, subst (IsRatio ((m +ℤ n) +ℤ pos (g * k)) k) (ap (λ z. z.1) next.2) behind)

all_placed : Known → (k : ℕ) (m : ℤ) (x : Ratio) (cs : List Ratio) (gs : List ℕ) (ns : List ℤ) (spans : List Span) (o : Option Span) (g0 : Option ℕ)
    → 0 < k → 0 < length cs → length gs ≡ length cs → IsRatio m k x → AreOver k cs ns → spans_from x (zip cs gs) ≡ Some spans
    → Ends k ((m +ℤ total ns) +ℤ (pos (sum gs * k) -ℤ pos (unwrap_or (last_or g0 gs) 0 * k))) o spans
all_placed w k m x [] gs ns spans o g0 hk some count hx h e = absurd (omega arith)
all_placed w k m x (c ∷ cs) [] ns spans o g0 hk some count hx h e = absurd (omega arith)
all_placed w k m x (c ∷ cs) (g ∷ gs) [] spans o g0 hk some count hx h e = absurd h
all_placed w k m x (c ∷ []) (g ∷ []) (n ∷ []) spans o g0 hk some count hx h e =
    let first = and_then_some _ (placed x c g) spans e in
    let rest = map_some (λ ss. first.0.0 ∷ ss) (Some []) spans first.2 in
    let one = one_placed w k m n x c g first.0.0 first.0.1 hk hx h.0 first.1 in
    let is : first.0.0 ∷ [] ≡ spans = ap (λ ss. first.0.0 ∷ ss) (same_some [] rest.0 rest.1) ∙ rest.2 in
    record {
      end = first.0.0;
      last = ap (last_or o) (sym is);
      place = one.0;
      to = one.1;
      over = same_number k (m +ℤ n) ((m +ℤ (n +ℤ pos 0)) +ℤ (pos (sum (g ∷ []) * k) -ℤ pos (g * k))) one.0 (rw (sum-cons g []) (numbers m n g k)) one.2;
    }
  where
    numbers : (m n : ℤ) (g k : ℕ) → m +ℤ n ≡ (m +ℤ (n +ℤ pos 0)) +ℤ (pos ((g + 0) * k) -ℤ pos (g * k))
    numbers m n g k = omega (arith, ints)
all_placed w k m x (c ∷ []) (g ∷ []) (n ∷ (q ∷ ns)) spans o g0 hk some count hx h e = absurd h.1
all_placed w k m x (c ∷ []) (g ∷ (f ∷ gs)) (n ∷ ns) spans o g0 hk some count hx h e = absurd (omega arith)
all_placed w k m x (c ∷ (d ∷ cs)) (g ∷ gs) (n ∷ ns) spans o g0 hk some count hx h e =
    let first = and_then_some _ (placed x c g) spans e in
    let rest = map_some (λ ss. first.0.0 ∷ ss) (spans_from first.0.1 (zip (d ∷ cs) gs)) spans first.2 in
    let one = one_placed w k m n x c g first.0.0 first.0.1 hk hx h.0 first.1 in
    let later = all_placed w k ((m +ℤ n) +ℤ pos (g * k)) first.0.1 (d ∷ cs) gs ns rest.0 (Some first.0.0) (Some g) hk (omega arith) (omega arith) one.3 h.1 rest.1 in
    record {
      end = later.end;
      last = ap (last_or o) (sym rest.2) ∙ later.last;
      place = later.place;
      to = later.to;
      over =
          same_number k ((((m +ℤ n) +ℤ pos (g * k)) +ℤ total ns) +ℤ (pos (sum gs * k) -ℤ pos (unwrap_or (last_or (Some g) gs) 0 * k)))
          ((m +ℤ (n +ℤ total ns)) +ℤ (pos (sum (g ∷ gs) * k) -ℤ pos (unwrap_or (last_or (Some g) gs) 0 * k))) later.place
          (rw (sum-cons g gs) (numbers m n (total ns) g (sum gs) (unwrap_or (last_or (Some g) gs) 0) k)) later.over;
    }
  where
    numbers : (m n t : ℤ) (g s f k : ℕ) → (((m +ℤ n) +ℤ pos (g * k)) +ℤ t) +ℤ (pos (s * k) -ℤ pos (f * k)) ≡ (m +ℤ (n +ℤ t)) +ℤ (pos ((g + s) * k) -ℤ pos (f * k))
    numbers m n t g s f k = omega (arith, ints)

-- ---- all together

pub lowest_less_each : Known → (r t : Ratio) (ps : List Part) → IsLowest r → Every IsAmountPart ps → less_each r (settled_sizes ps) ≡ Some t → IsLowest t
lowest_less_each w r t [] h a e = subst IsLowest (same_some r t e) h
lowest_less_each w r t (Settled c ∷ ps) h a e =
    let s = and_then_some _ (sub r c) t e in
    lowest_less_each w s.0 t ps (subst IsLowest (sym (difference_is r c s.0 s.1)) (lowest_sum w r (negated c) h (lowest_negated w c a.0.lowest))) a.1 s.2
lowest_less_each w r t (Growing s l ∷ ps) h a e = lowest_less_each w r t ps h a.1 e

none_growing : (ps : List Part) → growing ps ≡ 0 → Any IsPositive (shares ps) → ⊥
none_growing ps h x = omega (arith, x.2)

above : (z : ℤ) → pos 0 <ℤ z → (j : ℕ) × (0 < j) × (z ≡ pos j)
above (pos n) h = (n, omega (arith, ints), refl)
above (negsuc n) h = absurd (omega (arith, ints))

-- a sum of shares of which one is greater than 0
record SharesOver (ps : List Part) (s : Ratio) : Type 0 where
  pub den : ℕ
  pub positive : 0 < den
  pub nums : List ℤ
  pub over : AreShares den ps nums
  pub num : ℕ
  pub num_positive : 0 < num
  pub sum : growing_total ps nums ≡ pos num
  pub is : IsRatio (pos num) den s

shares_over : Known → (ps : List Part) (s : Ratio) → Every IsAmountPart ps → Any IsPositive (shares ps) → total_from (cells 0) (shares ps) ≡ Some s → SharesOver ps s
shares_over w ps s a some e =
    let sh = common_shares w ps a in
    let big = above (growing_total ps sh.nums) ((shares_positive sh.den ps sh.nums sh.positive a sh.over).1 some) in
    let t = over_total w sh.den (pos (0 * sh.den)) (cells 0) s ps sh.nums sh.positive (over_cells w sh.den 0) sh.over e in
    record {
      den = sh.den;
      positive = sh.positive;
      nums = sh.nums;
      over = sh.over;
      num = big.0;
      num_positive = big.1;
      sum = big.2;
      is = same_number sh.den (pos (0 * sh.den) +ℤ growing_total ps sh.nums) (pos big.0) s (numbers sh.den (growing_total ps sh.nums) (pos big.0) big.2) t;
    }
  where
    numbers : (k : ℕ) (a b : ℤ) → a ≡ b → pos (0 * k) +ℤ a ≡ b
    numbers k a b e = omega (arith, ints)

no_zero : Known → (left : Ratio) (ps : List Part) → Every IsAmountPart ps → Any IsPositive (shares ps) → unit_of left ps ≡ Some None → ⊥
unfolding unit_of
no_zero w left ps a some e =
    let s = and_then_some _ (total_from (cells 0) (shares ps)) None e in
    elim (bool_cases (same s.0 (cells 0))) [
      | inl b ↦
          let o = shares_over w ps s.0 a some s.1 in
          let zero_is : s.0 ≡ cells 0 = same_true s.0 (cells 0) b in
          let at : IsRatio (pos (0 * o.den)) o.den s.0 = subst (IsRatio (pos (0 * o.den)) o.den) (sym zero_is) (over_cells w o.den 0) in
          let n : pos o.num ≡ pos (0 * o.den) = w.forms.number o.den (pos o.num) (pos (0 * o.den)) s.0 o.is at in
          let p = o.num_positive in
          omega (arith, ints)
      | inr b ↦ let q = map_some Some (div (above_zero left) s.0) None (rw b at s.2) in let x = q.2 in cc
    ]

-- a unit of the last round, and what the parts come to
record LastRound (left : Ratio) (ps : List Part) (cs : List Ratio) : Type 0 where
  pub unit : Ratio
  pub is : unit_of left ps ≡ Some (Some unit)
  pub sizes : each (final_size (Some unit)) ps ≡ Some cs
  pub after : Ratio
  pub again : round unit (above_zero left) ps ≡ Some (after, ps)

last_of_shares : Known → (left t : Ratio) (ps : List Part) (cs : List Ratio) → Every IsAmountPart ps → Any IsPositive (shares ps) → next_round left ps ≡ Some (t, ps) → final_sizes left ps ≡ Some cs → LastRound left ps cs
unfolding next_round final_sizes
last_of_shares w left t ps cs a some e f =
    let unit = and_then_some _ (unit_of left ps) cs f in
    let other = and_then_some _ (unit_of left ps) (t, ps) e in
    by_unit unit.0 unit.1 unit.2 (subst (λ x. round_with x (above_zero left) ps ≡ Some (t, ps)) (same_some other.0 unit.0 (sym other.1 ∙ unit.1)) other.2)
  where
    by_unit : (u : Option Ratio) → unit_of left ps ≡ Some u → each (final_size u) ps ≡ Some cs → round_with u (above_zero left) ps ≡ Some (t, ps) → LastRound left ps cs
    by_unit None is f e = absurd (no_zero w left ps a some is)
    by_unit (Some u) is f e = record { unit = u; is = is; sizes = f; after = t; again = e }

-- the numbers of all sizes in the last round
record Sizes (left : Ratio) (ps : List Part) (cs : List Ratio) : Type 0 where
  pub den : ℕ
  pub positive : 0 < den
  pub nums : List ℤ
  pub over : AreOver den cs nums
  pub parts : AreAligned den ps nums
  pub share : (m : ℤ) → IsRatio m den left → growing_total ps nums ≡ m

sizes_of_last : Known → (left : Ratio) (ps : List Part) (cs : List Ratio) → IsLowest left → NotNegative left → Every IsAmountPart ps → Any IsPositive (shares ps) → LastRound left ps cs → Sizes left ps cs
sizes_of_last w left ps cs h low a some lr =
    let amount = amount_unit w left ps lr.unit h a lr.is in
    let joint = common w cs (final_amounts w lr.unit ps cs amount a lr.sizes) in
    let units = all_in_units lr.unit (above_zero left) lr.after ps cs lr.again lr.sizes in
    let s = unit_is left ps lr.unit lr.is in
    let o = shares_over w ps s.0 a some s.1 in
    let q = quotient_is (above_zero left) s.0 lr.unit s.2 in
    let unit_by : lr.unit ≡ quotient_of left s.0 = q.0 ∙ ap (λ x. quotient_of x s.0) (above_is left low) in
    record {
      den = joint.den;
      positive = joint.positive;
      nums = joint.nums;
      over = joint.over;
      parts = aligned joint.den lr.unit ps cs joint.nums units joint.over;
      share = λ m g.
          let u : IsRatio (m *ℤ pos o.den) (joint.den * o.num) lr.unit =
          subst (IsRatio (m *ℤ pos o.den) (joint.den * o.num)) (sym unit_by) (w.products.quotient joint.den o.den o.num m left s.0 o.positive o.num_positive g o.is) in
          let all = grown w joint.den o.den o.num m lr.unit ps cs joint.nums o.nums o.positive u units joint.over o.over in
          cancel_pos (growing_total ps joint.nums) m o.num o.num_positive (all ∙ (ap (λ z. z *ℤ m) o.sum ∙ *ℤ_comm (pos o.num) m));
    }

all_zip_length : {A B : Type 0} (R : A → B → Type 0) (xs : List A) (ys : List B) → AllZip R xs ys → length xs ≡ length ys
all_zip_length R [] [] h = refl
all_zip_length R [] (y ∷ ys) h = absurd h
all_zip_length R (x ∷ xs) [] h = absurd h
all_zip_length R (x ∷ xs) (y ∷ ys) h = ap suc (all_zip_length R xs ys h.1)

minus_times : (t g k : ℕ) → (pos t -ℤ pos g) *ℤ pos k ≡ pos (t * k) -ℤ pos (g * k)
minus_times t g k = +ℤ-*ℤ (pos t) (neg_ℤ (pos g)) (pos k) ∙ ap (λ z. pos (t * k) +ℤ z) (neg-*ℤ g k)

-- the spans of parts whose sizes share the room end at the total, but for the last gap
pub record EndsAtTotal (total_size : ℕ) (gaps : List ℕ) (spans : List Span) : Type 0 where
  pub end : Span
  pub last : last_or None spans ≡ Some end
  pub sum : end.to +ℤ pos (unwrap_or (last_or None gaps) 0) ≡ pos total_size

pub ends_at_total : Known → (total_size g0 : ℕ) (gs : List ℕ) (parts last : List Part) (left : Ratio) (cs : List Ratio) (spans : List Span)
    → Every IsAmountPart parts → length gs ≡ length parts → last_of total_size (g0 ∷ gs) parts ≡ Some (left, last) → NotNegative left → Any IsPositive (shares last)
    → final_sizes left last ≡ Some cs → spans_from (cells g0) (zip cs gs) ≡ Some spans → EndsAtTotal total_size (g0 ∷ gs) spans
unfolding last_of
ends_at_total w total_size g0 gs parts last left cs spans a count e low some f g =
    let r = and_then_some _ (room total_size (g0 ∷ gs) parts) (left, last) e in
    let start = pos total_size -ℤ pos (sum (g0 ∷ gs)) in
    let r_lowest = lowest_less_each w (whole_of start) r.0 parts (w.forms.whole start 1).lowest_terms a r.1 in
    let more = amount_last w (growing parts) r.0 parts last left r_lowest a r.2 in
    let next : (t : Ratio) × (next_round left last ≡ Some (t, last)) =
    elim (done_last (growing parts) r.0 parts last left (omega arith) r.2) [ inl z ↦ absurd (none_growing last z some) | inr x ↦ x ] in
    let lr = last_of_shares w left next.0 last cs more.0 some next.1 f in
    let s = sizes_of_last w left last cs more.1 low more.0 some lr in
    let k = s.den in
    let hk : 0 < s.den = s.positive in
    let back = number_last w s.den (growing parts) r.0 parts last left s.nums hk r_lowest a low r.2 s.parts in
    let at_r = over_less_each w s.den (start *ℤ pos s.den) (whole_of start) r.0 parts s.nums hk (w.forms.whole start s.den) back.0 r.1 in
    let at_left = back.1 ((start *ℤ pos s.den) -ℤ settled_total parts s.nums) at_r in
    let share = s.share _ at_left in
    let all = total-parts s.den last s.nums s.parts in
    let sum_is : total s.nums ≡ start *ℤ pos s.den = numbers (start *ℤ pos s.den) (settled_total parts s.nums) (settled_total last s.nums) (growing_total last s.nums) (total s.nums) share all in
    let parts_len : length parts ≡ length s.nums = all_zip_length (HasNumber s.den) parts s.nums back.0 in
    let sizes_len : length cs ≡ length s.nums = all_zip_length (λ c n. IsRatio n s.den c) cs s.nums s.over in
    let last_len : length last ≡ length s.nums = all_zip_length (HasNumber s.den) last s.nums s.parts in
    let some_part = parts_of_shares last some in
    let ends = all_placed w s.den (pos (g0 * s.den)) (cells g0) cs gs s.nums spans None (Some g0) hk (omega arith) (omega arith) (over_cells w s.den g0) s.over g in
    let lg = unwrap_or (last_or (Some g0) gs) 0 in
    let at : IsRatio ((pos total_size -ℤ pos lg) *ℤ pos s.den) s.den ends.place =
    same_number s.den ((pos (g0 * s.den) +ℤ total s.nums) +ℤ (pos (sum gs * s.den) -ℤ pos (lg * s.den))) ((pos total_size -ℤ pos lg) *ℤ pos s.den) ends.place
    (ends_number total_size g0 (sum gs) lg s.den (total s.nums) (sum_is ∙ ap (λ z. (pos total_size -ℤ pos z) *ℤ pos s.den) (sum-cons g0 gs))) ends.over in
    let whole_place : ends.place ≡ whole_of (pos total_size -ℤ pos lg) =
    w.forms.fraction s.den ((pos total_size -ℤ pos lg) *ℤ pos s.den) ends.place (whole_of (pos total_size -ℤ pos lg)) hk at (w.forms.whole (pos total_size -ℤ pos lg) s.den) in
    let to : ends.end.to ≡ pos total_size -ℤ pos lg = ends.to ∙ (ap floor_of whole_place ∙ floor_whole (pos total_size -ℤ pos lg)) in
    record { end = ends.end; last = ends.last; sum = ap (λ z. z +ℤ pos lg) to ∙ back_again (pos total_size) (pos lg) }
  where
    numbers : (x a b g t : ℤ) → g ≡ ((x -ℤ a) +ℤ a) -ℤ b → b +ℤ g ≡ t → t ≡ x
    numbers x a b g t p q = omega (arith, ints)

    back_again : (a b : ℤ) → (a -ℤ b) +ℤ b ≡ a
    back_again a b = omega (arith, ints)

    parts_of_shares : (ps : List Part) → Any IsPositive (shares ps) → 0 < length ps
    parts_of_shares [] x = absurd (omega (arith, x.2))
    parts_of_shares (p ∷ ps) x = omega arith

    ends_number : (t g s f k : ℕ) (n : ℤ) → n ≡ (pos t -ℤ pos (g + s)) *ℤ pos k → (pos (g * k) +ℤ n) +ℤ (pos (s * k) -ℤ pos (f * k)) ≡ (pos t -ℤ pos f) *ℤ pos k
    ends_number t g s f k n e =
        let x : (pos t -ℤ pos (g + s)) *ℤ pos k ≡ pos (t * k) -ℤ pos ((g + s) * k) = minus_times t (g + s) k in
        let y : (pos t -ℤ pos f) *ℤ pos k ≡ pos (t * k) -ℤ pos (f * k) = minus_times t f k in
        rw y (let z = e ∙ x in omega (arith, ints))

-- ---- the items

pub all_amounts : Known → (axis : Axis) (basis : Basis) (items : List Item) (own : List Size) (ps : List Part) → All IsSized items → All HasFractions items
    → each (λ (x : Item × Size). part_of x.0 (bases axis basis x.1)) (zip items own) ≡ Some ps → Every IsAmountPart ps
all_amounts w axis basis [] own ps h f e = subst (Every IsAmountPart) (same_some [] ps e) tt
all_amounts w axis basis (item ∷ items) [] ps h f e = subst (Every IsAmountPart) (same_some [] ps e) tt
all_amounts w axis basis (item ∷ items) (base ∷ own) ps h f e =
    let p = and_then_some _ (part_of item (bases axis basis base)) ps e in
    let rest = map_some (λ ys. p.0 ∷ ys) (each (λ (x : Item × Size). part_of x.0 (bases axis basis x.1)) (zip items own)) ps p.2 in
    subst (Every IsAmountPart) rest.2 (
      amount_part w item (bases axis basis base) p.0 (All-head IsSized item items h) (All-head HasFractions item items f) p.1,
      all_amounts w axis basis items own rest.0 (All-tail IsSized item items h) (All-tail HasFractions item items f) rest.1,
    )

each_length : {A B : Type 0} (f : A → Option B) (xs : List A) (ys : List B) → each f xs ≡ Some ys → length ys ≡ length xs
each_length f [] ys e = ap length (sym (same_some [] ys e))
each_length f (x ∷ xs) ys e =
    let y = and_then_some _ (f x) ys e in
    let rest = map_some (λ zs. y.0 ∷ zs) (each f xs) ys y.2 in
    ap length (sym rest.2) ∙ ap suc (each_length f xs rest.0 rest.1)

zip_length : {A B : Type 0} (xs : List A) (ys : List B) → length ys ≡ length xs → length (zip xs ys) ≡ length xs
zip_length [] ys h = refl
zip_length (x ∷ xs) [] h = absurd (omega arith)
zip_length (x ∷ xs) (y ∷ ys) h = ap suc (zip_length xs ys (omega arith))

pub fills_total : Known → FillsTotal
unfolding axis_spans axis_sizes axis_parts sizes_of
fills_total w items gaps axis basis own parts last left spans row pe le shared se =
    let cs = and_then_some _ (axis_sizes items gaps axis basis own) spans se in
    let ps = and_then_some _ (axis_parts items axis basis own) cs.0 cs.1 in
    let same_parts : ps.0 ≡ parts = same_some ps.0 parts (sym ps.1 ∙ pe) in
    let sizes : sizes_of (side axis basis.area) gaps parts ≡ Some cs.0 = subst (λ x. sizes_of (side axis basis.area) gaps x ≡ Some cs.0) same_parts ps.2 in
    let end = and_then_some _ (last_of (side axis basis.area) gaps parts) cs.0 sizes in
    let same_left : end.0.0 ≡ left = same_first end.0.0 left end.0.1 last (sym end.1 ∙ le) in
    let same_last : end.0.1 ≡ last = same_second end.0.0 left end.0.1 last (sym end.1 ∙ le) in
    let final : final_sizes left last ≡ Some cs.0 = subst (λ x. final_sizes left x ≡ Some cs.0) same_last (subst (λ x. final_sizes x end.0.1 ≡ Some cs.0) same_left end.2) in
    let amounts = all_amounts w axis basis items own parts row.sized row.fractions pe in
    let count : length parts ≡ length items = each_length (λ (x : Item × Size). part_of x.0 (bases axis basis x.1)) (zip items own) parts pe ∙ zip_length items own row.one_base_each in
    by_gaps gaps cs.0 (row.one_gap_more ∙ ap (λ n. n + 1) (sym count)) le final amounts cs.2
  where
    by_gaps : (gaps : List ℕ) (cs : List Ratio) → length gaps ≡ length parts + 1 → last_of (side axis basis.area) gaps parts ≡ Some (left, last) → final_sizes left last ≡ Some cs → Every IsAmountPart parts
        → spans_from (cells (slice_index gaps 0)) (zip cs (drop 1 gaps)) ≡ Some spans
        → (end : Span) × (last_or None spans ≡ Some end) × (end.to +ℤ pos (unwrap_or (last_or None gaps) 0) ≡ pos (side axis basis.area))
    by_gaps [] cs h e f a g = absurd (omega arith)
    by_gaps (g0 ∷ gs) cs h e f a g =
        let x = ends_at_total w (side axis basis.area) g0 gs parts last left cs spans a (omega arith) e shared.not_negative shared.share f g in
        (x.end, x.last, x.sum)
