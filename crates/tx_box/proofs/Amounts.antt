-- All sizes and shares on the way are fractions in lowest terms that are at least 0.
use Rattle.std.proofs.Common.{◌≡◌, ℕ, zero, suc, ◌+◌, ◌*◌, ◌<◌, ◌⊎◌, inl, inr, List, [], ◌∷◌, refl, sym, ◌∙◌, ap, subst, arith, ℤ, pos, negsuc, Bool, true, false, Option, Some, None, eqb-true}
use Rattle.std.specs.Prelude.{◌==◌, not, ◌+ℤ◌, ◌*ℤ◌, ◌≤ℤ◌, unsigned_abs, IfSome}
use Rattle.std.specs.Option.{option_and_then, option_map}
use Rattle.std.specs.List.{AllByRecursion as Every}
use Rattle.std.specs.Ordering.{int_eq}
use Rattle.std.specs.Cmp.{signed_Decides}
use Rattle.std.proofs.lemmas.Bool.{and_parts}
use Rattle.std.proofs.lemmas.Int.{ints}
use Rattle.std.proofs.Math.Nat.{mul_comm, mul-pos}
use Rattle.tx_frac.specs.Ratio.{Ratio, IsLowest, IsRatio, negated, sum_of, product_of, quotient_of, defined_if, add, sub, mul, div}
use Rattle.tx_frac.specs.Laws.{OneForm, SumsOverOne, ProductsOverTwo}
use Rattle.tx_frac.specs.declared.scalars.Scalar.{Scalar}
use Rattle.tx_frac.specs.declared.scalars.Unit.{Unit as SizeUnit}
use Rattle.tx_frac.specs.declared.scalars.Unit.TheVariants.{Cells, Percent, W, H, Vw, Vh, Fr, Auto}
use Rattle.tx_geom.specs.declared.choices.BoxSizing.{BoxSizing}
use Rattle.tx_geom.specs.declared.choices.BoxSizing.TheVariants.{BorderBox, ContentBox}
use Rattle.tx_box.specs.declared.items.Item.{Item}
use Rattle.tx_box.specs.declared.sizes.Bases.{Bases}
use Rattle.tx_box.specs.declared.parts.Limits.{Limits}
use Rattle.tx_box.specs.declared.parts.Part.{Part}
use Rattle.tx_box.specs.declared.parts.Part.TheVariants.{Settled, Growing}
use Rattle.tx_box.specs.Item.{NotNegative, IsSized, IsLimit}
use Rattle.tx_geom.specs.Along.{side}
use Rattle.tx_box.specs.Sizes.{cells, hundredths, amount_in, with_gutter, outer_in, outer, limit, limits_of, clamp, greatest}
use Rattle.tx_box.specs.Axis.{same, part_in, part_of, shares, above_zero, above_zero_in, total_from, unit_of, part_round, round, round_with, next_round}
use Rattle.tx_box.specs.Laws.{HasFractions}
use Rattle.tx_box.proofs.Options.{and_then_some, map_some, bool_cases, same_some, same_first, same_second}
use Rattle.tx_box.proofs.Shares.{clamp_outcome, same_itself}

-- what is known of fractions
pub record Known : Type 0 where
  pub forms : OneForm
  pub sums : SumsOverOne
  pub products : ProductsOverTwo

-- a fraction in lowest terms that is at least 0
pub record IsAmount (x : Ratio) : Type 0 where
  pub lowest : IsLowest x
  pub not_negative : NotNegative x

-- ---- the operations

defined_is : {A : Type 0} (b : Bool) (x z : A) → defined_if b x ≡ Some z → (z ≡ x) × (b ≡ true)
defined_is true x z e = (sym (same_some x z e), refl)
defined_is false x z e = absurd cc

pub sum_is : (x y z : Ratio) → add x y ≡ Some z → z ≡ sum_of x y
unfolding add
sum_is x y z e = (defined_is _ (sum_of x y) z e).0

pub difference_is : (x y z : Ratio) → sub x y ≡ Some z → z ≡ sum_of x (negated y)
unfolding sub
difference_is x y z e = sum_is x (negated y) z e

pub product_is : (x y z : Ratio) → mul x y ≡ Some z → z ≡ product_of x y
unfolding mul
product_is x y z e = (defined_is _ (product_of x y) z e).0

-- a quotient is one by a number that isn't 0
pub quotient_is : (x y z : Ratio) → div x y ≡ Some z → (z ≡ quotient_of x y) × (0 < unsigned_abs y.num)
unfolding div
quotient_is x y z e =
    let d = defined_is _ (quotient_of x y) z e in
    (d.0, apart (unsigned_abs y.num) (and_parts _ _ (and_parts _ _ d.1).0).0)
  where
    apart : (n : ℕ) → not (n == 0) ≡ true → 0 < n
    apart zero h = absurd cc
    apart (suc n) h = omega arith

signed : (z : ℤ) (k n d : ℕ) → 0 < d → z *ℤ pos d ≡ pos n *ℤ pos k → pos 0 ≤ℤ z
signed (pos m) k n d hd e = omega (arith, ints)
signed (negsuc m) k n (suc d) hd e = absurd (omega (arith, ints))
signed (negsuc m) k n zero hd e = absurd (omega arith)

-- a fraction has the sign of a numerator over any denominator
pub amount_ratio : (n : ℤ) (d : ℕ) (x : Ratio) → 0 < d → pos 0 ≤ℤ n → IsRatio n d x → IsAmount x
amount_ratio (pos n) d x hd low h = record { lowest = h.lowest_terms; not_negative = signed x.num x.den n d hd h.same }
amount_ratio (negsuc n) d x hd low h = absurd (omega (arith, ints))

not_negative_product : (m n : ℤ) → pos 0 ≤ℤ m → pos 0 ≤ℤ n → pos 0 ≤ℤ (m *ℤ n)
not_negative_product (pos a) (pos b) p q = omega (arith, ints)
not_negative_product (negsuc a) n p q = absurd (omega (arith, ints))
not_negative_product (pos a) (negsuc b) p q = absurd (omega (arith, ints))

-- two fractions over the product of their denominators
pub over_both : Known → (x y : Ratio) → IsLowest x → IsLowest y → IsRatio (x.num *ℤ pos y.den) (x.den * y.den) x × IsRatio (y.num *ℤ pos x.den) (x.den * y.den) y
over_both k x y hx hy =
    (k.forms.wider x.den y.den x.num x (k.forms.itself x hx), subst (λ d. IsRatio (y.num *ℤ pos x.den) d y) (mul_comm y.den x.den) (k.forms.wider y.den x.den y.num y (k.forms.itself y hy)))

pub lowest_sum : Known → (x y : Ratio) → IsLowest x → IsLowest y → IsLowest (sum_of x y)
lowest_sum k x y hx hy =
    let b = over_both k x y hx hy in
    (k.sums.sum (x.den * y.den) (x.num *ℤ pos y.den) (y.num *ℤ pos x.den) x y (mul-pos hx.positive hy.positive) b.0 b.1).lowest_terms

pub lowest_negated : Known → (x : Ratio) → IsLowest x → IsLowest (negated x)
lowest_negated k x h = (k.sums.opposite x.den x.num x (k.forms.itself x h)).lowest_terms

pub amount_sum : Known → (x y : Ratio) → IsAmount x → IsAmount y → IsAmount (sum_of x y)
amount_sum k x y hx hy =
    let b = over_both k x y hx.lowest hy.lowest in
    let p = not_negative_product x.num (pos y.den) hx.not_negative (omega (arith, ints)) in
    let q = not_negative_product y.num (pos x.den) hy.not_negative (omega (arith, ints)) in
    let hd : 0 < x.den * y.den = mul-pos hx.lowest.positive hy.lowest.positive in
    amount_ratio (x.num *ℤ pos y.den +ℤ y.num *ℤ pos x.den) (x.den * y.den) (sum_of x y) hd (added _ _ p q)
    (k.sums.sum (x.den * y.den) (x.num *ℤ pos y.den) (y.num *ℤ pos x.den) x y hd b.0 b.1)
  where
    added : (m n : ℤ) → pos 0 ≤ℤ m → pos 0 ≤ℤ n → pos 0 ≤ℤ (m +ℤ n)
    added m n p q = omega (arith, ints)

pub amount_product : Known → (x y : Ratio) → IsAmount x → IsAmount y → IsAmount (product_of x y)
amount_product k x y hx hy =
    amount_ratio (x.num *ℤ y.num) (x.den * y.den) (product_of x y) (mul-pos hx.lowest.positive hy.lowest.positive) (not_negative_product x.num y.num hx.not_negative hy.not_negative)
    (k.products.product x.den y.den x.num y.num x y (k.forms.itself x hx.lowest) (k.forms.itself y hy.lowest))

-- a fraction that is at least 0 and isn't 0
pub positive_ratio : Known → (y : Ratio) → IsAmount y → 0 < unsigned_abs y.num → (j : ℕ) × (0 < j) × IsRatio (pos j) y.den y
positive_ratio k y h apart =
    (unsigned_abs y.num, apart, subst (λ n. IsRatio n y.den y) (same_size y.num h.not_negative) (k.forms.itself y h.lowest))
  where
    same_size : (z : ℤ) → pos 0 ≤ℤ z → z ≡ pos (unsigned_abs z)
    same_size (pos n) p = refl
    same_size (negsuc n) p = absurd (omega (arith, ints))

pub amount_quotient : Known → (x y : Ratio) → IsAmount x → IsAmount y → 0 < unsigned_abs y.num → IsAmount (quotient_of x y)
amount_quotient k x y hx hy apart =
    let j = positive_ratio k y hy apart in
    amount_ratio (x.num *ℤ pos y.den) (x.den * j.0) (quotient_of x y) (mul-pos hx.lowest.positive j.1) (not_negative_product x.num (pos y.den) hx.not_negative (omega (arith, ints)))
    (k.products.quotient x.den y.den j.0 x.num x y hy.lowest.positive j.1 (k.forms.itself x hx.lowest) j.2)

pub amount_cells : Known → (n : ℕ) → IsAmount (cells n)
amount_cells k n = record { lowest = (k.forms.whole (pos n) 1).lowest_terms; not_negative = omega (arith, ints) }

-- ---- sizes

amount_hundredths : Known → (x z : Ratio) (base : ℕ) → IsAmount x → hundredths x base ≡ Some z → IsAmount z
amount_hundredths k x z base h e =
    let p = and_then_some _ (mul x (cells base)) z e in
    let q = quotient_is p.0 (cells 100) z p.2 in
    let a : IsAmount p.0 = subst IsAmount (sym (product_is x (cells base) p.0 p.1)) (amount_product k x (cells base) h (amount_cells k base)) in
    subst IsAmount (sym q.0) (amount_quotient k p.0 (cells 100) a (amount_cells k 100) q.1)

amount_amount : Known → (u : SizeUnit) (x z : Ratio) (b : Bases) → IsAmount x → amount_in u x b ≡ Some z → IsAmount z
amount_amount k Cells x z b h e = subst IsAmount (same_some x z e) h
amount_amount k Percent x z b h e = amount_hundredths k x z (side b.axis b.own) h e
amount_amount k W x z b h e = amount_hundredths k x z b.own.width h e
amount_amount k H x z b h e = amount_hundredths k x z b.own.height h e
amount_amount k Vw x z b h e = amount_hundredths k x z b.screen.width h e
amount_amount k Vh x z b h e = amount_hundredths k x z b.screen.height h e
amount_amount k Fr x z b h e = subst IsAmount (same_some x z e) h
amount_amount k Auto x z b h e = subst IsAmount (same_some x z e) h

amount_gutter : Known → (s : BoxSizing) (g : ℕ) (x z : Ratio) → IsAmount x → with_gutter s g x ≡ Some z → IsAmount z
amount_gutter k BorderBox g x z h e = subst IsAmount (same_some x z e) h
amount_gutter k ContentBox g x z h e = subst IsAmount (sym (sum_is x (cells g) z e)) (amount_sum k x (cells g) h (amount_cells k g))

amount_outer_by : Known → (u : SizeUnit) (x z : Ratio) (i : Item) (b : Bases) → IsAmount x → option_and_then (with_gutter i.sizing i.gutter) (amount_in u x b) ≡ Some z → IsAmount z
amount_outer_by k u x z i b h e =
    let a = and_then_some _ (amount_in u x b) z e in
    amount_gutter k i.sizing i.gutter a.0 z (amount_amount k u x a.0 b h a.1) a.2

amount_outer : Known → (u : SizeUnit) (x z : Ratio) (i : Item) (b : Bases) → IsAmount x → outer_in u x i b ≡ Some z → IsAmount z
amount_outer k Auto x z i b h e = subst IsAmount (same_some (cells (i.auto + i.gutter)) z e) (amount_cells k (i.auto + i.gutter))
amount_outer k Fr x z i b h e = amount_amount k Fr x z b h e
amount_outer k Cells x z i b h e = amount_outer_by k Cells x z i b h e
amount_outer k Percent x z i b h e = amount_outer_by k Percent x z i b h e
amount_outer k W x z i b h e = amount_outer_by k W x z i b h e
amount_outer k H x z i b h e = amount_outer_by k H x z i b h e
amount_outer k Vw x z i b h e = amount_outer_by k Vw x z i b h e
amount_outer k Vh x z i b h e = amount_outer_by k Vh x z i b h e

-- limits that are such fractions
pub record AreAmounts (l : Limits) : Type 0 where
  pub least : IfSome l.least IsAmount
  pub most : IfSome l.most IsAmount

amount_limit : Known → (s : Option Scalar) (r : Option Ratio) (i : Item) (b : Bases) → IfSome s IsLimit → IfSome s (λ s. IsLowest s.value) → limit s i b ≡ Some r → IfSome r IsAmount
amount_limit k None r i b h f e = subst (λ o. IfSome o IsAmount) (same_some None r e) tt
amount_limit k (Some s) r i b h f e =
    let z = map_some Some (outer s i b) r e in
    subst (λ o. IfSome o IsAmount) z.2 (amount_outer k s.unit s.value z.0 i b (record { lowest = f; not_negative = h.not_negative }) z.1)

pub amount_limits : Known → (i : Item) (b : Bases) (l : Limits) → IsSized i → HasFractions i → limits_of i b ≡ Some l → AreAmounts l
amount_limits k i b l h f e =
    let least = and_then_some _ (limit i.least i b) l e in
    let most = map_some _ (limit i.most i b) l least.2 in
    subst AreAmounts most.2
    (record { least = amount_limit k i.least least.0 i b h.least f.least least.1; most = amount_limit k i.most most.0 i b h.most f.most most.1 })

some_amount : (o : Option Ratio) (c : Ratio) → IfSome o IsAmount → o ≡ Some c → IsAmount c
some_amount o c h e = subst (λ o. IfSome o IsAmount) e h

pub amount_clamp : Known → (l : Limits) (x c : Ratio) → AreAmounts l → IsAmount x → clamp l x ≡ Some c → IsAmount c
amount_clamp k l x c h a e =
    elim (clamp_outcome l x c e) [
      | inl p ↦ subst IsAmount (sym p) a
      | inr limit ↦
          elim limit [
            | inl p ↦ some_amount l.least c h.least p
            | inr other ↦ elim other [ inl p ↦ some_amount l.most c h.most p | inr p ↦ subst IsAmount (sym p) (amount_cells k greatest) ]
          ]
    ]

-- ---- parts

abbrev pub IsAmountPart : Part → Type 0
IsAmountPart (Settled c) = IsAmount c
IsAmountPart (Growing s l) = IsAmount s × AreAmounts l

amount_settled : Known → (i : Item) (b : Bases) (l : Limits) (p : Part) → IsAmount i.size.value → AreAmounts l → option_map Settled (option_and_then (clamp l) (outer i.size i b)) ≡ Some p → IsAmountPart p
amount_settled k i b l p a h e =
    let c = map_some Settled (option_and_then (clamp l) (outer i.size i b)) p e in
    let x = and_then_some _ (outer i.size i b) c.0 c.1 in
    subst IsAmountPart c.2 (amount_clamp k l x.0 c.0 h (amount_outer k i.size.unit i.size.value x.0 i b a x.1) x.2)

amount_part_in : Known → (u : SizeUnit) (i : Item) (b : Bases) (l : Limits) (p : Part) → IsAmount i.size.value → AreAmounts l → part_in u i b l ≡ Some p → IsAmountPart p
amount_part_in k Fr i b l p a h e = subst IsAmountPart (same_some (Growing i.size.value l) p e) (a, h)
amount_part_in k Auto i b l p a h e = amount_settled k i b l p a h e
amount_part_in k Cells i b l p a h e = amount_settled k i b l p a h e
amount_part_in k Percent i b l p a h e = amount_settled k i b l p a h e
amount_part_in k W i b l p a h e = amount_settled k i b l p a h e
amount_part_in k H i b l p a h e = amount_settled k i b l p a h e
amount_part_in k Vw i b l p a h e = amount_settled k i b l p a h e
amount_part_in k Vh i b l p a h e = amount_settled k i b l p a h e

pub amount_part : Known → (i : Item) (b : Bases) (p : Part) → IsSized i → HasFractions i → part_of i b ≡ Some p → IsAmountPart p
unfolding part_of
amount_part k i b p h f e =
    let l = and_then_some _ (limits_of i b) p e in
    amount_part_in k i.size.unit i b l.0 p (record { lowest = f.size; not_negative = h.size }) (amount_limits k i b l.0 h f l.1) l.2

-- ---- rounds

pub amount_above_zero : Known → (r : Ratio) → IsLowest r → IsAmount (above_zero r)
amount_above_zero k r h = by_sign r.num refl
  where
    by_sign : (z : ℤ) → r.num ≡ z → IsAmount (above_zero_in z r)
    by_sign (pos n) e = record { lowest = h; not_negative = rw e (omega (arith, ints)) }
    by_sign (negsuc n) e = amount_cells k 0

pub amount_total : Known → (x : Ratio) (ss : List Ratio) (z : Ratio) → IsAmount x → Every IsAmount ss → total_from x ss ≡ Some z → IsAmount z
amount_total k x [] z a h e = subst IsAmount (same_some x z e) a
amount_total k x (s ∷ ss) z a h e =
    let y = and_then_some _ (add x s) z e in
    amount_total k y.0 ss z (subst IsAmount (sym (sum_is x s y.0 y.1)) (amount_sum k x s a h.0)) h.1 y.2

pub amount_shares : (ps : List Part) → Every IsAmountPart ps → Every IsAmount (shares ps)
amount_shares [] h = tt
amount_shares (Settled c ∷ ps) h = amount_shares ps h.1
amount_shares (Growing s l ∷ ps) h = (h.0.0, amount_shares ps h.1)

-- a unit is what is left over the sum of the shares, which isn't 0
pub unit_is : (r : Ratio) (ps : List Part) (u : Ratio) → unit_of r ps ≡ Some (Some u) → (s : Ratio) × (total_from (cells 0) (shares ps) ≡ Some s) × (div (above_zero r) s ≡ Some u)
unfolding unit_of
unit_is r ps u e =
    let s = and_then_some _ (total_from (cells 0) (shares ps)) (Some u) e in
    elim (bool_cases (same s.0 (cells 0))) [
      | inl b ↦ absurd (let x = rw b at s.2 in let y : None ≡ Some u = same_some None (Some u) x in cc)
      | inr b ↦
          let q = map_some Some (div (above_zero r) s.0) (Some u) (rw b at s.2) in
          (s.0, s.1, q.1 ∙ q.2)
    ]

pub amount_unit : Known → (r : Ratio) (ps : List Part) (u : Ratio) → IsLowest r → Every IsAmountPart ps → unit_of r ps ≡ Some (Some u) → IsAmount u
amount_unit k r ps u h a e =
    let s = unit_is r ps u e in
    let q = quotient_is (above_zero r) s.0 u s.2 in
    subst IsAmount (sym q.0)
    (amount_quotient k (above_zero r) s.0 (amount_above_zero k r h) (amount_total k (cells 0) (shares ps) s.0 (amount_cells k 0) (amount_shares ps a) s.1) q.1)

-- a part stays: its wish is within its limits
pub record Stays (u r s : Ratio) (l : Limits) (q : Part) (t : Ratio) : Type 0 where
  pub within : clamp l (product_of s u) ≡ Some (product_of s u)
  pub part : q ≡ Growing s l
  pub left : t ≡ r

-- a part is settled at a size that isn't its wish
pub record Settles (u r s : Ratio) (l : Limits) (q : Part) (t : Ratio) : Type 0 where
  pub size : Ratio
  pub is : clamp l (product_of s u) ≡ Some size
  pub differs : size ≡ product_of s u → ⊥
  pub part : q ≡ Settled size
  pub left : t ≡ sum_of r (negated size)

abbrev ratio : ℤ → ℕ → Ratio
ratio n d = record { num = n; den = d }

same_ratio : (m n : ℤ) (d e : ℕ) → m ≡ n → d ≡ e → ratio m d ≡ ratio n e
same_ratio m n d e p q = cc

pub same_true : (x y : Ratio) → same x y ≡ true → x ≡ y
same_true x y e =
    same_ratio x.num y.num x.den y.den ((signed_Decides x.num y.num).0 (and_parts (int_eq x.num y.num) (x.den == y.den) e).0) (eqb-true x.den y.den (and_parts (int_eq x.num y.num) (x.den == y.den) e).1)

pub growing_comes : (u r s : Ratio) (l : Limits) (q : Part) (t : Ratio) → part_round u r (Growing s l) ≡ Some (q, t) → Stays u r s l q t ⊎ Settles u r s l q t
unfolding part_round
growing_comes u r s l q t e =
    let v = and_then_some _ (mul s u) (q, t) e in
    let c = and_then_some _ (clamp l v.0) (q, t) v.2 in
    let w = product_is s u v.0 v.1 in
    elim (bool_cases (same c.0 v.0)) [
      | inl b ↦
          let k = rw b at c.2 in
          let agrees = same_true c.0 v.0 b in
          inl (record {
            within = ap (clamp l) (sym w) ∙ (c.1 ∙ ap Some (agrees ∙ w));
            part = sym (same_first (Growing s l) q r t k);
            left = sym (same_second (Growing s l) q r t k);
          })
      | inr b ↦
          let k = map_some (λ left. (Settled c.0, left)) (sub r c.0) (q, t) (rw b at c.2) in
          inr (record {
            size = c.0;
            is = ap (clamp l) (sym w) ∙ c.1;
            differs = λ h. let x = same_itself c.0 v.0 (h ∙ sym w) in let y : true ≡ false = sym x ∙ b in cc;
            part = sym (ap (λ x. x.0) k.2);
            left = sym (ap (λ x. x.1) k.2) ∙ difference_is r c.0 k.0 k.1;
          })
    ]

pub settled_comes : (u r d : Ratio) (q : Part) (t : Ratio) → part_round u r (Settled d) ≡ Some (q, t) → (q ≡ Settled d) × (t ≡ r)
unfolding part_round
settled_comes u r d q t e = (sym (same_first (Settled d) q r t e), sym (same_second (Settled d) q r t e))

-- ---- what a round leaves is such parts again

amount_after : Known → (u r : Ratio) (p q : Part) (t : Ratio) → IsAmount u → IsLowest r → IsAmountPart p → part_round u r p ≡ Some (q, t) → IsAmountPart q × IsLowest t
amount_after k u r (Settled d) q t a h g e =
    let c = settled_comes u r d q t e in
    (subst IsAmountPart (sym c.0) g, subst IsLowest (sym c.1) h)
amount_after k u r (Growing s l) q t a h g e =
    elim (growing_comes u r s l q t e) [
      | inl c ↦ (subst IsAmountPart (sym c.part) g, subst IsLowest (sym c.left) h)
      | inr c ↦
          let d = amount_clamp k l (product_of s u) c.size g.1 (amount_product k s u g.0 a) c.is in
          (subst IsAmountPart (sym c.part) d, subst IsLowest (sym c.left) (lowest_sum k r (negated c.size) h (lowest_negated k c.size d.lowest)))
    ]

pub amount_round : Known → (u r : Ratio) (ps qs : List Part) (t : Ratio) → IsAmount u → IsLowest r → Every IsAmountPart ps → round u r ps ≡ Some (t, qs) → Every IsAmountPart qs × IsLowest t
amount_round k u r [] qs t a h g e = (subst (Every IsAmountPart) (same_second r t [] qs e) tt, subst IsLowest (same_first r t [] qs e) h)
amount_round k u r (p ∷ ps) qs t a h g e =
    let first = and_then_some _ (part_round u r p) (t, qs) e in
    let later = map_some _ (round u first.0.1 ps) (t, qs) first.2 in
    let one = amount_after k u r p first.0.0 first.0.1 a h g.0 first.1 in
    let rest = amount_round k u first.0.1 ps later.0.1 later.0.0 a one.1 g.1 later.1 in
    (subst (Every IsAmountPart) (ap (λ x. x.1) later.2) (one.0, rest.0), subst IsLowest (ap (λ x. x.0) later.2) rest.1)

pub amount_next : Known → (r : Ratio) (ps qs : List Part) (t : Ratio) → IsLowest r → Every IsAmountPart ps → next_round r ps ≡ Some (t, qs) → Every IsAmountPart qs × IsLowest t
unfolding next_round
amount_next k r ps qs t h g e =
    let unit = and_then_some _ (unit_of r ps) (t, qs) e in
    by_unit unit.0 unit.1 unit.2
  where
    by_unit : (u : Option Ratio) → unit_of r ps ≡ Some u → round_with u (above_zero r) ps ≡ Some (t, qs) → Every IsAmountPart qs × IsLowest t
    by_unit None is e = (subst (Every IsAmountPart) (same_second (above_zero r) t ps qs e) g, subst IsLowest (same_first (above_zero r) t ps qs e) (amount_above_zero k r h).lowest)
    by_unit (Some u) is e = amount_round k u (above_zero r) ps qs t (amount_unit k r ps u h g is) (amount_above_zero k r h).lowest g e
