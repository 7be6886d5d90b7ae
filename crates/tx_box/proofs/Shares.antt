-- What each share gets: units, or a limit.
use Rattle.std.proofs.Common.{◌≡◌, ℕ, zero, suc, ◌*◌, ◌⊎◌, inl, inr, List, [], ◌∷◌, refl, sym, ◌∙◌, ap, subst, pos, Bool, true, false, Option, Some, None, eq-eqb, mul-one}
use Rattle.std.specs.Prelude.{◌==◌, ◌*ℤ◌, All}
use Rattle.std.specs.Option.{option_and_then}
use Rattle.std.specs.List.{AllZip, zip}
use Rattle.std.specs.Ordering.{int_eq}
use Rattle.std.specs.Cmp.{signed_Decides}
use Rattle.std.proofs.Math.IntN.{*ℤ-zero, zero-*ℤ}
use Rattle.std.proofs.lemmas.List.Elements.{All-head, All-tail}
use Rattle.tx_frac.specs.Ratio.{Ratio, IsLowest, IsRatio, product_of, defined_if, mul, sub, less}
use Rattle.tx_frac.specs.Laws.{OneForm, ProductsOverTwo}
use Rattle.tx_frac.specs.declared.scalars.Unit.{Unit as SizeUnit}
use Rattle.tx_frac.specs.declared.scalars.Unit.TheVariants.{Fr}
use Rattle.tx_geom.specs.declared.places.Size.{Size}
use Rattle.tx_geom.specs.declared.choices.Axis.{Axis}
use Rattle.tx_box.specs.declared.items.Item.{Item}
use Rattle.tx_box.specs.declared.items.Basis.{Basis}
use Rattle.tx_box.specs.declared.sizes.Bases.{Bases}
use Rattle.tx_box.specs.declared.parts.Limits.{Limits}
use Rattle.tx_box.specs.declared.parts.Part.{Part}
use Rattle.tx_box.specs.declared.parts.Part.TheVariants.{Settled, Growing}
use Rattle.tx_geom.specs.Along.{side}
use Rattle.tx_box.specs.Sizes.{cells, limits_of, at_most, at_least, clamp, greatest}
use Rattle.tx_box.specs.Axis.{each, same, bases, part_in, part_of, growing, part_round, round, round_with, next_round, last_round, final_size, final_sizes, unit_of, above_zero, room, last_of, sizes_of, axis_parts, axis_sizes}
use Rattle.tx_box.specs.Laws.{HasFractions, IsLimitOf, GetsShare, OneUnit}
use Rattle.tx_box.proofs.Options.{and_then_some, map_some, bool_cases, same_some, same_first, same_second}

-- ---- limits

at_most_outcome : (o : Option Ratio) (x c : Ratio) → at_most o x ≡ Some c → (c ≡ x) ⊎ (o ≡ Some c)
at_most_outcome None x c e = inl (sym (same_some x c e))
at_most_outcome (Some m) x c e =
    let b = map_some _ (less m x) c e in
    elim (bool_cases b.0) [ inl t ↦ inr (ap Some (rw t at b.2)) | inr f ↦ inl (sym (rw f at b.2)) ]

at_least_outcome : (o : Option Ratio) (x c : Ratio) → at_least o x ≡ Some c → (c ≡ x) ⊎ (o ≡ Some c)
at_least_outcome None x c e = inl (sym (same_some x c e))
at_least_outcome (Some m) x c e =
    let b = map_some _ (less x m) c e in
    elim (bool_cases b.0) [ inl t ↦ inr (ap Some (rw t at b.2)) | inr f ↦ inl (sym (rw f at b.2)) ]

-- a size within its limits is itself or one of them
pub clamp_outcome : (l : Limits) (x c : Ratio) → clamp l x ≡ Some c → (c ≡ x) ⊎ IsLimitOf l c
unfolding clamp
clamp_outcome l x c e =
    let low = and_then_some _ (option_and_then (at_least l.least) (at_most l.most x)) c e in
    let high = and_then_some _ (at_most l.most x) low.0 low.1 in
    elim (at_most_outcome (Some (cells greatest)) low.0 c low.2) [
      | inr g ↦ inr (inr (inr (sym (same_some (cells greatest) c g))))
      | inl k ↦
          elim (at_least_outcome l.least high.0 low.0 high.2) [
            | inr g ↦ inr (inl (g ∙ ap Some (sym k)))
            | inl m ↦
                elim (at_most_outcome l.most x high.0 high.1) [
                  | inr g ↦ inr (inr (inl (g ∙ ap Some (sym (k ∙ m)))))
                  | inl n ↦ inl (k ∙ (m ∙ n))
                ]
          ]
    ]

pub same_itself : (x y : Ratio) → x ≡ y → same x y ≡ true
same_itself x y e =
    let n : int_eq x.num y.num ≡ true = (signed_Decides x.num y.num).1 (ap (λ z. z.num) e) in
    let d : (x.den == y.den) ≡ true = eq-eqb x.den y.den (ap (λ z. z.den) e) in
    rw (n, d) refl

defined_is : {A : Type 0} (b : Bool) (x z : A) → defined_if b x ≡ Some z → z ≡ x
defined_is true x z e = sym (same_some x z e)
defined_is false x z e = absurd cc

product_is : (x y z : Ratio) → mul x y ≡ Some z → z ≡ product_of x y
unfolding mul
product_is x y z e = defined_is _ (product_of x y) z e

-- ---- from the last round back to the first

-- what a part has come to, where u is the unit
abbrev pub Gets : Ratio → Part → Ratio → Type 0
Gets u (Settled d) c = c ≡ d
Gets u (Growing s l) c = (c ≡ product_of s u) ⊎ (IsLimitOf l c ⊎ ((c ≡ cells 0) × (u ≡ cells 0)))

gets_before : (u w r : Ratio) (p q : Part) (t c : Ratio) → part_round w r p ≡ Some (q, t) → Gets u q c → Gets u p c
unfolding part_round
gets_before u w r (Settled d) q t c e g = subst (λ x. Gets u x c) (sym (same_first (Settled d) q r t e)) g
gets_before u w r (Growing s l) q t c e g =
    let v = and_then_some _ (mul s w) (q, t) e in
    let d = and_then_some _ (clamp l v.0) (q, t) v.2 in
    elim (bool_cases (same d.0 v.0)) [
      | inl b ↦ subst (λ x. Gets u x c) (sym (same_first (Growing s l) q r t (rw b at d.2))) g
      | inr b ↦
          let k = map_some (λ left. (Settled d.0, left)) (sub r d.0) (q, t) (rw b at d.2) in
          let is : Settled d.0 ≡ q = ap (λ x. x.0) k.2 in
          let h : c ≡ d.0 = subst (λ x. Gets u x c) (sym is) g in
          elim (clamp_outcome l v.0 d.0 d.1) [
            | inl other ↦ absurd (let x = same_itself d.0 v.0 other in let y : true ≡ false = sym x ∙ b in cc)
            | inr limit ↦ inr (inl (subst (IsLimitOf l) (sym h) limit))
          ]
    ]

all_before : (u w r : Ratio) (ps qs : List Part) (t : Ratio) (cs : List Ratio) → round w r ps ≡ Some (t, qs) → AllZip (Gets u) qs cs → AllZip (Gets u) ps cs
all_before u w r [] qs t cs e g = subst (λ x. AllZip (Gets u) x cs) (sym (same_second r t [] qs e)) g
all_before u w r (p ∷ ps) qs t cs e g =
    let first = and_then_some _ (part_round w r p) (t, qs) e in
    let later = map_some _ (round w first.0.1 ps) (t, qs) first.2 in
    let is : first.0.0 ∷ later.0.1 ≡ qs = ap (λ x. x.1) later.2 in
    front u w r p ps first.0.0 later.0.1 first.0.1 later.0.0 cs first.1 later.1 (all_before u w first.0.1 ps later.0.1 later.0.0) (subst (λ x. AllZip (Gets u) x cs) (sym is) g)
  where
    front : (u w r : Ratio) (p : Part) (ps : List Part) (q : Part) (qs : List Part) (s t : Ratio) (cs : List Ratio) → part_round w r p ≡ Some (q, s) → round w s ps ≡ Some (t, qs)
        → ((cs : List Ratio) → round w s ps ≡ Some (t, qs) → AllZip (Gets u) qs cs → AllZip (Gets u) ps cs) → AllZip (Gets u) (q ∷ qs) cs → AllZip (Gets u) (p ∷ ps) cs
    front u w r p ps q qs s t [] e h rec g = g
    front u w r p ps q qs s t (c ∷ cs) e h rec g = (gets_before u w r p q s c e g.0, rec cs h g.1)

all_before_round : (u : Ratio) (w : Option Ratio) (r : Ratio) (ps qs : List Part) (t : Ratio) (cs : List Ratio) → round_with w r ps ≡ Some (t, qs) → AllZip (Gets u) qs cs → AllZip (Gets u) ps cs
all_before_round u None r ps qs t cs e g = subst (λ x. AllZip (Gets u) x cs) (sym (same_second r t ps qs e)) g
all_before_round u (Some w) r ps qs t cs e g = all_before u w r ps qs t cs e g

all_before_next : (u r : Ratio) (ps qs : List Part) (t : Ratio) (cs : List Ratio) → next_round r ps ≡ Some (t, qs) → AllZip (Gets u) qs cs → AllZip (Gets u) ps cs
unfolding next_round
all_before_next u r ps qs t cs e g =
    let unit = and_then_some _ (unit_of r ps) (t, qs) e in
    all_before_round u unit.0 (above_zero r) ps qs t cs unit.2 g

all_before_last : (n : ℕ) (u r : Ratio) (ps qs : List Part) (t : Ratio) (cs : List Ratio) → last_round n r ps ≡ Some (t, qs) → AllZip (Gets u) qs cs → AllZip (Gets u) ps cs
unfolding last_round
all_before_last zero u r ps qs t cs e g = subst (λ x. AllZip (Gets u) x cs) (sym (same_second r t ps qs e)) g
all_before_last (suc n) u r ps qs t cs e g =
    let next = and_then_some _ (next_round r ps) (t, qs) e in
    elim (bool_cases (growing next.0.1 == growing ps)) [
      | inl b ↦ subst (λ x. AllZip (Gets u) x cs) (sym (same_second r t ps qs (rw b at next.2))) g
      | inr b ↦ all_before_next u r ps next.0.1 next.0.0 cs next.1 (all_before_last n u next.0.0 next.0.1 qs t cs (rw b at next.2) g)
    ]

-- ---- the last round

abbrev unit_or_zero : Option Ratio → Ratio
unit_or_zero None = cells 0
unit_or_zero (Some u) = u

final_gets : (u : Option Ratio) (p : Part) (c : Ratio) → final_size u p ≡ Some c → Gets (unit_or_zero u) p c
final_gets u (Settled d) c e = sym (same_some d c e)
final_gets None (Growing s l) c e = elim (clamp_outcome l (cells 0) c e) [ inl k ↦ inr (inr (k, refl)) | inr k ↦ inr (inl k) ]
final_gets (Some u) (Growing s l) c e =
    let v = and_then_some _ (mul s u) c e in
    elim (clamp_outcome l v.0 c v.2) [ inl k ↦ inl (k ∙ product_is s u v.0 v.1) | inr k ↦ inr (inl k) ]

all_final : (u : Option Ratio) (ps : List Part) (cs : List Ratio) → each (final_size u) ps ≡ Some cs → AllZip (Gets (unit_or_zero u)) ps cs
all_final u [] cs e = subst (AllZip (Gets (unit_or_zero u)) []) (same_some [] cs e) tt
all_final u (p ∷ ps) cs e =
    let c = and_then_some _ (final_size u p) cs e in
    let rest = map_some (λ ys. c.0 ∷ ys) (each (final_size u) ps) cs c.2 in
    subst (AllZip (Gets (unit_or_zero u)) (p ∷ ps)) rest.2 (final_gets u p c.0 c.1, all_final u ps rest.0 rest.1)

sizes_get : (total : ℕ) (gaps : List ℕ) (ps : List Part) (cs : List Ratio) → sizes_of total gaps ps ≡ Some cs → (u : Ratio) × AllZip (Gets u) ps cs
unfolding sizes_of last_of final_sizes
sizes_get total gaps ps cs e =
    let last = and_then_some _ (last_of total gaps ps) cs e in
    let left = and_then_some _ (room total gaps ps) last.0 last.1 in
    let unit = and_then_some _ (unit_of last.0.0 last.0.1) cs last.2 in
    (unit_or_zero unit.0, all_before_last (growing ps) (unit_or_zero unit.0) left.0 ps last.0.1 last.0.0 cs left.2 (all_final unit.0 last.0.1 cs unit.2))

-- ---- the items

-- a share in no units is nothing
no_units : OneForm → ProductsOverTwo → (s : Ratio) → IsLowest s → product_of s (cells 0) ≡ cells 0
no_units forms products s h =
    nothing forms s (product_of s (cells 0)) h (products.product s.den 1 s.num (pos 0) s (cells 0) (forms.itself s h) (forms.whole (pos 0) 1))
  where
    nothing : OneForm → (s z : Ratio) → IsLowest s → IsRatio (s.num *ℤ pos 0) (s.den * 1) z → z ≡ cells 0
    nothing forms s z h p =
        let q : IsRatio (pos 0) s.den z = rw (*ℤ-zero s.num, mul-one s.den) at p in
        let w : IsRatio (pos 0) s.den (cells 0) = rw (zero-*ℤ (pos s.den)) at (forms.whole (pos 0) s.den) in
        forms.fraction s.den (pos 0) z (cells 0) h.positive q w

share_part : (u : SizeUnit) (i : Item) (b : Bases) (l : Limits) (p : Part) → u ≡ Fr → part_in u i b l ≡ Some p → Some (Growing i.size.value l) ≡ Some p
share_part u i b l p e h = rw e at h

item_gets : OneForm → ProductsOverTwo → (axis : Axis) (basis : Basis) (u : Ratio) (item : Item) (base : Size) (p : Part) (c : Ratio)
    → HasFractions item → part_of item (bases axis basis base) ≡ Some p → Gets u p c → GetsShare axis basis u (item, base) c
unfolding part_of
item_gets forms products axis basis u item base p c f e g is =
    let l = and_then_some _ (limits_of item (bases axis basis base)) p e in
    let part = share_part item.size.unit item (bases axis basis base) l.0 p is l.2 in
    let got : Gets u (Growing item.size.value l.0) c = subst (λ x. Gets u x c) (sym (same_some (Growing item.size.value l.0) p part)) g in
    elim got [
      | inl units ↦ inl units
      | inr other ↦
          elim other [
            | inl limit ↦ inr (l.0, l.1, limit)
            | inr none ↦ inl (none.0 ∙ (sym (no_units forms products item.size.value f.size) ∙ ap (product_of item.size.value) (sym none.1)))
          ]
    ]

all_get : OneForm → ProductsOverTwo → (axis : Axis) (basis : Basis) (u : Ratio) (items : List Item) (own : List Size) (ps : List Part) (cs : List Ratio)
    → All HasFractions items → each (λ (x : Item × Size). part_of x.0 (bases axis basis x.1)) (zip items own) ≡ Some ps → AllZip (Gets u) ps cs
    → AllZip (GetsShare axis basis u) (zip items own) cs
all_get forms products axis basis u [] own ps cs f e g = none ps cs (same_some [] ps e) g
  where
    none : (ps : List Part) (cs : List Ratio) → [] ≡ ps → AllZip (Gets u) ps cs → AllZip (GetsShare axis basis u) [] cs
    none ps [] e g = tt
    none ps (c ∷ cs) e g = subst (λ x. AllZip (Gets u) x (c ∷ cs)) (sym e) g
all_get forms products axis basis u (item ∷ items) [] ps cs f e g = none ps cs (same_some [] ps e) g
  where
    none : (ps : List Part) (cs : List Ratio) → [] ≡ ps → AllZip (Gets u) ps cs → AllZip (GetsShare axis basis u) [] cs
    none ps [] e g = tt
    none ps (c ∷ cs) e g = subst (λ x. AllZip (Gets u) x (c ∷ cs)) (sym e) g
all_get forms products axis basis u (item ∷ items) (base ∷ own) ps cs f e g =
    let p = and_then_some _ (part_of item (bases axis basis base)) ps e in
    let rest = map_some (λ ys. p.0 ∷ ys) (each (λ (x : Item × Size). part_of x.0 (bases axis basis x.1)) (zip items own)) ps p.2 in
    both (item, base) p.0 rest.0 cs (zip items own) (λ c h. item_gets forms products axis basis u item base p.0 c (All-head HasFractions item items f) p.1 h)
    (λ cs h. all_get forms products axis basis u items own rest.0 cs (All-tail HasFractions item items f) rest.1 h)
    (subst (λ x. AllZip (Gets u) x cs) (sym rest.2) g)
  where
    both : (x : Item × Size) (p : Part) (ps : List Part) (cs : List Ratio) (xs : List (Item × Size)) → ((c : Ratio) → Gets u p c → GetsShare axis basis u x c)
        → ((cs : List Ratio) → AllZip (Gets u) ps cs → AllZip (GetsShare axis basis u) xs cs) → AllZip (Gets u) (p ∷ ps) cs → AllZip (GetsShare axis basis u) (x ∷ xs) cs
    both x p ps [] xs one more h = h
    both x p ps (c ∷ cs) xs one more h = (one c h.0, more cs h.1)

pub one_unit : OneForm → ProductsOverTwo → OneUnit
unfolding axis_sizes axis_parts
one_unit forms products items gaps axis basis own sizes row e =
    let ps = and_then_some _ (axis_parts items axis basis own) sizes e in
    let got = sizes_get (side axis basis.area) gaps ps.0 sizes ps.2 in
    (got.0, all_get forms products axis basis got.0 items own ps.0 sizes row.fractions ps.1 got.1)
