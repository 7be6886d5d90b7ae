-- An axis of ordinary items is defined: in each round what is left is a multiple of 1/100,000, and shares of the unit are multiples of
-- 1/(100,000 * j), where the shares come to j/1,000.
use Rattle.std.proofs.Common.{◌≡◌, ℕ, zero, suc, ◌+◌, ◌*◌, ◌^◌, ◌<◌, ◌≤◌, inl, inr, List, [], ◌∷◌, length, drop, refl, sym, ◌∙◌, ap, subst, arith, pos, true, false, Option, Some, None}
use Rattle.std.specs.Prelude.{◌==◌, ◌+ℤ◌, ◌-ℤ◌, ◌*ℤ◌, ◌≤ℤ◌, if◌then◌else◌, IfSome, All, sum, slice_index}
use Rattle.std.specs.Option.{option_and_then, option_map}
use Rattle.std.specs.List.{AllByRecursion as Every, zip}
use Rattle.std.proofs.lemmas.Int.{ints}
use Rattle.std.proofs.lemmas.List.Sums.{sum_by-cons}
use Rattle.std.proofs.lemmas.List.Elements.{All-head, All-tail}
use Rattle.std.proofs.Math.Nat.{mul-le-mul, le_of_mul-le-mul_right}
use Rattle.tx_frac.specs.Ratio.{Ratio, IsRatio, whole_of, product_of, quotient_of, add, sub, mul, div}
use Rattle.tx_geom.specs.declared.places.Size.{Size}
use Rattle.tx_geom.specs.declared.choices.Axis.{Axis}
use Rattle.tx_box.specs.declared.items.Item.{Item}
use Rattle.tx_box.specs.declared.items.Basis.{Basis}
use Rattle.tx_box.specs.declared.items.Span.{Span}
use Rattle.tx_box.specs.declared.parts.Limits.{Limits}
use Rattle.tx_box.specs.declared.parts.Part.{Part}
use Rattle.tx_box.specs.declared.parts.Part.TheVariants.{Settled, Growing}
use Rattle.tx_geom.specs.Along.{side}
use Rattle.tx_box.specs.Sizes.{cells, clamp}
use Rattle.tx_box.specs.Axis.{each, same, settled_sizes, shares, growing, less_each, room, above_zero, total_from, unit_of, part_round, behind, round, round_with, next_round, last_round, wish, final_size, final_sizes, span, placed, spans_from, axis_parts, last_of, sizes_of, axis_sizes, axis_spans}
use Rattle.tx_box.specs.Ordinary.{IsCells, OrdinaryItems, OrdinaryAxis}
use Rattle.tx_box.proofs.Options.{bool_cases}
use Rattle.tx_box.proofs.Shares.{clamp_outcome, same_itself}
use Rattle.tx_box.proofs.Numbers.{same_number, same_den}
use Rattle.tx_box.proofs.Multiples.{Facts, IsOver, IsBetween, over_more, between_more, between_over, over_wider, narrower, over_cells, Defined, add_defined, DefinedBetween, sub_defined, over_above_zero}
use Rattle.tx_box.proofs.Decimals.{and_then_is, map_is, amount_top, compared_top, cells_top, side_small, IsOverLimit, AreOver, clamp_defined, IsOverPart, parts_defined}

-- ---- bounds over 100,000: of what is left, from below and from above

abbrev pub owed_top : ℕ
owed_top = 10 ^ 20

abbrev pub room_top : ℕ
room_top = 2 ^ 23 * 100000

abbrev pub IsRoom : Ratio → Type 0
IsRoom r = IsBetween 100000 owed_top room_top r

-- ---- what sizes leave

less_each_defined : Facts → (low : ℕ) (r : Ratio) (ps : List Part) → low + length ps * cells_top ≤ owed_top → Every IsOverPart ps → IsBetween 100000 low room_top r
    → DefinedBetween 100000 owed_top room_top (λ t. less_each r (settled_sizes ps) ≡ Some t)
less_each_defined f low r [] h each o = record { value = r; is = refl; between = between_more 100000 low room_top owed_top room_top r (omega arith) (omega arith) o }
less_each_defined f low r (Settled c ∷ ps) h each o =
    let s = sub_defined f 100000 low room_top cells_top r c (omega arith) (omega arith) (omega arith) o each.0 in
    let t = less_each_defined f (low + cells_top) s.value ps (omega arith) each.1 s.between in
    record { value = t.value; is = and_then_is (λ s. less_each s (settled_sizes ps)) (sub r c) s.value t.value s.is t.is; between = t.between }
less_each_defined f low r (Growing s l ∷ ps) h each o = less_each_defined f low r ps (omega arith) each.1 o

gaps_small : (gaps : List ℕ) → All IsCells gaps → sum gaps ≤ length gaps * 2 ^ 32
gaps_small [] h = omega arith
gaps_small (g ∷ gaps) h =
    let low = All-head IsCells g gaps h in
    let rest = gaps_small gaps (All-tail IsCells g gaps h) in
    let e : sum (g ∷ gaps) ≡ g + sum gaps = sum_by-cons (λ n. n) g gaps in
    omega arith

room_defined : Facts → (total : ℕ) (gaps : List ℕ) (ps : List Part) → total ≤ 2 ^ 23 → length gaps ≤ 100001 → All IsCells gaps → length ps ≤ 100000 → Every IsOverPart ps
    → DefinedBetween 100000 owed_top room_top (λ r. room total gaps ps ≡ Some r)
room_defined f total gaps ps small few cells count each =
    let low = gaps_small gaps cells in
    let n = pos total -ℤ pos (sum gaps) in
    less_each_defined f (100001 * 2 ^ 32 * 100000) (whole_of n) ps (omega arith) each
    (record { number = n *ℤ pos 100000; is = f.known.forms.whole n 100000; at_least = above total (sum gaps) (omega arith); at_most = below total (sum gaps) small })
  where
    above : (t g : ℕ) → g ≤ 100001 * 2 ^ 32 → pos 0 ≤ℤ ((pos t -ℤ pos g) *ℤ pos 100000 +ℤ pos (100001 * 2 ^ 32 * 100000))
    above t g h = omega (arith, ints)

    below : (t g : ℕ) → t ≤ 2 ^ 23 → ((pos t -ℤ pos g) *ℤ pos 100000) ≤ℤ pos (2 ^ 23 * 100000)
    below t g h = omega (arith, ints)

-- ---- the unit of a round

total_defined : Facts → (m : ℕ) (x : Ratio) (ps : List Part) → m + length ps * 10 ^ 12 ≤ 10 ^ 17 → Every IsOverPart ps → IsOver 1000 m x
    → Defined 1000 (10 ^ 17) (λ z. total_from x (shares ps) ≡ Some z)
total_defined f m x [] h each o = record { value = x; is = refl; over = over_more 1000 m (10 ^ 17) x (omega arith) o }
total_defined f m x (Settled c ∷ ps) h each o = total_defined f m x ps (omega arith) each.1 o
total_defined f m x (Growing s l ∷ ps) h each o =
    let y = add_defined f 1000 m (10 ^ 12) x s (omega arith) (omega arith) (omega arith) o each.0.0 in
    let z = total_defined f (m + 10 ^ 12) y.value ps (omega arith) each.1 y.over in
    record { value = z.value; is = and_then_is (λ y. total_from y (shares ps)) (add x s) y.value z.value y.is z.is; over = z.over }

-- a unit: what is left over shares of parts/1,000
pub record IsUnit (u : Ratio) : Type 0 where
  pub parts : ℕ
  pub positive : 0 < parts
  pub few : parts ≤ 10 ^ 17
  pub left : ℕ
  pub small : left ≤ room_top
  pub is : IsRatio (pos (left * 1000)) (100000 * parts) u

record UnitDefined (answer : Option Ratio → Type 0) : Type 0 where
  value : Option Ratio
  is : answer value
  unit : IfSome value IsUnit

-- what there are shares of isn't 0
apart : Facts → (s : Ratio) (n : ℕ) → IsRatio (pos n) 1000 s → same s (cells 0) ≡ false → 0 < n
apart f s zero h b =
    let e = f.known.forms.fraction 1000 (pos 0) s (cells 0) (omega arith) h (f.known.forms.whole (pos 0) 1000) in
    let t = same_itself s (cells 0) e in
    absurd (let y : true ≡ false = sym t ∙ b in cc)
apart f s (suc n) h b = omega arith

unit_step : Ratio → Ratio → Option (Option Ratio)
unit_step r s = if same s (cells 0) then Some None else option_map Some (div (above_zero r) s)

unit_step-none : (r s : Ratio) → same s (cells 0) ≡ true → unit_step r s ≡ Some None
unfolding unit_step
unit_step-none r s b = rw b refl

unit_step-some : (r s u : Ratio) → same s (cells 0) ≡ false → div (above_zero r) s ≡ Some u → unit_step r s ≡ Some (Some u)
unfolding unit_step
unit_step-some r s u b e = rw (b, e) refl

unit_of_sum : Facts → (r s : Ratio) → IsRoom r → IsOver 1000 (10 ^ 17) s → UnitDefined (λ u. unit_step r s ≡ Some u)
unit_of_sum f r s o t =
    elim (bool_cases (same s (cells 0))) [
      | inl b ↦ record { value = None; is = unit_step-none r s b; unit = tt }
      | inr b ↦
          let left = over_above_zero f 100000 owed_top room_top r (omega arith) o in
          let n = left.number in
          let j = t.number in
          let few = t.at_most in
          let small = left.at_most in
          let hj : 0 < t.number = apart f s t.number t.is b in
          let q = f.defined.quotient 100000 1000 j (pos n) (above_zero r) s (omega arith) (omega arith) hj (omega arith) (omega arith) left.is t.is in
          let u = f.known.products.quotient 100000 1000 j (pos n) (above_zero r) s (omega arith) hj left.is t.is in
          record {
            value = Some (quotient_of (above_zero r) s);
            is = unit_step-some r s (quotient_of (above_zero r) s) b q;
            unit = record { parts = j; positive = hj; few = few; left = n; small = small; is = u };
          }
    ]

unit_defined : Facts → (r : Ratio) (ps : List Part) → length ps ≤ 100000 → Every IsOverPart ps → IsRoom r → UnitDefined (λ u. unit_of r ps ≡ Some u)
unfolding unit_of unit_step
unit_defined f r ps count each o =
    let s = total_defined f 0 (cells 0) ps (omega arith) each (record { number = 0; is = f.known.forms.whole (pos 0) 1000; at_most = omega arith }) in
    let u = unit_of_sum f r s.value o s.over in
    record { value = u.value; is = and_then_is (unit_step r) (total_from (cells 0) (shares ps)) s.value u.value s.is u.is; unit = u.unit }

-- so many units
units_defined : Facts → (s u : Ratio) (h : IsUnit u) → IsOver 1000 (10 ^ 12) s → Defined (100000 * h.parts) compared_top (λ v. mul s u ≡ Some v)
units_defined f s u h o =
    let n = o.number in
    let m = h.left in
    let j = h.parts in
    let few = h.few in
    let most : n * m ≤ 10 ^ 12 * room_top = mul-le-mul o.at_most h.small in
    let product = f.known.products.product 1000 (100000 * j) (pos n) (pos (m * 1000)) s u o.is h.is in
    let e : n * (m * 1000) ≡ n * m * 1000 = omega arith in
    let d : 1000 * (100000 * j) ≡ 100000 * j * 1000 = omega arith in
    let positive = h.positive in
    record {
      value = product_of s u;
      is = f.defined.product 1000 (100000 * j) (pos n) (pos (m * 1000)) s u (omega arith) (omega arith) (omega arith) (omega arith) o.is h.is;
      over =
          record {
            number = n * m;
            is = narrower (100000 * j) 1000 (pos (n * m)) (product_of s u) (omega arith) (same_den _ _ (pos (n * m * 1000)) (product_of s u) d (same_number _ (pos (n * (m * 1000))) (pos (n * m * 1000)) (product_of s u) (ap pos e) product));
            at_most = omega arith;
          };
    }

-- ---- one part in a round

-- a size is as many cells over 100,000 as over a multiple of it
cells_over : Facts → (j b : ℕ) (c : Ratio) → 0 < j → IsOver 100000 b c → IsOver (100000 * j) (65535 * (100000 * j)) c → IsOver 100000 cells_top c
cells_over f j b c hj o p =
    let w = over_wider f 100000 j b c o in
    let wide = f.known.forms.wider 100000 j (pos o.number) c o.is in
    let e = f.known.forms.number (100000 * j) (pos (o.number * j)) (pos p.number) c wide p.is in
    let high = p.at_most in
    let l : o.number * j ≤ cells_top * j = omega (arith, ints) in
    record { number = o.number; is = o.is; at_most = le_of_mul-le-mul_right l hj }

limit_over : (o : Option Ratio) (c : Ratio) → IsOverLimit o → o ≡ Some c → IsOver 100000 amount_top c
limit_over o c h e = subst IsOverLimit e h

settles_over : Facts → (l : Limits) (v c : Ratio) → AreOver l → clamp l v ≡ Some c → same c v ≡ false → IsOver 100000 amount_top c
settles_over f l v c h e b =
    elim (clamp_outcome l v c e) [
      | inl p ↦ absurd (let x = same_itself c v p in let y : true ≡ false = sym x ∙ b in cc)
      | inr limit ↦
          elim limit [
            | inl p ↦ limit_over l.least c h.least p
            | inr other ↦
                elim other [
                  | inl p ↦ limit_over l.most c h.most p
                  | inr p ↦ subst (IsOver 100000 amount_top) (sym p) (over_more 100000 (65535 * 100000) amount_top (cells 65535) (omega arith) (over_cells f 100000 65535 65535 (omega arith)))
                ]
          ]
    ]

record AfterDefined (low : ℕ) (answer : Part × Ratio → Type 0) : Type 0 where
  part : Part
  left : Ratio
  is : answer (part, left)
  over : IsOverPart part
  between : IsBetween 100000 low room_top left

part_step : Ratio → Ratio → Limits → Ratio → Ratio → Option (Part × Ratio)
part_step r s l v c = if same c v then Some (Growing s l, r) else option_map (λ left. (Settled c, left)) (sub r c)

part_step-same : (r s : Ratio) (l : Limits) (v c : Ratio) → same c v ≡ true → part_step r s l v c ≡ Some (Growing s l, r)
unfolding part_step
part_step-same r s l v c b = rw b refl

part_step-other : (r s : Ratio) (l : Limits) (v c t : Ratio) → same c v ≡ false → sub r c ≡ Some t → part_step r s l v c ≡ Some (Settled c, t)
unfolding part_step
part_step-other r s l v c t b e = rw (b, e) refl

step_defined : Facts → (low : ℕ) (r s : Ratio) (l : Limits) (v c : Ratio) (j : ℕ) → 0 < j → low + cells_top ≤ owed_top → IsOver 1000 (10 ^ 12) s → AreOver l → IsBetween 100000 low room_top r
    → clamp l v ≡ Some c → IsOver (100000 * j) (65535 * (100000 * j)) c → AfterDefined (low + cells_top) (λ x. part_step r s l v c ≡ Some x)
step_defined f low r s l v c j hj h os ol o e p =
    elim (bool_cases (same c v)) [
      | inl b ↦
          record {
            part = Growing s l;
            left = r;
            is = part_step-same r s l v c b;
            over = (os, ol);
            between = between_more 100000 low room_top (low + cells_top) room_top r (omega arith) (omega arith) o;
          }
      | inr b ↦
          let size = cells_over f j amount_top c hj (settles_over f l v c ol e b) p in
          let t = sub_defined f 100000 low room_top cells_top r c (omega arith) (omega arith) (omega arith) o size in
          record { part = Settled c; left = t.value; is = part_step-other r s l v c t.value b t.is; over = size; between = t.between }
    ]

after_defined : Facts → (low : ℕ) (u r : Ratio) (p : Part) → low + cells_top ≤ owed_top → IsUnit u → IsOverPart p → IsBetween 100000 low room_top r
    → AfterDefined (low + cells_top) (λ x. part_round u r p ≡ Some x)
unfolding part_round part_step
after_defined f low u r (Settled c) h hu op o =
    record {
      part = Settled c;
      left = r;
      is = refl;
      over = op;
      between = between_more 100000 low room_top (low + cells_top) room_top r (omega arith) (omega arith) o;
    }
after_defined f low u r (Growing s l) h hu op o =
    let v = units_defined f s u hu op.0 in
    let c = clamp_defined f hu.parts l v.value hu.positive hu.few op.1 v.over in
    let x = step_defined f low r s l v.value c.value hu.parts hu.positive h op.0 op.1 o c.is c.over in
    record {
      part = x.part;
      left = x.left;
      is =
          and_then_is (λ v. option_and_then (part_step r s l v) (clamp l v)) (mul s u) v.value (x.part, x.left) v.is
          (and_then_is (part_step r s l v.value) (clamp l v.value) c.value (x.part, x.left) c.is x.is);
      over = x.over;
      between = x.between;
    }

-- ---- a round

record RoundDefined (n : ℕ) (answer : Ratio × List Part → Type 0) : Type 0 where
  left : Ratio
  parts : List Part
  is : answer (left, parts)
  over : Every IsOverPart parts
  count : length parts ≡ n
  between : IsRoom left

round_defined : Facts → (low : ℕ) (u r : Ratio) (ps : List Part) → low + length ps * cells_top ≤ owed_top → IsUnit u → Every IsOverPart ps → IsBetween 100000 low room_top r
    → RoundDefined (length ps) (λ x. round u r ps ≡ Some x)
round_defined f low u r [] h hu each o =
    record { left = r; parts = []; is = refl; over = tt; count = refl; between = between_more 100000 low room_top owed_top room_top r (omega arith) (omega arith) o }
round_defined f low u r (p ∷ ps) h hu each o =
    let x = after_defined f low u r p (omega arith) hu each.0 o in
    let rest = round_defined f (low + cells_top) u x.left ps (omega arith) hu each.1 x.between in
    record {
      left = rest.left;
      parts = x.part ∷ rest.parts;
      is =
          and_then_is (λ (x : Part × Ratio). behind x.0 (round u x.1 ps)) (part_round u r p) (x.part, x.left) (rest.left, x.part ∷ rest.parts) x.is
          (map_is (λ (t : Ratio × List Part). (t.0, x.part ∷ t.1)) (round u x.left ps) (rest.left, rest.parts) rest.is);
      over = (x.over, rest.over);
      count = ap suc rest.count;
      between = rest.between;
    }

round_with_defined : Facts → (u : Option Ratio) (r : Ratio) (ps : List Part) → length ps ≤ 100000 → IfSome u IsUnit → Every IsOverPart ps → IsBetween 100000 0 room_top r
    → RoundDefined (length ps) (λ x. round_with u r ps ≡ Some x)
round_with_defined f None r ps count hu each o =
    record { left = r; parts = ps; is = refl; over = each; count = refl; between = between_more 100000 0 room_top owed_top room_top r (omega arith) (omega arith) o }
round_with_defined f (Some u) r ps count hu each o = round_defined f 0 u r ps (omega arith) hu each o

next_defined : Facts → (r : Ratio) (ps : List Part) → length ps ≤ 100000 → Every IsOverPart ps → IsRoom r → RoundDefined (length ps) (λ x. next_round r ps ≡ Some x)
unfolding next_round
next_defined f r ps count each o =
    let u = unit_defined f r ps count each o in
    let left = between_over 100000 room_top (above_zero r) (over_above_zero f 100000 owed_top room_top r (omega arith) o) in
    let x = round_with_defined f u.value (above_zero r) ps count u.unit each left in
    record {
      left = x.left;
      parts = x.parts;
      is = and_then_is (λ u. round_with u (above_zero r) ps) (unit_of r ps) u.value (x.left, x.parts) u.is x.is;
      over = x.over;
      count = x.count;
      between = x.between;
    }

record LastDefined (answer : Ratio × List Part → Type 0) : Type 0 where
  left : Ratio
  parts : List Part
  is : answer (left, parts)
  over : Every IsOverPart parts
  count : length parts ≤ 100000
  between : IsRoom left

last_step : ℕ → Ratio → List Part → Ratio × List Part → Option (Ratio × List Part)
last_step n r ps next = if growing next.1 == growing ps then Some (r, ps) else last_round n next.0 next.1

last_step-same : (n : ℕ) (r t : Ratio) (ps qs : List Part) → (growing qs == growing ps) ≡ true → last_step n r ps (t, qs) ≡ Some (r, ps)
unfolding last_step
last_step-same n r t ps qs b = rw b refl

last_step-other : (n : ℕ) (r t : Ratio) (ps qs : List Part) (x : Ratio × List Part) → (growing qs == growing ps) ≡ false → last_round n t qs ≡ Some x → last_step n r ps (t, qs) ≡ Some x
unfolding last_step
last_step-other n r t ps qs x b e = rw (b, e) refl

last_defined : Facts → (n : ℕ) (r : Ratio) (ps : List Part) → length ps ≤ 100000 → Every IsOverPart ps → IsRoom r → LastDefined (λ x. last_round n r ps ≡ Some x)
unfolding last_round last_step
last_defined f zero r ps count each o = record { left = r; parts = ps; is = refl; over = each; count = count; between = o }
last_defined f (suc n) r ps count each o =
    let next = next_defined f r ps count each o in
    let same_count = next.count in
    let x = stepped next.left next.parts (λ few. last_defined f n next.left next.parts few next.over next.between) (omega arith) in
    record {
      left = x.left;
      parts = x.parts;
      is = and_then_is (last_step n r ps) (next_round r ps) (next.left, next.parts) (x.left, x.parts) next.is x.is;
      over = x.over;
      count = x.count;
      between = x.between;
    }
  where
    stepped : (t : Ratio) (qs : List Part) → (length qs ≤ 100000 → LastDefined (λ x. last_round n t qs ≡ Some x)) → length qs ≤ 100000 → LastDefined (λ x. last_step n r ps (t, qs) ≡ Some x)
    stepped t qs later few =
        elim (bool_cases (growing qs == growing ps)) [
          | inl b ↦ record { left = r; parts = ps; is = last_step-same n r t ps qs b; over = each; count = count; between = o }
          | inr b ↦
              let x = later few in
              record { left = x.left; parts = x.parts; is = last_step-other n r t ps qs (x.left, x.parts) b x.is; over = x.over; count = x.count; between = x.between }
        ]

-- ---- the sizes

pub record SizesDefined (k n : ℕ) (answer : List Ratio → Type 0) : Type 0 where
  pub value : List Ratio
  pub is : answer value
  pub over : Every (IsOver k (65535 * k)) value
  pub count : length value ≤ n

wish_defined : Facts → (u : Option Ratio) (s : Ratio) (j : ℕ) → 0 < j → IfSome u (λ u. (h : IsUnit u) × (h.parts ≡ j)) → IsOver 1000 (10 ^ 12) s → Defined (100000 * j) compared_top (λ v. wish u s ≡ Some v)
wish_defined f None s j hj h o = record { value = cells 0; is = refl; over = record { number = 0 * (100000 * j); is = f.known.forms.whole (pos 0) (100000 * j); at_most = omega arith } }
wish_defined f (Some u) s j hj h o = subst (λ i. Defined (100000 * i) compared_top (λ v. mul s u ≡ Some v)) h.1 (units_defined f s u h.0 o)

final_defined : Facts → (u : Option Ratio) (j : ℕ) (p : Part) → 0 < j → j ≤ 10 ^ 17 → IfSome u (λ u. (h : IsUnit u) × (h.parts ≡ j)) → IsOverPart p
    → Defined (100000 * j) (65535 * (100000 * j)) (λ c. final_size u p ≡ Some c)
final_defined f u j (Settled c) hj few h op = record { value = c; is = refl; over = over_more (100000 * j) (cells_top * j) (65535 * (100000 * j)) c (omega arith) (over_wider f 100000 j cells_top c op) }
final_defined f u j (Growing s l) hj few h op =
    let v = wish_defined f u s j hj h op.0 in
    let c = clamp_defined f j l v.value hj few op.1 v.over in
    record { value = c.value; is = and_then_is (clamp l) (wish u s) v.value c.value v.is c.is; over = c.over }

each_defined : Facts → (u : Option Ratio) (j : ℕ) (ps : List Part) → 0 < j → j ≤ 10 ^ 17 → IfSome u (λ u. (h : IsUnit u) × (h.parts ≡ j)) → Every IsOverPart ps
    → SizesDefined (100000 * j) (length ps) (λ cs. each (final_size u) ps ≡ Some cs)
each_defined f u j [] hj few h each_part = record { value = []; is = refl; over = tt; count = omega arith }
each_defined f u j (p ∷ ps) hj few h each_part =
    let c = final_defined f u j p hj few h each_part.0 in
    let rest = each_defined f u j ps hj few h each_part.1 in
    let low = rest.count in
    record {
      value = c.value ∷ rest.value;
      is =
          and_then_is (λ y. option_map (λ ys. y ∷ ys) (each (final_size u) ps)) (final_size u p) c.value (c.value ∷ rest.value) c.is
          (map_is (λ ys. c.value ∷ ys) (each (final_size u) ps) rest.value rest.is);
      over = (c.over, rest.over);
      count = omega arith;
    }

pub record AllSizes (answer : List Ratio → Type 0) : Type 0 where
  pub den : ℕ
  pub positive : 0 < den
  pub small : den ≤ 10 ^ 22
  pub sizes : SizesDefined den 100000 answer

by_unit : Facts → (u : Option Ratio) (ps : List Part) → length ps ≤ 100000 → IfSome u IsUnit → Every IsOverPart ps → AllSizes (λ cs. each (final_size u) ps ≡ Some cs)
by_unit f None ps count h each_part =
    let s = each_defined f None 1 ps (omega arith) (omega arith) tt each_part in
    let low = s.count in
    record { den = 100000 * 1; positive = omega arith; small = omega arith; sizes = record { value = s.value; is = s.is; over = s.over; count = omega arith } }
by_unit f (Some u) ps count h each_part =
    let j = h.parts in
    let hj = h.positive in
    let few = h.few in
    let s = each_defined f (Some u) h.parts ps hj few (h, refl) each_part in
    let low = s.count in
    record { den = 100000 * h.parts; positive = omega arith; small = omega arith; sizes = record { value = s.value; is = s.is; over = s.over; count = omega arith } }

final_sizes_defined : Facts → (r : Ratio) (ps : List Part) → length ps ≤ 100000 → Every IsOverPart ps → IsRoom r → AllSizes (λ cs. final_sizes r ps ≡ Some cs)
unfolding final_sizes
final_sizes_defined f r ps count each_part o =
    let u = unit_defined f r ps count each_part o in
    let a = by_unit f u.value ps count u.unit each_part in
    record {
      den = a.den;
      positive = a.positive;
      small = a.small;
      sizes =
          record {
            value = a.sizes.value;
            is = and_then_is (λ u. each (final_size u) ps) (unit_of r ps) u.value a.sizes.value u.is a.sizes.is;
            over = a.sizes.over;
            count = a.sizes.count;
          };
    }

-- ---- the spans

record PlacedDefined (k b : ℕ) (answer : Span × Ratio → Type 0) : Type 0 where
  value : Span
  next : Ratio
  is : answer (value, next)
  over : IsOver k b next

placed_defined : Facts → (k m : ℕ) (x size : Ratio) (gap : ℕ) → 0 < k → k ≤ 10 ^ 22 → m + (65535 + 2 ^ 32) ≤ 10 ^ 15 → IsCells gap → IsOver k (m * k) x → IsOver k (65535 * k) size
    → PlacedDefined k ((m + (65535 + 2 ^ 32)) * k) (λ y. placed x size gap ≡ Some y)
unfolding placed
placed_defined f k m x size gap hk small few h o p =
    let most : (m + (65535 + 2 ^ 32)) * k ≤ 10 ^ 15 * 10 ^ 22 = mul-le-mul few small in
    let end = add_defined f k (m * k) (65535 * k) x size hk (omega arith) (omega arith) o p in
    let next = add_defined f k (m * k + 65535 * k) (2 ^ 32 * k) end.value (cells gap) hk (omega arith) (omega arith) end.over (over_cells f k gap (2 ^ 32) (omega arith)) in
    record {
      value = span x end.value;
      next = next.value;
      is =
          and_then_is (λ end. option_map (λ next. (span x end, next)) (add end (cells gap))) (add x size) end.value (span x end.value, next.value) end.is
          (map_is (λ next. (span x end.value, next)) (add end.value (cells gap)) next.value next.is);
      over = over_more k (m * k + 65535 * k + 2 ^ 32 * k) ((m + (65535 + 2 ^ 32)) * k) next.value (omega arith) next.over;
    }

record SpansDefined (answer : List Span → Type 0) : Type 0 where
  value : List Span
  is : answer value

spans_defined : Facts → (k m : ℕ) (x : Ratio) (cs : List Ratio) (gaps : List ℕ) → 0 < k → k ≤ 10 ^ 22 → m + length cs * (65535 + 2 ^ 32) ≤ 10 ^ 15 → All IsCells gaps → IsOver k (m * k) x → Every (IsOver k (65535 * k)) cs
    → SpansDefined (λ spans. spans_from x (zip cs gaps) ≡ Some spans)
spans_defined f k m x [] gaps hk small few h o each_size = record { value = []; is = refl }
spans_defined f k m x (c ∷ cs) [] hk small few h o each_size = record { value = []; is = refl }
spans_defined f k m x (c ∷ cs) (gap ∷ gaps) hk small few h o each_size =
    let y = placed_defined f k m x c gap hk small (omega arith) (All-head IsCells gap gaps h) o each_size.0 in
    let rest = spans_defined f k (m + (65535 + 2 ^ 32)) y.next cs gaps hk small (omega arith) (All-tail IsCells gap gaps h) y.over each_size.1 in
    record {
      value = y.value ∷ rest.value;
      is =
          and_then_is (λ (y : Span × Ratio). option_map (λ spans. y.0 ∷ spans) (spans_from y.1 (zip cs gaps))) (placed x c gap) (y.value, y.next) (y.value ∷ rest.value) y.is
          (map_is (λ spans. y.value ∷ spans) (spans_from y.next (zip cs gaps)) rest.value rest.is);
    }

-- ---- an axis

pub sizes_of_defined : Facts → (total : ℕ) (gaps : List ℕ) (ps : List Part) → total ≤ 2 ^ 23 → length gaps ≤ 100001 → All IsCells gaps → length ps ≤ 100000 → Every IsOverPart ps
    → AllSizes (λ cs. sizes_of total gaps ps ≡ Some cs)
unfolding sizes_of last_of
sizes_of_defined f total gaps ps small few h count each_part =
    let r = room_defined f total gaps ps small few h count each_part in
    let last = last_defined f (growing ps) r.value ps count each_part r.between in
    let a = final_sizes_defined f last.left last.parts last.count last.over last.between in
    record {
      den = a.den;
      positive = a.positive;
      small = a.small;
      sizes =
          record {
            value = a.sizes.value;
            is =
                and_then_is (λ (last : Ratio × List Part). final_sizes last.0 last.1) (last_of total gaps ps) (last.left, last.parts) a.sizes.value
                (and_then_is (λ r. last_round (growing ps) r ps) (room total gaps ps) r.value (last.left, last.parts) r.is last.is) a.sizes.is;
            over = a.sizes.over;
            count = a.sizes.count;
          };
    }

spans_behind : Facts → (k : ℕ) (cs : List Ratio) (gaps : List ℕ) → 0 < k → k ≤ 10 ^ 22 → length cs ≤ 100000 → All IsCells gaps → Every (IsOver k (65535 * k)) cs
    → SpansDefined (λ spans. spans_from (cells (slice_index gaps 0)) (zip cs (drop 1 gaps)) ≡ Some spans)
spans_behind f k cs [] hk small few h each_size = spans_defined f k (2 ^ 32) (cells 0) cs [] hk small (omega arith) h (over_cells f k 0 (2 ^ 32) (omega arith)) each_size
spans_behind f k cs (gap ∷ gaps) hk small few h each_size =
    let first : gap < 2 ^ 32 = All-head IsCells gap gaps h in
    spans_defined f k (2 ^ 32) (cells gap) cs gaps hk small (omega arith) (All-tail IsCells gap gaps h) (over_cells f k gap (2 ^ 32) (omega arith)) each_size

axis_defined : Facts → (items : List Item) (gaps : List ℕ) (axis : Axis) (basis : Basis) (own : List Size) → OrdinaryItems items gaps basis own
    → SpansDefined (λ spans. axis_spans items gaps axis basis own ≡ Some spans)
unfolding axis_spans axis_sizes axis_parts
axis_defined f items gaps axis basis own o =
    let count = o.count in
    let one = o.one_gap_more in
    let ps = parts_defined f axis basis items own o.screen o.each_item o.each_base in
    let low = ps.count in
    let a = sizes_of_defined f (side axis basis.area) gaps ps.value (side_small axis basis.area o.area) (omega arith) o.each_gap (omega arith) ps.over in
    let spans = spans_behind f a.den a.sizes.value gaps a.positive a.small a.sizes.count o.each_gap a.sizes.over in
    record {
      value = spans.value;
      is =
          and_then_is (λ sizes. spans_from (cells (slice_index gaps 0)) (zip sizes (drop 1 gaps))) (axis_sizes items gaps axis basis own) a.sizes.value spans.value
          (and_then_is (sizes_of (side axis basis.area) gaps) (axis_parts items axis basis own) ps.value a.sizes.value ps.is a.sizes.is) spans.is;
    }

pub ordinary_axis : Facts → OrdinaryAxis
ordinary_axis f items gaps axis basis own o = let spans = axis_defined f items gaps axis basis own o in rw spans.is refl
