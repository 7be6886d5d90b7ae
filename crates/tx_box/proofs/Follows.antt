-- Each span begins where the one before it ends, with the gap between them.
use Rattle.std.proofs.Common.{◌≡◌, ℕ, zero, suc, ◌+◌, ◌*◌, ◌<◌, ◌≤◌, List, [], ◌∷◌, length, drop, get_or, refl, sym, ◌∙◌, ap, subst, arith, ℤ, pos, negsuc, Option, Some, None, add-one}
use Rattle.std.specs.Prelude.{⊤, ◌/◌, ◌+ℤ◌, ◌*ℤ◌, ◌≤ℤ◌, All, slice_index, slice_index_or}
use Rattle.std.specs.Int.{int_div_euclid}
use Rattle.std.specs.List.{AllByRecursion as Every, zip}
use Rattle.std.proofs.lemmas.Int.{ints}
use Rattle.std.proofs.lemmas.List.Elements.{All-from_recursion}
use Rattle.std.proofs.Math.Nat.{mul-div-le, lt-div-mul-add, mul-pos, mul-le-mul_right, mul-lt-mul_of_pos_right, lt_of_mul-lt-mul_right, le_of_mul-le-mul_right}
use Rattle.tx_frac.specs.Ratio.{Ratio, IsLowest, IsRatio, floor_of, sum_of, add, mul, whole_of}
use Rattle.tx_geom.specs.Along.{side}
use Rattle.tx_geom.specs.declared.choices.Axis.{Axis}
use Rattle.tx_geom.specs.declared.places.Size.{Size}
use Rattle.tx_box.specs.declared.items.Basis.{Basis}
use Rattle.tx_box.specs.declared.items.Item.{Item}
use Rattle.tx_box.specs.declared.items.Span.{Span}
use Rattle.tx_box.specs.declared.parts.Part.{Part}
use Rattle.tx_box.specs.declared.parts.Part.TheVariants.{Settled, Growing}
use Rattle.tx_box.specs.Sizes.{cells, clamp}
use Rattle.tx_box.specs.Axis.{bases, part_of, axis_parts, axis_sizes, axis_spans, each, room, less_each, settled_sizes, growing, unit_of, wish, last_round, final_size, final_sizes, last_of, sizes_of, placed, spans_from}
use Rattle.tx_box.specs.Laws.{IsRow, Follow, SpansFollow}
use Rattle.tx_box.proofs.Options.{and_then_some, map_some, same_some}
use Rattle.tx_box.proofs.Amounts.{Known, IsAmount, IsAmountPart, sum_is, product_is, amount_sum, amount_product, amount_cells, amount_clamp, amount_unit, over_both}
use Rattle.tx_box.proofs.Totals.{all_amounts, amount_last, lowest_less_each}

-- ---- whole parts

-- b/d is a/k and g more
grows : (a b k d g : ℕ) → 0 < k → 0 < d → b * k ≡ (a + g * k) * d → b / d ≡ a / k + g
grows a b k d g hk hd e =
    let p = a / k in
    let q = b / d in
    let low : k * (a / k) ≤ a = mul-div-le a k in
    let high : a < a / k * k + k = lt-div-mul-add {a = a} hk in
    let low' : d * (b / d) ≤ b = mul-div-le b d in
    let high' : b < b / d * d + d = lt-div-mul-add {a = b} hd in
    at p q low high low' high'
  where
    at : (p q : ℕ) → k * p ≤ a → a < p * k + k → d * q ≤ b → b < q * d + d → q ≡ p + g
    at p q low high low' high' =
        let l : d * q * k ≤ b * k = mul-le-mul_right k low' in
        let h : a * d < (p * k + k) * d = mul-lt-mul_of_pos_right high hd in
        let first : q * (d * k) < (p + g + 1) * (d * k) = omega arith in
        let less : q < p + g + 1 = lt_of_mul-lt-mul_right (d * k) first in
        let m : k * p * d ≤ a * d = mul-le-mul_right d low in
        let n : b * k < (q * d + d) * k = mul-lt-mul_of_pos_right high' hk in
        let second : (p + g) * (d * k) < (q + 1) * (d * k) = omega arith in
        let more : p + g < q + 1 = lt_of_mul-lt-mul_right (d * k) second in
        omega arith

-- b/d is the sum of a/k and c/e
rises : (a b c k d e : ℕ) → 0 < k → 0 < d → 0 < e → b * (k * e) ≡ (a * e + c * k) * d → a / k ≤ b / d
rises a b c k d e hk hd he is = at (a / k) (b / d) (mul-div-le a k) (lt-div-mul-add {a = b} hd)
  where
    at : (p q : ℕ) → k * p ≤ a → b < q * d + d → p ≤ q
    at p q low high =
        let l : a * d * e ≤ b * k * e = omega arith in
        let less : a * d ≤ b * k = le_of_mul-le-mul_right l he in
        let m : k * p * d ≤ a * d = mul-le-mul_right d low in
        let n : b * k < (q * d + d) * k = mul-lt-mul_of_pos_right high hk in
        let first : p * (d * k) < (q + 1) * (d * k) = omega arith in
        let near : p < q + 1 = lt_of_mul-lt-mul_right (d * k) first in
        omega arith

whole_grows : (m n : ℤ) (k d g : ℕ) → 0 < k → 0 < d → pos 0 ≤ℤ m → pos 0 ≤ℤ n → n *ℤ pos k ≡ (m +ℤ pos g *ℤ pos k) *ℤ pos d → int_div_euclid n (pos d) ≡ int_div_euclid m (pos k) +ℤ pos g
whole_grows (pos a) (pos b) k d g hk hd lm ln e =
    let u : b * k ≡ (a + g * k) * d = omega (arith, ints) in
    let is = grows a b k d g hk hd u in
    omega (arith, ints)
whole_grows (negsuc a) n k d g hk hd lm ln e = absurd (omega (arith, ints))
whole_grows (pos a) (negsuc b) k d g hk hd lm ln e = absurd (omega (arith, ints))

whole_rises : (m n c : ℤ) (k d e : ℕ) → 0 < k → 0 < d → 0 < e → pos 0 ≤ℤ m → pos 0 ≤ℤ n → pos 0 ≤ℤ c → n *ℤ pos (k * e) ≡ (m *ℤ pos e +ℤ c *ℤ pos k) *ℤ pos d → int_div_euclid m (pos k) ≤ℤ int_div_euclid n (pos d)
whole_rises (pos a) (pos b) (pos c) k d e hk hd he lm ln lc is =
    let u : b * (k * e) ≡ (a * e + c * k) * d = omega (arith, ints) in
    let r = rises a b c k d e hk hd he u in
    omega (arith, ints)
whole_rises (negsuc a) n c k d e hk hd he lm ln lc is = absurd (omega (arith, ints))
whole_rises (pos a) (negsuc b) c k d e hk hd he lm ln lc is = absurd (omega (arith, ints))
whole_rises (pos a) (pos b) (negsuc c) k d e hk hd he lm ln lc is = absurd (omega (arith, ints))

-- ---- places

-- a place and the one behind a gap
floor_grows : Known → (x y : Ratio) (g : ℕ) → IsAmount x → add x (cells g) ≡ Some y → IsAmount y × (floor_of y ≡ floor_of x +ℤ pos g)
floor_grows w x y g hx e =
    let is = sum_is x (cells g) y e in
    let hy : IsAmount y = subst IsAmount (sym is) (amount_sum w x (cells g) hx (amount_cells w g)) in
    let r : IsRatio (x.num +ℤ pos g *ℤ pos x.den) x.den y = subst (IsRatio (x.num +ℤ pos g *ℤ pos x.den) x.den) (sym is)
    (w.sums.sum x.den x.num (pos g *ℤ pos x.den) x (cells g) hx.lowest.positive (w.forms.itself x hx.lowest) (w.forms.whole (pos g) x.den)) in
    (hy, whole_grows x.num y.num x.den y.den g hx.lowest.positive hy.lowest.positive hx.not_negative hy.not_negative r.same)

-- a place and the one behind a size
floor_rises : Known → (x c y : Ratio) → IsAmount x → IsAmount c → add x c ≡ Some y → IsAmount y × (floor_of x ≤ℤ floor_of y)
floor_rises w x c y hx hc e =
    let is = sum_is x c y e in
    let hy : IsAmount y = subst IsAmount (sym is) (amount_sum w x c hx hc) in
    let b = over_both w x c hx.lowest hc.lowest in
    let r : IsRatio (x.num *ℤ pos c.den +ℤ c.num *ℤ pos x.den) (x.den * c.den) y = subst (IsRatio (x.num *ℤ pos c.den +ℤ c.num *ℤ pos x.den) (x.den * c.den)) (sym is)
    (w.sums.sum (x.den * c.den) (x.num *ℤ pos c.den) (c.num *ℤ pos x.den) x c (mul-pos hx.lowest.positive hc.lowest.positive) b.0 b.1) in
    (hy, whole_rises x.num y.num c.num x.den y.den c.den hx.lowest.positive hy.lowest.positive hc.lowest.positive hx.not_negative hy.not_negative hc.not_negative r.same)

-- ---- spans

abbrev Joined : ℕ → Span → List Span → Type 0
Joined g s [] = ⊤
Joined g s (t ∷ spans) = t.from ≡ s.to +ℤ pos g

-- spans with the gaps behind them
abbrev Chain : List ℕ → List Span → Type 0
Chain gs [] = ⊤
Chain [] (s ∷ spans) = ⊥
Chain (g ∷ gs) (s ∷ spans) = (s.from ≤ℤ s.to) × (Joined g s spans × Chain gs spans)

abbrev BeginsAt : Ratio → List Span → Type 0
BeginsAt x [] = ⊤
BeginsAt x (s ∷ spans) = s.from ≡ floor_of x

joined_at : (y : Ratio) (g : ℕ) (s : Span) (spans : List Span) → floor_of y ≡ s.to +ℤ pos g → BeginsAt y spans → Joined g s spans
joined_at y g s [] e b = tt
joined_at y g s (t ∷ spans) e b = b ∙ e

-- a span of a size, and the place behind its gap
record Steps (x : Ratio) (g : ℕ) (s : Span) (y : Ratio) : Type 0 where
  begins : s.from ≡ floor_of x
  forward : s.from ≤ℤ s.to
  amount : IsAmount y
  next : floor_of y ≡ s.to +ℤ pos g

steps : Known → (x c : Ratio) (g : ℕ) (s : Span) (y : Ratio) → IsAmount x → IsAmount c → placed x c g ≡ Some (s, y) → Steps x g s y
unfolding placed
steps w x c g s y hx hc e =
    let end = and_then_some _ (add x c) (s, y) e in
    let next = map_some _ (add end.0 (cells g)) (s, y) end.2 in
    let up = floor_rises w x c end.0 hx hc end.1 in
    let on = floor_grows w end.0 next.0 g up.0 next.1 in
    let from : floor_of x ≡ s.from = ap (λ z. z.0.from) next.2 in
    let to : floor_of end.0 ≡ s.to = ap (λ z. z.0.to) next.2 in
    let at : next.0 ≡ y = ap (λ z. z.1) next.2 in
    record {
      begins = sym from;
      forward = subst (λ z. z ≤ℤ s.to) from (subst (λ z. floor_of x ≤ℤ z) to up.1);
      amount = subst IsAmount at on.0;
      next = subst (λ (z : Ratio). floor_of z ≡ s.to +ℤ pos g) at (on.1 ∙ ap (λ z. z +ℤ pos g) to);
    }

chained : Known → (x : Ratio) (cs : List Ratio) (gs : List ℕ) (spans : List Span) → IsAmount x → Every IsAmount cs → spans_from x (zip cs gs) ≡ Some spans → Chain gs spans × BeginsAt x spans
chained w x [] gs spans hx hc e = subst (λ ss. Chain gs ss × BeginsAt x ss) (same_some [] spans e) (tt, tt)
chained w x (c ∷ cs) [] spans hx hc e = subst (λ ss. Chain [] ss × BeginsAt x ss) (same_some [] spans e) (tt, tt)
chained w x (c ∷ cs) (g ∷ gs) spans hx hc e =
    let first = and_then_some _ (placed x c g) spans e in
    let rest = map_some (λ ss. first.0.0 ∷ ss) (spans_from first.0.1 (zip cs gs)) spans first.2 in
    let step = steps w x c g first.0.0 first.0.1 hx hc.0 first.1 in
    let later = chained w first.0.1 cs gs rest.0 step.amount hc.1 rest.1 in
    subst (λ ss. Chain (g ∷ gs) ss × BeginsAt x ss) rest.2 ((step.forward, (joined_at first.0.1 g first.0.0 rest.0 step.next later.1, later.0)), step.begins)

chain_forward : (gs : List ℕ) (spans : List Span) → Chain gs spans → Every (λ (s : Span). s.from ≤ℤ s.to) spans
chain_forward gs [] h = tt
chain_forward [] (s ∷ spans) h = absurd h
chain_forward (g ∷ gs) (s ∷ spans) h = (h.0, chain_forward gs spans h.1.1)

chain_next : (gs : List ℕ) (spans : List Span) (n : ℕ) (d : Span) → Chain gs spans → suc n < length spans → (slice_index_or spans (suc n) d).from ≡ (slice_index_or spans n d).to +ℤ pos (slice_index gs n)
chain_next gs [] n d h within = absurd (omega arith)
chain_next [] (s ∷ spans) n d h within = absurd h
chain_next (g ∷ gs) (s ∷ []) zero d h within = absurd (omega arith)
chain_next (g ∷ gs) (s ∷ (t ∷ spans)) zero d h within = h.1.0
chain_next (g ∷ gs) (s ∷ spans) (suc n) d h within = chain_next gs spans n d h.1.1 (omega arith)

-- ---- the sizes

abbrev IsUnit : Option Ratio → Type 0
IsUnit None = ⊤
IsUnit (Some u) = IsAmount u

size_amount : Known → (u : Option Ratio) (p : Part) (c : Ratio) → IsUnit u → IsAmountPart p → final_size u p ≡ Some c → IsAmount c
size_amount w u (Settled d) c hu h e = subst IsAmount (same_some d c e) h
size_amount w None (Growing s l) c hu h e = amount_clamp w l (cells 0) c h.1 (amount_cells w 0) e
size_amount w (Some u) (Growing s l) c hu h e =
    let v = and_then_some _ (mul s u) c e in
    amount_clamp w l v.0 c h.1 (subst IsAmount (sym (product_is s u v.0 v.1)) (amount_product w s u h.0 hu)) v.2

size_amounts : Known → (u : Option Ratio) (ps : List Part) (cs : List Ratio) → IsUnit u → Every IsAmountPart ps → each (final_size u) ps ≡ Some cs → Every IsAmount cs
size_amounts w u [] cs hu h e = subst (Every IsAmount) (same_some [] cs e) tt
size_amounts w u (p ∷ ps) cs hu h e =
    let c = and_then_some _ (final_size u p) cs e in
    let rest = map_some (λ ys. c.0 ∷ ys) (each (final_size u) ps) cs c.2 in
    subst (Every IsAmount) rest.2 (size_amount w u p c.0 hu h.0 c.1, size_amounts w u ps rest.0 hu h.1 rest.1)

is_unit : Known → (r : Ratio) (ps : List Part) (u : Option Ratio) → IsLowest r → Every IsAmountPart ps → unit_of r ps ≡ Some u → IsUnit u
is_unit w r ps None h a e = tt
is_unit w r ps (Some u) h a e = amount_unit w r ps u h a e

final_sizes_amounts : Known → (r : Ratio) (ps : List Part) (cs : List Ratio) → IsLowest r → Every IsAmountPart ps → final_sizes r ps ≡ Some cs → Every IsAmount cs
unfolding final_sizes
final_sizes_amounts w r ps cs h a e =
    let u = and_then_some _ (unit_of r ps) cs e in
    size_amounts w u.0 ps cs (is_unit w r ps u.0 h a u.1) a u.2

sizes_amounts : Known → (total : ℕ) (gaps : List ℕ) (ps : List Part) (cs : List Ratio) → Every IsAmountPart ps → sizes_of total gaps ps ≡ Some cs → Every IsAmount cs
unfolding sizes_of last_of
sizes_amounts w total gaps ps cs a e =
    let last = and_then_some _ (last_of total gaps ps) cs e in
    let r = and_then_some _ (room total gaps ps) last.0 last.1 in
    let low = lowest_less_each w _ r.0 ps ((w.forms.whole _ 1).lowest_terms) a r.1 in
    let end = amount_last w (growing ps) r.0 ps last.0.1 last.0.0 low a r.2 in
    final_sizes_amounts w last.0.0 last.0.1 cs end.1 end.0 last.2

pub spans_follow : Known → SpansFollow
unfolding axis_spans axis_sizes axis_parts
spans_follow w items gaps axis basis own spans row e =
    let cs = and_then_some _ (axis_sizes items gaps axis basis own) spans e in
    let ps = and_then_some _ (axis_parts items axis basis own) cs.0 cs.1 in
    let amounts = all_amounts w axis basis items own ps.0 row.sized row.fractions ps.1 in
    let sizes = sizes_amounts w (side axis basis.area) gaps ps.0 cs.0 amounts ps.2 in
    by_gaps gaps cs.0 row.one_gap_more sizes cs.2
  where
    by_gaps : (gaps : List ℕ) (cs : List Ratio) → length gaps ≡ length items + 1 → Every IsAmount cs → spans_from (cells (slice_index gaps 0)) (zip cs (drop 1 gaps)) ≡ Some spans → Follow gaps spans
    by_gaps [] cs h a g = absurd (omega arith)
    by_gaps (g0 ∷ gs) cs h a g =
        let chain = (chained w (cells g0) cs gs spans (amount_cells w g0) a g).0 in
        record {
          forward = All-from_recursion (λ (s : Span). s.from ≤ℤ s.to) spans (chain_forward gs spans chain);
          next = λ n d within.
              subst (λ (m : ℕ). (slice_index_or spans m d).from ≡ (slice_index_or spans n d).to +ℤ pos (slice_index (g0 ∷ gs) m)) (let e : suc n ≡ n + 1 = omega arith in e)
              (chain_next gs spans n d chain (omega arith));
        }
