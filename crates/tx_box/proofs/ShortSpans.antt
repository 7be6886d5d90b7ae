-- The spans of ordinary items, and such an item by itself, have at most 65,535 cells.
use Rattle.std.proofs.Common.{◌≡◌, ℕ, zero, suc, ◌+◌, ◌*◌, ◌<◌, ◌≤◌, List, [], ◌∷◌, drop, sym, ◌∙◌, ap, subst, arith, ℤ, pos, negsuc, Some}
use Rattle.std.specs.Prelude.{◌/◌, ◌+ℤ◌, ◌*ℤ◌, ◌≤ℤ◌, ◌<ℤ◌, slice_index, unsigned_abs}
use Rattle.std.specs.Int.{int_div_euclid}
use Rattle.std.specs.List.{AllByRecursion as Every, zip}
use Rattle.std.proofs.lemmas.Int.{ints}
use Rattle.std.proofs.lemmas.List.Elements.{All-from_recursion}
use Rattle.std.proofs.Math.Nat.{mul-div-le, lt-div-mul-add, mul-pos, mul-le-mul_right, le_of_mul-le-mul_right}
use Rattle.tx_frac.specs.Ratio.{Ratio, IsRatio, floor_of, add, sum_num}
use Rattle.tx_geom.specs.Along.{side}
use Rattle.tx_box.specs.declared.items.Span.{Span}
use Rattle.tx_box.specs.Axis.{bases, placed, spans_from, axis_parts, sizes_of, axis_sizes, axis_spans}
use Rattle.tx_box.specs.Item.{NotNegative}
use Rattle.tx_box.specs.Ordinary.{IsShortSpan, OrdinaryCells, OrdinarySpans}
use Rattle.tx_box.specs.Shape.{IsUpTo}
use Rattle.tx_box.specs.Sizes.{cells, across}
use Rattle.tx_box.proofs.Amounts.{Known, IsAmount, amount_cells, amount_ratio, amount_sum, over_both, sum_is}
use Rattle.tx_box.proofs.Decimals.{across_defined, and_then_is, parts_defined, side_small}
use Rattle.tx_box.proofs.Floors.{IsFloor, floor_from_zero}
use Rattle.tx_box.proofs.Multiples.{Facts, IsOver}
use Rattle.tx_box.proofs.Options.{and_then_some, map_some, same_some}
use Rattle.tx_box.proofs.Ordinary.{sizes_of_defined}
use Rattle.tx_box.proofs.Places.{cells_between}

-- ---- fractions from 0 on

-- a fraction is at most its numerator
up_to_itself : (x : Ratio) → IsAmount x → IsUpTo (unsigned_abs x.num) x
up_to_itself x h = record { positive = h.lowest.positive; not_negative = h.not_negative; at_most = within x.num x.den h.lowest.positive h.not_negative }
  where
    within : (z : ℤ) (d : ℕ) → 0 < d → pos 0 ≤ℤ z → z ≤ℤ pos (unsigned_abs z * d)
    within (pos n) (suc d) hd l = omega (arith, ints)
    within (pos n) zero hd l = absurd (omega (arith, hd))
    within (negsuc n) d hd l = absurd (omega (arith, ints, l))

scaled : (z : ℤ) (m k d b : ℕ) → 0 < k → b ≤ m * k → z *ℤ pos k ≡ pos b *ℤ pos d → z ≤ℤ pos (m * d)
scaled (pos n) m k d b hk h e =
    let p : b * d ≤ m * k * d = mul-le-mul_right d h in
    let q : n * k ≤ m * d * k = omega (arith, ints, e, p) in
    let r : n ≤ m * d = le_of_mul-le-mul_right q hk in
    omega (arith, ints, r)
scaled (negsuc n) m k d b hk h e = omega (arith, ints)

-- so is a multiple of 1 over k at most what it is at most over k
up_to_over : (k m : ℕ) (x : Ratio) → 0 < k → IsOver k (m * k) x → IsUpTo m x
up_to_over k m x hk o =
    record {
      positive = o.is.lowest_terms.positive;
      not_negative = (amount_ratio (pos o.number) k x hk (omega (arith, ints)) o.is).not_negative;
      at_most = scaled x.num m k x.den o.number hk o.at_most o.is.same;
    }

is_floor_by : (z : ℤ) (d : ℕ) → 0 < d → pos 0 ≤ℤ z → ((int_div_euclid z (pos d) *ℤ pos d) ≤ℤ z) × (z <ℤ ((int_div_euclid z (pos d) +ℤ pos 1) *ℤ pos d))
is_floor_by (pos a) d hd l =
    let low : d * (a / d) ≤ a = mul-div-le a d in
    let high : a < a / d * d + d = lt-div-mul-add {a = a} hd in
    at (a / d) low high
  where
    at : (q : ℕ) → d * q ≤ a → a < q * d + d → ((pos q *ℤ pos d) ≤ℤ pos a) × (pos a <ℤ ((pos q +ℤ pos 1) *ℤ pos d))
    at q low high = (omega (arith, ints, low), omega (arith, ints, high))
is_floor_by (negsuc a) d hd l = absurd (omega (arith, ints, l))

is_floor : (x : Ratio) → 0 < x.den → NotNegative x → IsFloor x (floor_of x)
is_floor x hd l = let f = is_floor_by x.num x.den hd l in record { below = f.0; greatest = f.1 }

-- ---- spans

-- the span of such a size, and the place behind its gap
record Short (s : Span) (y : Ratio) : Type 0 where
  short : IsShortSpan s
  amount : IsAmount y

short_one : Known → (k : ℕ) (x c : Ratio) (g : ℕ) (s : Span) (y : Ratio) → 0 < k → IsAmount x → IsOver k (65535 * k) c → placed x c g ≡ Some (s, y) → Short s y
unfolding placed
short_one w k x c g s y hk hx hc e =
    let end = and_then_some _ (add x c) (s, y) e in
    let next = map_some _ (add end.0 (cells g)) (s, y) end.2 in
    let is = sum_is x c end.0 end.1 in
    let ac = amount_ratio (pos hc.number) k c hk (omega (arith, ints)) hc.is in
    let ae : IsAmount end.0 = subst IsAmount (sym is) (amount_sum w x c hx ac) in
    let b = over_both w x c hx.lowest ac.lowest in
    let r : IsRatio (sum_num x c) (x.den * c.den) end.0 = subst (IsRatio (sum_num x c) (x.den * c.den)) (sym is)
    (w.sums.sum (x.den * c.den) (x.num *ℤ pos c.den) (c.num *ℤ pos x.den) x c (mul-pos hx.lowest.positive ac.lowest.positive) b.0 b.1) in
    let f = cells_between x c end.0 (floor_of x) (floor_of end.0) (unsigned_abs x.num) 65535 (up_to_itself x hx) (up_to_over k 65535 c hk hc) r
    (is_floor x hx.lowest.positive hx.not_negative) (is_floor end.0 ae.lowest.positive ae.not_negative) in
    let short : IsShortSpan (record { from = floor_of x; to = floor_of end.0 }) = record { not_negative = f.not_negative; forward = f.forward; at_most = f.at_most } in
    record {
      short = subst IsShortSpan (ap (λ z. z.0) next.2) short;
      amount = subst IsAmount (sym (sum_is end.0 (cells g) next.0 next.1) ∙ ap (λ z. z.1) next.2) (amount_sum w end.0 (cells g) ae (amount_cells w g));
    }

all_short : Known → (k : ℕ) (x : Ratio) (cs : List Ratio) (gs : List ℕ) (spans : List Span) → 0 < k → IsAmount x → Every (IsOver k (65535 * k)) cs → spans_from x (zip cs gs) ≡ Some spans → Every IsShortSpan spans
all_short w k x [] gs spans hk hx hc e = subst (Every IsShortSpan) (same_some [] spans e) tt
all_short w k x (c ∷ cs) [] spans hk hx hc e = subst (Every IsShortSpan) (same_some [] spans e) tt
all_short w k x (c ∷ cs) (g ∷ gs) spans hk hx hc e =
    let first = and_then_some _ (placed x c g) spans e in
    let rest = map_some (λ ss. first.0.0 ∷ ss) (spans_from first.0.1 (zip cs gs)) spans first.2 in
    let one = short_one w k x c g first.0.0 first.0.1 hk hx hc.0 first.1 in
    subst (Every IsShortSpan) rest.2 (one.short, all_short w k first.0.1 cs gs rest.0 hk one.amount hc.1 rest.1)

pub ordinary_spans : Facts → OrdinarySpans
unfolding axis_spans axis_sizes axis_parts
ordinary_spans f items gaps axis basis own spans o e =
    let count = o.count in
    let one = o.one_gap_more in
    let ps = parts_defined f axis basis items own o.screen o.each_item o.each_base in
    let low = ps.count in
    let a = sizes_of_defined f (side axis basis.area) gaps ps.value (side_small axis basis.area o.area) (omega arith) o.each_gap (omega arith) ps.over in
    let sizes : axis_sizes items gaps axis basis own ≡ Some a.sizes.value = and_then_is (sizes_of (side axis basis.area) gaps) (axis_parts items axis basis own) ps.value a.sizes.value ps.is a.sizes.is in
    let got = and_then_some (λ sizes. spans_from (cells (slice_index gaps 0)) (zip sizes (drop 1 gaps))) (axis_sizes items gaps axis basis own) spans e in
    let same : a.sizes.value ≡ got.0 = same_some a.sizes.value got.0 (sym sizes ∙ got.1) in
    All-from_recursion IsShortSpan spans
    (all_short f.known a.den (cells (slice_index gaps 0)) got.0 (drop 1 gaps) spans a.positive (amount_cells f.known (slice_index gaps 0)) (subst (Every (IsOver a.den (65535 * a.den))) same a.sizes.over) got.2)

-- ---- one box

pub ordinary_cells : Facts → OrdinaryCells
ordinary_cells f item axis basis own n i screen base e =
    let c = across_defined f item (bases axis basis own) (record { own = base; screen = screen }) i in
    let z = map_some floor_of (across item (bases axis basis own)) n e in
    let same : c.value ≡ z.0 = same_some c.value z.0 (sym c.is ∙ z.1) in
    let up = up_to_over 100000 65535 c.value (omega arith) c.over in
    let p = floor_from_zero c.value (floor_of c.value) 65535 up.positive up.not_negative up.at_most (is_floor c.value up.positive up.not_negative) in
    subst (λ m. m ≤ℤ pos 65535) (ap floor_of same ∙ z.2) p.1
