-- Places along an axis: how far they can come.
use Rattle.std.proofs.Common.{◌≡◌, ℕ, suc, List, length, ◌+◌, ◌*◌, ◌^◌, ◌<◌, ◌≤◌, arith, ℤ, pos, negsuc, to_z, of_z, w64}
use Rattle.std.specs.Prelude.{◌+ℤ◌, ◌*ℤ◌, ◌≤ℤ◌, ◌<ℤ◌, All, slice_index}
use Rattle.std.specs.Int.{w128}
use Rattle.std.proofs.lemmas.List.Elements.{All-get_or}
use Rattle.std.proofs.lemmas.Int.{ints, to_z-of_z}
use Rattle.std.proofs.Math.Nat.{le_of_mul-le-mul_right, lt_of_mul-lt-mul_right, mul-le-mul_right, mul-lt-mul_of_pos_right, mul-pos}
use mir.Val.{SFits}
use Rattle.tx_frac.specs.Ratio.{Ratio, IsRatio, sum_num}
use Rattle.tx_box.specs.Sizes.{cells}
use Rattle.tx_box.specs.Shape.{EndsBy, IsUpTo, IsCellCount}
use Rattle.tx_box.specs.declared.items.Span.{Span}
use Rattle.tx_box.proofs.Floors.{IsFloor, floor_from_zero}

-- the sum of a/b, at most m, and c/d, at most n, is z/e, at most m + n
sum_bounds : (a c z : ℤ) (b d e m n : ℕ) → 0 < b → 0 < d → pos 0 ≤ℤ a → pos 0 ≤ℤ c → a ≤ℤ pos (m * b) → c ≤ℤ pos (n * d) → z *ℤ pos (b * d) ≡ (a *ℤ pos d +ℤ c *ℤ pos b) *ℤ pos e
    → (pos 0 ≤ℤ z) × (z ≤ℤ pos ((m + n) * e))
sum_bounds (pos a) (pos c) (pos z) b d e m n hb hd la lc ha hc same =
    let x : a * d ≤ m * b * d = mul-le-mul_right d (let h : a ≤ m * b = omega (arith, ints) in h) in
    let y : c * b ≤ n * d * b = mul-le-mul_right b (let h : c ≤ n * d = omega (arith, ints) in h) in
    let s : a * d + c * b ≤ (m + n) * (b * d) = omega arith in
    let t : (a * d + c * b) * e ≤ (m + n) * (b * d) * e = mul-le-mul_right e s in
    let u : z * (b * d) ≡ (a * d + c * b) * e = omega (arith, ints) in
    let v : z * (b * d) ≤ (m + n) * e * (b * d) = omega arith in
    let w : z ≤ (m + n) * e = le_of_mul-le-mul_right v (mul-pos hb hd) in
    (omega (arith, ints), omega (arith, ints))
sum_bounds (pos a) (pos c) (negsuc z) b d e m n hb hd la lc ha hc same =
    let p : 0 < suc z * (b * d) = mul-pos (omega arith) (mul-pos hb hd) in
    absurd (omega (arith, ints))
sum_bounds (negsuc a) c z b d e m n hb hd la lc ha hc same = absurd (omega (arith, ints))
sum_bounds (pos a) (negsuc c) z b d e m n hb hd la lc ha hc same = absurd (omega (arith, ints))

pub sum_up_to : (x y z : Ratio) (m n : ℕ) → IsUpTo m x → IsUpTo n y → IsRatio (sum_num x y) (x.den * y.den) z → IsUpTo (m + n) z
sum_up_to x y z m n hx hy h =
    let b = sum_bounds x.num y.num z.num x.den y.den z.den m n hx.positive hy.positive hx.not_negative hy.not_negative hx.at_most hy.at_most h.same in
    record { positive = h.lowest_terms.positive; not_negative = b.0; at_most = b.1 }

pub up_to_count : (x : Ratio) → IsCellCount x → IsUpTo 65535 x
up_to_count x h = record { positive = h.positive; not_negative = h.not_negative; at_most = h.at_most }

pub up_to_cells : (n : ℕ) → IsUpTo n (cells n)
up_to_cells n = record { positive = omega arith; not_negative = omega (arith, ints); at_most = omega (arith, ints) }

pub up_to_more : (m n : ℕ) (x : Ratio) → m ≤ n → IsUpTo m x → IsUpTo n x
up_to_more m n x h u =
    let p : m * x.den ≤ n * x.den = mul-le-mul_right x.den h in
    let q = u.at_most in
    record { positive = u.positive; not_negative = u.not_negative; at_most = omega (arith, ints) }

-- a place so far is rounded down to a number of 64 bits
pub floor_fits : (x : Ratio) (z : ℤ) (n : ℕ) → n < 2 ^ 62 → IsUpTo n x → IsFloor x z → (to_z w128 (of_z w128 z) ≡ z) × SFits w64 z
floor_fits x z n hn u h =
    let b = floor_from_zero x z n u.positive u.not_negative u.at_most h in
    let low = b.0 in
    let high = b.1 in
    let f : SFits w128 z = omega (arith, ints) in
    (to_z-of_z w128 z f, omega (arith, ints))

-- f is a/b and g is z/e rounded down, where z/e is the sum of a/b and c/d, and c/d is at most n
apart : (a c z b d e n f g : ℕ) → 0 < b → 0 < d → 0 < e → c ≤ n * d → z * (b * d) ≡ (a * d + c * b) * e → f * b ≤ a → a < (f + 1) * b → g * e ≤ z → z < (g + 1) * e
    → (f ≤ g) × (g ≤ f + n)
apart a c z b d e n f g hb hd he hc same low high low' high' =
    let k : 0 < d * e = mul-pos hd he in
    let p : f * b * (d * e) ≤ a * (d * e) = mul-le-mul_right (d * e) low in
    let q : z * (b * d) < (g + 1) * e * (b * d) = mul-lt-mul_of_pos_right high' (mul-pos hb hd) in
    let first : f * (b * (d * e)) < (g + 1) * (b * (d * e)) = omega arith in
    let less : f < g + 1 = lt_of_mul-lt-mul_right (b * (d * e)) first in
    let r : g * e * (b * d) ≤ z * (b * d) = mul-le-mul_right (b * d) low' in
    let s : a * (d * e) < (f + 1) * b * (d * e) = mul-lt-mul_of_pos_right high k in
    let t : c * (b * e) ≤ n * d * (b * e) = mul-le-mul_right (b * e) hc in
    let second : g * (b * (d * e)) < (f + 1 + n) * (b * (d * e)) = omega arith in
    let near : g < f + 1 + n = lt_of_mul-lt-mul_right (b * (d * e)) second in
    (omega arith, omega arith)

apart_from_zero : (a c z : ℤ) (b d e n : ℕ) (f g : ℤ) → 0 < b → 0 < d → 0 < e → pos 0 ≤ℤ a → pos 0 ≤ℤ c → pos 0 ≤ℤ z → pos 0 ≤ℤ f → pos 0 ≤ℤ g → c ≤ℤ pos (n * d)
    → z *ℤ pos (b * d) ≡ (a *ℤ pos d +ℤ c *ℤ pos b) *ℤ pos e → (f *ℤ pos b) ≤ℤ a → a <ℤ ((f +ℤ pos 1) *ℤ pos b) → (g *ℤ pos e) ≤ℤ z → z <ℤ ((g +ℤ pos 1) *ℤ pos e)
    → (f ≤ℤ g) × (g ≤ℤ (f +ℤ pos n))
apart_from_zero (pos a) (pos c) (pos z) b d e n (pos f) (pos g) hb hd he la lc lz lf lg hc same low high low' high' =
    let u : z * (b * d) ≡ (a * d + c * b) * e = omega (arith, ints) in
    let r = apart a c z b d e n f g hb hd he (let h : c ≤ n * d = omega (arith, ints) in h) u (let h : f * b ≤ a = omega (arith, ints) in h)
    (let h : a < (f + 1) * b = omega (arith, ints) in h) (let h : g * e ≤ z = omega (arith, ints) in h) (let h : z < (g + 1) * e = omega (arith, ints) in h) in
    let less = r.0 in
    let near = r.1 in
    (omega (arith, ints), omega (arith, ints))
apart_from_zero (negsuc a) c z b d e n f g hb hd he la lc lz lf lg hc same low high low' high' = absurd (omega (arith, ints))
apart_from_zero (pos a) (negsuc c) z b d e n f g hb hd he la lc lz lf lg hc same low high low' high' = absurd (omega (arith, ints))
apart_from_zero (pos a) (pos c) (negsuc z) b d e n f g hb hd he la lc lz lf lg hc same low high low' high' = absurd (omega (arith, ints))
apart_from_zero (pos a) (pos c) (pos z) b d e n (negsuc f) g hb hd he la lc lz lf lg hc same low high low' high' = absurd (omega (arith, ints))
apart_from_zero (pos a) (pos c) (pos z) b d e n (pos f) (negsuc g) hb hd he la lc lz lf lg hc same low high low' high' = absurd (omega (arith, ints))

-- the whole cells from a place, at most m, to the end of a size, at most n
pub record IsBetween (m n : ℕ) (f g : ℤ) : Type 0 where
  pub not_negative : pos 0 ≤ℤ f
  pub forward : f ≤ℤ g
  pub at_most : g ≤ℤ (f +ℤ pos n)
  pub far : g ≤ℤ pos (m + n)

pub cells_between : (x size end : Ratio) (f g : ℤ) (m n : ℕ) → IsUpTo m x → IsUpTo n size → IsRatio (sum_num x size) (x.den * size.den) end → IsFloor x f → IsFloor end g → IsBetween m n f g
cells_between x size end f g m n hx hs h hf hg =
    let u = sum_up_to x size end m n hx hs h in
    let p = floor_from_zero x f m hx.positive hx.not_negative hx.at_most hf in
    let q = floor_from_zero end g (m + n) u.positive u.not_negative u.at_most hg in
    let r = apart_from_zero x.num size.num end.num x.den size.den end.den n f g hx.positive hs.positive u.positive hx.not_negative hs.not_negative u.not_negative p.0 q.0 hs.at_most h.same
    hf.below hf.greatest hg.below hg.greatest in
    record { not_negative = p.0; forward = r.0; at_most = r.1; far = q.1 }

-- ---- how far spans come

pub ends_later : (m n : ℕ) (s : Span) → m ≤ n → EndsBy m s → EndsBy n s
ends_later m n s h e = omega (arith, ints, h, e)

-- the end of the item at i, with all gaps and sizes up to there, is within those of all items
pub steps_within : (most i count : ℕ) → i < count → most + (65535 + most) * i + 65535 ≤ (65535 + most) * count
steps_within most i count h =
    let p : (i + 1) * (65535 + most) ≤ count * (65535 + most) = mul-le-mul_right (65535 + most) (let q : i + 1 ≤ count = omega arith in q) in
    omega arith

pub gap_at : (gaps : List ℕ) (i most : ℕ) → i < length gaps → All (λ gap. gap ≤ most) gaps → slice_index gaps i ≤ most
gap_at gaps i most h all = All-get_or (λ gap. gap ≤ most) gaps i 0 h all
