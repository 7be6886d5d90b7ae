-- Sizes and shares as whole numbers over one denominator.
use Rattle.std.proofs.Common.{◌≡◌, ℕ, ◌*◌, ◌<◌, List, [], ◌∷◌, map, refl, sym, subst, arith, ℤ, pos, Some}
use Rattle.std.specs.Prelude.{◌+ℤ◌, ◌-ℤ◌, ◌*ℤ◌, neg_ℤ}
use Rattle.std.specs.List.{AllByRecursion as Every, AllZip}
use Rattle.std.proofs.lemmas.Int.{ints}
use Rattle.std.proofs.Math.Nat.{mul_comm, mul-pos}
use Rattle.tx_frac.specs.Ratio.{Ratio, IsLowest, IsRatio, negated, sum_of, add, sub}
use Rattle.tx_box.specs.declared.parts.Part.{Part}
use Rattle.tx_box.specs.declared.parts.Part.TheVariants.{Settled, Growing}
use Rattle.tx_box.specs.Sizes.{cells}
use Rattle.tx_box.specs.Axis.{settled_sizes, shares, less_each, total_from}
use Rattle.tx_box.proofs.Options.{and_then_some, same_some}
use Rattle.tx_box.proofs.Amounts.{Known, IsAmountPart, sum_is, difference_is}

-- the fraction x over k is also that over an equal number
pub same_number : (k : ℕ) (m n : ℤ) (x : Ratio) → m ≡ n → IsRatio m k x → IsRatio n k x
same_number k m n x e h = subst (λ z. IsRatio z k x) e h

pub same_den : (k j : ℕ) (n : ℤ) (x : Ratio) → k ≡ j → IsRatio n k x → IsRatio n j x
same_den k j n x e h = subst (λ d. IsRatio n d x) e h

-- ---- sizes

abbrev pub AreOver : ℕ → List Ratio → List ℤ → Type 0
AreOver k cs ns = AllZip (λ c n. IsRatio n k c) cs ns

wider_all : Known → (k j : ℕ) (cs : List Ratio) (ns : List ℤ) → AreOver k cs ns → AreOver (k * j) cs (map (λ n. n *ℤ pos j) ns)
wider_all w k j [] [] h = h
wider_all w k j [] (n ∷ ns) h = h
wider_all w k j (c ∷ cs) [] h = h
wider_all w k j (c ∷ cs) (n ∷ ns) h = (w.forms.wider k j n c h.0, wider_all w k j cs ns h.1)

pub record Common (cs : List Ratio) : Type 0 where
  pub den : ℕ
  pub positive : 0 < den
  pub nums : List ℤ
  pub over : AreOver den cs nums

-- any fractions have a common denominator
pub common : Known → (cs : List Ratio) → Every IsLowest cs → Common cs
common w [] h = record { den = 1; positive = omega arith; nums = []; over = tt }
common w (c ∷ cs) h =
    let rest = common w cs h.1 in
    record {
      den = rest.den * c.den;
      positive = mul-pos rest.positive h.0.positive;
      nums = (c.num *ℤ pos rest.den) ∷ map (λ n. n *ℤ pos c.den) rest.nums;
      over = (same_den (c.den * rest.den) (rest.den * c.den) (c.num *ℤ pos rest.den) c (mul_comm c.den rest.den) (w.forms.wider c.den rest.den c.num c (w.forms.itself c h.0)), wider_all w rest.den c.den cs rest.nums rest.over);
    }

-- ---- parts with their numbers: of a settled part its size, of a growing one what it will come to

abbrev pub HasNumber : ℕ → Part → ℤ → Type 0
HasNumber k (Settled c) n = IsRatio n k c
HasNumber k (Growing s l) n = Unit {0}

abbrev pub AreAligned : ℕ → List Part → List ℤ → Type 0
AreAligned k ps ns = AllZip (HasNumber k) ps ns

abbrev pub settled_number : Part → ℤ → ℤ
settled_number (Settled c) n = n
settled_number (Growing s l) n = pos 0

abbrev pub growing_number : Part → ℤ → ℤ
growing_number (Settled c) n = pos 0
growing_number (Growing s l) n = n

abbrev pub settled_total : List Part → List ℤ → ℤ
settled_total [] ns = pos 0
settled_total (p ∷ ps) [] = pos 0
settled_total (p ∷ ps) (n ∷ ns) = settled_number p n +ℤ settled_total ps ns

abbrev pub growing_total : List Part → List ℤ → ℤ
growing_total [] ns = pos 0
growing_total (p ∷ ps) [] = pos 0
growing_total (p ∷ ps) (n ∷ ns) = growing_number p n +ℤ growing_total ps ns

abbrev pub total : List ℤ → ℤ
total [] = pos 0
total (n ∷ ns) = n +ℤ total ns

parted : (p : Part) (n : ℤ) → settled_number p n +ℤ growing_number p n ≡ n
parted (Settled c) n = omega (arith, ints)
parted (Growing s l) n = omega (arith, ints)

pub total-parts : (k : ℕ) (ps : List Part) (ns : List ℤ) → AreAligned k ps ns → settled_total ps ns +ℤ growing_total ps ns ≡ total ns
total-parts k [] [] h = refl
total-parts k [] (n ∷ ns) h = absurd h
total-parts k (p ∷ ps) [] h = absurd h
total-parts k (p ∷ ps) (n ∷ ns) h = added (settled_number p n) (growing_number p n) n (settled_total ps ns) (growing_total ps ns) (total ns) (parted p n) (total-parts k ps ns h.1)
  where
    added : (a b n s g t : ℤ) → a +ℤ b ≡ n → s +ℤ g ≡ t → (a +ℤ s) +ℤ (b +ℤ g) ≡ n +ℤ t
    added a b n s g t p q = omega (arith, ints)

-- ---- differences and sums

pub over_difference : Known → (k : ℕ) (m n : ℤ) (r c t : Ratio) → 0 < k → IsRatio m k r → IsRatio n k c → t ≡ sum_of r (negated c) → IsRatio (m -ℤ n) k t
over_difference w k m n r c t hk hr hc e =
    subst (IsRatio (m -ℤ n) k) (sym e) (same_number k (m +ℤ neg_ℤ n) (m -ℤ n) (sum_of r (negated c)) (omega (arith, ints)) (w.sums.sum k m (neg_ℤ n) r (negated c) hk hr (w.sums.opposite k n c hc)))

pub over_sum : Known → (k : ℕ) (m n : ℤ) (x y z : Ratio) → 0 < k → IsRatio m k x → IsRatio n k y → add x y ≡ Some z → IsRatio (m +ℤ n) k z
over_sum w k m n x y z hk hx hy e = subst (IsRatio (m +ℤ n) k) (sym (sum_is x y z e)) (w.sums.sum k m n x y hk hx hy)

pub over_cells : Known → (k g : ℕ) → IsRatio (pos (g * k)) k (cells g)
over_cells w k g = w.forms.whole (pos g) k

-- what sizes leave
pub over_less_each : Known → (k : ℕ) (m : ℤ) (r t : Ratio) (ps : List Part) (ns : List ℤ) → 0 < k → IsRatio m k r → AreAligned k ps ns → less_each r (settled_sizes ps) ≡ Some t → IsRatio (m -ℤ settled_total ps ns) k t
over_less_each w k m r t [] [] hk h a e = same_number k m (m -ℤ pos 0) t (omega (arith, ints)) (subst (IsRatio m k) (same_some r t e) h)
over_less_each w k m r t [] (n ∷ ns) hk h a e = absurd a
over_less_each w k m r t (p ∷ ps) [] hk h a e = absurd a
over_less_each w k m r t (Settled c ∷ ps) (n ∷ ns) hk h a e =
    let s = and_then_some _ (sub r c) t e in
    same_number k ((m -ℤ n) -ℤ settled_total ps ns) (m -ℤ (n +ℤ settled_total ps ns)) t (omega (arith, ints))
    (over_less_each w k (m -ℤ n) s.0 t ps ns hk (over_difference w k m n r c s.0 hk h a.0 (difference_is r c s.0 s.1)) a.1 s.2)
over_less_each w k m r t (Growing s l ∷ ps) (n ∷ ns) hk h a e =
    same_number k (m -ℤ settled_total ps ns) (m -ℤ (pos 0 +ℤ settled_total ps ns)) t (omega (arith, ints)) (over_less_each w k m r t ps ns hk h a.1 e)

-- ---- shares

abbrev pub HasShareNumber : ℕ → Part → ℤ → Type 0
HasShareNumber k (Settled c) n = Unit {0}
HasShareNumber k (Growing s l) n = IsRatio n k s

abbrev pub AreShares : ℕ → List Part → List ℤ → Type 0
AreShares k ps ns = AllZip (HasShareNumber k) ps ns

pub record CommonShares (ps : List Part) : Type 0 where
  pub den : ℕ
  pub positive : 0 < den
  pub nums : List ℤ
  pub over : AreShares den ps nums

wider_shares : Known → (k j : ℕ) (ps : List Part) (ns : List ℤ) → AreShares k ps ns → AreShares (k * j) ps (map (λ n. n *ℤ pos j) ns)
wider_shares w k j [] [] h = h
wider_shares w k j [] (n ∷ ns) h = h
wider_shares w k j (p ∷ ps) [] h = h
wider_shares w k j (Settled c ∷ ps) (n ∷ ns) h = (tt, wider_shares w k j ps ns h.1)
wider_shares w k j (Growing s l ∷ ps) (n ∷ ns) h = (w.forms.wider k j n s h.0, wider_shares w k j ps ns h.1)

pub common_shares : Known → (ps : List Part) → Every IsAmountPart ps → CommonShares ps
common_shares w [] h = record { den = 1; positive = omega arith; nums = []; over = tt }
common_shares w (Settled c ∷ ps) h =
    let rest = common_shares w ps h.1 in
    record { den = rest.den; positive = rest.positive; nums = pos 0 ∷ rest.nums; over = (tt, rest.over) }
common_shares w (Growing s l ∷ ps) h =
    let rest = common_shares w ps h.1 in
    let a = h.0.0 in
    record {
      den = rest.den * s.den;
      positive = mul-pos rest.positive a.lowest.positive;
      nums = (s.num *ℤ pos rest.den) ∷ map (λ n. n *ℤ pos s.den) rest.nums;
      over = (same_den (s.den * rest.den) (rest.den * s.den) (s.num *ℤ pos rest.den) s (mul_comm s.den rest.den) (w.forms.wider s.den rest.den s.num s (w.forms.itself s a.lowest)), wider_shares w rest.den s.den ps rest.nums rest.over);
    }

-- the sum of the shares is that of their numbers
pub over_total : Known → (k : ℕ) (m : ℤ) (x z : Ratio) (ps : List Part) (ns : List ℤ) → 0 < k → IsRatio m k x → AreShares k ps ns → total_from x (shares ps) ≡ Some z → IsRatio (m +ℤ growing_total ps ns) k z
over_total w k m x z [] [] hk h a e = same_number k m (m +ℤ pos 0) z (omega (arith, ints)) (subst (IsRatio m k) (same_some x z e) h)
over_total w k m x z [] (n ∷ ns) hk h a e = absurd a
over_total w k m x z (p ∷ ps) [] hk h a e = absurd a
over_total w k m x z (Settled c ∷ ps) (n ∷ ns) hk h a e =
    same_number k (m +ℤ growing_total ps ns) (m +ℤ (pos 0 +ℤ growing_total ps ns)) z (omega (arith, ints)) (over_total w k m x z ps ns hk h a.1 e)
over_total w k m x z (Growing s l ∷ ps) (n ∷ ns) hk h a e =
    let y = and_then_some _ (add x s) z e in
    same_number k ((m +ℤ n) +ℤ growing_total ps ns) (m +ℤ (n +ℤ growing_total ps ns)) z (omega (arith, ints))
    (over_total w k (m +ℤ n) y.0 z ps ns hk (over_sum w k m n x s y.0 hk h a.0 y.1) a.1 y.2)
