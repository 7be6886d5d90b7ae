-- Operations on multiples of one over a number: where they are defined, and which multiples they give.
use Rattle.std.proofs.Common.{◌≡◌, ℕ, zero, suc, ◌+◌, ◌*◌, ◌^◌, ◌<◌, ◌≤◌, refl, sym, ◌∙◌, arith, ℤ, pos, negsuc, Bool, false, Some}
use Rattle.std.specs.Prelude.{◌+ℤ◌, ◌*ℤ◌, ◌≤ℤ◌, neg_ℤ, unsigned_abs}
use Rattle.std.proofs.lemmas.Int.{ints}
use Rattle.std.proofs.Math.Nat.{mul-le-mul, mul-le-mul_right}
use borrow.Author.Differences.{lt-false}
use Rattle.tx_frac.specs.Ratio.{Ratio, IsRatio, negated, sum_of, product_of, quotient_of, is_less, add, sub, mul, div, less}
use Rattle.tx_frac.specs.Laws.{DefinedInRange}
use Rattle.tx_frac.proofs.lemmas.Whole.{*ℤ_assoc, *ℤ_right_comm, cancel_pos}
use Rattle.tx_box.specs.Sizes.{cells}
use Rattle.tx_box.specs.Axis.{above_zero, above_zero_in}
use Rattle.tx_box.proofs.Numbers.{same_number}
use Rattle.tx_box.proofs.Amounts.{Known}

-- what is known of fractions, and where operations on them are defined
pub record Facts : Type 0 where
  pub known : Known
  pub defined : DefinedInRange

-- x is at least 0 and at most b over k, and a multiple of 1 over k
pub record IsOver (k b : ℕ) (x : Ratio) : Type 0 where
  pub number : ℕ
  pub is : IsRatio (pos number) k x
  pub at_most : number ≤ b

-- the same from -a over k on
pub record IsBetween (k a b : ℕ) (x : Ratio) : Type 0 where
  pub number : ℤ
  pub is : IsRatio number k x
  pub at_least : pos 0 ≤ℤ (number +ℤ pos a)
  pub at_most : number ≤ℤ pos b

pub over_more : (k b c : ℕ) (x : Ratio) → b ≤ c → IsOver k b x → IsOver k c x
over_more k b c x h o = record { number = o.number; is = o.is; at_most = let p = o.at_most in omega arith }

pub between_more : (k a b c d : ℕ) (x : Ratio) → a ≤ c → b ≤ d → IsBetween k a b x → IsBetween k c d x
between_more k a b c d x h g o = record { number = o.number; is = o.is; at_least = let p = o.at_least in omega (arith, ints); at_most = let p = o.at_most in omega (arith, ints) }

pub between_over : (k b : ℕ) (x : Ratio) → IsOver k b x → IsBetween k 0 b x
between_over k b x o = record { number = pos o.number; is = o.is; at_least = omega (arith, ints); at_most = let p = o.at_most in omega (arith, ints) }

-- over a greater denominator
pub over_wider : Facts → (k j b : ℕ) (x : Ratio) → IsOver k b x → IsOver (k * j) (b * j) x
over_wider f k j b x o = record { number = o.number * j; is = f.known.forms.wider k j (pos o.number) x o.is; at_most = mul-le-mul_right j o.at_most }

-- a factor of both parts can be left out
pub narrower : (k j : ℕ) (n : ℤ) (x : Ratio) → 0 < j → IsRatio (n *ℤ pos j) (k * j) x → IsRatio n k x
narrower k j n x hj h =
    record {
      same =
          cancel_pos (x.num *ℤ pos k) (n *ℤ pos x.den) j hj
          (*ℤ_assoc x.num (pos k) (pos j) ∙ (h.same ∙ *ℤ_right_comm n (pos j) (pos x.den)));
      lowest_terms = h.lowest_terms;
    }

pub over_cells : Facts → (k n m : ℕ) → n ≤ m → IsOver k (m * k) (cells n)
over_cells f k n m h = record { number = n * k; is = f.known.forms.whole (pos n) k; at_most = mul-le-mul_right k h }

-- ---- sums and differences

pub record Defined (k b : ℕ) (answer : Ratio → Type 0) : Type 0 where
  pub value : Ratio
  pub is : answer value
  pub over : IsOver k b value

pub add_defined : Facts → (k a b : ℕ) (x y : Ratio) → 0 < k → k < 2 ^ 127 → a + b < 2 ^ 127 → IsOver k a x → IsOver k b y → Defined k (a + b) (λ z. add x y ≡ Some z)
add_defined f k a b x y hk small room o p =
    let ha = o.at_most in
    let hb = p.at_most in
    record {
      value = sum_of x y;
      is = f.defined.sum k (pos o.number) (pos p.number) x y hk small (omega arith) (omega arith) (omega (arith, ints)) o.is p.is;
      over = record { number = o.number + p.number; is = f.known.sums.sum k (pos o.number) (pos p.number) x y hk o.is p.is; at_most = omega arith };
    }

pub record DefinedBetween (k a b : ℕ) (answer : Ratio → Type 0) : Type 0 where
  pub value : Ratio
  pub is : answer value
  pub between : IsBetween k a b value

pub sub_defined : Facts → (k a b c : ℕ) (x y : Ratio) → 0 < k → k < 2 ^ 127 → a + b + c < 2 ^ 127 → IsBetween k a b x → IsOver k c y → DefinedBetween k (a + c) b (λ z. sub x y ≡ Some z)
unfolding sub
sub_defined f k a b c x y hk small room o p =
    let n = o.number in
    let m = p.number in
    let low = o.at_least in
    let high = o.at_most in
    let hm = p.at_most in
    let q = f.known.sums.opposite k (pos m) y p.is in
    record {
      value = sum_of x (negated y);
      is = f.defined.sum k n (neg_ℤ (pos m)) x (negated y) hk small (size n a b low high (omega arith)) (omega (arith, ints)) (size (n +ℤ neg_ℤ (pos m)) (a + c) b (omega (arith, ints)) (omega (arith, ints)) (omega arith)) o.is q;
      between = record { number = n +ℤ neg_ℤ (pos m); is = f.known.sums.sum k n (neg_ℤ (pos m)) x (negated y) hk o.is q; at_least = omega (arith, ints); at_most = omega (arith, ints) };
    }
  where
    size : (n : ℤ) (a b : ℕ) → pos 0 ≤ℤ (n +ℤ pos a) → n ≤ℤ pos b → a + b < 2 ^ 127 → unsigned_abs n < 2 ^ 127
    size n a b low high room = omega (arith, ints)

-- what is left, or nothing
pub over_above_zero : Facts → (k a b : ℕ) (r : Ratio) → 0 < k → IsBetween k a b r → IsOver k b (above_zero r)
over_above_zero f k a b r hk o = by_sign r.num refl
  where
    natural : (z : ℤ) → pos 0 ≤ℤ z → (n : ℕ) × (z ≡ pos n)
    natural (pos n) h = (n, refl)
    natural (negsuc n) h = absurd (omega (arith, ints))

    signed : (n : ℕ) (z : ℤ) (k d : ℕ) → 0 < d → pos n *ℤ pos k ≡ z *ℤ pos d → pos 0 ≤ℤ z
    signed n (pos m) k d hd e = omega (arith, ints)
    signed n (negsuc m) k (suc d) hd e = absurd (omega (arith, ints))
    signed n (negsuc m) k zero hd e = absurd (omega arith)

    by_sign : (z : ℤ) → r.num ≡ z → IsOver k b (above_zero_in z r)
    by_sign (pos n) e =
        let s = rw e at o.is.same in
        let p = natural o.number (signed n o.number k r.den o.is.lowest_terms.positive s) in
        record { number = p.0; is = same_number k o.number (pos p.0) r p.1 o.is; at_most = let high = rw p.1 at o.at_most in omega (arith, ints) }
    by_sign (negsuc n) e = record { number = 0 * k; is = f.known.forms.whole (pos 0) k; at_most = omega arith }

-- ---- the order

pub record Ordered (m n : ℕ) (answer : Bool → Type 0) : Type 0 where
  pub value : Bool
  pub is : answer value
  pub not_less : value ≡ false → n ≤ m

pub less_defined : Facts → (k a b : ℕ) (x y : Ratio) → 0 < k → a < 2 ^ 127 → b < 2 ^ 127 → (o : IsOver k a x) → (p : IsOver k b y) → Ordered o.number p.number (λ t. less x y ≡ Some t)
less_defined f k a b x y hk ha hb o p =
    let g = o.at_most in
    let h = p.at_most in
    record {
      value = is_less x y;
      is = f.defined.order k (pos o.number) (pos p.number) x y hk (omega arith) (omega arith) o.is p.is;
      not_less = λ e. let q = lt-false (pos o.number) (pos p.number) (sym (f.known.sums.order k (pos o.number) (pos p.number) x y hk o.is p.is) ∙ e) in omega (arith, q);
    }

-- ---- products and quotients

pub mul_defined : Facts → (k l a b : ℕ) (x y : Ratio) → 0 < k → 0 < l → a * b < 2 ^ 127 → k * l < 2 ^ 127 → IsOver k a x → IsOver l b y → Defined (k * l) (a * b) (λ z. mul x y ≡ Some z)
mul_defined f k l a b x y hk hl room small o p =
    let most : o.number * p.number ≤ a * b = mul-le-mul o.at_most p.at_most in
    record {
      value = product_of x y;
      is = f.defined.product k l (pos o.number) (pos p.number) x y hk hl (omega arith) small o.is p.is;
      over = record { number = o.number * p.number; is = f.known.products.product k l (pos o.number) (pos p.number) x y o.is p.is; at_most = most };
    }

pub div_defined : Facts → (k l j a : ℕ) (x y : Ratio) → 0 < k → 0 < l → 0 < j → a * l < 2 ^ 127 → k * j < 2 ^ 127 → IsOver k a x → IsRatio (pos j) l y → Defined (k * j) (a * l) (λ z. div x y ≡ Some z)
div_defined f k l j a x y hk hl hj room small o p =
    let most : o.number * l ≤ a * l = mul-le-mul_right l o.at_most in
    record {
      value = quotient_of x y;
      is = f.defined.quotient k l j (pos o.number) x y hk hl hj (omega arith) small o.is p;
      over = record { number = o.number * l; is = f.known.products.quotient k l j (pos o.number) x y hl hj o.is p; at_most = most };
    }
