-- The cells of a pane are those of the screen at which its entry shows.
use Rattle.std.proofs.Common.{◌≡◌, ℕ, ◌<◌, ◌∙◌, sym, ap, refl, Bool, true, false, not, ◌&&◌, cond, ℤ, pos, negsuc, ◌+ℤ◌, nat_le, nat_lt, arith, ⊎_elim}
use Rattle.std.specs.Prelude.{int_lt}
use Rattle.std.specs.Int.{int_max, int_min}
use Rattle.std.proofs.lemmas.Bool.{cases_Bool}
use Rattle.std.proofs.lemmas.Bool.Decides.{nat_tests}
use Rattle.std.proofs.lemmas.Int.{ints}
use Rattle.tx_geom.specs.declared.places.Size.{Size}
use Rattle.tx_owner.specs.Owner.{Placed, is_among, is_seen, is_within, shows_at}
use Rattle.tx_owner.specs.Panes.{covers, end_of, first_of, has_cells, kept_in, pane_of}
use Rattle.tx_sizes.specs.Forest.{Styles}

from_kept : (most x : ℕ) (z : ℤ) → x < most → nat_le (kept_in most z) x ≡ not (int_lt (pos x) z)
from_kept most x (pos n) inside = grind (arith, nat_tests)
from_kept most x (negsuc n) inside = grind (arith, nat_tests)

to_kept : (most x : ℕ) (z : ℤ) → x < most → nat_lt x (kept_in most z) ≡ int_lt (pos x) z
to_kept most x (pos n) inside = grind (arith, nat_tests)
to_kept most x (negsuc n) inside = grind (arith, nat_tests)

from_both : (p a c : ℤ) → not (int_lt p (int_max a c)) ≡ (not (int_lt p a) && not (int_lt p c))
from_both p a c = by (int_lt c a) (int_lt p a) (int_lt p c) refl refl refl
  where
    by : (t u v : Bool) → int_lt c a ≡ t → int_lt p a ≡ u → int_lt p c ≡ v → not (int_lt p (cond t a c)) ≡ (not u && not v)
    by true true v e f g = rw f refl
    by true false true e f g = absurd (omega (arith, ints))
    by true false false e f g = rw f refl
    by false true true e f g = rw g refl
    by false true false e f g = absurd (omega (arith, ints))
    by false false v e f g = ap not g

to_both : (p a c : ℤ) → int_lt p (int_min a c) ≡ (int_lt p a && int_lt p c)
to_both p a c = by (int_lt c a) (int_lt p a) (int_lt p c) refl refl refl
  where
    by : (t u v : Bool) → int_lt c a ≡ t → int_lt p a ≡ u → int_lt p c ≡ v → int_lt p (cond t c a) ≡ (u && v)
    by true true v e f g = g
    by true false true e f g = absurd (omega (arith, ints))
    by true false false e f g = g
    by false true true e f g = f
    by false true false e f g = absurd (omega (arith, ints))
    by false false v e f g = f

shuffled : (a b c d : Bool) → ((a && b) && (c && d)) ≡ ((a && c) && (b && d))
shuffled true true c d = by c d
  where
    by : (c d : Bool) → (c && d) ≡ (c && d)
    by c d = refl
shuffled true false c d = by c
  where
    by : (c : Bool) → false ≡ (c && false)
    by true = refl
    by false = refl
shuffled false b c d = refl

-- both runs hold a column where it is from the later start on and before the earlier end
among_both : (most x : ℕ) (a : ℤ) (n : ℕ) (c : ℤ) (m : ℕ) → x < most → (nat_le (first_of most a c) x && nat_lt x (end_of most a n c m)) ≡ (is_among a n x && is_among c m x)
among_both most x a n c m inside =
    rw (from_kept most x (int_max a c) inside, to_kept most x (int_min (a +ℤ pos n) (c +ℤ pos m)) inside, from_both (pos x) a c, to_both (pos x) (a +ℤ pos n) (c +ℤ pos m))
    (shuffled (not (int_lt (pos x) a)) (not (int_lt (pos x) c)) (int_lt (pos x) (a +ℤ pos n)) (int_lt (pos x) (c +ℤ pos m)))

-- a pane covers the cells of the screen at which its entry shows, where it is seen
pub covers-shows : (styles : Styles) (size : Size) (x y : ℕ) (placed : Placed) → x < size.width → y < size.height
    → shows_at styles x y placed.entry ≡ (is_seen styles placed.entry && covers x y (pane_of size placed))
unfolding shows_at
covers-shows styles size x y placed wide tall =
    let r = placed.entry.region in
    let c = placed.entry.clip in
    ap (λ b. is_seen styles placed.entry && b)
    (shuffled (is_among r.x r.width x) (is_among r.y r.height y) (is_among c.x c.width x) (is_among c.y c.height y)
    ∙ sym (rw (among_both size.width x r.x r.width c.x c.width wide, among_both size.height y r.y r.height c.y c.height tall) refl))

-- what covers a cell has cells
pub covers-has : (size : Size) (x y : ℕ) (placed : Placed) → covers x y (pane_of size placed) ≡ true → has_cells (pane_of size placed) ≡ true
covers-has size x y placed is = by (pane_of size placed).left (pane_of size placed).right (pane_of size placed).top (pane_of size placed).bottom is
  where
    by : (l r t b : ℕ) → ((nat_le l x && nat_lt x r) && (nat_le t y && nat_lt y b)) ≡ true → (nat_lt l r && nat_lt t b) ≡ true
    by l r t b is = grind (arith, nat_tests)
