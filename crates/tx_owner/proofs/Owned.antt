-- Who owns a cell, and that each cell is owned.
use Rattle.std.proofs.Common.{◌≡◌, ℕ, zero, suc, ◌+◌, ◌<◌, ◌∙◌, sym, ap, refl, subst, Bool, true, false, not, ◌&&◌, ◌||◌, cond, List, [], ◌∷◌, map, length, get_or, pos, ◌+ℤ◌, ⊎_elim, arith, nat_cmp, is_lt}
use Rattle.std.specs.Prelude.{Option, Some, None, int_lt, slice_get}
use Rattle.std.specs.Cmp.{IsStrictWeakOrder}
use Rattle.std.specs.Cmp.Lexicographic.{slice_cmp}
use Rattle.std.specs.List.{AllByRecursion, filter, find, list_any}
use Rattle.std.proofs.lemmas.Bool.{cases_Bool, false≢true}
use Rattle.std.proofs.lemmas.Cmp.{nat_list_cmp_total}
use Rattle.std.proofs.lemmas.Int.{ints}
use Rattle.std.proofs.lemmas.List.Elements.{All-from_recursion}
use Rattle.std.proofs.lemmas.List.MinMax.{IsStrictWeakOrder-flip, ranks_by}
use Rattle.std.proofs.lemmas.Option.{get_or_from_slice_get, none-some, slice_get_within}
use Rattle.tx_cascade.specs.Key.{exceeds, greatest, is_greatest}
use Rattle.tx_geom.specs.declared.places.Size.{Size}
use Rattle.tx_map.specs.Laws.{FillsScreen, whole_screen}
use Rattle.tx_map.specs.declared.entry.Entry.{Entry}
use Rattle.tx_owner.specs.Laws.{EachCellIsOwned, IsTopmost, OwnersAreOfCells, TopmostIsThat}
use Rattle.tx_owner.specs.Owner.{Placed, all_at, at_cell, is_among, is_empty_key, is_seen, is_within, line_owners, owner, owners, placed_from, shows_at, topmost}
use Rattle.tx_sizes.specs.Forest.{Styles}
use Rattle.tx_owner.proofs.Filters.{any-both, any-none}
use Rattle.tx_owner.proofs.Ranges.{at_place}
use Rattle.tx_owner.proofs.Topmost.{exceeds-cmp}

-- ---- what is found

some-same : {A : Type 0} (x y : A) → Some x ≡ Some y → x ≡ y
some-same {A} x y is = ap (λ (o : Option A). by o) is
  where
    by : Option A → A
    by None = x
    by (Some z) = z

pub find-is : {A : Type 0} (P : A → Type 0) (p : A → Bool) (xs : List A) (x : A) → AllByRecursion P xs → find p xs ≡ Some x → P x × (p x ≡ true)
find-is P p [] x all is = absurd (none-some x is)
find-is {A} P p (a ∷ xs) x all is = ⊎_elim
    (λ passes. let same : a ≡ x = some-same a x (rw passes at is) in subst (λ (b : A). P b × (p b ≡ true)) same (all.0, passes))
    (λ fails. find-is P p xs x all.1 (rw fails at is))
    (cases_Bool (p a))

filter-all : {A : Type 0} (P : A → Type 0) (p : A → Bool) (xs : List A) → AllByRecursion P xs → AllByRecursion (λ x. P x × (p x ≡ true)) (filter p xs)
filter-all P p [] all = tt
filter-all P p (x ∷ xs) all = ⊎_elim (λ is. rw is ((all.0, is), filter-all P p xs all.1)) (λ is. rw is (filter-all P p xs all.1)) (cases_Bool (p x))

-- ---- entries with their places

stand : (whole : List Entry) (place : ℕ) (entries : List Entry) → ((i : ℕ) → slice_get entries i ≡ slice_get whole (place + i)) → AllByRecursion (λ placed. slice_get whole placed.place ≡ Some placed.entry) (placed_from place entries)
stand whole place [] at = tt
stand whole place (entry ∷ entries) at = (
  ap (slice_get whole) (let e : place ≡ place + 0 = omega arith in e) ∙ sym (at 0),
  stand whole (place + 1) entries (λ i. at (suc i) ∙ ap (slice_get whole) (let e : place + suc i ≡ place + 1 + i = omega arith in e)),
)

any_placed : (p : Entry → Bool) (place : ℕ) (entries : List Entry) → list_any (λ placed. p placed.entry) (placed_from place entries) ≡ list_any p entries
any_placed p place [] = refl
any_placed p place (entry ∷ entries) = ap (λ b. p entry || b) (any_placed p (place + 1) entries)

none_at : {A : Type 0} (p : A → Bool) (xs : List A) (i : ℕ) (x : A) → list_any p xs ≡ false → slice_get xs i ≡ Some x → p x ≡ false
none_at p xs i x none is = subst (λ a. p a ≡ false) (get_or_from_slice_get xs i x x is) (All-from_recursion (λ a. p a ≡ false) xs (any-none p xs none) i x (slice_get_within xs i x is))

not_none : (b : Bool) → not b ≡ true → b ≡ false
not_none false is = refl
not_none true is = sym is

only_second : (a b : Bool) → a ≡ true → (a && b) ≡ false → b ≡ false
only_second true b is none = none
only_second false b is none = absurd (false≢true is)

pub topmost_that : TopmostIsThat
topmost_that styles entries x y placed is =
    let shows : Placed → Bool = λ p. shows_at styles x y p.entry in
    let stands : Placed → Type 0 = λ p. slice_get entries p.place ≡ Some p.entry in
    let all = filter-all stands shows (placed_from 0 entries) (stand entries 0 entries (λ i. ap (slice_get entries) (let e : i ≡ 0 + i = omega arith in e))) in
    let key = placed.entry.key in
    let one = find-is (λ p. stands p × (shows p ≡ true)) (is_greatest (λ p. p.entry.key) (all_at styles entries x y)) (all_at styles entries x y) placed all is in
    let none : list_any (λ e. shows_at styles x y e && exceeds e.key key) entries ≡ false =
    sym (any_placed (λ e. shows_at styles x y e && exceeds e.key key) 0 entries)
    ∙ (sym (any-both (λ p. exceeds p.entry.key key) shows (placed_from 0 entries)) ∙ not_none _ one.1) in
    record {
      stands = one.0.0;
      shows = one.0.1;
      over = λ place other at seen. only_second (shows_at styles x y other) (exceeds other.key key) seen (none_at (λ e. shows_at styles x y e && exceeds e.key key) entries place other none at);
    }

-- ---- the owners of all cells

pub of_cells : OwnersAreOfCells
of_cells styles entries size x y wide tall =
    rw (at_place (λ y. line_owners styles entries size.width y) size.height y tall, at_place (λ x. owner styles entries x y) size.width x wide) refl

-- ---- there is a greatest of some

all-mapped : {A : Type 0} (P Q : A → Type 0) → ((a : A) → P a → Q a) → (xs : List A) → AllByRecursion P xs → AllByRecursion Q xs
all-mapped P Q f [] all = tt
all-mapped P Q f (x ∷ xs) all = (f x all.0, all-mapped P Q f xs all.1)

none-any : {A : Type 0} (p : A → Bool) (xs : List A) → AllByRecursion (λ x. p x ≡ false) xs → list_any p xs ≡ false
none-any p [] all = refl
none-any p (x ∷ xs) all = rw all.0 (none-any p xs all.1)

found-some : {A : Type 0} (p : A → Bool) (xs : List A) → list_any p xs ≡ true → (a : A) × (find p xs ≡ Some a)
found-some p [] some = absurd (false≢true some)
found-some p (x ∷ xs) some = ⊎_elim
    (λ is. (x, rw is refl))
    (λ is. let rest = found-some p xs (rw is at some) in (rest.0, rw is rest.1))
    (cases_Bool (p x))

or-second : (a b : Bool) → b ≡ true → (a || b) ≡ true
or-second true b is = refl
or-second false b is = is

module _ {A : Type 0} (parts : A → List ℕ) where
  by-parts : IsStrictWeakOrder (λ (a b : A). is_lt (slice_cmp nat_cmp (parts b) (parts a)))
  by-parts = IsStrictWeakOrder-flip (λ (a b : A). is_lt (slice_cmp nat_cmp (parts a) (parts b))) (ranks_by nat_list_cmp_total parts)

  one-way : (a b : A) → exceeds (parts a) (parts b) ≡ true → exceeds (parts b) (parts a) ≡ false
  one-way a b over = exceeds-cmp (parts b) (parts a) ∙ by-parts.one_way a b (sym (exceeds-cmp (parts a) (parts b)) ∙ over)

  chain : (a b c : A) → exceeds (parts a) (parts b) ≡ false → exceeds (parts b) (parts c) ≡ false → exceeds (parts a) (parts c) ≡ false
  chain a b c first second =
      exceeds-cmp (parts a) (parts c) ∙ by-parts.chain a b c (sym (exceeds-cmp (parts a) (parts b)) ∙ first) (sym (exceeds-cmp (parts b) (parts c)) ∙ second)

  itself : (a : A) → exceeds (parts a) (parts a) ≡ false
  itself a = ⊎_elim (λ over. one-way a a over) (λ none. none) (cases_Bool (exceeds (parts a) (parts a)))

  record HasGreatest (xs : List A) : Type 0 where
    one : A
    passes : AllByRecursion (λ a. exceeds (parts a) (parts one) ≡ false) xs
    inside : (p : A → Bool) → p one ≡ true → list_any p xs ≡ true

  has_greatest : (x : A) (xs : List A) → HasGreatest (x ∷ xs)
  has_greatest x [] = record { one = x; passes = (itself x, tt); inside = λ p is. rw is refl }
  has_greatest x (y ∷ ys) =
      let rest : HasGreatest (y ∷ ys) = has_greatest y ys in
      ⊎_elim
      (λ over. record {
        one = x;
        passes = (itself x, all-mapped (λ a. exceeds (parts a) (parts rest.one) ≡ false) (λ a. exceeds (parts a) (parts x) ≡ false) (λ a under. chain a rest.one x under (one-way x rest.one over)) (y ∷ ys) rest.passes);
        inside = λ p is. rw is refl;
      })
      (λ under. record {
        one = rest.one;
        passes = (under, rest.passes);
        inside = λ p is. or-second (p x) (list_any p (y ∷ ys)) (rest.inside p is);
      })
      (cases_Bool (exceeds (parts x) (parts rest.one)))

  greatest-some : (x : A) (xs : List A) → (a : A) × (greatest parts (x ∷ xs) ≡ Some a)
  greatest-some x xs =
      let has = has_greatest x xs in
      found-some (is_greatest parts (x ∷ xs)) (x ∷ xs) (has.inside (is_greatest parts (x ∷ xs)) (ap not (none-any (λ b. exceeds (parts b) (parts has.one)) (x ∷ xs) has.passes)))

-- ---- each cell is owned

among-whole : (count at : ℕ) → at < count → is_among (pos 0) count at ≡ true
among-whole count at within = by (int_lt (pos at) (pos 0)) (int_lt (pos at) (pos 0 +ℤ pos count)) refl refl
  where
    by : (a b : Bool) → int_lt (pos at) (pos 0) ≡ a → int_lt (pos at) (pos 0 +ℤ pos count) ≡ b → (not a && b) ≡ true
    by false true low high = refl
    by false false low high = absurd (omega (arith, ints, within))
    by true b low high = absurd (omega (arith, ints))

within-whole : (size : Size) (x y : ℕ) → x < size.width → y < size.height → is_within (whole_screen size) x y ≡ true
within-whole size x y wide tall = rw (among-whole size.width x wide, among-whole size.height y tall) refl

screen-shows : (styles : Styles) (first : Entry) (size : Size) (x y : ℕ) → FillsScreen size first → x < size.width → y < size.height → shows_at styles x y first ≡ true
unfolding shows_at
screen-shows styles first size x y fills wide tall =
    let inside = within-whole size x y wide tall in
    let seen : is_empty_key first.key ≡ true = ap is_empty_key fills.key in
    let region : is_within first.region x y ≡ true = ap (λ r. is_within r x y) fills.region ∙ inside in
    let clip : is_within first.clip x y ≡ true = ap (λ r. is_within r x y) fills.clip ∙ inside in
    rw (seen, region, clip) refl

pub each_owned : EachCellIsOwned
each_owned styles first entries size fills x y wide tall =
    let front : Placed = record { place = 0; entry = first } in
    let rest : List Placed = filter (λ p. shows_at styles x y p.entry) (placed_from 1 entries) in
    let all : all_at styles (first ∷ entries) x y ≡ front ∷ rest = rw (screen-shows styles first size x y fills wide tall) refl in
    let some = greatest-some (λ (p : Placed). p.entry.key) front rest in
    (some.0, ap (greatest (λ p. p.entry.key)) all ∙ some.1)
