-- Cells that are met first.
use Rattle.std.proofs.Common.{◌≡◌, ℕ, zero, suc, ◌+◌, ◌<◌, Bool, true, false, cond, List, [], ◌∷◌, length, map, Option, Some, None, ◌∙◌, refl, sym, ap, arith}
use Rattle.std.proofs.lemmas.List.FromFn.{get_or-map-range_with_len, length-map-range_with_len}
use Rattle.std.proofs.lemmas.Option.{get_or_from_slice_get, same_Some, slice_get_within, some_pair_parts}
use Rattle.std.specs.List.{position_from, range_with_len}
use Rattle.std.specs.Option.{option_or}
use Rattle.std.specs.Prelude.{option_map, slice_get}
use Rattle.tx_owner.specs.Owner.{first_cell}

-- an item of a list passes a test, whose place is counted from a number on
pub record IsMet {A : Type 0} (test : A → Bool) (from : ℕ) (items : List A) (at : ℕ) : Type 0 where
  pub place : ℕ
  pub item : A
  pub is : at ≡ from + place
  pub stands : slice_get items place ≡ Some item
  pub passes : test item ≡ true

none_met : {A B : Type 0} (x : A) → None ≡ Some x → B
none_met x is = absurd (let e : None ≡ Some x = is in cc)

met_by : {A : Type 0} (test : A → Bool) (from : ℕ) (item : A) (items : List A) (at : ℕ) (b : Bool) → test item ≡ b
    → cond b (Some from) (position_from test (from + 1) items) ≡ Some at → (position_from test (from + 1) items ≡ Some at → IsMet test (from + 1) items at) → IsMet test from (item ∷ items) at
met_by test from item items at true passes is rest =
    let same : from ≡ at = same_Some from at is in
    record { place = 0; item = item; is = omega (arith, same); stands = refl; passes = passes }
met_by test from item items at false passes is rest =
    let m = rest is in
    record { place = suc m.place; item = m.item; is = omega (arith, m.is); stands = m.stands; passes = m.passes }

pub met : {A : Type 0} (test : A → Bool) (from : ℕ) (items : List A) (at : ℕ) → position_from test from items ≡ Some at → IsMet test from items at
met test from [] at is = none_met at is
met test from (item ∷ items) at is = met_by test from item items at (test item) refl is (met test (from + 1) items at)

-- a cell of some lines passes a test, whose row is counted from a number on
pub record IsMetIn (test : Option ℕ → Bool) (from : ℕ) (lines : List (List (Option ℕ))) (x y : ℕ) : Type 0 where
  pub above : ℕ
  pub line : List (Option ℕ)
  pub is : y ≡ from + above
  pub stands : slice_get lines above ≡ Some line
  pub at : IsMet test 0 line x

met_in_by : (test : Option ℕ → Bool) (from : ℕ) (line : List (Option ℕ)) (lines : List (List (Option ℕ))) (x y : ℕ) (column : Option ℕ) → position_from test 0 line ≡ column
    → option_or (option_map (λ c. (c, from)) column) (first_cell test (from + 1) lines) ≡ Some (x, y)
    → (first_cell test (from + 1) lines ≡ Some (x, y) → IsMetIn test (from + 1) lines x y) → IsMetIn test from (line ∷ lines) x y
met_in_by test from line lines x y (Some c) here is rest =
    let same = some_pair_parts c x from y is in
    record { above = 0; line = line; is = omega (arith, same.1); stands = refl; at = met test 0 line x (here ∙ ap (λ n. Some n) same.0) }
met_in_by test from line lines x y None here is rest =
    let m = rest is in
    record { above = suc m.above; line = m.line; is = omega (arith, m.is); stands = m.stands; at = m.at }

pub met_in : (test : Option ℕ → Bool) (from : ℕ) (lines : List (List (Option ℕ))) (x y : ℕ) → first_cell test from lines ≡ Some (x, y) → IsMetIn test from lines x y
met_in test from [] x y is = none_met (x, y) is
met_in test from (line ∷ lines) x y is = met_in_by test from line lines x y (position_from test 0 line) refl is (met_in test (from + 1) lines x y)

-- an item of a list that has one for each of so many numbers
pub record IsFrom {A : Type 0} (f : ℕ → A) (count at : ℕ) (item : A) : Type 0 where
  pub within : at < count
  pub is : item ≡ f at

pub from_range : {A : Type 0} (f : ℕ → A) (count at : ℕ) (item : A) → slice_get (map f (range_with_len 0 count)) at ≡ Some item → IsFrom f count at item
from_range f count at item is =
    let inside : at < length (map f (range_with_len 0 count)) = slice_get_within (map f (range_with_len 0 count)) at item is in
    let less : at < count = omega (arith, inside, length-map-range_with_len f 0 count) in
    record { within = less; is = sym (get_or_from_slice_get (map f (range_with_len 0 count)) at item item is) ∙ get_or-map-range_with_len f 0 count at at item less (omega arith) }
