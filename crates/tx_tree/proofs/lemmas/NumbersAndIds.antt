-- Numbers and ids in lists of rows.
use Rattle.std.proofs.Common.{◌≡◌, ℕ, ◌+◌, true, false, List, [], ◌∷◌, ◌++◌, Option, Some, None, refl, ap, arith}
use Rattle.std.specs.Option.{option_eq}
use Rattle.std.specs.Str.{bytes_eq}
use Rattle.std.proofs.lemmas.Bool.{false≢true}
use Rattle.std.proofs.lemmas.Slice.Eq.{bytes_eq-Decides}
use Rattle.tx_tree.proofs.Counting.{none-head, none-tail}
use Rattle.tx_tree.specs.Row.{has_number}
use Rattle.tx_tree.specs.Rows.{row_at, count_of}
use Rattle.tx_tree.specs.declared.row.Row.{Row}

pub count_of-append : (n : ℕ) (xs ys : List Row) → count_of n (xs ++ ys) ≡ count_of n xs + count_of n ys
count_of-append n [] ys = omega arith
count_of-append n (row ∷ xs) ys = omega (arith, count_of-append n xs ys)

-- rows without the number are passed over
pub row_at-skip : (n : ℕ) (xs ys : List Row) → count_of n xs ≡ 0 → row_at n (xs ++ ys) ≡ row_at n ys
row_at-skip n [] ys h = refl
row_at-skip n (row ∷ xs) ys h =
    let test : has_number n row ≡ false = none-head _ _ h in
    rw test (row_at-skip n xs ys (none-tail _ _ h))

-- what the test of an id says
pub id_from_test : (id : Option (List ℕ)) (name : List ℕ) → option_eq bytes_eq id (Some name) ≡ true → id ≡ Some name
id_from_test None name h = absurd (false≢true h)
id_from_test (Some held) name h = ap (λ (z : List ℕ). Some z) ((bytes_eq-Decides held name).0 h)
