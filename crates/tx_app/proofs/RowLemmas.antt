-- What the rows of a parse hold after one more use of an argument.
use Rattle.std.proofs.Common.{◌≡◌, ℕ, Bool, true, false, List, [], ◌∷◌, ◌++◌, Some, refl, ap, sym, ◌∙◌, subst, is_some, ◌||◌, true≢false}
use Rattle.std.specs.List.{list_any}
use Rattle.std.specs.Prelude.{unwrap_or}
use Rattle.std.specs.Str.{bytes_eq}
use Rattle.std.proofs.lemmas.Slice.Eq.{bytes_eq-Decides}
use Rattle.clap.specs.Walk.{Row, Text, all_of, has_row, with_values, without}
use Rattle.clap.specs.declared.builder.value_parser.Reading.{Reading}
use Rattle.clap.specs.declared.parser.matches.ValueSource.{ValueSource}

pub bytes_eq-same : (text : List ℕ) → bytes_eq text text ≡ true
bytes_eq-same text = (bytes_eq-Decides text text).1 refl

pub same_text : (a b : List ℕ) → bytes_eq a b ≡ true → a ≡ b
same_text a b = (bytes_eq-Decides a b).0

pub has_row-all_of : (id : Text) (rows : List Row) → has_row id rows ≡ is_some (all_of id rows)
has_row-all_of id [] = refl
has_row-all_of id (r ∷ rs) = of (bytes_eq r.id id) refl (has_row-all_of id rs)
  where
    of : (b : Bool) → bytes_eq r.id id ≡ b → has_row id rs ≡ is_some (all_of id rs) → has_row id (r ∷ rs) ≡ is_some (all_of id (r ∷ rs))
    of true is rest = rw is refl
    of false is rest = rw is rest

pub without-none : (id : Text) (rows : List Row) → has_row id rows ≡ false → without id rows ≡ rows
without-none id [] none = refl
without-none id (r ∷ rs) none = of (bytes_eq r.id id) refl none (without-none id rs)
  where
    of : (b : Bool) → bytes_eq r.id id ≡ b → has_row id (r ∷ rs) ≡ false → (has_row id rs ≡ false → without id rs ≡ rs) → without id (r ∷ rs) ≡ r ∷ rs
    of true is none rest = absurd (true≢false (subst (λ b. (b || list_any (λ x. bytes_eq x.id id) rs) ≡ false) is none))
    of false is none rest = rw is (ap (λ xs. r ∷ xs) (rest (subst (λ b. (b || list_any (λ x. bytes_eq x.id id) rs) ≡ false) is none)))

module _ (id : Text) (how : Reading) (s : ValueSource) (vs : List Text) where
  pub values_of_same : (rows : List Row) → all_of id (with_values id how s vs rows) ≡ Some (unwrap_or (all_of id rows) [] ++ vs)
  values_of_same [] = rw (bytes_eq-same id) refl
  values_of_same (r ∷ rs) = of (bytes_eq r.id id) refl (values_of_same rs)
    where
      of : (b : Bool) → bytes_eq r.id id ≡ b → all_of id (with_values id how s vs rs) ≡ Some (unwrap_or (all_of id rs) [] ++ vs)
          → all_of id (with_values id how s vs (r ∷ rs)) ≡ Some (unwrap_or (all_of id (r ∷ rs)) [] ++ vs)
      of true is rest = rw is (rw is refl)
      of false is rest = rw is (rw is rest)

  pub values_of_other : (other : Text) (rows : List Row) → bytes_eq id other ≡ false → all_of other (with_values id how s vs rows) ≡ all_of other rows
  values_of_other other [] apart = rw apart refl
  values_of_other other (r ∷ rs) apart = of (bytes_eq r.id id) refl (bytes_eq r.id other) refl (values_of_other other rs apart)
    where
      of : (b : Bool) → bytes_eq r.id id ≡ b → (c : Bool) → bytes_eq r.id other ≡ c → all_of other (with_values id how s vs rs) ≡ all_of other rs
          → all_of other (with_values id how s vs (r ∷ rs)) ≡ all_of other (r ∷ rs)
      of true is true at rest = absurd (true≢false (sym at ∙ ap (λ t. bytes_eq t other) (same_text r.id id is) ∙ apart))
      of true is false at rest = rw is (rw at refl)
      of false is true at rest = rw is (rw at refl)
      of false is false at rest = rw is (rw at rest)
