-- The classes of a row as contracts see them.
use Rattle.std.specs.Prelude.{ℕ, Bool, List, [], ◌∷◌, ◌++◌, not, filter, if◌then◌else◌}
use Rattle.std.specs.List.{list_any}
use Rattle.std.specs.Str.{bytes_eq}

-- the names, and for how many more there is room
pub record ClassList : Type 0 where
  pub names : List (List ℕ)
  pub spare : ℕ

-- the names without any place of one name
abbrev pub without : List ℕ → List (List ℕ) → List (List ℕ)
without name names = filter (λ held. not (bytes_eq held name)) names

-- whether a name stands in a list
abbrev pub has_name : List ℕ → List (List ℕ) → Bool
has_name name names = list_any (bytes_eq name) names

-- names with one more at the end, where it is absent
abbrev pub with_name : List ℕ → List (List ℕ) → List (List ℕ)
with_name name names = if has_name name names then names else names ++ name ∷ []
