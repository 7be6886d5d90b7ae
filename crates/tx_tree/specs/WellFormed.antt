-- What holds of every tree.
use Rattle.std.specs.Prelude.{◌≡◌, ℕ, ◌+◌, ◌<◌, ◌≤◌, true, false, List, [], ◌∷◌, Option, Some, option_and_then}
use Rattle.tx_tree.specs.Kind.{holds_children, is_screen}
use Rattle.tx_tree.specs.Rows.{row_at, count_of}
use Rattle.tx_tree.specs.TreeValue.{TreeValue}
use Rattle.tx_tree.specs.declared.row.Row.{Row}

-- a row may stand directly after another
pub record MayFollow (last row : Row) : Type 0 where
  pub below_first : 1 ≤ row.depth
  pub shallow : row.depth ≤ 63
  pub step : row.depth ≤ last.depth + 1
  pub held : row.depth ≡ last.depth + 1 → holds_children last.kind ≡ true
  pub no_screen : is_screen row.kind ≡ false

-- the rows may stand after a row, one after another
abbrev pub MayAllFollow : Row → List Row → Type 0
MayAllFollow last [] = Unit {0}
MayAllFollow last (row ∷ rows) = MayFollow last row × MayAllFollow row rows

-- the first row is the Screen, of the number 1 and the depth 0
pub record IsFirst (row : Row) : Type 0 where
  pub number : row.node.0 ≡ 1
  pub depth : row.depth ≡ 0
  pub screen : is_screen row.kind ≡ true

-- rows in preorder
abbrev pub IsPreorder : List Row → Type 0
IsPreorder [] = ⊥
IsPreorder (row ∷ rows) = IsFirst row × MayAllFollow row rows

-- the id of the row with a number
abbrev pub id_of : ℕ → List Row → Option (List ℕ)
id_of n rows = option_and_then (λ row. row.id) (row_at n rows)

-- a tree: rows in preorder, of which no two have one number or one id
pub record IsTree (tree : TreeValue) : Type 0 where
  pub preorder : IsPreorder tree.rows
  pub once : (n : ℕ) → count_of n tree.rows ≤ 1
  pub in_range : (n : ℕ) → 0 < count_of n tree.rows → (1 ≤ n) × (n ≤ tree.made)
  pub one_id : (n m : ℕ) (name : List ℕ) → id_of n tree.rows ≡ Some name → id_of m tree.rows ≡ Some name → n ≡ m
  pub few : tree.made ≤ 65536
