-- What forests and measures depend on.
use Rattle.std.specs.Prelude.{◌≡◌, ⊤, ℕ, ◌<◌, ◌≤◌, List, [], ◌∷◌, ◌++◌, Option, All}
use Rattle.tx_geom.specs.declared.places.Size.{Size}
use Rattle.tx_sizes.specs.Forest.{Styled, Grown, forest, preorder, depth}
use Rattle.tx_sizes.specs.Measures.{Pictures, first_measure, picture_of}

-- rows are deeper than a depth
abbrev pub AreDeeper : ℕ → List Styled → Type 0
AreDeeper least rows = All (λ row. least < depth row) rows

-- rows begin with one that isn't, if there is one
abbrev pub BeginsBeside : ℕ → List Styled → Type 0
BeginsBeside least [] = ⊤
BeginsBeside least (row ∷ rows) = depth row ≤ least

-- the objects of handed-in rows have the same pictures
abbrev pub SamePictures : Pictures → Pictures → List Styled → Type 0
SamePictures pictures others rows = All (λ row. picture_of pictures row.row ≡ picture_of others row.row) rows

-- a forest has its rows in their order
abbrev pub KeepsRows : Type 0
KeepsRows = (rows : List Styled) → preorder (forest rows) ≡ rows

-- Below a row stand the deeper ones directly after it, and nothing else; the others stand beside it.
abbrev pub SubtreesStandAlone : Type 0
SubtreesStandAlone =
    (row : Styled) (below after : List Styled) → AreDeeper (depth row) below → BeginsBeside (depth row) after
    → forest (row ∷ (below ++ after)) ≡ Grown row (forest below) (forest after)

-- What a row measures depends on nothing but the width and the area that are asked for, the screen, and the row and the rows
-- below it with their styles and the pictures of those that are handed in: whatever stands after these rows and whatever pictures
-- the other nodes have, it is the same.
abbrev pub SubtreesDecide : Type 0
SubtreesDecide =
    (row : Styled) (below after other : List Styled) → AreDeeper (depth row) below → BeginsBeside (depth row) after → BeginsBeside (depth row) other
    → (pictures others : Pictures) → SamePictures pictures others (row ∷ below) → (screen : Size) (width : Option ℕ) (area : Size)
    → first_measure pictures screen (forest (row ∷ (below ++ after))) width area ≡ first_measure others screen (forest (row ∷ (below ++ other))) width area
