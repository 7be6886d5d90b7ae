-- Rows whose styles have numbers as stylesheets write them, and that what these rows measure is defined.
use Rattle.std.specs.Prelude.{⊤, ℕ, ◌+◌, ◌≤◌, List, length, Option, All, IfSome, IsSomeAnd}
use Rattle.tx_box.specs.Ordinary.{IsCells, IsOrdinarySize}
use Rattle.tx_geom.specs.declared.places.Size.{Size}
use Rattle.tx_layout.specs.Ordinary.{AnswersOrdinary, AreOrdinaryChildren, IsOrdinaryWidth}
use Rattle.tx_look.specs.Boxes.{grid_style}
use Rattle.tx_look.specs.Ordinary.{IsOrdinaryValue}
use Rattle.tx_sizes.specs.Forest.{Forest, Empty, Grown}
use Rattle.tx_sizes.specs.Measures.{Measure, Picture, Pictures, answer_of, boxes, measures}
use Rattle.tx_value.specs.declared.value.Value.{Value}

-- how many rows stand beside each other
abbrev pub count_beside : Forest → ℕ
count_beside Empty = 0
count_beside (Grown row below beside) = 1 + count_beside beside

-- the sizes in a style have at most 9 whole digits and 3 decimals
abbrev pub IsOrdinaryStyled : List Value → Type 0
IsOrdinaryStyled style = All IsOrdinaryValue style

-- so they are in each row, and no row has more than 1,000 children
abbrev pub AreOrdinary : Forest → Type 0
AreOrdinary Empty = ⊤
AreOrdinary (Grown row below beside) = IsOrdinaryStyled row.style × ((count_beside below ≤ 1000) × (AreOrdinary below × AreOrdinary beside))

-- an object measures less than 2^32 cells
pub record IsOrdinaryPicture (picture : Picture) : Type 0 where
  pub wide : IsCells picture.wide
  pub tall : (width : ℕ) → IsCells (picture.tall width)

-- so does each
abbrev pub AreOrdinaryPictures : Pictures → Type 0
AreOrdinaryPictures pictures = (n : ℕ) → IfSome (pictures n) IsOrdinaryPicture

-- a row measures something in each area of at most 2^23 cells, and at each width of at most 65,535
abbrev pub IsOrdinaryMeasure : Measure → Type 0
IsOrdinaryMeasure measure = (width : Option ℕ) (area : Size) → IsOrdinaryWidth width → IsOrdinarySize area → IsSomeAnd (measure width area) IsCells

-- Such rows measure something there, and what a container needs of them holds.
pub record OrdinaryRows : Type 0 where
  pub each_row : (pictures : Pictures) (screen : Size) (rows : Forest) → AreOrdinaryPictures pictures → IsOrdinarySize screen → AreOrdinary rows
      → All IsOrdinaryMeasure (measures pictures screen rows)
  pub answers : (pictures : Pictures) (screen : Size) (own : List Value) (rows : Forest) → AreOrdinaryPictures pictures → IsOrdinarySize screen → AreOrdinary rows
      → AnswersOrdinary (length (boxes own rows)) (answer_of (measures pictures screen rows))
  pub children : (screen : Size) (own : List Value) (rows : Forest) → IsOrdinarySize screen → IsOrdinaryStyled own → count_beside rows ≤ 1000 → AreOrdinary rows
      → AreOrdinaryChildren (boxes own rows) (grid_style own) screen
