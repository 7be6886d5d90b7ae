-- What holds of all pictures.
use Rattle.std.specs.Prelude.{◌≡◌, ℕ, ◌==◌, true, false, nat_lt, List, [], ◌∷◌, Option, Some, None, get_or, codes, if◌then◌else◌}
use Rattle.tx_cell.specs.Cell.{CellValue, blank, shown, tail_of}
use Rattle.tx_cell.specs.declared.pen.Pen.{Pen}
use Rattle.tx_picture.specs.Picture.{empty, is_place, left_owner, right_owner, shown_cell, shown_line}

-- A cell shows what its owner draws there, and nothing else of any row: two lines show the same in a column where one place owns that cell,
-- draws the same there, and owns in both lines the same of the two cells beside it.
pub record AgreeAt (cells others : ℕ → ℕ → CellValue) (owners other_owners : List (Option ℕ)) (x place : ℕ) : Type 0 where
  pub owner : get_or owners x None ≡ Some place
  pub other_owner : get_or other_owners x None ≡ Some place
  pub left : is_place place (left_owner owners x) ≡ is_place place (left_owner other_owners x)
  pub right : is_place place (right_owner owners x) ≡ is_place place (right_owner other_owners x)
  pub drawn : cells place x ≡ others place x

abbrev pub OwnersDecide : Type 0
OwnersDecide =
    (cells others : ℕ → ℕ → CellValue) (owners other_owners : List (Option ℕ)) (x place : ℕ) → AgreeAt cells others owners other_owners x place
    → shown_cell cells owners x ≡ shown_cell others other_owners x

-- a cell of one column shows in full wherever its row owns it
abbrev pub SinglesShow : Type 0
SinglesShow =
    (cells : ℕ → ℕ → CellValue) (owners : List (Option ℕ)) (x place : ℕ) → get_or owners x None ≡ Some place
    → nat_lt 1 (cells place x).width ≡ false → (cells place x).tail ≡ false → shown_cell cells owners x ≡ cells place x

-- a wide cell shows where its row owns the next cell too, and else a blank of its pen
abbrev pub WideNeedBoth : Type 0
WideNeedBoth =
    (cells : ℕ → ℕ → CellValue) (owners : List (Option ℕ)) (x place : ℕ) → get_or owners x None ≡ Some place
    → nat_lt 1 (cells place x).width ≡ true → (cells place x).tail ≡ false
    → (is_place place (right_owner owners x) ≡ true → shown_cell cells owners x ≡ cells place x)
    × (is_place place (right_owner owners x) ≡ false → shown_cell cells owners x ≡ blank (cells place x).pen)

-- a tail shows where its row owns the cell before it too, and else a blank of its pen
abbrev pub TailsNeedBoth : Type 0
TailsNeedBoth =
    (cells : ℕ → ℕ → CellValue) (owners : List (Option ℕ)) (x place : ℕ) → get_or owners x None ≡ Some place → cells place x ≡ tail_of (cells place x).pen
    → (is_place place (left_owner owners x) ≡ true → shown_cell cells owners x ≡ cells place x)
    × (is_place place (left_owner owners x) ≡ false → shown_cell cells owners x ≡ blank (cells place x).pen)

-- ---- a worked line

-- what two places draw in four columns: the first one a wide cluster from the left on, the second one an `x`
abbrev pub wide_and_x : Pen → ℕ → ℕ → CellValue
wide_and_x pen place x =
    if place == 0 then get_or (shown (0xE4 ∷ 0xB8 ∷ 0x96 ∷ []) 2 pen ∷ tail_of pen ∷ blank pen ∷ blank pen ∷ []) x empty else shown (codes "x") 1 pen

-- where the second one owns the second column, the first column is blank
abbrev pub CoveredHalvesAreBlank : Type 0
CoveredHalvesAreBlank =
    (pen : Pen) → shown_line (wide_and_x pen) (Some 0 ∷ Some 1 ∷ Some 0 ∷ Some 0 ∷ []) ≡ blank pen ∷ shown (codes "x") 1 pen ∷ blank pen ∷ blank pen ∷ []
