-- The cells that texts make.
use Rattle.std.proofs.Common.{◌≡◌, ℕ, List, [], ◌∷◌, true, refl, inl, inr, arith, lit≤, Some}
use Rattle.std.proofs.lemmas.Bool.{or_parts}
use Rattle.std.specs.Str.{chars, is_utf8}
use Rattle.unicode_segmentation.specs.Grapheme.{graphemes}
use Rattle.unicode_segmentation.proofs.Computing.{unicode_segmentation}
use Rattle.unicode_width.proofs.Computing.{unicode_width}
use Rattle.tx_cell.proofs.CellLemmas.{cluster_cell-cases}
use Rattle.tx_cell.specs.Cell.{CellValue, IsMade, IsOfItsText, cell_of, cell_of_clusters, cluster_cell, blank, replacement}
use Rattle.tx_cell.specs.Laws.{TextsMakeCells, NothingMakesNoCell}
use Rattle.tx_cell.specs.Pen.{HasByteChannels, white_on_black}
use Rattle.tx_cell.specs.declared.pen.Pen.{Pen}

IsMade-blank : (pen : Pen) → IsMade pen (blank pen)
unfolding chars
IsMade-blank pen = record { head = refl; some = omega arith; few = omega arith; pen_is = refl; short = omega arith; shown = refl; apart = refl }

IsMade-replacement : (pen : Pen) → IsMade pen (replacement pen)
unfolding chars
IsMade-replacement pen = record { head = refl; some = omega arith; few = omega arith; pen_is = refl; short = omega arith; shown = refl; apart = refl }

IsMade-cluster : (cluster : List ℕ) (pen : Pen) (cell : CellValue) → cluster_cell cluster pen ≡ Some cell → IsMade pen cell
IsMade-cluster cluster pen cell made = elim (cluster_cell-cases cluster pen cell made) [
  | inl blank_is ↦ rw blank_is (IsMade-blank pen)
  | inr others ↦ elim others [
    | inl replacement_is ↦ rw replacement_is (IsMade-replacement pen)
    | inr shows ↦ rw shows.is (record {
      head = refl;
      some = shows.some;
      few = shows.few;
      pen_is = refl;
      short = shows.fits;
      shown = (or_parts _ _ shows.fit).0;
      apart = (or_parts _ _ shows.fit).1;
    })
  ]
]

IsMade-clusters : (clusters : List (List ℕ)) (pen : Pen) (cell : CellValue) → cell_of_clusters clusters pen ≡ Some cell → IsMade pen cell
IsMade-clusters [] pen cell made = cc
IsMade-clusters (cluster ∷ []) pen cell made = IsMade-cluster cluster pen cell made
IsMade-clusters (first ∷ second ∷ more) pen cell made = let is_replacement : cell ≡ replacement pen = cc in rw is_replacement (IsMade-replacement pen)

-- what is said of the cells that texts make holds of each
pub cell_of-IsMade : TextsMakeCells
unfolding cell_of
cell_of-IsMade text pen cell made = IsMade-clusters (graphemes true text) pen cell made

-- no bytes make no cell
pub cell_of-nothing : NothingMakesNoCell
unfolding cell_of unicode_segmentation
cell_of-nothing pen = refl

-- what is said of them holds of a cell that its own text makes
pub IsMade-own : (cell : CellValue) → IsOfItsText cell → IsMade cell.pen cell
IsMade-own cell own = cell_of-IsMade cell.text cell.pen cell own.own

pub white_on_black-channels : HasByteChannels white_on_black
white_on_black-channels = record { fore_r = lit≤ tt; fore_g = lit≤ tt; fore_b = lit≤ tt; back_r = lit≤ tt; back_g = lit≤ tt; back_b = lit≤ tt }

-- the text of a blank makes a blank
pub IsOfItsText-blank : (pen : Pen) → HasByteChannels pen → IsOfItsText (blank pen)
unfolding cell_of cluster_cell is_utf8 unicode_segmentation unicode_width
IsOfItsText-blank pen channels = record { channels = channels; utf8 = refl; own = refl }
