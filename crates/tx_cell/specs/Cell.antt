-- What contracts see of a cell, and the cell that a text makes.
use Rattle.std.specs.Prelude.{◌≡◌, ℕ, ◌-◌, ◌≤◌, ◌==◌, Bool, true, false, ◌&&◌, ◌||◌, nat_lt, List, [], ◌∷◌, length, drop, replicate, count_by, Option, Some, None, if◌then◌else◌, codes}
use Rattle.std.specs.Char.{is_control}
use Rattle.std.specs.List.{list_any}
use Rattle.std.specs.Str.{chars, is_utf8}
use Rattle.unicode_segmentation.specs.Grapheme.{graphemes}
use Rattle.unicode_width.specs.Width.{str_width}
use Rattle.tx_cell.specs.Pen.{HasByteChannels}
use Rattle.tx_cell.specs.Plain.{begins_plain, is_plain}
use Rattle.tx_cell.specs.declared.pen.Pen.{Pen}

-- a cell: the bytes of its text, the columns that it takes, whether it is the tail of a wide cell, and its pen
pub record CellValue : Type 0 where
  pub text : List ℕ
  pub width : ℕ
  pub tail : Bool
  pub pen : Pen

-- the most bytes that the text of a cell has
abbrev pub most_bytes : ℕ
most_bytes = 32

-- the cell that shows a text in so many columns
abbrev pub shown : List ℕ → ℕ → Pen → CellValue
shown text width pen = record { text = text; width = width; tail = false; pen = pen }

-- a blank
abbrev pub blank : Pen → CellValue
blank pen = shown (codes " ") 1 pen

-- U+FFFD, which stands for what can't be shown
abbrev pub replacement : Pen → CellValue
replacement pen = shown (0xEF ∷ 0xBF ∷ 0xBD ∷ []) 1 pen

-- the second column of a wide cell
abbrev pub tail_of : Pen → CellValue
tail_of pen = record { text = []; width = 0; tail = true; pen = pen }

-- the cluster is a tab
abbrev pub is_tab : List ℕ → Bool
is_tab (byte ∷ []) = byte == 9
is_tab _ = false

-- the first character is plain, and another one is
abbrev pub joins_plain : List ℕ → Bool
joins_plain characters = begins_plain characters && nat_lt 1 (count_by is_plain characters)

-- the cluster can't be shown as it is: it has a control character or joins two plain ones
abbrev pub is_unfit : List ℕ → Bool
is_unfit characters = list_any is_control characters || joins_plain characters

-- the cell of a cluster of so many columns that is fit to be shown: one of no columns has none
abbrev pub cell_by_width : List ℕ → ℕ → Pen → Option CellValue
cell_by_width cluster width pen =
    if width == 0 then None
    else if nat_lt 2 width || nat_lt most_bytes (length cluster) then Some (replacement pen)
    else Some (shown cluster width pen)

-- the cell of a grapheme cluster, if it has one: a tab is a blank
unfoldable pub cluster_cell : List ℕ → Pen → Option CellValue
cluster_cell cluster pen =
    if is_tab cluster then Some (blank pen)
    else if is_unfit (chars cluster) then Some (replacement pen)
    else cell_by_width cluster (str_width false (chars cluster)) pen

-- the cell that these clusters make together: several can't be shown in one
abbrev pub cell_of_clusters : List (List ℕ) → Pen → Option CellValue
cell_of_clusters [] pen = None
cell_of_clusters (cluster ∷ []) pen = cluster_cell cluster pen
cell_of_clusters (_ ∷ _) pen = Some (replacement pen)

-- the cell of a text, if it has one
unfoldable pub cell_of : List ℕ → Pen → Option CellValue
cell_of text pen = cell_of_clusters (graphemes true text) pen

-- what a text makes: a cell of one column or two, whose text has no control character and doesn't join two plain ones
pub record IsMade (pen : Pen) (cell : CellValue) : Type 0 where
  pub head : cell.tail ≡ false
  pub some : 1 ≤ cell.width
  pub few : cell.width ≤ 2
  pub pen_is : cell.pen ≡ pen
  pub short : length cell.text ≤ most_bytes
  pub shown : list_any is_control (chars cell.text) ≡ false
  pub apart : joins_plain (chars cell.text) ≡ false

-- the cell is the one that its own text makes, in a pen whose channels are bytes
pub record IsOfItsText (cell : CellValue) : Type 0 where
  pub channels : HasByteChannels cell.pen
  pub utf8 : is_utf8 cell.text ≡ true
  pub own : cell_of cell.text cell.pen ≡ Some cell

-- a cell is a tail or the one that its own text makes, in a pen whose channels are bytes
pub record IsCell (cell : CellValue) : Type 0 where
  pub channels : HasByteChannels cell.pen
  pub tail : cell.tail ≡ true → cell ≡ tail_of cell.pen
  pub text : cell.tail ≡ false → IsOfItsText cell

-- a cell kept as an array, whose spare bytes are 0, and the length of its text
pub record IsStored (bytes : List ℕ) (len : ℕ) (cell : CellValue) : Type 0 where
  pub fits : len ≤ most_bytes
  pub whole : length bytes ≡ most_bytes
  pub spare : drop len bytes ≡ replicate (most_bytes - len) 0
  pub seen : IsCell cell
