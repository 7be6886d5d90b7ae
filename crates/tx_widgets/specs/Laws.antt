-- What holds of all that is drawn: a text of one line loses no cell at the width that it wants, and what counts is seen.
use Rattle.std.specs.Prelude.{◌≡◌, ◌<◌, ◌≤◌, ◌+◌, ℕ, Bool, true, false, List, [], ◌∷◌, ◌++◌, map, replicate}
use Rattle.tx_cell.specs.Cell.{CellValue}
use Rattle.tx_cell.specs.Lines.{text_lines}
use Rattle.tx_cell.specs.Strip.{line_cells}
use Rattle.tx_cell.specs.declared.pen.Pen.{Pen}
use Rattle.tx_tree.specs.declared.kind.Kind.{Kind}
use Rattle.tx_tree.specs.declared.kind.Kind.TheVariants.{Static, Label, Button, Checkbox, Input, Header, Footer}
use Rattle.tx_tree.specs.declared.kind.Private.TheVariants.{Bar}
use Rattle.tx_widgets.specs.Drawing.{bar_row, done_columns, drawn_row, first_of, thick, thin}
use Rattle.tx_widgets.specs.Field.{cursor_column, first_column}
use Rattle.tx_widgets.specs.Measures.{full_width, most, wanted_width}
use Rattle.tx_widgets.specs.Options.{first_option}
use Rattle.tx_widgets.specs.declared.drawing.face.Face.{Face}

-- the texts of cells
abbrev pub texts : List CellValue → List (List ℕ)
texts cells = map (λ cell. cell.text) cells

-- all of these cells stand in a row, one after the other, in whichever pen
pub record HasAll (cells row : List CellValue) : Type 0 where
  pub before : List (List ℕ)
  pub behind : List (List ℕ)
  pub whole : texts row ≡ before ++ (texts cells ++ behind)

-- one of the rows of a face has all of these cells
pub record ShowsAll (face : Face) (cells : List CellValue) : Type 0 where
  pub row : ℕ
  pub inside : row < face.content.height
  pub all : HasAll cells (drawn_row face row)

-- the content has a row and is as wide as the face wants, where that number isn't cut
pub record HasItsWidth (face : Face) : Type 0 where
  pub some : 0 < face.content.height
  pub width : face.content.width ≡ wanted_width face.kind face.text.now face.pen
  pub uncut : full_width face.kind face.text.now face.pen ≤ most

-- whether a kind draws its text in wrapped lines
abbrev pub draws_lines : Kind → Bool
draws_lines Static = true
draws_lines Label = true
draws_lines Button = true
draws_lines Header = true
draws_lines Footer = true
draws_lines _ = false

-- a text of one line is shown whole
abbrev pub LinesAreWhole : Type 0
LinesAreWhole = (face : Face) (line : List ℕ) → draws_lines face.kind ≡ true → text_lines face.text.now ≡ line ∷ [] → HasItsWidth face → ShowsAll face (line_cells line face.pen)

-- so is the first line of a Checkbox
abbrev pub BoxesAreWhole : Type 0
BoxesAreWhole = (face : Face) → face.kind ≡ Checkbox → HasItsWidth face → ShowsAll face (line_cells (first_of (text_lines face.text.now)) face.pen)

-- so is the text of an Input
abbrev pub FieldsAreWhole : Type 0
FieldsAreWhole = (face : Face) → face.kind ≡ Input → HasItsWidth face → ShowsAll face (line_cells face.text.now face.pen)

-- a place is one of so many from the first that is shown
pub record IsShown (first count place : ℕ) : Type 0 where
  pub from : first ≤ place
  pub before : place < first + count

-- the cursor of an Input is in a column that is shown, where there is one
abbrev pub CursorsAreShown : Type 0
CursorsAreShown = (at width : ℕ) (pen : Pen) (text : List ℕ) → 0 < width → IsShown (first_column at width pen text) width (cursor_column at pen text)

-- the chosen line of an OptionList is in a row that is shown, where there is one
abbrev pub ChosenAreShown : Type 0
ChosenAreShown = (chosen height : ℕ) → 0 < height → IsShown (first_option chosen height) height chosen

-- what is drawn of work of which nothing is done, and of work that is done
pub record IsBar (width total : ℕ) (pen : Pen) : Type 0 where
  pub none : bar_row (done_columns width (Bar 0 total)) width pen ≡ replicate width (thin pen)
  pub all : bar_row (done_columns width (Bar total total)) width pen ≡ replicate width (thick pen)

-- a bar of which nothing is done is thin, and one that is done is thick
abbrev pub BarsReachTheirEnds : Type 0
BarsReachTheirEnds = (width total : ℕ) (pen : Pen) → 0 < total → IsBar width total pen
