-- What is shown first: a tree and a sheet as a run begins.
use Rattle.std.specs.Prelude.{List, []}
use Rattle.tx_cell.specs.Cell.{blank}
use Rattle.tx_cell.specs.Grid.{GridValue, filled}
use Rattle.tx_cell.specs.Pen.{white_on_black}
use Rattle.tx_compose.specs.Presented.{Presented, presented}
use Rattle.tx_geom.specs.declared.places.Size.{Size}
use Rattle.tx_opening.specs.OpeningState.{opening_state}
use Rattle.tx_parse.specs.Values.{SheetValue}
use Rattle.tx_tree.specs.declared.row.Row.{Row}

-- the rows of a tree under a sheet, in the state of opening, no row scrolled, on a screen of this size
abbrev pub first_shown : List Row → SheetValue → Size → Presented
first_shown rows sheet size = presented sheet rows (opening_state rows) [] size

-- what the screen shows before anything was sent: blanks of white on black
unfoldable pub at_first : Size → GridValue
at_first size = filled size (blank white_on_black)
