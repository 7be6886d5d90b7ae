-- What contracts see of a screen, and what its calls make of it.
use Rattle.std.specs.Prelude.{◌≡◌, Bool, true, false, List, Option, Some, None}
use Rattle.tx_cascade.specs.declared.edit.Edit.{Edit}
use Rattle.tx_cell.specs.Cell.{blank}
use Rattle.tx_cell.specs.Grid.{GridValue, filled}
use Rattle.tx_cell.specs.Pen.{white_on_black}
use Rattle.tx_compose.specs.Following.{EditsLead}
use Rattle.tx_compose.specs.Presented.{Presented}
use Rattle.tx_geom.specs.declared.places.Size.{Size}
use Rattle.tx_parse.specs.Values.{SheetValue}

-- the sheet, the next grid, what it shows where the last refresh answered Ok, what the last accepted refresh showed, if any was, and whether
-- the next refresh goes on from that; else it starts from nothing
pub record ScreenValue : Type 0 where
  pub sheet : SheetValue
  pub grid : GridValue
  pub next : Option Presented
  pub accepted : Option Presented
  pub goes_on : Bool

-- a new screen, which shows blanks in white on black
abbrev pub opened : SheetValue → Size → ScreenValue
opened sheet size = record { sheet = sheet; grid = filled size (blank white_on_black); next = None; accepted = None; goes_on = false }

-- where the next refresh goes on from the last accepted one, the edits lead from what that showed
abbrev pub GoesOn : ScreenValue → List Edit → Presented → Type 0
GoesOn screen edits shown = (before : Presented) → screen.goes_on ≡ true → screen.accepted ≡ Some before → EditsLead edits before shown

-- after a refresh that answered Ok: until it is accepted the next one starts from nothing
abbrev pub refreshed : ScreenValue → Presented → GridValue → ScreenValue
refreshed screen shown grid = record screen { grid = grid; next = Some shown; goes_on = false }

-- after one that answered no Ok: all else is as it was
abbrev pub refused : ScreenValue → ScreenValue
refused screen = record screen { next = None; goes_on = false }

-- once the next frame is the last accepted one
abbrev pub accepted : ScreenValue → ScreenValue
accepted screen = record screen { accepted = screen.next; goes_on = true }
