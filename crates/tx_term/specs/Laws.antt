-- What the machine makes of bytes, and of an update and the closing bytes.
use Rattle.std.specs.Prelude.{◌≡◌, ◌≤◌, ◌↔◌, ℕ, List, [], ◌++◌, true, false}
use Rattle.tx_cell.specs.Grid.{GridValue, IsGrid}
use Rattle.tx_cell.specs.Pen.{white_on_black}
use Rattle.tx_term.specs.Machine.{Machine, RestsOn, fed, screen, screen_of}
use Rattle.tx_term.specs.Update.{update, update_marks, closing}

-- ---- bytes

-- bytes that are read in two parts
abbrev pub BytesFollow : Type 0
BytesFollow = (machine : Machine) (first second : List ℕ) → fed (fed machine first) second ≡ fed machine (first ++ second)

-- no bytes change nothing
abbrev pub NoBytesChangeNothing : Type 0
NoBytesChangeNothing = (machine : Machine) → fed machine [] ≡ machine

-- whatever is read, the screen has the size that it had
abbrev pub BytesKeepTheSize : Type 0
BytesKeepTheSize =
    (machine : Machine) (bytes : List ℕ)
    → ((fed machine bytes).canvas.grid.size ≡ machine.canvas.grid.size) × ((screen machine bytes).size ≡ (screen_of machine).size)

-- ---- updates

-- a grid that an update can lead to: one with sides of at most 65,535
pub record IsScreen (grid : GridValue) : Type 0 where
  pub formed : IsGrid grid
  pub height : grid.size.height ≤ 65535
  pub width : grid.size.width ≤ 65535

-- From the grid on which a terminal rests an update leads it to the next one.
abbrev pub UpdatesLead : Type 0
UpdatesLead =
    (machine : Machine) (shown next : GridValue)
    → IsGrid shown → IsScreen next → shown.size ≡ next.size → RestsOn machine shown
    → (screen machine (update shown next false) ≡ next) × RestsOn (fed machine (update shown next false)) next

-- A whole update does from any state whatever of a terminal of that size.
abbrev pub WholeUpdatesLead : Type 0
WholeUpdatesLead =
    (machine : Machine) (shown next : GridValue)
    → IsGrid shown → IsScreen next → shown.size ≡ next.size → machine.canvas.grid.size ≡ next.size
    → (screen machine (update shown next true) ≡ next) × RestsOn (fed machine (update shown next true)) next

-- an update that isn't whole has no bytes exactly where it has no marks
abbrev pub UpdatesWithoutMarksAreEmpty : Type 0
UpdatesWithoutMarksAreEmpty = (shown next : GridValue) → (update shown next false ≡ []) ↔ (update_marks shown next false ≡ [])

-- where the grid that is shown is the next one already, an update that isn't whole has no bytes
abbrev pub EqualGridsSendNothing : Type 0
EqualGridsSendNothing = (grid : GridValue) → update grid grid false ≡ []

-- ---- the modes

-- the cursor is hidden, and the screen is the alternate one
pub record IsTaken (machine : Machine) : Type 0 where
  pub cursor : machine.cursor_shown ≡ false
  pub screen : machine.alternate ≡ true

-- after a whole update a terminal of that size, in whatever state it was, is taken
abbrev pub WholeUpdatesTake : Type 0
WholeUpdatesTake =
    (machine : Machine) (shown next : GridValue)
    → IsGrid shown → IsScreen next → shown.size ≡ next.size → machine.canvas.grid.size ≡ next.size
    → IsTaken (fed machine (update shown next true))

-- any other update leaves the two modes as they are
abbrev pub UpdatesKeepTheModes : Type 0
UpdatesKeepTheModes =
    (machine : Machine) (shown next : GridValue)
    → IsGrid shown → IsScreen next → shown.size ≡ next.size → RestsOn machine shown
    → ((fed machine (update shown next false)).cursor_shown ≡ machine.cursor_shown) × ((fed machine (update shown next false)).alternate ≡ machine.alternate)

-- nothing is unfinished or held, the pen is the default one, the cursor is shown, and the screen is the main one
pub record IsGivenBack (machine : Machine) : Type 0 where
  pub whole : machine.unfinished ≡ []
  pub held : machine.canvas.held ≡ []
  pub pen : machine.canvas.pen ≡ white_on_black
  pub cursor : machine.cursor_shown ≡ true
  pub screen : machine.alternate ≡ false

-- after the closing bytes every terminal is given back, in whatever state it was
abbrev pub ClosingGivesBack : Type 0
ClosingGivesBack = (machine : Machine) → IsGivenBack (fed machine closing)
