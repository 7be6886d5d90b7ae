-- What the reading of the files comes to.
use Rattle.std.specs.Prelude.{⊤, ◌≡◌, ℕ, Bool, true, false, List, Result, Ok, Err, if◌then◌else◌}
use Rattle.tx_tree.specs.declared.row.Row.{Row}
use Rattle.tx_select.specs.SelectorValue.{SelectorValue}
use Rattle.tx_compose.specs.Presented.{Presented, IsScreen}
use Rattle.tx_picture.specs.Given.{AreBuiltIn}
use Rattle.tx_app.specs.FirstShown.{first_shown}
use Rattle.tx_app.specs.declared.openings.Opened.{Opened}
use Rattle.tx_app.specs.declared.openings.Opened.TheVariants.{Picture, Lines, Matches}
use Rattle.tx_app.specs.declared.causes.Cause.{Cause}
use Rattle.tx_app.specs.declared.causes.Cause.TheVariants.{Usage, Refused, ReadFault, Fraction, SinkFault, NoMemory}

pub data Opening : Type 0 where
  -- a cause stops the run
  Stops : Cause → Opening
  -- this is shown
  Opens : Presented → Opening
  -- lines are printed
  Prints : List ℕ → Opening
  -- of these rows those that a selector matches are printed
  Finds : List Row → SelectorValue → Opening

-- Memory may run out, but not where the words are refused or a load failed: no memory is taken for these.
abbrev pub MayWant : Bool → Opening → Type 0
MayWant false expected = Unit {0}
MayWant true (Stops Usage) = ⊥
MayWant true (Stops (Refused file line column kind)) = Unit {0}
MayWant true (Stops (ReadFault rose)) = ⊥
MayWant true (Stops (Fraction node axis)) = ⊥
MayWant true (Stops (SinkFault rose)) = ⊥
MayWant true (Stops NoMemory) = Unit {0}
MayWant true (Opens shown) = Unit {0}
MayWant true (Prints lines) = Unit {0}
MayWant true (Finds rows selector) = Unit {0}

-- what is expected, or that memory ran out for it
pub record ComesTo (expected actual : Opening) : Type 0 where
  pub wanting : Bool
  pub is : actual ≡ (if wanting then Stops NoMemory else expected)
  pub may : MayWant wanting expected

-- what the reader of the files answers
abbrev pub opened_of : Result Opened Cause → Opening
opened_of (Ok (Picture tree sheet size)) = Opens (first_shown tree.rows sheet size)
opened_of (Ok (Lines lines)) = Prints lines.items
opened_of (Ok (Matches tree selector)) = Finds tree.rows selector
opened_of (Err cause) = Stops cause

-- what is opened can be shown: the screen is within the limits, and no row is of a kind that is handed in
abbrev pub CanBeDone : Opened → Type 0
CanBeDone (Picture tree sheet size) = IsScreen size × AreBuiltIn tree.rows
CanBeDone (Lines lines) = ⊤
CanBeDone (Matches tree selector) = ⊤
