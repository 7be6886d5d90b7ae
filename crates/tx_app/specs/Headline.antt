-- What a run shows: the picture of the tree and the sheet that were read.
use Rattle.std.specs.Prelude.{⊤, ◌≡◌, ℕ, List, [], ◌∷◌, ◌++◌, length, take, Some, Ok}
use Rattle.std.specs.Io.KnownBytes.{append_known}
use Rattle.tx_cell.specs.Grid.{GridValue}
use Rattle.tx_compose.specs.Presented.{Presented, composed}
use Rattle.tx_io.specs.Loading.{FilesSeen, Load, load_of, after_loads}
use Rattle.tx_io.specs.Sink.{SinkSeen}
use Rattle.tx_parse.specs.Default.{sheet_value}
use Rattle.tx_parse.specs.Grammar.{Found}
use Rattle.tx_parse.specs.Texts.{sheet_of}
use Rattle.tx_term.specs.Machine.{Machine, screen}
use Rattle.tx_term.specs.Update.{closing}
use Rattle.tx_tree.specs.declared.row.Row.{Row}
use Rattle.tx_app.specs.FirstShown.{first_shown}
use Rattle.tx_app.specs.Loads.{file_limit}
use Rattle.tx_app.specs.Plan.{AreOfFiles}
use Rattle.tx_app.specs.Trees.{rows_of}
use Rattle.tx_app.specs.Words.{Show, Shows, asked}
use Rattle.tx_app.specs.declared.journal.Entry.{Entry}
use Rattle.tx_app.specs.declared.journal.Entry.TheVariants.{Refresh}
use Rattle.tx_app.specs.declared.journal.Refreshed.{Refreshed}
use Rattle.tx_app.specs.declared.journal.Refreshed.TheVariants.{Accepted, Fraction, SinkFault, NoMemory}

-- the tree and then the sheet were loaded, and gave these bytes
abbrev pub both_loads : Show → List ℕ → List ℕ → List Load
both_loads show tree sheet = load_of show.tree file_limit (Ok tree) ∷ load_of show.sheet file_limit (Ok sheet) ∷ []

-- The words ask for a picture, the files that they name were loaded and read, and this is what is shown of them: their tree under their
-- sheet in the state of opening, on a screen of the size of the words.
pub record AreRead (words : List (List ℕ)) (before after : FilesSeen) (shown : Presented) : Type 0 where
  pub show : Show
  pub asks : asked words ≡ Some (Shows show)
  pub tree : List ℕ
  pub sheet : List ℕ
  pub loads : after ≡ after_loads before (both_loads show tree sheet)
  pub of_files : AreOfFiles before.contents (both_loads show tree sheet)
  pub rows : List Row
  pub found : Found
  pub tree_is : rows_of tree ≡ Ok rows
  pub sheet_is : sheet_of sheet ≡ Ok found
  pub is : shown ≡ first_shown rows (sheet_value found) show.size

-- A refresh of so many bytes was accepted. What was sent is these bytes, and closing bytes after them. After the bytes of the refresh each
-- terminal of that size, in whatever state it was, shows the picture.
pub record ShowsPicture (words : List (List ℕ)) (files_before files_after : FilesSeen) (out_before out_after : SinkSeen) (sent : ℕ) : Type 0 where
  pub shown : Presented
  pub read : AreRead words files_before files_after shown
  pub picture : GridValue
  pub defined : composed shown ≡ Ok picture
  pub refresh : List ℕ
  pub all : length refresh ≡ sent
  pub closed : ℕ
  pub told : out_after.told ≡ append_known out_before.told (refresh ++ take closed closing)
  pub shows : (machine : Machine) → machine.canvas.grid.size ≡ shown.size → screen machine refresh ≡ picture

-- if the one refresh of a run was accepted, this holds of the number of its bytes
abbrev pub IfTaken : Refreshed → Type 0 → Type 0
IfTaken Accepted holds = holds
IfTaken (Fraction node axis) holds = ⊤
IfTaken SinkFault holds = ⊤
IfTaken NoMemory holds = ⊤

abbrev pub IfAccepted : List Entry → (ℕ → Type 0) → Type 0
IfAccepted [] holds = ⊤
IfAccepted (Refresh result sent faults ∷ []) holds = IfTaken result (holds sent)
IfAccepted (entry ∷ other ∷ rest) holds = ⊤
