-- How many steps a run takes.
use Rattle.std.specs.Prelude.{⊤, ◌≡◌, ℕ, ◌*◌, List, [], ◌∷◌, length, Result, Ok, Err}
use Rattle.tx_cascade.specs.Reaching.{selectors_in}
use Rattle.tx_compose.specs.Presented.{Presented}
use Rattle.tx_compose.specs.Ticks.{RefreshTicks}
use Rattle.tx_io.specs.Loading.{FilesSeen}
use Rattle.tx_io.specs.declared.steps.Tick.{Tick}
use Rattle.tx_map.specs.declared.fault.ComposeFault.{ComposeFault}
use Rattle.tx_map.specs.declared.fault.ComposeFault.TheVariants.{Fraction as NoPicture, NoMemory as NoGrid}
use Rattle.tx_app.specs.Headline.{AreRead}
use Rattle.tx_app.specs.Openings.{Opening, Stops, Opens, Prints, Finds}
use Rattle.tx_app.specs.declared.journal.Entry.{Entry}
use Rattle.tx_app.specs.declared.journal.Entry.TheVariants.{Refresh}
use Rattle.tx_app.specs.declared.journal.Refreshed.{Refreshed}
use Rattle.tx_app.specs.declared.journal.Refreshed.TheVariants.{Accepted, Fraction, SinkFault, NoMemory}

-- how the picture was made, by how the refresh ended
abbrev pub made_by : Refreshed → Result ⊤ ComposeFault
made_by Accepted = Ok tt
made_by (Fraction node axis) = Err (NoPicture node axis)
made_by SinkFault = Ok tt
made_by NoMemory = Err NoGrid

-- Those of a refresh: at most a Test for each selector of both sheets at each row, at most four Arranged for each row, and a Cell for each
-- cell of the screen, none where the picture is undefined.
abbrev pub ShownTicks : {L : Type 0} → (L → Tick → L → Type 0) → Presented → Refreshed → L → L → Type 0
ShownTicks ticked shown result before after =
    RefreshTicks ticked (selectors_in shown.sheet * length shown.rows) (4 * length shown.rows) shown.size (made_by result) before after

abbrev pub EntryTicks : {L : Type 0} → (L → Tick → L → Type 0) → Presented → Entry → L → L → Type 0
EntryTicks ticked shown (Refresh result sent faults) before after = ShownTicks ticked shown result before after

-- without a refresh there is none
abbrev pub JournalTicks : {L : Type 0} → (L → Tick → L → Type 0) → Presented → List Entry → L → L → Type 0
JournalTicks ticked shown [] before after = after ≡ before
JournalTicks ticked shown (entry ∷ rest) before after = EntryTicks ticked shown entry before after

-- nothing but a picture has a refresh
abbrev pub OpeningTicks : {L : Type 0} → (L → Tick → L → Type 0) → Opening → List Entry → L → L → Type 0
OpeningTicks ticked (Stops cause) journal before after = (journal ≡ []) × (after ≡ before)
OpeningTicks ticked (Opens shown) journal before after = JournalTicks ticked shown journal before after
OpeningTicks ticked (Prints lines) journal before after = (journal ≡ []) × (after ≡ before)
OpeningTicks ticked (Finds rows selector) journal before after = (journal ≡ []) × (after ≡ before)

-- those of the refresh of what was read
pub record RefreshedTicks {L : Type 0} (ticked : L → Tick → L → Type 0) (words : List (List ℕ)) (files_before files_after : FilesSeen) (entry : Entry) (before after : L) : Type 0 where
  pub shown : Presented
  pub read : AreRead words files_before files_after shown
  pub ticks : EntryTicks ticked shown entry before after

-- those of a run with this journal
abbrev pub RunTicks : {L : Type 0} → (L → Tick → L → Type 0) → List (List ℕ) → FilesSeen → FilesSeen → List Entry → L → L → Type 0
RunTicks ticked words files_before files_after [] before after = after ≡ before
RunTicks ticked words files_before files_after (entry ∷ rest) before after = RefreshedTicks ticked words files_before files_after entry before after
