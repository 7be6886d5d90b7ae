-- How many steps a run takes, by what was opened.
use Rattle.std.proofs.Common.{◌≡◌, ℕ, List, [], ◌∷◌, sym, subst}
use Rattle.tx_io.specs.Loading.{FilesSeen}
use Rattle.tx_io.specs.declared.steps.Tick.{Tick}
use Rattle.tx_compose.specs.Presented.{Presented}
use Rattle.tx_app.specs.Openings.{Opening, Stops, Opens, Prints, Finds}
use Rattle.tx_app.specs.Plans.{Planned}
use Rattle.tx_app.specs.Ticks.{JournalTicks, OpeningTicks, RunTicks}
use Rattle.tx_app.specs.declared.journal.Entry.{Entry}
use Rattle.tx_app.proofs.HeadlineLemmas.{AreRead-of}

module _ {L : Type 0} (ticked : L → Tick → L → Type 0) (words : List (List ℕ)) (files_before files_after : FilesSeen) (before after : L) where
  none : (journal : List Entry) → journal ≡ [] → after ≡ before → RunTicks ticked words files_before files_after journal before after
  none journal empty same = subst (λ entries. RunTicks ticked words files_before files_after entries before after) (sym empty) same

  shown-ticks : (shown : Presented) (journal : List Entry) → Planned words files_before files_after (Opens shown) → JournalTicks ticked shown journal before after
      → RunTicks ticked words files_before files_after journal before after
  shown-ticks shown [] planned ticks = ticks
  shown-ticks shown (entry ∷ rest) planned ticks = record { shown = shown; read = AreRead-of words files_before files_after shown planned; ticks = ticks }

  pub RunTicks-of : (opening : Opening) (journal : List Entry) → Planned words files_before files_after opening → OpeningTicks ticked opening journal before after
      → RunTicks ticked words files_before files_after journal before after
  RunTicks-of (Stops cause) journal planned ticks = none journal ticks.0 ticks.1
  RunTicks-of (Opens shown) journal planned ticks = shown-ticks shown journal planned ticks
  RunTicks-of (Prints lines) journal planned ticks = none journal ticks.0 ticks.1
  RunTicks-of (Finds rows selector) journal planned ticks = none journal ticks.0 ticks.1
