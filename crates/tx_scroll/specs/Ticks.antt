-- The ticks of arrangements that a ledger took.
use Rattle.std.specs.Prelude.{ℕ, ◌≤◌, replicate, Result, Ok, Err}
use Rattle.std.specs.List.{FoldsTo}
use Rattle.tx_io.specs.declared.steps.Tick.{Tick}
use Rattle.tx_io.specs.declared.steps.Tick.TheVariants.{Arranged}
use Rattle.tx_box.specs.declared.items.LayoutFault.{LayoutFault}
use Rattle.tx_box.specs.declared.items.LayoutFault.TheVariants.{Fraction, NoMemory}

-- a ledger took so many ticks of an arrangement, and no other one
abbrev pub TicksTimes : {L : Type 0} → (L → Tick → L → Type 0) → ℕ → L → L → Type 0
TicksTimes ticked count before after = FoldsTo ticked before (replicate count Arranged) after

-- it took one at least, at most so many, and no other one
pub record TicksAtMost {L : Type 0} (ticked : L → Tick → L → Type 0) (most : ℕ) (before after : L) : Type 0 where
  pub count : ℕ
  pub some : 1 ≤ count
  pub few : count ≤ most
  pub ticks : TicksTimes ticked count before after

-- it took so many; where memory ran out, one at least and at most so many
abbrev pub TicksBy : {L R : Type 0} → (L → Tick → L → Type 0) → Result R LayoutFault → ℕ → L → L → Type 0
TicksBy ticked (Ok value) count before after = TicksTimes ticked count before after
TicksBy ticked (Err (Fraction axis)) count before after = TicksTimes ticked count before after
TicksBy ticked (Err NoMemory) count before after = TicksAtMost ticked count before after
