-- How many cells were composed.
use Rattle.std.specs.Prelude.{ℕ, ◌≤◌, replicate}
use Rattle.std.specs.List.{FoldsTo}
use Rattle.tx_io.specs.declared.steps.Tick.{Tick}
use Rattle.tx_io.specs.declared.steps.Tick.TheVariants.{Cell}

-- a ledger was told of so many cells, and of nothing else
abbrev pub Composed : {L : Type 0} → (L → Tick → L → Type 0) → ℕ → L → L → Type 0
Composed ticked count before after = FoldsTo ticked before (replicate count Cell) after

-- a ledger was told of cells, at most so many, and of nothing else
pub record ComposedAtMost {L : Type 0} (ticked : L → Tick → L → Type 0) (most : ℕ) (before after : L) : Type 0 where
  pub count : ℕ
  pub few : count ≤ most
  pub told : Composed ticked count before after
