-- How many selectors were tested.
use Rattle.std.specs.Prelude.{ℕ, ◌≤◌, replicate}
use Rattle.std.specs.List.{FoldsTo}
use Rattle.tx_io.specs.declared.steps.Tick.{Tick}
use Rattle.tx_io.specs.declared.steps.Tick.TheVariants.{Test}

-- tests were reported to a ledger, at most so many, and nothing else
pub record TestedAtMost {L : Type 0} (ticked : L → Tick → L → Type 0) (most : ℕ) (before after : L) : Type 0 where
  pub tests : ℕ
  pub few : tests ≤ most
  pub told : FoldsTo ticked before (replicate tests Test) after
