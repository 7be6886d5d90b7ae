-- The numbers of a ledger that counts.
use Rattle.std.specs.Prelude.{ℕ, ◌+◌, ◌-◌, ◌^◌, min}
use Rattle.tx_io.specs.declared.steps.Tick.{Tick}
use Rattle.tx_io.specs.declared.steps.Tick.TheVariants.{Test, Arranged, Cell}
use Rattle.tx_io.specs.declared.steps.Counted.{Counted}

-- one more, up to 2^64 - 1
abbrev pub next : ℕ → ℕ
next count = min (count + 1) (2 ^ 64 - 1)

-- the numbers after a tick: that of its sort is one more
abbrev pub ticked : Counted → Tick → Counted
ticked counts Test = record counts { tests = next counts.tests }
ticked counts Arranged = record counts { arranged = next counts.arranged }
ticked counts Cell = record counts { cells = next counts.cells }
