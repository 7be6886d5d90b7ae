-- How many steps a refresh takes.
use Rattle.std.specs.Prelude.{ℕ, ◌*◌, Result, Ok, Err}
use Rattle.tx_cascade.specs.Tested.{TestedAtMost}
use Rattle.tx_geom.specs.declared.places.Size.{Size}
use Rattle.tx_io.specs.declared.steps.Tick.{Tick}
use Rattle.tx_map.specs.Ticks.{ArrangedAtMost}
use Rattle.tx_map.specs.declared.fault.ComposeFault.{ComposeFault}
use Rattle.tx_map.specs.declared.fault.ComposeFault.TheVariants.{Fraction, NoMemory}
use Rattle.tx_picture.specs.Ticks.{Composed, ComposedAtMost}

-- Each cell of a screen is composed once, and none where the picture is undefined. Where there is no memory, at most as many are.
abbrev pub CellsComposed : {L R : Type 0} → (L → Tick → L → Type 0) → Size → Result R ComposeFault → L → L → Type 0
CellsComposed ticked size (Ok done) before after = Composed ticked (size.width * size.height) before after
CellsComposed ticked size (Err (Fraction node axis)) before after = Composed ticked 0 before after
CellsComposed ticked size (Err NoMemory) before after = ComposedAtMost ticked (size.width * size.height) before after

-- rows are arranged, and then cells are composed
pub record MapTicks {L R : Type 0} (ticked : L → Tick → L → Type 0) (arrangements : ℕ) (size : Size) (result : Result R ComposeFault) (before after : L) : Type 0 where
  pub arranged : L
  pub first : ArrangedAtMost ticked arrangements before arranged
  pub cells : CellsComposed ticked size result arranged after

-- before that, selectors are tested
pub record RefreshTicks {L R : Type 0} (ticked : L → Tick → L → Type 0) (tests arrangements : ℕ) (size : Size) (result : Result R ComposeFault) (before after : L) : Type 0 where
  pub tested : L
  pub first : TestedAtMost ticked tests before tested
  pub rest : MapTicks ticked arrangements size result tested after
