-- What holds of the bars of a container, however its children are arranged in a viewport.
use Rattle.std.specs.Prelude.{◌≡◌, ◌↔◌, ℕ, ◌≤◌, true, false, length, IsOk, Result, Ok}
use Rattle.tx_geom.specs.declared.choices.Axis.{Axis}
use Rattle.tx_geom.specs.declared.choices.Overflow.{Overflow}
use Rattle.tx_geom.specs.declared.choices.Overflow.TheVariants.{Auto, Hidden, Scroll}
use Rattle.tx_geom.specs.declared.places.Size.{Size}
use Rattle.tx_layout.specs.declared.styles.Arrangement.{Arrangement}
use Rattle.tx_scroll.specs.declared.trials.Trial.{Trial}
use Rattle.tx_scroll.specs.declared.trials.Barred.{Barred}
use Rattle.tx_scroll.specs.Bars.{no_bar, vertical_bar, horizontal_bar, viewport, made, barred_by}

-- what arranges the children of a container in a viewport
abbrev pub Arranges : Type 0
Arranges = Size → Result Arrangement Axis

-- beside these bars the children are arranged, and go over in no auto axis that has none
pub record Fits (arrange : Arranges) (x y : Overflow) (content : Size) (bars : Trial) : Type 0 where
  pub arrangement : Arrangement
  pub is : arrange (viewport content bars) ≡ Ok arrangement
  pub across : x ≡ Auto → bars.across ≡ false → arrangement.over.width ≡ 0
  pub down : y ≡ Auto → bars.down ≡ false → arrangement.over.height ≡ 0

-- the bars that are shown
abbrev pub bars_of : Barred → Trial
bars_of b = record { across = b.across; down = b.down }

-- what is shown is the arrangement in the viewport that the bars leave
pub record IsBeside (arrange : Arranges) (content : Size) (b : Barred) : Type 0 where
  pub viewport : b.viewport ≡ viewport content (bars_of b)
  pub arrangement : arrange b.viewport ≡ Ok b.arrangement

abbrev pub ShowsArrangement : Type 0
ShowsArrangement = (arrange : Arranges) (x y : Overflow) (content : Size) (b : Barred) → barred_by arrange x y content ≡ Ok b → IsBeside arrange content b

-- a hidden axis never has a bar
pub record HiddenHasNone (x y : Overflow) (b : Barred) : Type 0 where
  pub across : x ≡ Hidden → b.across ≡ false
  pub down : y ≡ Hidden → b.down ≡ false

abbrev pub NeverHidden : Type 0
NeverHidden = (arrange : Arranges) (x y : Overflow) (content : Size) (b : Barred) → barred_by arrange x y content ≡ Ok b → HiddenHasNone x y b

-- a scroll axis always has one
pub record ScrollHasOne (x y : Overflow) (b : Barred) : Type 0 where
  pub across : x ≡ Scroll → b.across ≡ true
  pub down : y ≡ Scroll → b.down ≡ true

abbrev pub AlwaysScroll : Type 0
AlwaysScroll = (arrange : Arranges) (x y : Overflow) (content : Size) (b : Barred) → barred_by arrange x y content ≡ Ok b → ScrollHasOne x y b

-- Where the other axis isn't auto, an auto axis has no bar exactly where the trial without it fits.
abbrev pub AcrossWhereNeeded : Type 0
AcrossWhereNeeded = (arrange : Arranges) (y : Overflow) (content : Size) (b : Barred) → ¬ (y ≡ Auto) → barred_by arrange Auto y content ≡ Ok b
    → (b.across ≡ false) ↔ Fits arrange Auto y content (record { across = false; down = b.down })

abbrev pub DownWhereNeeded : Type 0
DownWhereNeeded = (arrange : Arranges) (x : Overflow) (content : Size) (b : Barred) → ¬ (x ≡ Auto) → barred_by arrange x Auto content ≡ Ok b
    → (b.down ≡ false) ↔ Fits arrange x Auto content (record { across = b.across; down = false })

-- Where both are auto, there is no bar exactly where the trial without bars fits, there are both exactly where none of the other
-- three trials does, and the horizontal one alone only where the vertical one alone doesn't fit.
pub record BothAuto (arrange : Arranges) (content : Size) (b : Barred) : Type 0 where
  pub none : ((b.across ≡ false) × (b.down ≡ false)) ↔ Fits arrange Auto Auto content no_bar
  pub both : ((b.across ≡ true) × (b.down ≡ true))
      ↔ ((¬ Fits arrange Auto Auto content no_bar) × (¬ Fits arrange Auto Auto content vertical_bar) × (¬ Fits arrange Auto Auto content horizontal_bar))
  pub horizontal : b.across ≡ true → b.down ≡ false → ¬ Fits arrange Auto Auto content vertical_bar

abbrev pub VerticalFirst : Type 0
VerticalFirst = (arrange : Arranges) (content : Size) (b : Barred) → barred_by arrange Auto Auto content ≡ Ok b → BothAuto arrange content b

-- in an auto axis without a bar nothing goes over
abbrev pub NothingUnreached : Type 0
NothingUnreached = (arrange : Arranges) (x y : Overflow) (content : Size) (b : Barred) → barred_by arrange x y content ≡ Ok b → Fits arrange x y content (bars_of b)

-- at least one trial is made, and at most four
pub record IsFew (n : ℕ) : Type 0 where
  pub some : 1 ≤ n
  pub few : n ≤ 4

abbrev pub FewTrials : Type 0
FewTrials = (arrange : Arranges) (x y : Overflow) (content : Size) → IsFew (length (made arrange x y content))

-- where the children are arranged beside whatever bars, the container has its bars
abbrev pub DefinedWhereArranged : Type 0
DefinedWhereArranged =
    (arrange : Arranges) (x y : Overflow) (content : Size) → ((bars : Trial) → IsOk (arrange (viewport content bars))) → IsOk (barred_by arrange x y content)
