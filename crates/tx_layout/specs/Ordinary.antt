-- Styles with numbers as stylesheets write them, and that children with such styles have their arrangement and their measures.
use Rattle.std.specs.Prelude.{ℕ, ◌<◌, ◌≤◌, All, IfSome, IsSomeAnd, IsOkAnd, Option, List, length}
use Rattle.tx_geom.specs.declared.choices.AlignX.{AlignX}
use Rattle.tx_geom.specs.declared.choices.AlignY.{AlignY}
use Rattle.tx_geom.specs.declared.choices.Axis.{Axis}
use Rattle.tx_geom.specs.declared.choices.LayoutKind.{LayoutKind}
use Rattle.tx_geom.specs.declared.places.Region.{Region}
use Rattle.tx_geom.specs.declared.places.Size.{Size}
use Rattle.tx_geom.specs.declared.places.Spacing.{Spacing}
use Rattle.tx_box.specs.Ordinary.{IsCells, IsOrdinarySize, IsShortDecimal}
use Rattle.tx_grid.specs.Standing.{IsRowCount, IsSpan}
use Rattle.tx_layout.specs.Arrangement.{arranged, tall, wide}
use Rattle.tx_layout.specs.Style.{limit_in}
use Rattle.tx_layout.specs.declared.styles.Arrangement.{Arrangement}
use Rattle.tx_layout.specs.declared.styles.Ask.{Ask}
use Rattle.tx_layout.specs.declared.styles.BoxStyle.{BoxStyle}
use Rattle.tx_layout.specs.declared.styles.GridStyle.{GridStyle}

-- at most 65,535 cells at each side
pub record IsOrdinarySpacing (by : Spacing) : Type 0 where
  pub top : by.top ≤ 65535
  pub right : by.right ≤ 65535
  pub bottom : by.bottom ≤ 65535
  pub left : by.left ≤ 65535

-- a style whose numbers are decimals of at most 9 whole digits and 3 decimals, with any margin, padding and border
pub record IsOrdinaryStyle (s : BoxStyle) : Type 0 where
  pub width : IsShortDecimal s.width.value
  pub height : IsShortDecimal s.height.value
  pub least : (axis : Axis) → IfSome (limit_in axis s.least) (λ limit. IsShortDecimal limit.value)
  pub most : (axis : Axis) → IfSome (limit_in axis s.most) (λ limit. IsShortDecimal limit.value)
  pub margin : IsOrdinarySpacing s.margin
  pub gutter : IsOrdinarySpacing s.gutter
  pub column_span : IsSpan s.column_span
  pub row_span : IsSpan s.row_span

-- a grid of such numbers
pub record IsOrdinaryGrid (g : GridStyle) : Type 0 where
  pub columns : IsSpan g.columns
  pub rows : IfSome g.rows IsRowCount
  pub column_tracks : All (λ track. IsShortDecimal track.value) g.column_tracks
  pub row_tracks : All (λ track. IsShortDecimal track.value) g.row_tracks
  pub gutter_vertical : g.gutter_vertical ≤ 9999
  pub gutter_horizontal : g.gutter_horizontal ≤ 9999

-- at most 1,000 children with such styles, in a container with such a grid on such a screen
pub record AreOrdinaryChildren (styles : List BoxStyle) (grid : GridStyle) (screen : Size) : Type 0 where
  pub each : All IsOrdinaryStyle styles
  pub few : length styles ≤ 1000
  pub tracks : IsOrdinaryGrid grid
  pub sides : IsOrdinarySize screen

-- a column count that is asked for, if there is one
abbrev pub IsOrdinaryWidth : Option ℕ → Type 0
IsOrdinaryWidth width = IfSome width (λ w. w ≤ 65535)

-- each of so many children answers in every such area, at every such width
abbrev pub AnswersOrdinary : ℕ → (Ask → Option ℕ) → Type 0
AnswersOrdinary count meaning = (ask : Ask) → ask.child < count → IsOrdinaryWidth ask.width → IsOrdinarySize ask.area → IsSomeAnd (meaning ask) IsCells

-- at most 65,535 columns and rows
pub record IsShortRegion (r : Region) : Type 0 where
  pub width : r.width ≤ 65535
  pub height : r.height ≤ 65535

-- each region that there is has at most so many
abbrev pub HasShortRegions : Arrangement → Type 0
HasShortRegions arrangement = All (λ r. IfSome r IsShortRegion) arrangement.placed

-- Such children that answer have their arrangement in each such area, and the container has its measures there.
pub record OrdinaryChildren : Type 0 where
  pub arrangement : (meaning : Ask → Option ℕ) (kind : LayoutKind) (grid : GridStyle) (align : AlignX × AlignY) (styles : List BoxStyle) (area screen : Size)
      → AreOrdinaryChildren styles grid screen → AnswersOrdinary (length styles) meaning → IsOrdinarySize area
      → IsOkAnd (arranged meaning kind grid align styles area screen) HasShortRegions
  pub width : (meaning : Ask → Option ℕ) (kind : LayoutKind) (grid : GridStyle) (styles : List BoxStyle) (area screen : Size)
      → AreOrdinaryChildren styles grid screen → AnswersOrdinary (length styles) meaning → IsOrdinarySize area
      → IsOkAnd (wide meaning kind grid styles area screen) (λ n. n ≤ 65535)
  pub height : (meaning : Ask → Option ℕ) (kind : LayoutKind) (grid : GridStyle) (styles : List BoxStyle) (width : ℕ) (area screen : Size)
      → AreOrdinaryChildren styles grid screen → AnswersOrdinary (length styles) meaning → width ≤ 65535 → IsOrdinarySize area
      → IsOkAnd (tall meaning kind grid styles width area screen) (λ n. n ≤ 65535)
