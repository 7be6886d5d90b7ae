-- Which scroll bars a container shows, and where its children stand beside them.
use Rattle.std.specs.Prelude.{ℕ, ◌-◌, ◌==◌, ◌&&◌, ◌||◌, Bool, true, false, not, Option, List, [], ◌∷◌, Result, Ok, Err, if◌then◌else◌}
use Rattle.std.specs.List.{filter}
use Rattle.tx_read.specs.Reading.{◌>>=◌}
use Rattle.tx_geom.specs.declared.choices.Axis.{Axis}
use Rattle.tx_geom.specs.declared.choices.AlignX.{AlignX}
use Rattle.tx_geom.specs.declared.choices.AlignY.{AlignY}
use Rattle.tx_geom.specs.declared.choices.LayoutKind.{LayoutKind}
use Rattle.tx_geom.specs.declared.choices.Overflow.{Overflow}
use Rattle.tx_geom.specs.declared.choices.Overflow.TheVariants.{Auto, Hidden, Scroll}
use Rattle.tx_geom.specs.declared.places.Size.{Size}
use Rattle.tx_layout.specs.declared.styles.Arrangement.{Arrangement}
use Rattle.tx_layout.specs.declared.styles.Ask.{Ask}
use Rattle.tx_layout.specs.declared.styles.BoxStyle.{BoxStyle}
use Rattle.tx_layout.specs.declared.styles.GridStyle.{GridStyle}
use Rattle.tx_layout.specs.Arrangement.{arranged}
use Rattle.tx_scroll.specs.declared.trials.Trial.{Trial}
use Rattle.tx_scroll.specs.declared.trials.Barred.{Barred}

-- ---- the trials

abbrev pub no_bar : Trial
no_bar = record { across = false; down = false }

abbrev pub vertical_bar : Trial
vertical_bar = record { across = false; down = true }

abbrev pub horizontal_bar : Trial
horizontal_bar = record { across = true; down = false }

abbrev pub both_bars : Trial
both_bars = record { across = true; down = true }

-- whether an overflow lets its axis have a bar, or have none: a hidden axis never has one, and a scroll axis always has
abbrev pub allows : Overflow → Bool → Bool
allows Auto bar = true
allows Hidden bar = not bar
allows Scroll bar = bar

-- whether the overflows of both axes allow the bars of a trial
abbrev pub is_allowed : Overflow → Overflow → Trial → Bool
is_allowed x y trial = allows x trial.across && allows y trial.down

-- the trials in order, without those that give a hidden axis a bar, or a scroll axis none
abbrev pub trials : Overflow → Overflow → List Trial
trials x y = filter (is_allowed x y) (no_bar ∷ (vertical_bar ∷ (horizontal_bar ∷ (both_bars ∷ []))))

-- ---- one trial

-- what the bars leave of a content area: a vertical one takes its last two columns, or the one that there is, and a horizontal one its last row
abbrev pub viewport : Size → Trial → Size
viewport content trial =
    record { width = content.width - (if trial.down then 2 else 0); height = content.height - (if trial.across then 1 else 0) }

-- whether an axis has what it needs: one that is auto needs a bar where the children go over
abbrev pub fits_along : Overflow → Bool → ℕ → Bool
fits_along Auto bar over = bar || (over == 0)
fits_along Hidden bar over = true
fits_along Scroll bar over = true

-- whether the children go over in no auto axis without a bar
abbrev pub fits : Overflow → Overflow → Trial → Size → Bool
fits x y trial over = fits_along x trial.across over.width && fits_along y trial.down over.height

-- the bars of a trial with the arrangement in the viewport that they leave
abbrev pub with_bars : Size → Trial → Arrangement → Barred
with_bars content trial arrangement =
    record { across = trial.across; down = trial.down; viewport = viewport content trial; arrangement = arrangement }

-- what comes of a trial
abbrev pub outcome : (Size → Result Arrangement Axis) → Size → Trial → Result Barred Axis
outcome arrange content trial = arrange (viewport content trial) >>= (λ arrangement. Ok (with_bars content trial arrangement))

-- ---- one after another

-- after a trial that is refused, or that fits, no further one is made
abbrev pub ends_by : Overflow → Overflow → Trial → Result Arrangement Axis → Bool
ends_by x y trial (Ok arrangement) = fits x y trial arrangement.over
ends_by x y trial (Err axis) = true

abbrev pub ends : (Size → Result Arrangement Axis) → Overflow → Overflow → Size → Trial → Bool
ends arrange x y content trial = ends_by x y trial (arrange (viewport content trial))

-- trials up to the first one that is an end, with it, or all of them
abbrev pub up_to : (Trial → Bool) → List Trial → List Trial
up_to is_end [] = []
up_to is_end (trial ∷ later) = trial ∷ (if is_end trial then [] else up_to is_end later)

-- the last of some trials, which come after another one
abbrev pub last_of : Trial → List Trial → Trial
last_of before [] = before
last_of before (trial ∷ later) = last_of trial later

-- of trials in this order those that are made: one after another, up to the first that is refused or fits
abbrev pub made_of : (Size → Result Arrangement Axis) → Overflow → Overflow → Size → List Trial → List Trial
made_of arrange x y content ts = up_to (ends arrange x y content) ts

-- what comes of them: the outcome of the last one that is made, which is the first that is refused or fits, or else the last of all
abbrev pub tried_in_order : (Size → Result Arrangement Axis) → Overflow → Overflow → Size → List Trial → Result Barred Axis
tried_in_order arrange x y content ts = outcome arrange content (last_of no_bar (made_of arrange x y content ts))

-- The bars of a container with this content area, where `arrange` gives the arrangement of its children in a viewport.
abbrev pub barred_by : (Size → Result Arrangement Axis) → Overflow → Overflow → Size → Result Barred Axis
barred_by arrange x y content = tried_in_order arrange x y content (trials x y)

-- the trials that are made for it
abbrev pub made : (Size → Result Arrangement Axis) → Overflow → Overflow → Size → List Trial
made arrange x y content = made_of arrange x y content (trials x y)

-- how the children of a container are arranged in a viewport
unfoldable pub arranged_in : (Ask → Option ℕ) → LayoutKind → GridStyle → (AlignX × AlignY) → List BoxStyle → Size → Size → Result Arrangement Axis
arranged_in meaning kind grid align children screen viewport = arranged meaning kind grid align children viewport screen

-- the bars of a container with these children in this content area, on this screen
abbrev pub barred : (Ask → Option ℕ) → Overflow → Overflow → LayoutKind → GridStyle → (AlignX × AlignY) → List BoxStyle → Size → Size → Result Barred Axis
barred meaning x y kind grid align children content screen = barred_by (arranged_in meaning kind grid align children screen) x y content
