-- What each row that is reached comes to, by itself.
use Rattle.std.specs.Prelude.{◌≡◌, ℕ, ◌+◌, List, [], ◌∷◌, ◌++◌, drop, Option, Some, None, Result, Ok, Err, if◌then◌else◌}
use Rattle.tx_geom.specs.declared.choices.Axis.{Axis}
use Rattle.tx_geom.specs.declared.places.Region.{Region}
use Rattle.tx_layout.specs.Steps.{each_of}
use Rattle.tx_map.specs.LayoutMap.{Mapped, Place, Container, barred_row, child_place, container, content_size, entry_at, first_region, layout_map, screen_place}
use Rattle.tx_map.specs.Scene.{Scene, rows_of}
use Rattle.tx_map.specs.declared.entry.Entry.{Entry}
use Rattle.tx_scroll.specs.declared.trials.Barred.{Barred}
use Rattle.tx_sizes.specs.Forest.{Styled, Forest, Empty, Grown}
use Rattle.tx_sizes.specs.Measures.{boxes, is_taking_part, measures}

-- its entry, or itself as the container that is undefined, with its axis
abbrev pub Outcome : Type 0
Outcome = Mapped Entry

-- a row with these bars comes to its entry, and those below it to what they do; where its bars are undefined, none below it is reached
abbrev pub outcomes_with : Scene → Styled → Place → (Container → List (Option Region) → List Outcome) → Result Barred Axis → List Outcome
outcomes_with scene row place below (Ok bars) = Ok (entry_at scene row place bars) ∷ below (container scene row place bars) bars.arrangement.placed
outcomes_with scene row place below (Err axis) = Err (row.row.node, axis) ∷ []

-- what a row at its place comes to, and those below it
abbrev pub row_outcomes : Scene → Styled → Forest → (Container → List (Option Region) → List Outcome) → Place → List Outcome
row_outcomes scene row below children place =
    outcomes_with scene row place children
    (barred_row scene.size row (boxes row.style below) (measures scene.pictures scene.size below) (content_size row place.region))

-- one without a region isn't reached
abbrev pub outcomes_if : (Region → List Outcome) → Option Region → List Outcome
outcomes_if outcomes None = []
outcomes_if outcomes (Some region) = outcomes region

-- What the rows beside each other in a container come to, from the child at a place on, and those below them, in the order of the document:
-- whatever one comes to, those beside it are reached.
abbrev pub outcomes : Scene → Forest → Container → ℕ → List (Option Region) → List Outcome
outcomes scene Empty above place regions = []
outcomes scene (Grown row below beside) above place regions =
    if is_taking_part row then
    outcomes_if (λ region. row_outcomes scene row below (λ within. outcomes scene below within 0) (child_place above row place region)) (first_region regions)
    ++ outcomes scene beside above (place + 1) (drop 1 regions)
    else outcomes scene beside above (place + 1) regions

-- what all rows come to
abbrev pub all_outcomes : Scene → Forest → List Outcome
all_outcomes scene Empty = []
all_outcomes scene (Grown row below beside) = row_outcomes scene row below (λ within. outcomes scene below within 0) (screen_place scene.size)

-- A map has the entries of all rows that are reached. Where some of these are undefined it is undefined, and names the first of them in the
-- order of the document.
abbrev pub FirstIsNamed : Type 0
FirstIsNamed = (scene : Scene) → layout_map scene ≡ each_of (λ (one : Outcome). one) (all_outcomes scene (rows_of scene))
