-- What a map depends on.
use Rattle.std.proofs.Common.{◌≡◌, ℕ, ◌+◌, List, ◌++◌, drop, Option, Ok, ◌∙◌, refl, ap, if◌then◌else◌}
use Rattle.tx_geom.specs.declared.places.Region.{Region}
use Rattle.tx_layout.specs.declared.styles.BoxStyle.{BoxStyle}
use Rattle.tx_map.specs.LayoutMap.{Mapped, Place, Container, row_entries, entries, entries_if, first_region, child_place}
use Rattle.tx_map.specs.Scene.{Scene}
use Rattle.tx_map.specs.Subtrees.{setting}
use Rattle.tx_map.specs.declared.entry.Entry.{Entry}
use Rattle.tx_read.specs.Reading.{◌>>=◌}
use Rattle.tx_sizes.specs.Forest.{Styled, Forest, Empty, Grown}
use Rattle.tx_sizes.specs.Measures.{Measure, boxes, is_taking_part, measures}

-- what the children of a container give
abbrev pub Walk : Type 0
Walk = Container → ℕ → List (Option Region) → Mapped (List Entry)

-- one row more, with what those below and beside it give
abbrev pub step : Scene → Styled → List BoxStyle → List Measure → Walk → Walk → Walk
step scene row bs ms below beside above place regions =
    if is_taking_part row then
    entries_if (λ region. row_entries scene row bs ms (λ within. below within 0) (child_place above row place region)) (first_region regions) >>= (λ own.
    beside above (place + 1) (drop 1 regions) >>= (λ others. Ok (own ++ others)))
    else beside above (place + 1) regions

-- a row's entries depend on the pictures, the scrolls and the size of the screen alone
pub set_row : (scene : Scene) (row : Styled) (bs : List BoxStyle) (ms : List Measure) (children : Container → List (Option Region) → Mapped (List Entry)) (place : Place)
    → row_entries scene row bs ms children place ≡ row_entries (setting scene.pictures scene.scrolls scene.size) row bs ms children place
unfolding row_entries
set_row scene row bs ms children place = refl

-- so do those of all rows
pub set_entries : (scene : Scene) (f : Forest) → entries scene f ≡ entries (setting scene.pictures scene.scrolls scene.size) f
unfolding entries row_entries
set_entries scene Empty = refl
set_entries scene (Grown row below beside) =
    let bs = boxes row.style below in
    let ms = measures scene.pictures scene.size below in
    ap (λ (b : Walk). step scene row bs ms b (entries scene beside)) (set_entries scene below)
    ∙ ap (λ (b : Walk). step scene row bs ms (entries (setting scene.pictures scene.scrolls scene.size) below) b) (set_entries scene beside)
