-- What the content of a row measures.
use Rattle.std.specs.Prelude.{ℕ, Bool, List, [], ◌∷◌, Option, Some, None, option_and_then, slice_get, Result, Ok, Err, if◌then◌else◌}
use Rattle.std.specs.Option.{option_map_or}
use Rattle.tx_cell.specs.Pen.{white_on_black}
use Rattle.tx_geom.specs.declared.choices.Axis.{Axis}
use Rattle.tx_geom.specs.declared.places.Size.{Size}
use Rattle.tx_layout.specs.Arrangement.{wide, tall}
use Rattle.tx_layout.specs.declared.styles.Ask.{Ask}
use Rattle.tx_layout.specs.declared.styles.BoxStyle.{BoxStyle}
use Rattle.tx_look.specs.Boxes.{box_style, grid_style}
use Rattle.tx_sizes.specs.Forest.{Styled, Forest, Empty, Grown}
use Rattle.tx_tree.specs.Kind.{holds_children, is_handed}
use Rattle.tx_tree.specs.declared.row.Row.{Row}
use Rattle.tx_value.specs.StyleReads as style
use Rattle.tx_value.specs.declared.value.Value.{Value}
use Rattle.tx_widgets.specs.Measures.{wanted_width, wanted_height}

-- What the object of a handed-in row measures: its width, and its height at each width.
pub record Picture : Type 0 where
  pub wide : ℕ
  pub tall : ℕ → ℕ

-- the pictures of the objects by the numbers of their nodes
abbrev pub Pictures : Type 0
Pictures = ℕ → Option Picture

-- What a row measures: without a width the width of its content in an area, with one the height at that width; or nothing,
-- where a step on the way is refused.
abbrev pub Measure : Type 0
Measure = Option ℕ → Size → Option ℕ

-- ---- the rows that take part

-- A row takes part where it is displayed and the row above it takes part.
abbrev pub is_taking_part : Styled → Bool
is_taking_part row = style.is_displayed row.style

-- what is said of a row that takes part stands before what is said of the others
abbrev pub with_part : {A : Type 0} → Styled → A → List A → List A
with_part row one others = if is_taking_part row then one ∷ others else others

-- the boxes of the rows beside each other that take part, in a container of this style
abbrev pub boxes : List Value → Forest → List BoxStyle
boxes container Empty = []
boxes container (Grown row below beside) = with_part row (box_style container row.style) (boxes container beside)

-- ---- rows of a kind without children

-- the picture of a row's object, where it is handed in
abbrev pub picture_of : Pictures → Row → Option Picture
picture_of pictures row = if is_handed row.kind then pictures row.node.0 else None

-- what the object says, or else what the kind wants, in whatever pen
abbrev pub own_width : Option Picture → Row → ℕ
own_width picture row = option_map_or (λ one. one.wide) picture (wanted_width row.kind row.text white_on_black)

abbrev pub own_height : Option Picture → Row → ℕ → ℕ
own_height picture row width = option_map_or (λ one. one.tall width) picture (wanted_height row.kind row.text width white_on_black)

abbrev pub own_measure : Option Picture → Row → Measure
own_measure picture row None area = Some (own_width picture row)
own_measure picture row (Some width) area = Some (own_height picture row width)

-- ---- containers

-- the number, where there is one
abbrev pub number_of : Result ℕ Axis → Option ℕ
number_of (Ok n) = Some n
number_of (Err axis) = None

-- what the children of a container answer: the one with that place among those that take part
abbrev pub answer_of : List Measure → Ask → Option ℕ
answer_of measures ask = option_and_then (λ measure. measure ask.width ask.area) (slice_get measures ask.child)

-- what a container with these children measures, on a screen
abbrev pub container_measure : Size → List Value → List BoxStyle → List Measure → Measure
container_measure screen own children measures None area =
    number_of (wide (answer_of measures) (style.layout own) (grid_style own) children area screen)
container_measure screen own children measures (Some width) area =
    number_of (tall (answer_of measures) (style.layout own) (grid_style own) children width area screen)

-- ---- all rows

-- what a row measures, whose children that take part have these boxes and measures
unfoldable pub row_measure : Pictures → Size → Styled → List BoxStyle → List Measure → Measure
row_measure pictures screen row children measures =
    if holds_children row.row.kind then container_measure screen row.style children measures else own_measure (picture_of pictures row.row) row.row

-- what the rows beside each other that take part measure
unfoldable pub measures : Pictures → Size → Forest → List Measure
measures pictures screen Empty = []
measures pictures screen (Grown row below beside) =
    with_part row (row_measure pictures screen row (boxes row.style below) (measures pictures screen below)) (measures pictures screen beside)

-- what the first row measures, whether it takes part or not
abbrev pub first_measure : Pictures → Size → Forest → Measure
first_measure pictures screen Empty width area = None
first_measure pictures screen (Grown row below beside) width area =
    row_measure pictures screen row (boxes row.style below) (measures pictures screen below) width area
