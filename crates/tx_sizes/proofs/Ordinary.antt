-- What ordinary rows measure is defined.
use Rattle.std.proofs.Common.{◌≡◌, ℕ, suc, ◌+◌, ◌<◌, ◌≤◌, Bool, true, false, cond, List, ◌∷◌, length, Option, Some, None, Result, Ok, Err, refl, sym, ap, subst, arith}
use Rattle.std.proofs.lemmas.List.Elements.{All-cons, All-get_or, All-nil}
use Rattle.std.proofs.lemmas.Option.{slice_get-get_or}
use Rattle.std.specs.Prelude.{All, IfSome, IsOkAnd, IsSomeAnd, option_and_then}
use Rattle.tx_box.specs.Ordinary.{IsCells, IsOrdinarySize}
use Rattle.tx_cell.specs.Pen.{white_on_black}
use Rattle.tx_cell.specs.declared.pen.Pen.{Pen}
use Rattle.tx_geom.specs.declared.choices.Axis.{Axis}
use Rattle.tx_geom.specs.declared.places.Size.{Size}
use Rattle.tx_layout.specs.Arrangement.{tall, wide}
use Rattle.tx_layout.specs.Ordinary.{AnswersOrdinary, AreOrdinaryChildren, IsOrdinaryStyle, IsOrdinaryWidth, OrdinaryChildren}
use Rattle.tx_layout.specs.declared.styles.Ask.{Ask}
use Rattle.tx_layout.specs.declared.styles.BoxStyle.{BoxStyle}
use Rattle.tx_look.specs.Boxes.{box_style, grid_style}
use Rattle.tx_look.specs.Ordinary.{OrdinaryLooks}
use Rattle.tx_sizes.specs.Forest.{Styled, Forest, Empty, Grown}
use Rattle.tx_sizes.specs.Measures.{Measure, Picture, Pictures, answer_of, boxes, container_measure, is_taking_part, measures, number_of, own_measure, picture_of, row_measure}
use Rattle.tx_sizes.specs.Ordinary.{AreOrdinary, AreOrdinaryPictures, IsOrdinaryMeasure, IsOrdinaryPicture, IsOrdinaryStyled, OrdinaryRows, count_beside}
use Rattle.tx_tree.specs.Kind.{holds_children, is_handed}
use Rattle.tx_tree.specs.declared.kind.Kind.{Kind}
use Rattle.tx_tree.specs.declared.kind.Kind.TheVariants.{Static, Label, Button, Checkbox, Input, OptionList, ProgressBar, Header, Footer}
use Rattle.tx_tree.specs.declared.row.Row.{Row}
use Rattle.tx_value.specs.StyleReads as style
use Rattle.tx_value.specs.declared.value.Value.{Value}
use Rattle.tx_widgets.specs.Measures.{wanted_height, wanted_width}

-- ---- the children of a container

boxes_long : (pictures : Pictures) (screen : Size) (own : List Value) (f : Forest) → length (measures pictures screen f) ≡ length (boxes own f)
unfolding measures
boxes_long pictures screen own Empty = refl
boxes_long pictures screen own (Grown row below beside) = long_by (is_taking_part row) _ (measures pictures screen beside) (box_style own row.style) (boxes own beside) (boxes_long pictures screen own beside)
  where
    long_by : (part : Bool) (m : Measure) (ms : List Measure) (b : BoxStyle) (bs : List BoxStyle) → length ms ≡ length bs → length (cond part (m ∷ ms) ms) ≡ length (cond part (b ∷ bs) bs)
    long_by true m ms b bs e = ap suc e
    long_by false m ms b bs e = e

boxes_few : (own : List Value) (f : Forest) → length (boxes own f) ≤ count_beside f
boxes_few own Empty = omega arith
boxes_few own (Grown row below beside) = few_by (is_taking_part row) (box_style own row.style) (boxes own beside) (count_beside beside) (boxes_few own beside)
  where
    few_by : (part : Bool) (b : BoxStyle) (bs : List BoxStyle) (n : ℕ) → length bs ≤ n → length (cond part (b ∷ bs) bs) ≤ 1 + n
    few_by true b bs n h = omega (arith, h)
    few_by false b bs n h = omega (arith, h)

all_if : {A : Type 0} (P : A → Type 0) (part : Bool) (x : A) (xs : List A) → P x → All P xs → All P (cond part (x ∷ xs) xs)
all_if P true x xs h hs = All-cons P x xs h hs
all_if P false x xs h hs = hs

boxes_ordinary : OrdinaryLooks → (own : List Value) (f : Forest) → AreOrdinary f → All IsOrdinaryStyle (boxes own f)
boxes_ordinary looks own Empty h = All-nil IsOrdinaryStyle
boxes_ordinary looks own (Grown row below beside) h =
    all_if IsOrdinaryStyle (is_taking_part row) (box_style own row.style) (boxes own beside) (looks.boxes own row.style h.0) (boxes_ordinary looks own beside h.1.1.1)

ordinary_boxes : OrdinaryLooks → (screen : Size) (own : List Value) (f : Forest) → IsOrdinarySize screen → IsOrdinaryStyled own → count_beside f ≤ 1000 → AreOrdinary f
    → AreOrdinaryChildren (boxes own f) (grid_style own) screen
ordinary_boxes looks screen own f s o few h =
    let less = boxes_few own f in
    record { each = boxes_ordinary looks own f h; few = omega (arith, less, few); tracks = looks.grids own o; sides = s }

-- ---- answers

answered : (ms : List Measure) (ask : Ask) → All IsOrdinaryMeasure ms → ask.child < length ms → IsOrdinaryWidth ask.width → IsOrdinarySize ask.area → IsSomeAnd (answer_of ms ask) IsCells
answered ms ask h within w a =
    let none : Measure = λ width area. None in
    let one = All-get_or IsOrdinaryMeasure ms ask.child none within h in
    subst (λ (o : Option Measure). IsSomeAnd (option_and_then (λ measure. measure ask.width ask.area) o) IsCells) (sym (slice_get-get_or ms ask.child none within)) (one ask.width ask.area w a)

answers_by : (pictures : Pictures) (screen : Size) (own : List Value) (f : Forest) → All IsOrdinaryMeasure (measures pictures screen f) → AnswersOrdinary (length (boxes own f)) (answer_of (measures pictures screen f))
answers_by pictures screen own f h ask within w a =
    let long = boxes_long pictures screen own f in
    answered (measures pictures screen f) ask h (omega (arith, within, long)) w a

-- ---- rows of a kind without children

widths_few : (kind : Kind) (text : List ℕ) (pen : Pen) → IsCells (wanted_width kind text pen)
widths_few kind text pen = omega arith

heights_few : (kind : Kind) (text : List ℕ) (width : ℕ) (pen : Pen) → IsCells (wanted_height kind text width pen)
heights_few Static text width pen = omega arith
heights_few Label text width pen = omega arith
heights_few Button text width pen = omega arith
heights_few Header text width pen = omega arith
heights_few Footer text width pen = omega arith
heights_few OptionList text width pen = omega arith
heights_few Checkbox text width pen = omega arith
heights_few Input text width pen = omega arith
heights_few ProgressBar text width pen = omega arith
heights_few _ text width pen = omega arith

if_handed : (b : Bool) (o : Option Picture) → IfSome o IsOrdinaryPicture → IfSome (cond b o None) IsOrdinaryPicture
if_handed true o h = h
if_handed false o h = tt

own_defined : (o : Option Picture) (row : Row) → IfSome o IsOrdinaryPicture → IsOrdinaryMeasure (own_measure o row)
own_defined None row h None area w a = widths_few row.kind row.text white_on_black
own_defined None row h (Some width) area w a = heights_few row.kind row.text width white_on_black
own_defined (Some picture) row h None area w a = h.wide
own_defined (Some picture) row h (Some width) area w a = h.tall width

-- ---- containers

numbered : (r : Result ℕ Axis) → IsOkAnd r (λ n. n ≤ 65535) → IsSomeAnd (number_of r) IsCells
numbered (Ok n) h = omega (arith, h)
numbered (Err axis) h = h

container_defined : OrdinaryChildren → (screen : Size) (own : List Value) (children : List BoxStyle) (ms : List Measure) → AreOrdinaryChildren children (grid_style own) screen
    → AnswersOrdinary (length children) (answer_of ms) → IsOrdinaryMeasure (container_measure screen own children ms)
container_defined law screen own children ms o answers None area w a = numbered (wide (answer_of ms) (style.layout own) (grid_style own) children area screen) (law.width (answer_of ms) (style.layout own) (grid_style own) children area screen o answers a)
container_defined law screen own children ms o answers (Some width) area w a =
    numbered (tall (answer_of ms) (style.layout own) (grid_style own) children width area screen) (law.height (answer_of ms) (style.layout own) (grid_style own) children width area screen o answers w a)

measure_by : (b : Bool) (m n : Measure) → IsOrdinaryMeasure m → IsOrdinaryMeasure n → (width : Option ℕ) (area : Size) → IsOrdinaryWidth width → IsOrdinarySize area → IsSomeAnd ((cond b m n) width area) IsCells
measure_by true m n h g = h
measure_by false m n h g = g

row_defined : OrdinaryChildren → (pictures : Pictures) (screen : Size) (row : Styled) (children : List BoxStyle) (ms : List Measure) → AreOrdinaryPictures pictures
    → AreOrdinaryChildren children (grid_style row.style) screen → AnswersOrdinary (length children) (answer_of ms) → IsOrdinaryMeasure (row_measure pictures screen row children ms)
unfolding row_measure
row_defined law pictures screen row children ms p o answers =
    measure_by (holds_children row.row.kind) (container_measure screen row.style children ms) (own_measure (picture_of pictures row.row) row.row)
    (container_defined law screen row.style children ms o answers) (own_defined (picture_of pictures row.row) row.row (if_handed (is_handed row.row.kind) (pictures row.row.node.0) (p row.row.node.0)))

all_defined : OrdinaryChildren → OrdinaryLooks → (pictures : Pictures) (screen : Size) (f : Forest) → AreOrdinaryPictures pictures → IsOrdinarySize screen → AreOrdinary f → All IsOrdinaryMeasure (measures pictures screen f)
unfolding measures
all_defined law looks pictures screen Empty p s h = All-nil IsOrdinaryMeasure
all_defined law looks pictures screen (Grown row below beside) p s h =
    let inner = all_defined law looks pictures screen below p s h.1.1.0 in
    let others = all_defined law looks pictures screen beside p s h.1.1.1 in
    let one = row_defined law pictures screen row (boxes row.style below) (measures pictures screen below) p (ordinary_boxes looks screen row.style below s h.0 h.1.0 h.1.1.0) (answers_by pictures screen row.style below inner) in
    all_if IsOrdinaryMeasure (is_taking_part row) (row_measure pictures screen row (boxes row.style below) (measures pictures screen below)) (measures pictures screen beside) one others

pub ordinary_rows : OrdinaryChildren → OrdinaryLooks → OrdinaryRows
ordinary_rows law looks = record {
  each_row = all_defined law looks;
  answers = λ pictures screen own rows p s h. answers_by pictures screen own rows (all_defined law looks pictures screen rows p s h);
  children = ordinary_boxes looks;
}
