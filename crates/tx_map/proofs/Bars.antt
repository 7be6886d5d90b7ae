-- The bars of a container, by what its children answer.
use Rattle.std.proofs.Common.{◌≡◌, ℕ, ◌<◌, true, false, List, length, map, drop, Option, Some, Result, Ok, ◌∙◌, refl, sym, ap, subst}
use Rattle.std.proofs.lemmas.Option.{slice_get-map, slice_get-get_or}
use Rattle.std.specs.Prelude.{option_map, option_and_then, slice_get, slice_index}
use Rattle.tx_geom.specs.declared.choices.Axis.{Axis}
use Rattle.tx_geom.specs.declared.places.Size.{Size}
use Rattle.tx_box.specs.declared.items.LayoutFault.{LayoutFault}
use Rattle.tx_layout.specs.Ask.{IsAnswer, Means}
use Rattle.tx_layout.specs.declared.styles.Ask.{Ask}
use Rattle.tx_layout.specs.declared.styles.BoxStyle.{BoxStyle}
use Rattle.tx_look.specs.Boxes.{grid_style}
use Rattle.tx_map.specs.LayoutMap.{barred_row, without_children}
use Rattle.tx_map.specs.Subtrees.{barred_in, rows_below}
use Rattle.tx_node_map.specs.Held.{nothing}
use Rattle.tx_scroll.specs.Bars.{barred}
use Rattle.tx_scroll.specs.declared.trials.Barred.{Barred}
use Rattle.tx_sizes.specs.Counts.{AreChildren}
use Rattle.tx_sizes.specs.Forest.{Styled, forest, under}
use Rattle.tx_sizes.specs.Measures.{Measure, answer_of, boxes, first_measure, measures}
use Rattle.tx_tree.specs.Kind.{holds_children}
use Rattle.tx_value.specs.StyleReads as style
use Rattle.tx_value.specs.declared.value.Value.{Value}

-- a child's answer is what the row at its start measures
pub child_answer : {container : List Value} {least : ℕ} {rows : List Styled} {styles : List BoxStyle} {starts : List ℕ} → AreChildren container least rows styles starts
    → (screen : Size) (ask : Ask) → ask.child < length starts
    → first_measure nothing screen (forest (drop (slice_index starts ask.child) rows)) ask.width ask.area ≡ answer_of (measures nothing screen (under least (forest rows))) ask
child_answer {container} {least} {rows} {styles} {starts} children screen ask h =
    let measured : ℕ → Measure = λ start. first_measure nothing screen (forest (drop start rows)) in
    let start = slice_index starts ask.child in
    let got : slice_get (map measured starts) ask.child ≡ Some (measured start) =
    slice_get-map measured starts ask.child ∙ ap (option_map measured) (slice_get-get_or starts ask.child 0 h) in
    sym (ap (λ (o : Option Measure). option_and_then (λ measure. measure ask.width ask.area) o) (ap (λ (ms : List Measure). slice_get ms ask.child) (sym (children.measures nothing screen)) ∙ got))

-- the answers of the children, where each is what the row at its start measures
pub means : {container : List Value} {least : ℕ} {rows : List Styled} {styles : List BoxStyle} {starts : List ℕ} → AreChildren container least rows styles starts → length styles ≡ length starts
    → (screen : Size) (post : Ask → Result ℕ LayoutFault → Type 0)
    → ((ask : Ask) → ask.child < length starts → (r : Result ℕ LayoutFault) → post ask r → IsAnswer (first_measure nothing screen (forest (drop (slice_index starts ask.child) rows)) ask.width ask.area) r)
    → Means post (length styles) (answer_of (measures nothing screen (under least (forest rows))))
means children as_many screen post answers =
    record {
      each = λ ask h r p.
          let within = subst (λ (n : ℕ). ask.child < n) as_many h in
          subst (λ (m : Option ℕ). IsAnswer m r) (child_answer children screen ask within) (answers ask within r p);
    }

-- the bars of a container are those of its row
abbrev pub barred_below : Size → Styled → List Styled → Size → Result Barred Axis
barred_below screen row behind content =
    barred (answer_of (measures nothing screen (rows_below row behind))) (style.overflow_x row.style) (style.overflow_y row.style) (style.layout row.style) (grid_style row.style)
    (style.align row.style) (boxes row.style (rows_below row behind)) content screen

pub container_bars : (screen : Size) (row : Styled) (behind : List Styled) (content : Size) → holds_children row.row.kind ≡ true → barred_in nothing screen row behind content ≡ barred_below screen row behind content
unfolding barred_row
container_bars screen row behind content is = rw is refl

pub leaf_bars : (screen : Size) (row : Styled) (behind : List Styled) (content : Size) → holds_children row.row.kind ≡ false → barred_in nothing screen row behind content ≡ Ok (without_children content)
unfolding barred_row
leaf_bars screen row behind content is = rw is refl
