-- What a row answers, by what its children answer.
use Rattle.std.proofs.Common.{◌≡◌, ℕ, ◌<◌, Bool, true, false, cond, List, ◌∷◌, length, map, drop, Option, Some, None, Result, Ok, Err, ◌∙◌, refl, sym, ap, subst}
use Rattle.std.proofs.lemmas.Option.{slice_get-map, slice_get-get_or}
use Rattle.std.specs.Prelude.{option_map, option_and_then, slice_get, slice_index}
use Rattle.tx_box.specs.declared.items.LayoutFault.{LayoutFault}
use Rattle.tx_box.specs.declared.items.LayoutFault.TheVariants.{Fraction, NoMemory}
use Rattle.tx_geom.specs.declared.choices.Axis.{Axis}
use Rattle.tx_geom.specs.declared.places.Size.{Size}
use Rattle.tx_geom.specs.declared.choices.LayoutKind.{LayoutKind}
use Rattle.tx_layout.specs.Arrangement.{tall, wide}
use Rattle.tx_layout.specs.Ask.{IsAnswer, Means, told}
use Rattle.tx_layout.specs.declared.styles.Ask.{Ask}
use Rattle.tx_layout.specs.declared.styles.BoxStyle.{BoxStyle}
use Rattle.tx_layout.specs.declared.styles.GridStyle.{GridStyle}
use Rattle.tx_look.specs.Boxes.{grid_style}
use Rattle.tx_read.specs.Answer.{Gives}
use Rattle.tx_sizes.specs.Counts.{AreChildren}
use Rattle.tx_sizes.specs.Forest.{Styled, depth, forest, under}
use Rattle.tx_sizes.specs.Measures.{Measure, Picture, Pictures, picture_of, answer_of, boxes, container_measure, first_measure, measures, number_of, own_measure, row_measure}
use Rattle.tx_node_map.specs.Held.{nothing}
use Rattle.tx_tree.specs.Kind.{holds_children, is_handed}
use Rattle.tx_tree.specs.Row.{plain}
use Rattle.tx_tree.specs.declared.row.Row.{Row}
use Rattle.tx_value.specs.StyleReads.{layout}
use Rattle.tx_value.specs.declared.value.Value.{Value}

-- what a call gives is an answer
pub answered : (r : Result ℕ LayoutFault) (means : Result ℕ Axis) → Gives (λ n. n) told r means → IsAnswer (number_of means) r
answered (Ok n) means is = ap number_of is
answered (Err (Fraction axis)) means is = ap number_of is
answered (Err NoMemory) means is = tt

-- a child's answer is what the row at its start measures
pub child_answer : {container : List Value} {least : ℕ} {rows : List Styled} {styles : List BoxStyle} {starts : List ℕ} → AreChildren container least rows styles starts
    → (pictures : Pictures) (screen : Size) (ask : Ask) → ask.child < length starts
    → first_measure pictures screen (forest (drop (slice_index starts ask.child) rows)) ask.width ask.area ≡ answer_of (measures pictures screen (under least (forest rows))) ask
child_answer {container} {least} {rows} {styles} {starts} children pictures screen ask h =
    let measured : ℕ → Measure = λ start. first_measure pictures screen (forest (drop start rows)) in
    let start = slice_index starts ask.child in
    let got : slice_get (map measured starts) ask.child ≡ Some (measured start) =
    slice_get-map measured starts ask.child ∙ ap (option_map measured) (slice_get-get_or starts ask.child 0 h) in
    sym (ap (λ (o : Option Measure). option_and_then (λ measure. measure ask.width ask.area) o) (ap (λ (ms : List Measure). slice_get ms ask.child) (sym (children.measures pictures screen)) ∙ got))

-- a row without children
pub leaf_answer : (rows behind : List Styled) (first : Styled) (pictures : Pictures) (screen : Size) (width : Option ℕ) (area : Size) (r : Result ℕ LayoutFault)
    → rows ≡ first ∷ behind → holds_children first.row.kind ≡ false → IsAnswer (own_measure (picture_of pictures first.row) first.row width area) r → IsAnswer (first_measure pictures screen (forest rows) width area) r
unfolding forest row_measure
leaf_answer rows behind first pictures screen width area r is leaf answer =
    subst (λ (rows : List Styled). IsAnswer (first_measure pictures screen (forest rows) width area) r) (sym is) (rw leaf answer)

-- a container
pub container_answer : (rows behind : List Styled) (first : Styled) (pictures : Pictures) (screen : Size) (width : Option ℕ) (area : Size) (r : Result ℕ LayoutFault)
    → rows ≡ first ∷ behind → holds_children first.row.kind ≡ true
    → IsAnswer (container_measure screen first.style (boxes first.style (under (depth first) (forest behind))) (measures pictures screen (under (depth first) (forest behind))) width area) r
    → IsAnswer (first_measure pictures screen (forest rows) width area) r
unfolding forest row_measure
container_answer rows behind first pictures screen width area r is container answer =
    subst (λ (rows : List Styled). IsAnswer (first_measure pictures screen (forest rows) width area) r) (sym is) (rw container answer)

-- the answers of the children, where each is what the row at its start measures
pub means : {container : List Value} {least : ℕ} {rows : List Styled} {styles : List BoxStyle} {starts : List ℕ} → AreChildren container least rows styles starts → length styles ≡ length starts
    → (pictures : Pictures) (screen : Size) (post : Ask → Result ℕ LayoutFault → Type 0)
    → ((ask : Ask) → ask.child < length starts → (r : Result ℕ LayoutFault) → post ask r → IsAnswer (first_measure pictures screen (forest (drop (slice_index starts ask.child) rows)) ask.width ask.area) r)
    → Means post (length styles) (answer_of (measures pictures screen (under least (forest rows))))
means children as_many pictures screen post answers =
    record {
      each = λ ask h r p.
          let within = subst (λ (n : ℕ). ask.child < n) as_many h in
          subst (λ (m : Option ℕ). IsAnswer m r) (child_answer children pictures screen ask within) (answers ask within r p);
    }

-- the row as a container, by what was read of it
pub record IsRead (rows behind : List Styled) (first : Styled) (container : List Value) (least : ℕ) (kind : LayoutKind) (grid : GridStyle) : Type 0 where
  pub rows_are : rows ≡ first ∷ behind
  pub holds : holds_children first.row.kind ≡ true
  pub style_is : container ≡ first.style
  pub depth_is : least ≡ depth first
  pub kind_is : kind ≡ layout container
  pub grid_is : grid ≡ grid_style container

pub wide_answer : {rows behind : List Styled} {first : Styled} {container : List Value} {least : ℕ} {kind : LayoutKind} {grid : GridStyle} {styles : List BoxStyle} {starts : List ℕ}
    → IsRead rows behind first container least kind grid → AreChildren container least behind styles starts → (pictures : Pictures) (screen area : Size) (r : Result ℕ LayoutFault)
    → Gives (λ n. n) told r (wide (answer_of (measures pictures screen (under least (forest behind)))) kind grid styles area screen)
    → IsAnswer (first_measure pictures screen (forest rows) None area) r
wide_answer {rows} {behind} {first} {container} {least} {kind} {grid} {styles} {starts} read children pictures screen area r given =
    container_answer rows behind first pictures screen None area r read.rows_are read.holds
    (rw (sym read.style_is, sym read.depth_is) (answered r _ (rw (sym read.kind_is, sym read.grid_is, sym children.boxes) given)))

pub tall_answer : {rows behind : List Styled} {first : Styled} {container : List Value} {least : ℕ} {kind : LayoutKind} {grid : GridStyle} {styles : List BoxStyle} {starts : List ℕ}
    → IsRead rows behind first container least kind grid → AreChildren container least behind styles starts → (pictures : Pictures) (screen area : Size) (width : ℕ) (r : Result ℕ LayoutFault)
    → Gives (λ n. n) told r (tall (answer_of (measures pictures screen (under least (forest behind)))) kind grid styles width area screen)
    → IsAnswer (first_measure pictures screen (forest rows) (Some width) area) r
tall_answer {rows} {behind} {first} {container} {least} {kind} {grid} {styles} {starts} read children pictures screen area width r given =
    container_answer rows behind first pictures screen (Some width) area r read.rows_are read.holds
    (rw (sym read.style_is, sym read.depth_is) (answered r _ (rw (sym read.kind_is, sym read.grid_is, sym children.boxes) given)))

-- ---- a row of a kind without children

both_none : (b : Bool) → ◌≡◌ {A = Option Picture} (cond b None None) None
both_none true = refl
both_none false = refl

no_picture : (row : Row) → picture_of nothing row ≡ None
no_picture row = both_none (is_handed row.kind)

pub own_answer : {rows behind : List Styled} {first : Styled} (own : Row) (screen : Size) (width : Option ℕ) (area : Size) (r : Result ℕ LayoutFault)
    → rows ≡ first ∷ behind → plain own ≡ first.row → holds_children first.row.kind ≡ false → IsAnswer (own_measure None own width area) r
    → IsAnswer (first_measure nothing screen (forest rows) width area) r
own_answer {rows} {behind} {first} own screen width area r is same leaf answer =
    leaf_answer rows behind first nothing screen width area r is leaf
    (subst (λ (p : Option Picture). IsAnswer (own_measure p first.row width area) r) (sym (no_picture first.row))
    (subst (λ (row : Row). IsAnswer (own_measure None row width area) r) same answer))
