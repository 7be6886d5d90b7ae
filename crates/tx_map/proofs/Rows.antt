-- Rows in preorder: the rows below one of them, and the ones behind these.
use Rattle.std.proofs.Common.{◌≡◌, ℕ, suc, ◌+◌, ◌-◌, ◌<◌, ◌≤◌, Bool, true, false, cond, List, [], ◌∷◌, length, drop, get_or, ◌∙◌, refl, sym, ap, drop-cons, arith}
use Rattle.std.proofs.lemmas.Bool.{le-ltb, lt-ltb}
use Rattle.std.proofs.lemmas.List.{drop-drop, length-drop}
use Rattle.std.proofs.lemmas.List.Sums.{prefix_len-le-length}
use Rattle.std.proofs.Math.ListN.{drop_of_length-le}
use Rattle.std.specs.List.{prefix_len}
use Rattle.std.specs.Prelude.{nat_lt, slice_index}
use Rattle.tx_map.specs.Ticks.{container_number, containers_below}
use Rattle.tx_sizes.specs.Counts.{counts, is_deeper}
use Rattle.tx_layout.specs.declared.styles.BoxStyle.{BoxStyle}
use Rattle.tx_look.specs.Boxes.{box_style}
use Rattle.tx_sizes.specs.Measures.{boxes, is_taking_part}
use Rattle.tx_value.specs.declared.value.Value.{Value}
use Rattle.tx_sizes.proofs.lemmas.RowsBelow.{behind-count, counts-drop, deeper_too, length-counts, prefix-deeper}
use Rattle.tx_sizes.specs.Forest.{Styled, Forest, Empty, Grown, depth, under, behind, forest}

-- ---- one child of a container at depth d

-- the row at a place, the rows behind it, and the place of the next row that isn't below it
pub record Child (d : ℕ) (rows : List Styled) (at : ℕ) (row : Styled) (next : ℕ) : Type 0 where
  pub here : drop at rows ≡ row ∷ drop (suc at) rows
  pub then : next ≡ at + (1 + prefix_len (is_deeper (depth row)) (drop (suc at) rows))
  pub within : next ≤ length rows
  pub deep : d < depth row

pub child_at : (d : ℕ) (rows : List Styled) (at : ℕ) (row : Styled) → at < length rows → row ≡ get_or rows at row → d < depth row
    → Child d rows at row (at + (1 + slice_index (counts rows) at))
unfolding counts
child_at d rows at row h is deep =
    let rest = drop (suc at) rows in
    let here : drop at rows ≡ row ∷ rest = drop-cons rows at row h ∙ ap (λ r. r ∷ rest) (sym is) in
    let c = prefix_len (is_deeper (depth row)) rest in
    let counted : drop at (counts rows) ≡ c ∷ counts rest = sym (counts-drop at rows) ∙ ap counts here in
    let known : drop at (counts rows) ≡ get_or (counts rows) at 0 ∷ drop (suc at) (counts rows) = drop-cons (counts rows) at 0 (rw (length-counts rows) h) in
    let count : slice_index (counts rows) at ≡ c = ap (λ (ns : List ℕ). get_or ns 0 0) (sym known ∙ counted) in
    let few : c ≤ length rest = prefix_len-le-length (is_deeper (depth row)) rest in
    let long : length rest ≡ length rows - suc at = length-drop (suc at) rows in
    record {
      here = here;
      then = ap (λ n. at + (1 + n)) count;
      within = rw count (omega arith);
      deep = deep;
    }

-- the rows beside each other from a place on, in a container at depth d
abbrev pub from : ℕ → List Styled → ℕ → Forest
from d rows at = under d (forest (drop at rows))

-- the first of them is the row at that place, and the others begin at the next one
pub tops : {d at next : ℕ} {rows : List Styled} {row : Styled} → Child d rows at row next
    → from d rows at ≡ Grown row (under (depth row) (forest (drop (suc at) rows))) (from d rows next)
unfolding forest
tops {d} {at} {next} {rows} {row} child =
    let rest = drop (suc at) rows in
    let c = prefix_len (is_deeper (depth row)) rest in
    let later : drop c rest ≡ drop next rows = drop-drop c (suc at) rows ∙ ap (λ n. drop n rows) (let e : suc at + c ≡ next = omega (arith, child.then) in e) in
    let others : under d (behind (depth row) (forest rest)) ≡ from d rows next =
    ap (under d) (behind-count (depth row) rest) ∙ ap (λ rows. under d (forest rows)) later in
    let is : nat_lt d (depth row) ≡ true = lt-ltb d (depth row) child.deep in
    ap (λ rows. under d (forest rows)) child.here ∙ rw is (ap (Grown row (under (depth row) (forest rest))) others)

-- where the row at a place isn't deeper, or there is none, there are no others
pub ends_here : {d at : ℕ} (rows : List Styled) (row : Styled) → at < length rows → row ≡ get_or rows at row → depth row ≤ d → from d rows at ≡ Empty
unfolding forest
ends_here {d} {at} rows row h is shallow =
    let here : drop at rows ≡ row ∷ drop (suc at) rows = drop-cons rows at row h ∙ ap (λ r. r ∷ drop (suc at) rows) (sym is) in
    let no_more : nat_lt d (depth row) ≡ false = le-ltb d (depth row) shallow in
    ap (λ rows. under d (forest rows)) here ∙ rw no_more refl

pub ends_all : {at : ℕ} (d : ℕ) (rows : List Styled) → length rows ≤ at → from d rows at ≡ Empty
unfolding forest
ends_all {at} d rows h = ap (λ rows. under d (forest rows)) (drop_of_length-le rows h)

-- ---- how many rows were gone over

pub record Passed (d : ℕ) (rows : List Styled) (at : ℕ) : Type 0 where
  pub is : prefix_len (is_deeper d) rows ≡ at + prefix_len (is_deeper d) (drop at rows)
  pub within : at ≤ length rows

pub passed_none : (d : ℕ) (rows : List Styled) → Passed d rows 0
passed_none d rows = record { is = omega arith; within = omega arith }

pub passed_next : {d at next : ℕ} {rows : List Styled} {row : Styled} → Passed d rows at → Child d rows at row next → Passed d rows next
passed_next {d} {at} {next} {rows} {row} passed child =
    let p = prefix_len (is_deeper d) in
    let rest = drop (suc at) rows in
    let c = prefix_len (is_deeper (depth row)) rest in
    let is : nat_lt d (depth row) ≡ true = lt-ltb d (depth row) child.deep in
    let more : p rest ≡ c + p (drop c rest) = prefix-deeper d (depth row) (omega (arith, child.deep)) rest in
    let first : p (drop at rows) ≡ 1 + p rest = ap p child.here ∙ rw is refl in
    let later : drop c rest ≡ drop next rows = drop-drop c (suc at) rows ∙ ap (λ n. drop n rows) (let e : suc at + c ≡ next = omega (arith, child.then) in e) in
    let last : p (drop c rest) ≡ p (drop next rows) = ap p later in
    record { is = omega (arith, passed.is, first, more, last, child.then); within = child.within }

-- ---- how many containers are among them

more_containers : (d e : ℕ) → d ≤ e → (row : Styled) (rows : List Styled)
    → containers_below d rows ≡ containers_below e rows + containers_below d (drop (prefix_len (is_deeper e) rows) rows)
    → (deep : Bool) → nat_lt e (depth row) ≡ deep
    → containers_below d (row ∷ rows) ≡ cond deep (container_number row.row + containers_below e rows) 0 + containers_below d (drop (cond deep (1 + prefix_len (is_deeper e) rows) 0) (row ∷ rows))
unfolding containers_below
more_containers d e h row rows same true is =
    let next : 1 + prefix_len (is_deeper e) rows ≡ suc (prefix_len (is_deeper e) rows) = omega arith in
    rw (deeper_too d e (depth row) h is, next) (omega (arith, same))
more_containers d e h row rows same false is = omega arith

containers_deeper : (d e : ℕ) → d ≤ e → (rows : List Styled)
    → containers_below d rows ≡ containers_below e rows + containers_below d (drop (prefix_len (is_deeper e) rows) rows)
unfolding containers_below
containers_deeper d e h [] = refl
containers_deeper d e h (row ∷ rows) = more_containers d e h row rows (containers_deeper d e h rows) (nat_lt e (depth row)) refl

first_container : (d : ℕ) (row : Styled) (rows : List Styled) → nat_lt d (depth row) ≡ true → containers_below d (row ∷ rows) ≡ container_number row.row + containers_below d rows
unfolding containers_below
first_container d row rows is = rw is refl

-- those of a child and of the rows below it come before those of the next one
pub containers_next : {d at next : ℕ} {rows : List Styled} {row : Styled} → Child d rows at row next
    → containers_below d (drop at rows) ≡ (container_number row.row + containers_below (depth row) (drop (suc at) rows)) + containers_below d (drop next rows)
containers_next {d} {at} {next} {rows} {row} child =
    let rest = drop (suc at) rows in
    let c = prefix_len (is_deeper (depth row)) rest in
    let first : containers_below d (drop at rows) ≡ container_number row.row + containers_below d rest =
    ap (containers_below d) child.here ∙ first_container d row rest (lt-ltb d (depth row) child.deep) in
    let more : containers_below d rest ≡ containers_below (depth row) rest + containers_below d (drop c rest) = containers_deeper d (depth row) (omega (arith, child.deep)) rest in
    let later : drop c rest ≡ drop next rows = drop-drop c (suc at) rows ∙ ap (λ n. drop n rows) (let e : suc at + c ≡ next = omega (arith, child.then) in e) in
    let last : containers_below d (drop c rest) ≡ containers_below d (drop next rows) = ap (containers_below d) later in
    omega (arith, first, more, last)

-- ---- how many children there are

size : Forest → ℕ
size Empty = 0
size (Grown row below beside) = suc (size below + size beside)

size_cut : (d : ℕ) (f : Forest) → size (under d f) + size (behind d f) ≡ size f
unfolding size
size_cut d Empty = refl
size_cut d (Grown row below beside) = size_by d row below beside (size_cut d beside) (nat_lt d (depth row))
  where
    size_by : (d : ℕ) (row : Styled) (below beside : Forest) → size (under d beside) + size (behind d beside) ≡ size beside → (deep : Bool)
        → size (cond deep (Grown row below (under d beside)) Empty) + size (cond deep (behind d beside) (Grown row below beside)) ≡ size (Grown row below beside)
    size_by d row below beside same true = omega (arith, same)
    size_by d row below beside same false = omega arith

size_forest : (rows : List Styled) → size (forest rows) ≡ length rows
unfolding size forest
size_forest [] = refl
size_forest (row ∷ rows) = ap suc (size_cut (depth row) (forest rows) ∙ size_forest rows)

boxes_size : (container : List Value) (f : Forest) → length (boxes container f) ≤ size f
unfolding size
boxes_size container Empty = omega arith
boxes_size container (Grown row below beside) = boxes_by (is_taking_part row) (box_style container row.style) (boxes container beside) (size below) (size beside) (boxes_size container beside)
  where
    boxes_by : (part : Bool) (one : BoxStyle) (others : List BoxStyle) (b s : ℕ) → length others ≤ s → length (cond part (one ∷ others) others) ≤ suc (b + s)
    boxes_by true one others b s h = omega (arith, h)
    boxes_by false one others b s h = omega (arith, h)

-- no more children than rows
pub few_boxes : (container : List Value) (d : ℕ) (rows : List Styled) → length (boxes container (under d (forest rows))) ≤ length rows
few_boxes container d rows =
    let cut = size_cut d (forest rows) in
    let all = size_forest rows in
    let some = boxes_size container (under d (forest rows)) in
    omega (arith, cut, all, some)
