-- Marks that are written one behind another.
use Rattle.std.proofs.Common.{◌≡◌, ◌≤◌, ◌<◌, ◌+◌, ℕ, List, [], ◌∷◌, ◌++◌, length, Option, Some, None, refl, ap, sym, ◌∙◌, append_assoc, append-nil, arith, length-append, Bool, true, false, cond, flat_map, ◌&&◌, ◌||◌, zip, drop, get_or, zero, suc, slice_get, length-drop, add-one, subst}
use Rattle.std.proofs.lemmas.List.{drop-drop, nil_from_length}
use Rattle.std.proofs.lemmas.Slice.Zip.{length-zip}
use Rattle.tx_cell.specs.Cell.{CellValue}
use Rattle.tx_cell.specs.declared.pen.Pen.{Pen}
use Rattle.tx_term.specs.Drawing.{Draws, DrawsColumn, pen_after, rest_marks, first_run_marks, unit_marks}
use Rattle.tx_io.specs.Sink.{SinkSeen}
use Rattle.tx_term.specs.Gather.{Gathered, Adds}
use Rattle.tx_term.specs.Update.{Mark, Move, Write, written, move_bytes, cell_bytes, Unit, runs, longer, run_marks, is_plain_cell, units, unit_differs, row_marks, rows_marks}
use Rattle.tx_term.specs.declared.update.writer.Writer.{Writer}
use Rattle.tx_term.proofs.GatherLemmas.{Adds-then, Adds-nothing}

pub written-append : (last : Option Pen) (a b : List Mark) → written last (a ++ b) ≡ written last a ++ written (pen_after last a) b
written-append last [] b = refl
written-append last (Move row column ∷ a) b = rw (written-append last a b) (sym (append_assoc (move_bytes row column) (written last a) (written (pen_after last a) b)))
written-append last (Write cell ∷ a) b = rw (written-append (Some cell.pen) a b) (sym (append_assoc (cell_bytes last cell) (written (Some cell.pen) a) (written (pen_after (Some cell.pen) a) b)))

pub pen_after-append : (last : Option Pen) (a b : List Mark) → pen_after last (a ++ b) ≡ pen_after (pen_after last a) b
pen_after-append last [] b = refl
pen_after-append last (Move row column ∷ a) b = pen_after-append last a b
pen_after-append last (Write cell ∷ a) b = pen_after-append (Some cell.pen) a b

-- some marks behind others
pub Draws-then : {s0 s1 s2 : SinkSeen} {w0 w1 w2 : Writer} (a b : List Mark) → Draws s0 s1 w0 w1 a → Draws s1 s2 w1 w2 b → Draws s0 s2 w0 w2 (a ++ b)
Draws-then {w0 = w0} {w1 = w1} {w2 = w2} a b first second = record {
  added = rw (written-append w0.pen a b, ← first.pen) (Adds-then _ _ first.added second.added);
  pen = second.pen ∙ ap (λ p. pen_after p b) first.pen ∙ sym (pen_after-append w0.pen a b);
  bounded = omega (arith, first.bounded, second.bounded, length-append a b);
}

-- no marks
pub Draws-nothing : {s : SinkSeen} {w : Writer} → Draws s s w w []
Draws-nothing = record { added = Adds-nothing; pen = refl; bounded = omega arith }

-- ---- runs

-- there is always a first run
longer-some : (unit : Unit) (rest : List (List Unit)) → (first : List Unit) × (more : List (List Unit)) × (longer unit rest ≡ first ∷ more)
longer-some unit [] = (unit ∷ [], [], refl)
longer-some unit (run ∷ more) = (unit ∷ run, more, refl)

runs-some : (rest : List Unit) → (first : List Unit) × (more : List (List Unit)) × (runs rest ≡ first ∷ more)
runs-some [] = ([], [], refl)
runs-some (unit ∷ rest) = elim unit.differs as (λ b. (first : List Unit) × (more : List (List Unit)) × (cond b (longer unit (runs rest)) ([] ∷ runs rest) ≡ first ∷ more))
    [ true ↦ longer-some unit (runs rest) | false ↦ ([], runs rest, refl) ]

-- a run goes on
run_goes_on : (moves : List Mark) (mark : Mark) (run more : List Mark) → (moves ++ (mark ∷ run)) ++ more ≡ (moves ++ mark ∷ []) ++ (run ++ more)
run_goes_on moves mark run more = simp append_assoc

first_run_marks-longer : (row : ℕ) (behind : Bool) (unit : Unit) (first : List Unit) (more : List (List Unit))
    → first_run_marks row behind (longer unit (first ∷ more)) ≡ unit_marks row unit.column behind unit.cell ++ first_run_marks row (is_plain_cell unit.cell) (first ∷ more)
first_run_marks-longer row behind unit first more =
    run_goes_on (cond (behind && is_plain_cell unit.cell) [] (Move (row + 1) (unit.column + 1) ∷ [])) (Write unit.cell) (run_marks row (is_plain_cell unit.cell) first) (flat_map (run_marks row false) more)

-- a unit that differs is written
pub rest_marks-differs : (row : ℕ) (behind : Bool) (unit : Unit) (rest : List Unit) → unit.differs ≡ true
    → rest_marks row behind (unit ∷ rest) ≡ unit_marks row unit.column behind unit.cell ++ rest_marks row (is_plain_cell unit.cell) rest
unfolding rest_marks
rest_marks-differs row behind unit rest differs =
    let some = runs-some rest in
    ap (λ b. first_run_marks row behind (cond b (longer unit (runs rest)) ([] ∷ runs rest))) differs
    ∙ ap (λ r. first_run_marks row behind (longer unit r)) some.2
    ∙ first_run_marks-longer row behind unit some.0 some.1
    ∙ ap (λ r. unit_marks row unit.column behind unit.cell ++ first_run_marks row (is_plain_cell unit.cell) r) (sym some.2)

first_run_marks-all : (row : ℕ) (all : List (List Unit)) → first_run_marks row false all ≡ flat_map (run_marks row false) all
first_run_marks-all row [] = refl
first_run_marks-all row (first ∷ more) = refl

-- one that doesn't ends the run
pub rest_marks-same : (row : ℕ) (behind : Bool) (unit : Unit) (rest : List Unit) → unit.differs ≡ false
    → rest_marks row behind (unit ∷ rest) ≡ rest_marks row false rest
unfolding rest_marks
rest_marks-same row behind unit rest same =
    ap (λ b. first_run_marks row behind (cond b (longer unit (runs rest)) ([] ∷ runs rest))) same ∙ sym (first_run_marks-all row (runs rest))

-- the whole row
pub rest_marks-all : (row : ℕ) (all : List Unit) → rest_marks row false all ≡ flat_map (run_marks row false) (runs all)
unfolding rest_marks
rest_marks-all row all = first_run_marks-all row (runs all)

pub rest_marks-end : (row : ℕ) (behind : Bool) → rest_marks row behind [] ≡ []
unfolding rest_marks
rest_marks-end row behind = refl

-- ---- columns

-- the units where there is a tail, and where there is none
pub units-tail : (whole : Bool) (column : ℕ) (old new : CellValue) (pairs : List (CellValue × CellValue)) → new.tail ≡ true
    → units whole column ((old, new) ∷ pairs) ≡ units whole (column + 1) pairs
units-tail whole column old new pairs tail = rw tail refl

pub units-head : (whole : Bool) (column : ℕ) (old new : CellValue) (pairs : List (CellValue × CellValue)) → new.tail ≡ false
    → units whole column ((old, new) ∷ pairs) ≡ record { column = column; cell = new; differs = whole || unit_differs (old, new) pairs } ∷ units whole (column + 1) pairs
units-head whole column old new pairs head = rw head refl

-- the tail of a unit
pub DrawsColumn-tail : {s : SinkSeen} {w : Writer} (row column : ℕ) (whole behind : Bool) (old new : CellValue) (pairs : List (CellValue × CellValue)) → new.tail ≡ true
    → DrawsColumn s s w w row column whole behind behind ((old, new) ∷ pairs)
DrawsColumn-tail row column whole behind old new pairs tail =
    record { marks = []; drawn = Draws-nothing; few = omega arith; rest = ap (rest_marks row behind) (units-tail whole column old new pairs tail) }

-- a unit that doesn't differ
pub DrawsColumn-same : {s : SinkSeen} {w : Writer} (row column : ℕ) (whole behind : Bool) (old new : CellValue) (pairs : List (CellValue × CellValue)) → new.tail ≡ false
    → (whole || unit_differs (old, new) pairs) ≡ false
    → DrawsColumn s s w w row column whole behind false ((old, new) ∷ pairs)
DrawsColumn-same row column whole behind old new pairs head same =
    record {
      marks = [];
      drawn = Draws-nothing;
      few = omega arith;
      rest = ap (rest_marks row behind) (units-head whole column old new pairs head) ∙ rest_marks-same row behind _ (units whole (column + 1) pairs) same;
    }

few_marks : (row column : ℕ) (behind : Bool) (cell : CellValue) → length (unit_marks row column behind cell) ≤ 2
few_marks row column behind cell =
    elim (behind && is_plain_cell cell) as (λ b. length ((cond b [] (Move (row + 1) (column + 1) ∷ [])) ++ Write cell ∷ []) ≤ 2) [ true ↦ omega arith | false ↦ omega arith ]

-- a unit that differs
pub DrawsColumn-unit : {s0 s1 : SinkSeen} {w0 w1 : Writer} (row column : ℕ) (whole behind after : Bool) (old new : CellValue) (pairs : List (CellValue × CellValue)) → new.tail ≡ false
    → (whole || unit_differs (old, new) pairs) ≡ true
    → Draws s0 s1 w0 w1 (unit_marks row column behind new) → after ≡ is_plain_cell new
    → DrawsColumn s0 s1 w0 w1 row column whole behind after ((old, new) ∷ pairs)
DrawsColumn-unit row column whole behind after old new pairs head differs drawn plain =
    record {
      marks = unit_marks row column behind new;
      drawn = drawn;
      few = few_marks row column behind new;
      rest = ap (rest_marks row behind) (units-head whole column old new pairs head)
          ∙ rest_marks-differs row behind _ (units whole (column + 1) pairs) differs
          ∙ ap (λ b. unit_marks row column behind new ++ rest_marks row b (units whole (column + 1) pairs)) (sym plain);
    }

-- ---- rows

zip-nothing : {A B : Type 0} (zs : List A) → zip {K = A} {X = B} zs [] ≡ []
zip-nothing [] = refl
zip-nothing (z ∷ zs) = refl

pub drop-zip : {A B : Type 0} (n : ℕ) (xs : List A) (ys : List B) → zip (drop n xs) (drop n ys) ≡ drop n (zip xs ys)
drop-zip zero xs ys = refl
drop-zip (suc n) [] [] = refl
drop-zip (suc n) [] (y ∷ ys) = refl
drop-zip (suc n) (x ∷ xs) [] = zip-nothing (drop n xs)
drop-zip (suc n) (x ∷ xs) (y ∷ ys) = drop-zip n xs ys

-- a column more of a row
pub row_more : (row column : ℕ) (whole behind after : Bool) (shown next shown_rest next_rest : List CellValue) (all marks more : List Mark)
    → shown_rest ≡ drop column shown → next_rest ≡ drop column next
    → all ≡ marks ++ rest_marks row behind (units whole column (drop column (zip shown next)))
    → rest_marks row behind (units whole column (zip shown_rest next_rest)) ≡ more ++ rest_marks row after (units whole (column + 1) (drop 1 (zip shown_rest next_rest)))
    → all ≡ (marks ++ more) ++ rest_marks row after (units whole (column + 1) (drop (column + 1) (zip shown next)))
row_more row column whole behind after shown next shown_rest next_rest all marks more shown_is next_is so_far here =
    let pairs = ap (λ s. zip s next_rest) shown_is ∙ ap (λ n. zip (drop column shown) n) next_is ∙ drop-zip column shown next in
    so_far
    ∙ ap (λ z. marks ++ rest_marks row behind (units whole column z)) (sym pairs)
    ∙ ap (λ m. marks ++ m) here
    ∙ ap (λ z. marks ++ (more ++ rest_marks row after (units whole (column + 1) z))) (ap (drop 1) pairs ∙ drop-drop 1 column (zip shown next))
    ∙ sym (append_assoc marks more (rest_marks row after (units whole (column + 1) (drop (column + 1) (zip shown next)))))

drop_first : {A : Type 0} (xs : List A) (n : ℕ) (x : A) → n < length xs → x ≡ get_or xs n x → drop n xs ≡ x ∷ drop (suc n) xs
drop_first [] n x few is = absurd (omega (arith, few))
drop_first (y ∷ xs) zero x few is = ap (λ z. z ∷ xs) (sym is)
drop_first (y ∷ xs) (suc n) x few is = drop_first xs n x (omega (arith, few)) is

-- the cells in a column, and those behind them
pub zip-column : (shown next shown_rest next_rest : List CellValue) (column : ℕ) (old new : CellValue) → column < length next → length shown ≡ length next
    → old ≡ get_or shown column old → new ≡ get_or next column new → shown_rest ≡ drop (column + 1) shown → next_rest ≡ drop (column + 1) next
    → zip (drop column shown) (drop column next) ≡ (old, new) ∷ zip shown_rest next_rest
zip-column shown next shown_rest next_rest column old new inside same old_is new_is shown_is next_is =
    let one : suc column ≡ column + 1 = omega arith in
    let olds = drop_first shown column old (omega (arith, inside, same)) old_is ∙ ap (λ n. old ∷ drop n shown) one ∙ ap (λ rest. old ∷ rest) (sym shown_is) in
    let news = drop_first next column new inside new_is ∙ ap (λ n. new ∷ drop n next) one ∙ ap (λ rest. new ∷ rest) (sym next_is) in
    ap (λ xs. zip xs (drop column next)) olds ∙ ap (λ ys. zip (old ∷ shown_rest) ys) news

-- the end of a row
pub row_end : (row column : ℕ) (whole behind : Bool) (shown next : List CellValue) (marks : List Mark)
    → length next ≤ column
    → rest_marks row false (units whole 0 (zip shown next)) ≡ marks ++ rest_marks row behind (units whole column (drop column (zip shown next)))
    → row_marks whole row shown next ≡ marks
row_end row column whole behind shown next marks past all =
    let none : drop column (zip shown next) ≡ [] = nil_from_length _ (omega (arith, length-drop column (zip shown next), length-zip shown next)) in
    sym (rest_marks-all row (units whole 0 (zip shown next))) ∙ all
    ∙ ap (λ z. marks ++ rest_marks row behind (units whole column z)) none
    ∙ ap (λ m. marks ++ m) (rest_marks-end row behind) ∙ append-nil marks

-- the row at an index, and those below it
pub drop-at : {A : Type 0} (xs : List A) (n : ℕ) (x : A) → slice_get xs n ≡ Some x → drop n xs ≡ x ∷ drop (n + 1) xs
drop-at [] zero x e = cc
drop-at [] (suc n) x e = cc
drop-at (y ∷ xs) zero x e = cc
drop-at (y ∷ xs) (suc n) x e = rw add-one (drop-at xs n x e ∙ ap (λ m. x ∷ drop m xs) (add-one n))

-- a row more
pub rows_more : (whole : Bool) (row : ℕ) (shown next : List (List CellValue)) (old new : List CellValue) (all marks : List Mark)
    → slice_get shown row ≡ Some old → slice_get next row ≡ Some new
    → all ≡ marks ++ rows_marks whole row (drop row shown) (drop row next)
    → all ≡ (marks ++ row_marks whole row old new) ++ rows_marks whole (row + 1) (drop (row + 1) shown) (drop (row + 1) next)
rows_more whole row shown next old new all marks shown_row next_row so_far =
    so_far
    ∙ ap (λ r. marks ++ rows_marks whole row r (drop row next)) (drop-at shown row old shown_row)
    ∙ ap (λ r. marks ++ rows_marks whole row (old ∷ drop (row + 1) shown) r) (drop-at next row new next_row)
    ∙ sym (append_assoc marks (row_marks whole row old new) (rows_marks whole (row + 1) (drop (row + 1) shown) (drop (row + 1) next)))

-- no row is left
rows_marks-none : (whole : Bool) (row : ℕ) (shown : List (List CellValue)) → rows_marks whole row shown [] ≡ []
rows_marks-none whole row [] = refl
rows_marks-none whole row (old ∷ olds) = refl

pub rows_end : (whole : Bool) (row : ℕ) (shown next : List (List CellValue)) (marks : List Mark) → length next ≤ row
    → rows_marks whole 0 shown next ≡ marks ++ rows_marks whole row (drop row shown) (drop row next) → rows_marks whole 0 shown next ≡ marks
rows_end whole row shown next marks past all =
    let none : drop row next ≡ [] = nil_from_length _ (omega (arith, length-drop row next)) in
    all ∙ ap (λ r. marks ++ rows_marks whole row (drop row shown) r) none ∙ ap (λ m. marks ++ m) (rows_marks-none whole row (drop row shown)) ∙ append-nil marks

-- a writer that wrote nothing before
pub Adds-start : {s0 s1 : SinkSeen} {g : Gathered} (w : Writer) (x : List ℕ) (marks : List Mark)
    → w ≡ record { gather = record { waiting = []; taken = 0; failed = false }; pen = None }
    → Adds s0 s1 w.gather g (x ++ (written w.pen marks ++ []))
    → Adds s0 s1 (record { waiting = []; taken = 0; failed = false }) g (x ++ (written None marks ++ []))
Adds-start {s0 = s0} {s1 = s1} {g = g} w x marks fresh added = subst (λ v. Adds s0 s1 v.gather g (x ++ (written v.pen marks ++ []))) fresh added
