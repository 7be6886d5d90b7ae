-- Lines of cells that are laid cell by cell.
use Rattle.std.proofs.Common.{◌≡◌, ℕ, ◌+◌, ◌<◌, ◌≤◌, suc, zero, add-one, Bool, true, false, nat_lt, List, [], ◌∷◌, ◌++◌, length, get_or, take, drop, replicate, Option, Some, None, if◌then◌else◌, refl, sym, ap, ap₂, subst, ◌∙◌, arith, append_assoc, length-append}
use Rattle.std.specs.Prelude.{⊤, slice_get}
use Rattle.std.proofs.Math.Seq.{take-append_seam, drop-cons}
use Rattle.std.proofs.lemmas.Bool.{ltb-false}
use Rattle.tx_cell.proofs.lemmas.MadeCells.{IsMade-own}
use Rattle.tx_cell.specs.Cell.{CellValue, blank, tail_of}
use Rattle.tx_cell.specs.Grid.{GridValue, changed_at, with_put}
use Rattle.tx_cell.specs.Strip.{IsWellFormed, IsWellFormedAfter, cut_end, cut_front, laid, owed_tail, with_tail, without_tail}

-- the row in which these cells are laid from a column on, one after another; tails come with their wide cells
abbrev pub laid_cells : ℕ → List CellValue → List CellValue → List CellValue
laid_cells x [] row = row
laid_cells x (cell ∷ cells) row = laid_cells (x + 1) cells (if cell.tail then row else laid x (with_tail cell) row)

cut_end-last : (done : List CellValue) (cell : CellValue) → cut_end (done ++ (cell ∷ [])) ≡ done ++ (without_tail cell ∷ [])
cut_end-last [] cell = refl
cut_end-last (first ∷ []) cell = refl
cut_end-last (first ∷ second ∷ done) cell = ap (λ cells. first ∷ cells) (cut_end-last (second ∷ done) cell)

drop-behind : (done more : List CellValue) (x n : ℕ) → length done ≡ x → drop (x + n) (done ++ more) ≡ drop n more
drop-behind [] more zero n is = let e : 0 + n ≡ n = omega arith in ap (λ k. drop k more) e
drop-behind [] more (suc x) n is = absurd (omega (arith, is))
drop-behind (cell ∷ done) more zero n is = absurd (omega (arith, is))
drop-behind (cell ∷ done) more (suc x) n is =
    let e : suc x + n ≡ suc (x + n) = omega arith in
    ap (λ k. drop k ((cell ∷ done) ++ more)) e ∙ drop-behind done more x n (omega (arith, is))

take-before : (done more : List CellValue) (x : ℕ) → length done ≡ x → take x (done ++ more) ≡ done
take-before done more x is = ap (λ k. take k (done ++ more)) (sym is) ∙ take-append_seam done more

-- one cell, with its tail where it is wide, laid behind others that are whole
lay-one : (done row more : List CellValue) (x : ℕ) (cell : CellValue) (wide : Bool) → nat_lt 1 cell.width ≡ wide → length done ≡ x → cut_end done ≡ done
    → (rest : List CellValue) → drop (length (with_tail cell)) row ≡ rest → cut_front rest ≡ more
    → laid x (with_tail cell) (done ++ row) ≡ done ++ (with_tail cell ++ more)
lay-one done row more x cell true is long cut rest rest_is front_is =
    let both : with_tail cell ≡ cell ∷ tail_of cell.pen ∷ [] = ap (λ w. if w then cell ∷ tail_of cell.pen ∷ [] else cell ∷ []) is in
    let rest_two : drop 2 row ≡ rest = sym (ap (λ (cells : List CellValue). drop (length cells) row) both) ∙ rest_is in
    ap (λ (cells : List CellValue). laid x cells (done ++ row)) both
    ∙ ap₂ (λ before behind. cut_end before ++ ((cell ∷ tail_of cell.pen ∷ []) ++ cut_front behind)) (take-before done row x long) (drop-behind done row x 2 long ∙ rest_two)
    ∙ ap₂ (λ before behind. before ++ ((cell ∷ tail_of cell.pen ∷ []) ++ behind)) cut front_is
    ∙ sym (ap (λ (cells : List CellValue). done ++ (cells ++ more)) both)
lay-one done row more x cell false is long cut rest rest_is front_is =
    let one : with_tail cell ≡ cell ∷ [] = ap (λ w. if w then cell ∷ tail_of cell.pen ∷ [] else cell ∷ []) is in
    let rest_one : drop 1 row ≡ rest = sym (ap (λ (cells : List CellValue). drop (length cells) row) one) ∙ rest_is in
    ap (λ (cells : List CellValue). laid x cells (done ++ row)) one
    ∙ ap₂ (λ before behind. cut_end before ++ ((cell ∷ []) ++ cut_front behind)) (take-before done row x long) (drop-behind done row x 1 long ∙ rest_one)
    ∙ ap₂ (λ before behind. before ++ ((cell ∷ []) ++ behind)) cut front_is
    ∙ sym (ap (λ (cells : List CellValue). done ++ (cells ++ more)) one)

module _ (fill : CellValue) (whole : fill.tail ≡ false) where
  -- what stands behind the cells that were looked at: the tail that the last one brought along, and then what was there
  abbrev front : Option CellValue → ℕ → List CellValue
  front None n = replicate n fill
  front (Some tail) zero = []
  front (Some tail) (suc n) = tail ∷ replicate n fill

  front-fill : (n : ℕ) → cut_front (replicate n fill) ≡ replicate n fill
  front-fill zero = refl
  front-fill (suc n) = ap (λ tail. (if tail then blank fill.pen else fill) ∷ replicate n fill) whole

  lay-head : (done cells : List CellValue) (x : ℕ) (cell : CellValue) (wide : Bool) → nat_lt 1 cell.width ≡ wide → length done ≡ x → cut_end done ≡ done
      → IsWellFormedAfter (owed_tail cell) cells
      → laid x (with_tail cell) (done ++ replicate (suc (length cells)) fill) ≡ (done ++ (cell ∷ [])) ++ front (owed_tail cell) (length cells)
  lay-head done cells x cell false is long cut formed =
      let one : with_tail cell ≡ cell ∷ [] = ap (λ w. if w then cell ∷ tail_of cell.pen ∷ [] else cell ∷ []) is in
      let owed : owed_tail cell ≡ None = ap (λ w. if w then Some (tail_of cell.pen) else None) is in
      let n = length cells in
      lay-one done (replicate (suc n) fill) (replicate n fill) x cell false is long cut (replicate n fill) (ap (λ (c : List CellValue). drop (length c) (replicate (suc n) fill)) one) (front-fill n)
      ∙ ap (λ (c : List CellValue). done ++ (c ++ replicate n fill)) one
      ∙ sym (append_assoc done (cell ∷ []) (replicate n fill))
      ∙ sym (ap (λ (o : Option CellValue). (done ++ (cell ∷ [])) ++ front o n) owed)
  lay-head done [] x cell true is long cut formed =
      let owed : owed_tail cell ≡ Some (tail_of cell.pen) = ap (λ w. if w then Some (tail_of cell.pen) else None) is in
      absurd (subst (λ (o : Option CellValue). IsWellFormedAfter o []) owed formed)
  lay-head done (next ∷ cells) x cell true is long cut formed =
      let both : with_tail cell ≡ cell ∷ tail_of cell.pen ∷ [] = ap (λ w. if w then cell ∷ tail_of cell.pen ∷ [] else cell ∷ []) is in
      let owed : owed_tail cell ≡ Some (tail_of cell.pen) = ap (λ w. if w then Some (tail_of cell.pen) else None) is in
      let n = length cells in
      lay-one done (replicate (suc (suc n)) fill) (replicate n fill) x cell true is long cut (replicate n fill) (ap (λ (c : List CellValue). drop (length c) (replicate (suc (suc n)) fill)) both) (front-fill n)
      ∙ ap (λ (c : List CellValue). done ++ (c ++ replicate n fill)) both
      ∙ sym (append_assoc done (cell ∷ []) (tail_of cell.pen ∷ replicate n fill))
      ∙ sym (ap (λ (o : Option CellValue). (done ++ (cell ∷ [])) ++ front o (suc n)) owed)

  -- a tail that is owed is one
  pub record IsTail (tail : CellValue) : Type 0 where
    pub is : tail.tail ≡ true
    pub narrow : nat_lt 1 tail.width ≡ false

  abbrev IsOwed : Option CellValue → Type 0
  IsOwed None = ⊤
  IsOwed (Some tail) = IsTail tail

  is-owed : (cell : CellValue) (wide : Bool) → IsOwed (if wide then Some (tail_of cell.pen) else None)
  is-owed cell true = record { is = refl; narrow = refl }
  is-owed cell false = tt

  -- what was looked at is whole but for a wide cell at its end that owes its tail
  abbrev IsCut : Option CellValue → List CellValue → Type 0
  IsCut None done = cut_end done ≡ done
  IsCut (Some tail) done = ⊤

  is-cut : (done : List CellValue) (cell : CellValue) (wide : Bool) → nat_lt 1 cell.width ≡ wide → IsCut (if wide then Some (tail_of cell.pen) else None) (done ++ (cell ∷ []))
  is-cut done cell true is = tt
  is-cut done cell false is = cut_end-last done cell ∙ ap (λ w. done ++ ((if w then blank cell.pen else cell) ∷ [])) is

  laid-from : (cells done : List CellValue) (x : ℕ) (owed : Option CellValue) → IsOwed owed → IsCut owed done → length done ≡ x → IsWellFormedAfter owed cells
      → laid_cells x cells (done ++ front owed (length cells)) ≡ done ++ cells
  laid-from [] done x None is cut long formed = refl
  laid-from [] done x (Some tail) is cut long formed = absurd formed
  laid-from (cell ∷ cells) done x None is cut long formed =
      let head : cell.tail ≡ false = (IsMade-own cell formed.0).head in
      let more : length (done ++ (cell ∷ [])) ≡ x + 1 = length-append done (cell ∷ []) ∙ ap (λ n. n + 1) long in
      ap (λ (tail : Bool). laid_cells (x + 1) cells (if tail then done ++ replicate (suc (length cells)) fill else laid x (with_tail cell) (done ++ replicate (suc (length cells)) fill))) head
      ∙ ap (laid_cells (x + 1) cells) (lay-head done cells x cell (nat_lt 1 cell.width) refl long cut formed.1)
      ∙ laid-from cells (done ++ (cell ∷ [])) (x + 1) (owed_tail cell) (is-owed cell (nat_lt 1 cell.width)) (is-cut done cell (nat_lt 1 cell.width) refl) more formed.1
      ∙ append_assoc done (cell ∷ []) cells
  laid-from (cell ∷ cells) done x (Some tail) is cut long formed =
      let same : cell ≡ tail = formed.0 in
      let is_tail : cell.tail ≡ true = ap (λ (c : CellValue). c.tail) same ∙ is.is in
      let narrow : nat_lt 1 cell.width ≡ false = ap (λ (c : CellValue). nat_lt 1 c.width) same ∙ is.narrow in
      let row = done ++ (tail ∷ replicate (length cells) fill) in
      let more : length (done ++ (cell ∷ [])) ≡ x + 1 = length-append done (cell ∷ []) ∙ ap (λ n. n + 1) long in
      ap (λ (t : Bool). laid_cells (x + 1) cells (if t then row else laid x (with_tail cell) row)) is_tail
      ∙ ap (λ (c : CellValue). laid_cells (x + 1) cells (done ++ (c ∷ replicate (length cells) fill))) (sym same)
      ∙ ap (laid_cells (x + 1) cells) (sym (append_assoc done (cell ∷ []) (replicate (length cells) fill)))
      ∙ laid-from cells (done ++ (cell ∷ [])) (x + 1) None tt (cut_end-last done cell ∙ ap (λ w. done ++ ((if w then blank cell.pen else cell) ∷ [])) narrow) more formed.1
      ∙ append_assoc done (cell ∷ []) cells

  -- well-formed cells that are laid over a blank row of their number are the row
  pub laid-all : (cells : List CellValue) (n : ℕ) → length cells ≡ n → IsWellFormed cells → laid_cells 0 cells (replicate n fill) ≡ cells
  laid-all cells n long formed = ap (λ k. laid_cells 0 cells (replicate k fill)) (sym long) ∙ laid-from cells [] 0 None tt refl refl formed

-- ---- columns

some-is : {A : Type 0} (a b : A) → Some a ≡ Some b → a ≡ b
some-is a b is = cc

-- the room that a cell has
abbrev Fits : ℕ → List CellValue → CellValue → Type 0
Fits x cells cell = cell.tail ≡ false → x + cell.width ≤ length cells

fits-first : (cell : CellValue) (cells : List CellValue) (wide : Bool) → nat_lt 1 cell.width ≡ wide → IsWellFormed (cell ∷ cells) → 0 + cell.width ≤ length (cell ∷ cells)
fits-first cell cells false is formed = let few = ltb-false 1 cell.width is in omega (arith, few)
fits-first cell [] true is formed =
    let owed : owed_tail cell ≡ Some (tail_of cell.pen) = ap (λ w. if w then Some (tail_of cell.pen) else None) is in
    absurd (subst (λ (o : Option CellValue). IsWellFormedAfter o []) owed formed.1)
fits-first cell (next ∷ cells) true is formed = let few = (IsMade-own cell formed.0).few in omega (arith, few)

fits-from : (cells : List CellValue) (owed : Option CellValue) → ((tail : CellValue) → owed ≡ Some tail → tail.tail ≡ true) → IsWellFormedAfter owed cells
    → (x : ℕ) (cell : CellValue) → slice_get cells x ≡ Some cell → Fits x cells cell
fits-from [] owed tails formed x cell is head = let clash : None ≡ Some cell = is in cc
fits-from (first ∷ cells) None tails formed zero cell is head =
    let same : first ≡ cell = some-is first cell is in
    subst (λ (c : CellValue). 0 + c.width ≤ length (first ∷ cells)) same (fits-first first cells (nat_lt 1 first.width) refl formed)
fits-from (first ∷ cells) (Some tail) tails formed zero cell is head =
    let same : first ≡ cell = some-is first cell is in
    let is_tail : cell.tail ≡ true = sym (ap (λ (c : CellValue). c.tail) same) ∙ ap (λ (c : CellValue). c.tail) formed.0 ∙ tails tail refl in
    let clash : true ≡ false = sym is_tail ∙ head in
    cc
fits-from (first ∷ cells) None tails formed (suc x) cell is head =
    let rest = fits-from cells (owed_tail first) (owed-tails first (nat_lt 1 first.width)) formed.1 x cell is head in
    omega (arith, rest)
  where
    owed-tails : (c : CellValue) (wide : Bool) (tail : CellValue) → (if wide then Some (tail_of c.pen) else None) ≡ Some tail → tail.tail ≡ true
    owed-tails c true tail is = sym (ap (λ (t : CellValue). t.tail) (some-is (tail_of c.pen) tail is))
    owed-tails c false tail is = let clash : None ≡ Some tail = is in cc
fits-from (first ∷ cells) (Some tail) tails formed (suc x) cell is head =
    let rest = fits-from cells None (λ t none. let clash : None ≡ Some t = none in cc) formed.1 x cell is head in
    omega (arith, rest)

pub cell-fits : (cells : List CellValue) → IsWellFormed cells → (x : ℕ) (cell : CellValue) → slice_get cells x ≡ Some cell → cell.tail ≡ false → x + cell.width ≤ length cells
cell-fits cells formed x cell is head = fits-from cells None (λ t none. let clash : None ≡ Some t = none in cc) formed x cell is head

-- ---- rows of a grid

pub changed-twice : (y : ℕ) (first second : List CellValue → List CellValue) (rows : List (List CellValue))
    → changed_at y second (changed_at y first rows) ≡ changed_at y (λ row. second (first row)) rows
changed-twice y first second [] = refl
changed-twice zero first second (row ∷ rows) = refl
changed-twice (suc y) first second (row ∷ rows) = ap (λ others. row ∷ others) (changed-twice y first second rows)

pub changed-same : (y : ℕ) (rows : List (List CellValue)) (row : List CellValue) → slice_get rows y ≡ Some row → changed_at y (λ _. row) rows ≡ rows
changed-same y [] row is = refl
changed-same zero (first ∷ rows) row is = ap (λ r. r ∷ rows) (sym (some-is first row is))
changed-same (suc y) (first ∷ rows) row is = ap (λ others. first ∷ others) (changed-same y rows row is)

-- the grid in which a row is this
abbrev pub with_row : GridValue → ℕ → List CellValue → GridValue
with_row grid y row = record grid { rows = changed_at y (λ _. row) grid.rows }

pub with_row-same : (grid : GridValue) (y : ℕ) (row : List CellValue) → slice_get grid.rows y ≡ Some row → grid ≡ with_row grid y row
with_row-same grid y row is = sym (ap (λ rows. record grid { rows = rows }) (changed-same y grid.rows row is))

put-by : (grid : GridValue) (x y : ℕ) (row : List CellValue) (cell : CellValue) (tail : Bool)
    → (if tail then with_row grid y row else with_put (with_row grid y row) x y cell) ≡ with_row grid y (if tail then row else laid x (with_tail cell) row)
put-by grid x y row cell true = refl
put-by grid x y row cell false = ap (λ rows. record grid { rows = rows }) (changed-twice y (λ _. row) (laid x (with_tail cell)) grid.rows)

pub lay-next : (old now new : GridValue) (x y : ℕ) (row : List CellValue) (cell : CellValue) → now ≡ with_row old y row
    → new ≡ (if cell.tail then now else with_put now x y cell) → new ≡ with_row old y (if cell.tail then row else laid x (with_tail cell) row)
lay-next old now new x y row cell is new_is =
    new_is ∙ ap (λ (g : GridValue). if cell.tail then g else with_put g x y cell) is ∙ put-by old x y row cell cell.tail

-- ---- the cell in a column

pub drop-cell : (cells : List CellValue) (x : ℕ) (cell : CellValue) → x < length cells → get_or cells x cell ≡ cell → drop x cells ≡ cell ∷ drop (x + 1) cells
drop-cell cells x cell inside is = rw (add-one x) (drop-cons cells x cell inside) ∙ ap (λ c. c ∷ drop (x + 1) cells) is

pub cell-there : (cells : List CellValue) (x : ℕ) (cell : CellValue) → x < length cells → get_or cells x cell ≡ cell → slice_get cells x ≡ Some cell
cell-there [] x cell inside is = absurd (omega arith)
cell-there (first ∷ cells) zero cell inside is = ap (λ c. Some c) is
cell-there (first ∷ cells) (suc x) cell inside is = cell-there cells x cell (omega arith) is
