-- The rows of an update, as they are read.
use Rattle.std.proofs.Common.{◌≡◌, ◌≤◌, ◌<◌, ◌+◌, ℕ, zero, suc, List, [], ◌∷◌, ◌++◌, length, take, drop, zip, Bool, true, false, not, refl, arith, ap, ap₂, sym, ◌∙◌, ◌&&◌, ◌||◌, cond, nat_lt, append_assoc, length-append, Option, Some, None, subst}
use Rattle.std.proofs.Math.Seq.{take_at, drop_at, drop-drop}
use Rattle.std.proofs.lemmas.Bool.{ltb-true, ltb-false}
use Rattle.std.specs.Prelude.{⊤}
use Rattle.tx_cell.proofs.lemmas.MadeCells.{IsMade-own}
use Rattle.tx_cell.specs.Cell.{CellValue, IsOfItsText, tail_of}
use Rattle.tx_cell.specs.Grid.{GridValue, changed_at, with_put}
use Rattle.tx_cell.specs.Same.{cell_eq, cell_eq-decides}
use Rattle.tx_cell.specs.Strip.{IsWellFormed, IsWellFormedAfter, owed_tail, with_tail, without_tail, without_head, cut_end, cut_front, laid}
use Rattle.tx_cell.specs.declared.pen.Pen.{Pen}
use Rattle.tx_geom.specs.declared.places.Size.{Size}
use Rattle.tx_term.proofs.DrawingLemmas.{written-append, pen_after-append, rest_marks-differs, rest_marks-same, rest_marks-end, units-head, units-tail}
use Rattle.tx_term.proofs.FeedLemmas.{fed-append, fed-nothing}
use Rattle.tx_term.proofs.UnitLemmas.{Stands, Stands-unit}
use Rattle.tx_term.specs.Drawing.{pen_after, rest_marks, unit_marks}
use Rattle.tx_term.specs.Machine.{Machine, fed}
use Rattle.tx_term.specs.Update.{Mark, Move, Write, written, units, unit_differs, first_differ, is_plain_cell}

-- ---- lists

changed_at-middle : {A : Type 0} (change : A → A) (before after : List A) (item : A) → changed_at (length before) change (before ++ item ∷ after) ≡ before ++ change item ∷ after
changed_at-middle change [] after item = refl
changed_at-middle change (first ∷ before) after item = ap (λ rest. first ∷ rest) (changed_at-middle change before after item)

cut_end-append : (done : List CellValue) (cell : CellValue) (cells : List CellValue) → cut_end (done ++ cell ∷ cells) ≡ done ++ cut_end (cell ∷ cells)
cut_end-append [] cell cells = refl
cut_end-append (first ∷ []) cell cells = refl
cut_end-append (first ∷ next ∷ done) cell cells = ap (λ rest. first ∷ rest) (cut_end-append (next ∷ done) cell cells)

laid-behind : (done : List CellValue) (cell : CellValue) (cells row : List CellValue) → cut_end done ≡ done
    → laid (length done) (cell ∷ cells) (done ++ row) ≡ (done ++ cell ∷ cells) ++ cut_front (drop (length (cell ∷ cells)) row)
laid-behind done cell cells row closed =
    let new = cell ∷ cells in
    let front : cut_end (take (length done) (done ++ row)) ≡ done = ap cut_end (take_at done row (length done) refl) ∙ closed in
    let back : drop (length done + length new) (done ++ row) ≡ drop (length new) row =
    sym (drop-drop (length new) (length done) (done ++ row)) ∙ ap (drop (length new)) (drop_at done row (length done) refl) in
    ap₂ (λ a b. a ++ (new ++ cut_front b)) front back ∙ sym (append_assoc done new (cut_front (drop (length new) row)))

-- ---- what is left of a row

-- a tail that is owed is one
abbrev pub IsOwed : Option CellValue → Type 0
IsOwed None = ⊤
IsOwed (Some tail) = tail.tail ≡ true

-- the cells from a column of a well-formed row on
pub record IsRest (cells : List CellValue) : Type 0 where
  pub owed : Option CellValue
  pub is_owed : IsOwed owed
  pub formed : IsWellFormedAfter owed cells

owed-by : (cell : CellValue) (wide : Bool) → IsOwed (cond wide (Some (tail_of cell.pen)) None)
owed-by cell true = refl
owed-by cell false = tt

rest-by : (cell : CellValue) (cells : List CellValue) (owed : Option CellValue) → IsWellFormedAfter owed (cell ∷ cells) → IsRest cells
rest-by cell cells None formed = record { owed = owed_tail cell; is_owed = owed-by cell (nat_lt 1 cell.width); formed = formed.1 }
rest-by cell cells (Some tail) formed = record { owed = None; is_owed = tt; formed = formed.1 }

IsRest-tail : (cell : CellValue) (cells : List CellValue) → IsRest (cell ∷ cells) → IsRest cells
IsRest-tail cell cells rest = rest-by cell cells rest.owed rest.formed

no_tail : (cell : CellValue) → IsOfItsText cell → cell.tail ≡ false
no_tail cell own = (IsMade-own cell own).head

without_head-own : (cell : CellValue) → cell.tail ≡ false → without_head cell ≡ cell
without_head-own cell head = rw head refl

-- a well-formed row doesn't begin with a tail
pub cut_front-formed : (cells : List CellValue) → IsWellFormed cells → cut_front cells ≡ cells
cut_front-formed [] formed = refl
cut_front-formed (cell ∷ cells) formed = ap (λ c. c ∷ cells) (without_head-own cell (no_tail cell formed.0))

-- behind a cell that isn't a tail the cells are well formed
behind_head : (cell : CellValue) (cells : List CellValue) (owed : Option CellValue) → cell.tail ≡ false → IsOwed owed → IsWellFormedAfter owed (cell ∷ cells)
    → IsWellFormedAfter (owed_tail cell) cells
behind_head cell cells None head is_owed formed = formed.1
behind_head cell cells (Some tail) head is_owed formed = absurd (let same : tail.tail ≡ false = ap (λ (c : CellValue). c.tail) (sym formed.0) ∙ head in cc)

formed_narrow : (cell : CellValue) (cells : List CellValue) → nat_lt 1 cell.width ≡ false → IsWellFormedAfter (owed_tail cell) cells → IsWellFormed cells
formed_narrow cell cells narrow formed = subst (λ b. IsWellFormedAfter (cond b (Some (tail_of cell.pen)) None) cells) narrow formed

formed_wide : (cell : CellValue) (cells : List CellValue) → nat_lt 1 cell.width ≡ true → IsWellFormedAfter (owed_tail cell) cells → IsWellFormedAfter (Some (tail_of cell.pen)) cells
formed_wide cell cells wide formed = subst (λ b. IsWellFormedAfter (cond b (Some (tail_of cell.pen)) None) cells) wide formed

-- units that don't differ have the same cell
same_by : (o c : CellValue) (whole same tail : Bool) → cell_eq o c ≡ same → (whole || (not same || tail)) ≡ false → o ≡ c
same_by o c true same tail is equal = cc
same_by o c false true tail is equal = (cell_eq-decides o c).0 is
same_by o c false false tail is equal = cc

same_first : (whole : Bool) (o c : CellValue) (pairs : List (CellValue × CellValue)) → (whole || unit_differs (o, c) pairs) ≡ false → o ≡ c
same_first whole o c pairs equal = same_by o c whole (cell_eq o c) (nat_lt 1 c.width && first_differ pairs) refl equal

-- ---- a row

pen_after-unit : (last : Option Pen) (row column : ℕ) (behind_plain : Bool) (cell : CellValue) → pen_after last (unit_marks row column behind_plain cell) ≡ Some cell.pen
pen_after-unit last row column behind_plain cell = by (behind_plain && is_plain_cell cell)
  where
    by : (goes_on : Bool) → pen_after last ((cond goes_on [] (Move (row + 1) (column + 1) ∷ [])) ++ Write cell ∷ []) ≡ Some cell.pen
    by true = refl
    by false = refl

pub Stands-rest : {modes : Bool × Bool} {machine : Machine} {grid : GridValue} {last : Option Pen} {row column : ℕ} {behind_plain : Bool} → Stands modes machine grid last row column behind_plain
    → (row' column' : ℕ) → Stands modes machine grid last row' column' false
Stands-rest stands row' column' = record { modes_are = stands.modes_are; ready = stands.ready; drawn = stands.drawn; pen = stands.pen; follows = λ e. cc }

module _ (modes : Bool × Bool) (size : Size) (before after : List (List CellValue)) (whole : Bool) (high : size.height ≤ 65535) (broad : size.width ≤ 65535) (below : length before < size.height) where
  -- the screen with this row
  abbrev pub with_row : List CellValue → GridValue
  with_row row = record { size = size; rows = before ++ row ∷ after }

  -- what is written from a column on
  abbrev pub marks_from : Bool → List CellValue → List CellValue → List CellValue → List Mark
  marks_from behind_plain done olds news = rest_marks (length before) behind_plain (units whole (length done) (zip olds news))

  -- the cells up to a column are the next ones, and those behind it the ones that were shown: then what is written from there on leads to the next row
  abbrev pub RowLeads : ℕ → Type 0
  RowLeads n =
      (news olds done : List CellValue) (machine : Machine) (last : Option Pen) (behind_plain : Bool)
      → length news ≤ n → length olds ≡ length news → length done + length news ≡ size.width
      → IsWellFormed news → IsRest olds → cut_end done ≡ done
      → Stands modes machine (with_row (done ++ cut_front olds)) last (length before) (length done) behind_plain
      → Stands modes (fed machine (written last (marks_from behind_plain done olds news))) (with_row (done ++ news)) (pen_after last (marks_from behind_plain done olds news)) 0 0 false

  -- one unit, and the rest
  abbrev AfterUnit : (cell : CellValue) (rest olds done : List CellValue) → Type 0
  AfterUnit cell rest olds done =
      (machine : Machine) (last : Option Pen) (behind_plain : Bool) → Stands modes machine (with_row ((done ++ with_tail cell) ++ cut_front olds)) last (length before) (length (done ++ with_tail cell)) behind_plain
      → Stands modes (fed machine (written last (marks_from behind_plain (done ++ with_tail cell) olds rest))) (with_row ((done ++ with_tail cell) ++ rest)) (pen_after last (marks_from behind_plain (done ++ with_tail cell) olds rest)) 0 0 false

  unit_then : (cell : CellValue) (news olds rest olds' done : List CellValue) (machine : Machine) (last : Option Pen) (behind_plain differs : Bool)
      → IsOfItsText cell
      → length done + cell.width ≤ size.width → length (done ++ with_tail cell) ≡ length done + cell.width
      → units whole (length done) (zip olds news) ≡ record { column = length done; cell = cell; differs = differs } ∷ units whole (length (done ++ with_tail cell)) (zip olds' rest)
      → news ≡ with_tail cell ++ rest
      → laid (length done) (with_tail cell) (done ++ cut_front olds) ≡ (done ++ with_tail cell) ++ cut_front olds'
      → (differs ≡ false → done ++ cut_front olds ≡ (done ++ with_tail cell) ++ cut_front olds')
      → AfterUnit cell rest olds' done
      → Stands modes machine (with_row (done ++ cut_front olds)) last (length before) (length done) behind_plain
      → Stands modes (fed machine (written last (marks_from behind_plain done olds news))) (with_row (done ++ news)) (pen_after last (marks_from behind_plain done olds news)) 0 0 false
  unit_then cell news olds rest olds' done machine last behind_plain true own inside long are split here same others stands =
      let y = length before in
      let x = length done in
      let first = unit_marks y x behind_plain cell in
      let more = marks_from (is_plain_cell cell) (done ++ with_tail cell) olds' rest in
      let marks : marks_from behind_plain done olds news ≡ first ++ more =
      ap (rest_marks y behind_plain) are ∙ rest_marks-differs y behind_plain _ (units whole (length (done ++ with_tail cell)) (zip olds' rest)) refl in
      let next = fed machine (written last first) in
      let pen = pen_after-unit last y x behind_plain cell in
      let put : with_put (with_row (done ++ cut_front olds)) x y cell ≡ with_row ((done ++ with_tail cell) ++ cut_front olds') =
      ap (λ rows. record { size = size; rows = rows }) (changed_at-middle (laid x (with_tail cell)) before after (done ++ cut_front olds) ∙ ap (λ row. before ++ row ∷ after) here) in
      let moved = Stands-unit machine (with_row (done ++ cut_front olds)) last y x behind_plain cell stands own below inside high broad in
      let led = others next (Some cell.pen) (is_plain_cell cell) (subst (λ c. Stands modes next (with_row ((done ++ with_tail cell) ++ cut_front olds')) (Some cell.pen) y c (is_plain_cell cell)) (sym long)
      (subst (λ g. Stands modes next g (Some cell.pen) y (x + cell.width) (is_plain_cell cell)) put moved)) in
      let all : fed machine (written last (marks_from behind_plain done olds news)) ≡ fed next (written (Some cell.pen) more) =
      ap (λ m. fed machine (written last m)) marks ∙ ap (fed machine) (written-append last first more) ∙ fed-append machine (written last first) (written (pen_after last first) more)
      ∙ ap (λ p. fed next (written p more)) pen in
      let last_pen : pen_after last (marks_from behind_plain done olds news) ≡ pen_after (Some cell.pen) more =
      ap (pen_after last) marks ∙ pen_after-append last first more ∙ ap (λ p. pen_after p more) pen in
      let row : done ++ news ≡ (done ++ with_tail cell) ++ rest = ap (λ l. done ++ l) split ∙ sym (append_assoc done (with_tail cell) rest) in
      subst (λ m. Stands modes m (with_row (done ++ news)) (pen_after last (marks_from behind_plain done olds news)) 0 0 false) (sym all)
      (subst (λ p. Stands modes (fed next (written (Some cell.pen) more)) (with_row (done ++ news)) p 0 0 false) (sym last_pen)
      (subst (λ r. Stands modes (fed next (written (Some cell.pen) more)) (with_row r) (pen_after (Some cell.pen) more) 0 0 false) (sym row) led))
  unit_then cell news olds rest olds' done machine last behind_plain false own inside long are split here same others stands =
      let y = length before in
      let x = length done in
      let more = marks_from false (done ++ with_tail cell) olds' rest in
      let marks : marks_from behind_plain done olds news ≡ more =
      ap (rest_marks y behind_plain) are ∙ rest_marks-same y behind_plain _ (units whole (length (done ++ with_tail cell)) (zip olds' rest)) refl in
      let led = others machine last false (Stands-rest (subst (λ r. Stands modes machine (with_row r) last y x behind_plain) (same refl) stands) y (length (done ++ with_tail cell))) in
      let row : done ++ news ≡ (done ++ with_tail cell) ++ rest = ap (λ l. done ++ l) split ∙ sym (append_assoc done (with_tail cell) rest) in
      subst (λ m. Stands modes (fed machine (written last m)) (with_row (done ++ news)) (pen_after last m) 0 0 false) (sym marks)
      (subst (λ r. Stands modes (fed machine (written last more)) (with_row r) (pen_after last more) 0 0 false) (sym row) led)

  -- a cell in one column
  narrow_step : (n : ℕ) → RowLeads n → (c o : CellValue) (news olds done : List CellValue) (machine : Machine) (last : Option Pen) (behind_plain : Bool)
      → nat_lt 1 c.width ≡ false → length (c ∷ news) ≤ suc n → length (o ∷ olds) ≡ length (c ∷ news) → length done + length (c ∷ news) ≡ size.width
      → IsWellFormed (c ∷ news) → IsRest (o ∷ olds) → cut_end done ≡ done
      → Stands modes machine (with_row (done ++ cut_front (o ∷ olds))) last (length before) (length done) behind_plain
      → Stands modes (fed machine (written last (marks_from behind_plain done (o ∷ olds) (c ∷ news)))) (with_row (done ++ c ∷ news)) (pen_after last (marks_from behind_plain done (o ∷ olds) (c ∷ news))) 0 0 false
  narrow_step n leads c o news olds done machine last behind_plain narrow few lens total formed rest closed stands =
      let own = formed.0 in
      let head = no_tail c own in
      let made = IsMade-own c own in
      let alone : with_tail c ≡ c ∷ [] = ap (λ b. cond b (c ∷ tail_of c.pen ∷ []) (c ∷ [])) narrow in
      let one : c.width ≡ 1 = omega (arith, made.some, ltb-false 1 c.width narrow) in
      let long : length (done ++ with_tail c) ≡ length done + 1 = ap (λ l. length (done ++ l)) alone ∙ length-append done (c ∷ []) in
      let differs = whole || unit_differs (o, c) (zip olds news) in
      unit_then c (c ∷ news) (o ∷ olds) news olds done machine last behind_plain differs own
      (omega (arith, one, total)) (long ∙ ap (λ w. length done + w) (sym one))
      (units-head whole (length done) o c (zip olds news) head ∙ ap (λ k. record { column = length done; cell = c; differs = differs } ∷ units whole k (zip olds news)) (sym long))
      (ap (λ l. l ++ news) (sym alone))
      (ap (λ l. laid (length done) l (done ++ cut_front (o ∷ olds))) alone ∙ laid-behind done c [] (cut_front (o ∷ olds)) closed ∙ ap (λ l. (done ++ l) ++ cut_front olds) (sym alone))
      (λ equal.
      let same : o ≡ c = same_first whole o c (zip olds news) equal in
      let behind = behind_head c olds rest.owed head rest.is_owed (subst (λ f. IsWellFormedAfter rest.owed (f ∷ olds)) same rest.formed) in
      ap (λ f. done ++ f ∷ olds) (ap without_head same ∙ without_head-own c head)
      ∙ sym (append_assoc done (c ∷ []) olds)
      ∙ ap₂ (λ l r. (done ++ l) ++ r) (sym alone) (sym (cut_front-formed olds (formed_narrow c olds narrow behind))))
      (λ next last' behind' stands'.
      leads news olds (done ++ with_tail c) next last' behind' (omega (arith, few)) (omega (arith, lens)) (omega (arith, total, long))
      (formed_narrow c news narrow formed.1) (IsRest-tail o olds rest)
      (ap (λ l. cut_end (done ++ l)) alone ∙ cut_end-append done c [] ∙ ap (λ f. done ++ f ∷ []) (kept c narrow) ∙ ap (λ l. done ++ l) (sym alone))
      stands')
      stands
    where
      kept : (cell : CellValue) → nat_lt 1 cell.width ≡ false → without_tail cell ≡ cell
      kept cell is = rw is refl

  -- a cell in two columns
  wide_step : (n : ℕ) → RowLeads n → (c t o p : CellValue) (news olds done : List CellValue) (machine : Machine) (last : Option Pen) (behind_plain : Bool)
      → nat_lt 1 c.width ≡ true → length (c ∷ t ∷ news) ≤ suc n → length (o ∷ p ∷ olds) ≡ length (c ∷ t ∷ news) → length done + length (c ∷ t ∷ news) ≡ size.width
      → IsWellFormed (c ∷ t ∷ news) → IsRest (o ∷ p ∷ olds) → cut_end done ≡ done
      → Stands modes machine (with_row (done ++ cut_front (o ∷ p ∷ olds))) last (length before) (length done) behind_plain
      → Stands modes (fed machine (written last (marks_from behind_plain done (o ∷ p ∷ olds) (c ∷ t ∷ news)))) (with_row (done ++ c ∷ t ∷ news)) (pen_after last (marks_from behind_plain done (o ∷ p ∷ olds) (c ∷ t ∷ news))) 0 0 false
  wide_step n leads c t o p news olds done machine last behind_plain wide few lens total formed rest closed stands =
      let own = formed.0 in
      let head = no_tail c own in
      let made = IsMade-own c own in
      let tail = tail_of c.pen in
      let both : with_tail c ≡ c ∷ tail ∷ [] = ap (λ b. cond b (c ∷ tail_of c.pen ∷ []) (c ∷ [])) wide in
      let two : c.width ≡ 2 = omega (arith, made.few, ltb-true 1 c.width wide) in
      let long : length (done ++ with_tail c) ≡ length done + 2 = ap (λ l. length (done ++ l)) both ∙ length-append done (c ∷ tail ∷ []) in
      let behind_new = formed_wide c (t ∷ news) wide formed.1 in
      let is_tail : t ≡ tail = behind_new.0 in
      let differs = whole || unit_differs (o, c) (zip (p ∷ olds) (t ∷ news)) in
      unit_then c (c ∷ t ∷ news) (o ∷ p ∷ olds) news olds done machine last behind_plain differs own
      (omega (arith, two, total)) (long ∙ ap (λ w. length done + w) (sym two))
      (units-head whole (length done) o c (zip (p ∷ olds) (t ∷ news)) head
      ∙ ap (λ u. record { column = length done; cell = c; differs = differs } ∷ u) (units-tail whole (length done + 1) p t (zip olds news) (ap (λ (f : CellValue). f.tail) is_tail)
      ∙ ap (λ k. units whole k (zip olds news)) (omega (arith, long))))
      (ap (λ f. c ∷ f ∷ news) is_tail ∙ ap (λ l. l ++ news) (sym both))
      (ap (λ l. laid (length done) l (done ++ cut_front (o ∷ p ∷ olds))) both ∙ laid-behind done c (tail ∷ []) (cut_front (o ∷ p ∷ olds)) closed ∙ ap (λ l. (done ++ l) ++ cut_front olds) (sym both))
      (λ equal.
      let same : o ≡ c = same_first whole o c (zip (p ∷ olds) (t ∷ news)) equal in
      let behind = formed_wide c (p ∷ olds) wide (behind_head c (p ∷ olds) rest.owed head rest.is_owed (subst (λ f. IsWellFormedAfter rest.owed (f ∷ p ∷ olds)) same rest.formed)) in
      ap₂ (λ f g. done ++ f ∷ g ∷ olds) (ap without_head same ∙ without_head-own c head) behind.0
      ∙ sym (append_assoc done (c ∷ tail ∷ []) olds)
      ∙ ap₂ (λ l r. (done ++ l) ++ r) (sym both) (sym (cut_front-formed olds behind.1)))
      (λ next last' behind' stands'.
      leads news olds (done ++ with_tail c) next last' behind' (omega (arith, few)) (omega (arith, lens)) (omega (arith, total, long))
      behind_new.1 (IsRest-tail p olds (IsRest-tail o (p ∷ olds) rest))
      (ap (λ l. cut_end (done ++ l)) both ∙ cut_end-append done c (tail ∷ []) ∙ ap (λ l. done ++ l) (sym both))
      stands')
      stands

  row_by : (n : ℕ) → RowLeads n → (wide : Bool) (c o : CellValue) (news olds done : List CellValue) (machine : Machine) (last : Option Pen) (behind_plain : Bool)
      → nat_lt 1 c.width ≡ wide → length (c ∷ news) ≤ suc n → length (o ∷ olds) ≡ length (c ∷ news) → length done + length (c ∷ news) ≡ size.width
      → IsWellFormed (c ∷ news) → IsRest (o ∷ olds) → cut_end done ≡ done
      → Stands modes machine (with_row (done ++ cut_front (o ∷ olds))) last (length before) (length done) behind_plain
      → Stands modes (fed machine (written last (marks_from behind_plain done (o ∷ olds) (c ∷ news)))) (with_row (done ++ c ∷ news)) (pen_after last (marks_from behind_plain done (o ∷ olds) (c ∷ news))) 0 0 false
  row_by n leads false c o news olds done machine last behind_plain is few lens total formed rest closed stands =
      narrow_step n leads c o news olds done machine last behind_plain is few lens total formed rest closed stands
  row_by n leads true c o [] olds done machine last behind_plain is few lens total formed rest closed stands = absurd (formed_wide c [] is formed.1)
  row_by n leads true c o (t ∷ news) [] done machine last behind_plain is few lens total formed rest closed stands = absurd (omega (arith, lens))
  row_by n leads true c o (t ∷ news) (p ∷ olds) done machine last behind_plain is few lens total formed rest closed stands =
      wide_step n leads c t o p news olds done machine last behind_plain is few lens total formed rest closed stands

  pub row_leads : (n : ℕ) → RowLeads n
  row_leads n [] [] done machine last behind_plain few lens total formed rest closed stands =
      let none : marks_from behind_plain done [] [] ≡ [] = rest_marks-end (length before) behind_plain in
      subst (λ m. Stands modes (fed machine (written last m)) (with_row (done ++ [])) (pen_after last m) 0 0 false) (sym none)
      (subst (λ m. Stands modes m (with_row (done ++ [])) last 0 0 false) (sym (fed-nothing machine)) (Stands-rest stands 0 0))
  row_leads n [] (o ∷ olds) done machine last behind_plain few lens total formed rest closed stands = absurd (omega (arith, lens))
  row_leads zero (c ∷ news) olds done machine last behind_plain few lens total formed rest closed stands = absurd (omega (arith, few))
  row_leads (suc n) (c ∷ news) [] done machine last behind_plain few lens total formed rest closed stands = absurd (omega (arith, lens))
  row_leads (suc n) (c ∷ news) (o ∷ olds) done machine last behind_plain few lens total formed rest closed stands =
      row_by n (row_leads n) _ c o news olds done machine last behind_plain refl few lens total formed rest closed stands
