-- What is reported of a tree file is its first fault.
use Rattle.std.proofs.Common.{◌≡◌, ◌≤◌, ◌+◌, ◌-◌, ◌^◌, ℕ, Bool, true, false, not, ◌&&◌, cond, List, [], ◌∷◌, length, Option, Some, None, Result, Ok, Err, refl, ap, ◌∙◌, subst, arith}
use Rattle.std.proofs.lemmas.List.Sums.{sum_by-cons}
use Rattle.std.specs.List.{list_all}
use Rattle.tx_tree.specs.declared.row.Row.{Row}
use Rattle.tx_tree_file.specs.FirstFault.{line_count}
use Rattle.tx_tree_file.specs.Laws.{OneFault}
use Rattle.tx_tree_file.specs.TreeReading.{LineFault, tree_of}
use Rattle.tx_opening.proofs.Judged.{built_in}
use Rattle.tx_opening.specs.OpeningFaults.{FaultsAreFirst, IsFirstOf, IsFirstRow}
use Rattle.tx_opening.specs.OpeningReading.{Wrong, first_line, line_below, is_unknown, is_unread, or_line, judged, judged_rows, rows_of}
use Rattle.tx_opening.specs.declared.fault.RowsRefusal.{RowsRefusal}
use Rattle.tx_opening.specs.declared.fault.RowsRefusal.TheVariants.{Tree, Inline, NoCustom}

-- ---- the first row that is so

found-by : (is : Row → Bool) (row : Row) (rows : List Row) (start line : ℕ) (b : Bool) → is row ≡ b → start ≤ 2 ^ 32 - 1
    → cond b (Some start) (first_line is (line_below start row) rows) ≡ Some line
    → (first_line is (line_below start row) rows ≡ Some line → IsFirstRow is rows (line_below start row) line)
    → IsFirstRow is (row ∷ rows) start line
found-by is row rows start line true same few found rest =
    let at : start ≡ line = cc in
    record { front = []; row = row; behind = rows; are = refl; before = refl; so = same; place = omega (arith, at, few) }
found-by is row rows start line false same few found rest =
    let f : IsFirstRow is rows (line_below start row) line = rest found in
    let lines : line_count (row ∷ f.front) ≡ (length row.binds + 1) + line_count f.front = sum_by-cons (λ (r : Row). length r.binds + 1) row f.front in
    record {
      front = row ∷ f.front;
      row = f.row;
      behind = f.behind;
      are = ap (λ more. row ∷ more) f.are;
      before = ap (λ b. not b && list_all (λ r. not (is r)) f.front) same ∙ f.before;
      so = f.so;
      place = omega (arith, f.place, lines);
    }

first-found : (is : Row → Bool) (rows : List Row) (start line : ℕ) → start ≤ 2 ^ 32 - 1 → first_line is start rows ≡ Some line → IsFirstRow is rows start line
first-found is [] start line few found = absurd (let e : None ≡ Some line = found in cc)
first-found is (row ∷ rows) start line few found =
    found-by is row rows start line (is row) refl few found (first-found is rows (line_below start row) line (omega arith))

-- ---- the faults of rows

inline-first : (bytes : List ℕ) (rows : List Row) (line : ℕ) (kind : RowsRefusal) (at : Option ℕ) → tree_of bytes ≡ Ok rows
    → first_line (is_unknown []) 1 rows ≡ None → first_line is_unread 1 rows ≡ at → or_line Inline at (Ok rows) ≡ Err (line, kind) → IsFirstOf bytes line kind
inline-first bytes rows line kind None read none found told = absurd (let e : Ok rows ≡ Err (line, kind) = told in cc)
inline-first bytes rows line kind (Some at) read none found told =
    let same : ◌≡◌ {A = Wrong} (at, Inline) (line, kind) = cc in
    subst (λ (w : Wrong). IsFirstOf bytes w.0 w.1) same (rows, read, built_in rows 1 none, first-found is_unread rows 1 at (omega arith) found)

kinds-first : (bytes : List ℕ) (rows : List Row) (line : ℕ) (kind : RowsRefusal) (at : Option ℕ) → tree_of bytes ≡ Ok rows
    → first_line (is_unknown []) 1 rows ≡ at → or_line NoCustom at (or_line Inline (first_line is_unread 1 rows) (Ok rows)) ≡ Err (line, kind) → IsFirstOf bytes line kind
kinds-first bytes rows line kind None read found told = inline-first bytes rows line kind (first_line is_unread 1 rows) read found refl told
kinds-first bytes rows line kind (Some at) read found told =
    let same : ◌≡◌ {A = Wrong} (at, NoCustom) (line, kind) = cc in
    subst (λ (w : Wrong). IsFirstOf bytes w.0 w.1) same (rows, read, first-found (is_unknown []) rows 1 at (omega arith) found)

rows-first : OneFault → (bytes : List ℕ) (line : ℕ) (kind : RowsRefusal) (read : Result (List Row) LineFault) → tree_of bytes ≡ read
    → judged_rows [] read ≡ Err (line, kind) → IsFirstOf bytes line kind
unfolding judged
rows-first one bytes line kind (Ok rows) read told = kinds-first bytes rows line kind (first_line (is_unknown []) 1 rows) read refl told
rows-first one bytes line kind (Err fault) read told =
    let same : ◌≡◌ {A = Wrong} (fault.line, Tree fault.kind) (line, kind) = cc in
    subst (λ (w : Wrong). IsFirstOf bytes w.0 w.1) same ((one bytes fault.line fault.kind).0 read)

pub faults-first : OneFault → FaultsAreFirst
unfolding rows_of
faults-first one bytes line kind told = rows-first one bytes line kind (tree_of bytes) refl told
