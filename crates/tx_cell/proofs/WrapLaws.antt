-- What every wrapped line is: its columns fit, and with the dropped blanks the lines are the cells.
use Rattle.std.proofs.Common.{◌≡◌, ◌+◌, ◌<◌, ◌≤◌, ℕ, zero, suc, List, [], ◌∷◌, ◌++◌, length, take, drop, map, Bool, true, false, ◌&&◌, if◌then◌else◌, refl, sym, ap, ap₂, subst, ◌∙◌, arith, length-append, length-drop, append_assoc, append-nil, ⊎_elim}
use Rattle.std.proofs.Math.Seq.{take-take}
use Rattle.std.proofs.Math.ListN.{take-append-drop, length-take}
use Rattle.std.proofs.lemmas.List.{nil_from_length}
use Rattle.std.proofs.lemmas.Grind.{flat_map-append}
use Rattle.std.proofs.lemmas.Bool.{cases_lt, eqb-true, le-leb}
use Rattle.std.proofs.lemmas.List.Elements.{All-nil, All-cons, All-head, All-tail, All-append}
use Rattle.std.proofs.lemmas.List.Sums.{sum_by-cons, sum_by-append, sum_by-take-drop}
use Rattle.std.specs.List.{All}
use Rattle.std.specs.Prelude.{Option, Some, None, ◌==◌}
use Rattle.tx_cell.specs.Cell.{CellValue, IsOfItsText, blank, cell_of}
use Rattle.tx_cell.specs.Strip.{with_tail}
use Rattle.tx_cell.specs.Wrap.{is_blank_text, is_blank, columns, fit_count, later_blank, last_blank, trimmed, skip_blanks, broken_at, next_line, lines_until, with_tails, AreLinesOf}
use Rattle.tx_cell.proofs.lemmas.MadeCells.{IsMade-own, IsOfItsText-blank}
use Rattle.tx_cell.proofs.StripLemmas.{length-with_tail_width}
use Rattle.tx_cell.proofs.WrapLemmas.{columns-fit, next_line-fits, next_line-breaks}

-- ---- parts of the cells

-- blanks are dropped at the end alone
record IsFront (front cells : List CellValue) : Type 0 where
  pub blanks : List CellValue
  pub blank : All (λ cell. is_blank cell ≡ true) blanks
  pub is : cells ≡ front ++ blanks

trimmed-front-by : (blank gone : Bool) (cell : CellValue) (cells : List CellValue) → is_blank cell ≡ blank → (length (trimmed cells) == 0) ≡ gone
    → IsFront (trimmed cells) cells → IsFront (if blank && gone then [] else cell ∷ trimmed cells) (cell ∷ cells)
trimmed-front-by true true cell cells blank gone rest =
    let none : trimmed cells ≡ [] = nil_from_length (trimmed cells) (eqb-true (length (trimmed cells)) 0 gone) in
    record {
      blanks = cell ∷ rest.blanks;
      blank = All-cons (λ c. is_blank c ≡ true) cell rest.blanks blank rest.blank;
      is = ap (λ more. cell ∷ more) (rest.is ∙ ap (λ front. front ++ rest.blanks) none);
    }
trimmed-front-by true false cell cells blank gone rest = record { blanks = rest.blanks; blank = rest.blank; is = ap (λ more. cell ∷ more) rest.is }
trimmed-front-by false gone cell cells blank is_gone rest = record { blanks = rest.blanks; blank = rest.blank; is = ap (λ more. cell ∷ more) rest.is }

trimmed-front : (cells : List CellValue) → IsFront (trimmed cells) cells
trimmed-front [] = record { blanks = []; blank = All-nil (λ c. is_blank c ≡ true); is = refl }
trimmed-front (cell ∷ cells) = trimmed-front-by (is_blank cell) (length (trimmed cells) == 0) cell cells refl refl (trimmed-front cells)

-- blanks are skipped at the start alone
record IsBack (back cells : List CellValue) : Type 0 where
  pub blanks : List CellValue
  pub blank : All (λ cell. is_blank cell ≡ true) blanks
  pub is : cells ≡ blanks ++ back

skip_blanks-back-by : (blank : Bool) (cell : CellValue) (cells : List CellValue) → is_blank cell ≡ blank → IsBack (skip_blanks cells) cells
    → IsBack (if blank then skip_blanks cells else cell ∷ cells) (cell ∷ cells)
skip_blanks-back-by true cell cells blank rest = record {
  blanks = cell ∷ rest.blanks;
  blank = All-cons (λ c. is_blank c ≡ true) cell rest.blanks blank rest.blank;
  is = ap (λ more. cell ∷ more) rest.is;
}
skip_blanks-back-by false cell cells other rest = record { blanks = []; blank = All-nil (λ c. is_blank c ≡ true); is = refl }

skip_blanks-back : (cells : List CellValue) → IsBack (skip_blanks cells) cells
skip_blanks-back [] = record { blanks = []; blank = All-nil (λ c. is_blank c ≡ true); is = refl }
skip_blanks-back (cell ∷ cells) = skip_blanks-back-by (is_blank cell) cell cells refl (skip_blanks-back cells)

-- a line and what is behind it, with the blanks dropped between them
pub record IsSplit (line rest cells : List CellValue) : Type 0 where
  pub blanks : List CellValue
  pub blank : All (λ cell. is_blank cell ≡ true) blanks
  pub is : cells ≡ line ++ (blanks ++ rest)

broken_at-split : (blank : Option ℕ) (count : ℕ) (cells : List CellValue) → IsSplit (broken_at blank count cells).0 (broken_at blank count cells).1 cells
broken_at-split None count cells = record { blanks = []; blank = All-nil (λ c. is_blank c ≡ true); is = sym (take-append-drop count cells) }
broken_at-split (Some index) count cells =
    let front = trimmed-front (take (suc index) cells) in
    let back = skip_blanks-back (drop (suc index) cells) in
    record {
      blanks = front.blanks ++ back.blanks;
      blank = All-append (λ c. is_blank c ≡ true) front.blanks back.blanks front.blank back.blank;
      is = sym (take-append-drop (suc index) cells) ∙ ap₂ ◌++◌ front.is back.is
          ∙ append_assoc (trimmed (take (suc index) cells)) front.blanks _
          ∙ ap (λ more. trimmed (take (suc index) cells) ++ more) (sym (append_assoc front.blanks back.blanks (skip_blanks (drop (suc index) cells))));
    }

-- the next line, the blanks behind it, and the rest are the cells
pub next_line-split : (width : ℕ) (cells : List CellValue) → IsSplit (next_line width cells).0 (next_line width cells).1 cells
next_line-split width cells = ⊎_elim
    (λ more. subst (λ (p : List CellValue × List CellValue). IsSplit p.0 p.1 cells) (sym (next_line-breaks width cells more)) (broken_at-split _ _ cells))
    (λ fits. subst (λ (p : List CellValue × List CellValue). IsSplit p.0 p.1 cells) (sym (next_line-fits width cells fits)) whole)
    (cases_lt width (columns cells))
  where
    whole : IsSplit cells [] cells
    whole = record { blanks = []; blank = All-nil (λ c. is_blank c ≡ true); is = sym (append-nil cells) }

-- ---- what holds of the cells holds of the line and of the rest

All-front : (P : CellValue → Type 0) (front back : List CellValue) → All P (front ++ back) → All P front
All-front P [] back all = All-nil P
All-front P (cell ∷ front) back all = All-cons P cell front (All-head P cell (front ++ back) all) (All-front P front back (All-tail P cell (front ++ back) all))

All-back : (P : CellValue → Type 0) (front back : List CellValue) → All P (front ++ back) → All P back
All-back P [] back all = all
All-back P (cell ∷ front) back all = All-back P front back (All-tail P cell (front ++ back) all)

pub All-next_line : (P : CellValue → Type 0) (width : ℕ) (cells : List CellValue) → All P cells → All P (next_line width cells).0
All-next_line P width cells all = let split = next_line-split width cells in All-front P _ _ (subst (All P) split.is all)

pub All-next_rest : (P : CellValue → Type 0) (width : ℕ) (cells : List CellValue) → All P cells → All P (next_line width cells).1
All-next_rest P width cells all = let split = next_line-split width cells in All-back P split.blanks _ (All-back P _ (split.blanks ++ _) (subst (All P) split.is all))

columns-append : (front back : List CellValue) → columns (front ++ back) ≡ columns front + columns back
columns-append front back = sum_by-append (λ (c : CellValue). c.width) front back

pub columns-next : (width : ℕ) (cells : List CellValue) → columns (next_line width cells).0 + columns (next_line width cells).1 ≤ columns cells
columns-next width cells =
    let split = next_line-split width cells in
    let all = ap columns split.is ∙ columns-append (next_line width cells).0 _ in
    let rest = columns-append split.blanks (next_line width cells).1 in
    omega (arith, all, rest)

-- ---- every line takes a cell away

-- every cell fits alone
abbrev IsNarrow : ℕ → List CellValue → Type 0
IsNarrow width cells = All (λ cell. cell.width ≤ width) cells

fits_one : (width : ℕ) (cell : CellValue) (cells : List CellValue) → cell.width ≤ width → 0 < fit_count width (cell ∷ cells)
fits_one width cell cells narrow = let first = le-leb cell.width width narrow in rw first (omega arith)

length-skip_blanks : (cells : List CellValue) → length (skip_blanks cells) ≤ length cells
length-skip_blanks cells =
    let back = skip_blanks-back cells in
    let all = ap length back.is ∙ length-append back.blanks (skip_blanks cells) in
    omega (arith, all)

length-broken_at : (blank : Option ℕ) (count : ℕ) (cells : List CellValue) → 0 < count → 0 < length cells → length (broken_at blank count cells).1 < length cells
length-broken_at None count cells some more = rw (length-drop count cells) (omega arith)
length-broken_at (Some index) count cells some more =
    let skipped = length-skip_blanks (drop (suc index) cells) in
    let dropped = length-drop (suc index) cells in
    omega (arith, skipped, dropped)

-- fewer cells are left behind a line
pub length-next_rest : (width : ℕ) (cells : List CellValue) → 0 < length cells → IsNarrow width cells → length (next_line width cells).1 < length cells
length-next_rest width [] some narrow = absurd (omega arith)
length-next_rest width (cell ∷ cells) some narrow = ⊎_elim
    (λ more. subst (λ (p : List CellValue × List CellValue). length p.1 < length (cell ∷ cells)) (sym (next_line-breaks width (cell ∷ cells) more))
    (length-broken_at _ _ (cell ∷ cells) (fits_one width cell cells (All-head (λ c. c.width ≤ width) cell cells narrow)) some))
    (λ fits. subst (λ (p : List CellValue × List CellValue). length p.1 < length (cell ∷ cells)) (sym (next_line-fits width (cell ∷ cells) fits)) some)
    (cases_lt width (columns (cell ∷ cells)))

-- more lines than cells are never needed
lines_until-enough : (most more width : ℕ) (cells : List CellValue) → IsNarrow width cells → length cells ≤ most → length cells ≤ more
    → lines_until most width cells ≡ lines_until more width cells
lines_until-enough zero zero width cells narrow few less = refl
lines_until-enough zero (suc more) width [] narrow few less = refl
lines_until-enough zero (suc more) width (cell ∷ cells) narrow few less = absurd (omega arith)
lines_until-enough (suc most) zero width [] narrow few less = refl
lines_until-enough (suc most) zero width (cell ∷ cells) narrow few less = absurd (omega arith)
lines_until-enough (suc most) (suc more) width [] narrow few less = refl
lines_until-enough (suc most) (suc more) width (cell ∷ cells) narrow few less =
    let fewer = length-next_rest width (cell ∷ cells) (omega arith) narrow in
    ap (λ lines. (next_line width (cell ∷ cells)).0 ∷ lines)
    (lines_until-enough most more width (next_line width (cell ∷ cells)).1 (All-next_rest (λ c. c.width ≤ width) width (cell ∷ cells) narrow) (omega (arith, fewer)) (omega (arith, fewer)))

-- the next line and the lines of what is left
pub lines_until-next : (width : ℕ) (cells : List CellValue) → 0 < length cells → IsNarrow width cells
    → lines_until (length cells) width cells ≡ (next_line width cells).0 ∷ lines_until (length (next_line width cells).1) width (next_line width cells).1
lines_until-next width [] some narrow = absurd (omega arith)
lines_until-next width (cell ∷ cells) some narrow =
    let fewer = length-next_rest width (cell ∷ cells) (omega arith) narrow in
    ap (λ lines. (next_line width (cell ∷ cells)).0 ∷ lines)
    (lines_until-enough (length cells) _ width (next_line width (cell ∷ cells)).1 (All-next_rest (λ c. c.width ≤ width) width (cell ∷ cells) narrow) (omega (arith, fewer)) (omega arith))

-- ---- the columns of the lines

with_tails-columns : (cells : List CellValue) → All IsOfItsText cells → length (with_tails cells) ≡ columns cells
with_tails-columns [] own = refl
with_tails-columns (cell ∷ cells) own =
    length-append (with_tail cell) (with_tails cells)
    ∙ ap₂ ◌+◌ (length-with_tail_width cell.pen cell (IsMade-own cell (All-head IsOfItsText cell cells own))) (with_tails-columns cells (All-tail IsOfItsText cell cells own))
    ∙ sym (sum_by-cons (λ (c : CellValue). c.width) cell cells)

-- the cells with their tails are as many as their columns
pub length-with_tails : (cells : List CellValue) → All IsOfItsText cells → length (with_tails cells) ≡ columns cells
length-with_tails cells own = with_tails-columns cells own

take-columns : (n m : ℕ) (cells : List CellValue) → n ≤ m → columns (take n cells) ≤ columns (take m cells)
take-columns n m cells less =
    let part = sum_by-take-drop (λ (c : CellValue). c.width) (take m cells) n in
    let same = ap columns (take-take n m cells less) in
    omega (arith, part, same)

later_blank-inside : (here : Bool) (later : Option ℕ) (n index : ℕ) → ((k : ℕ) → later ≡ Some k → k < n) → later_blank here later ≡ Some index → index < suc n
later_blank-inside here (Some k) n index inside found = let less = inside k refl in let same : suc k ≡ index = cc in omega (arith, less, same)
later_blank-inside true None n index inside found = let same : 0 ≡ index = cc in omega (arith, same)
later_blank-inside false None n index inside found = cc

last_blank-inside : (cells : List CellValue) (index : ℕ) → last_blank cells ≡ Some index → index < length cells
last_blank-inside [] index is = cc
last_blank-inside (cell ∷ cells) index is = later_blank-inside (is_blank cell) (last_blank cells) (length cells) index (last_blank-inside cells) is

columns-trimmed : (cells : List CellValue) → columns (trimmed cells) ≤ columns cells
columns-trimmed cells =
    let front = trimmed-front cells in
    let all = ap columns front.is ∙ columns-append (trimmed cells) front.blanks in
    omega (arith, all)

columns-broken_at : (width : ℕ) (cells : List CellValue) (blank : Option ℕ) → last_blank (take (fit_count width cells) (drop 1 cells)) ≡ blank
    → columns (broken_at blank (fit_count width cells) cells).0 ≤ width
columns-broken_at width cells None is = columns-fit width cells
columns-broken_at width cells (Some index) is =
    let inside = last_blank-inside (take (fit_count width cells) (drop 1 cells)) index is in
    let len = length-take (fit_count width cells) (drop 1 cells) in
    let before : suc index ≤ fit_count width cells = omega (arith, inside, len) in
    let trim = columns-trimmed (take (suc index) cells) in
    let part = take-columns (suc index) (fit_count width cells) cells before in
    let fit = columns-fit width cells in
    omega (arith, trim, part, fit)

-- the next line fits
columns-next_line : (width : ℕ) (cells : List CellValue) → columns (next_line width cells).0 ≤ width
columns-next_line width cells = ⊎_elim
    (λ more. subst (λ (p : List CellValue × List CellValue). columns p.0 ≤ width) (sym (next_line-breaks width cells more)) (columns-broken_at width cells _ refl))
    (λ fits. subst (λ (p : List CellValue × List CellValue). columns p.0 ≤ width) (sym (next_line-fits width cells fits)) fits)
    (cases_lt width (columns cells))

-- each line fits
pub lines_until-fit : (most width : ℕ) (cells : List CellValue) → All IsOfItsText cells → All (λ line. length (with_tails line) ≤ width) (lines_until most width cells)
lines_until-fit zero width cells own = All-nil (λ line. length (with_tails line) ≤ width)
lines_until-fit (suc most) width [] own = All-nil (λ line. length (with_tails line) ≤ width)
lines_until-fit (suc most) width (cell ∷ cells) own =
    let len = length-with_tails _ (All-next_line IsOfItsText width (cell ∷ cells) own) in
    let fit = columns-next_line width (cell ∷ cells) in
    All-cons (λ line. length (with_tails line) ≤ width) _ _ (omega (arith, len, fit))
    (lines_until-fit most width _ (All-next_rest IsOfItsText width (cell ∷ cells) own))

-- ---- the lines with the blanks are the cells

-- with the blanks behind each, the lines are the cells
pub lines_until-whole : (most width : ℕ) (cells : List CellValue) → IsNarrow width cells → length cells ≤ most → AreLinesOf cells (lines_until most width cells)
lines_until-whole zero width [] narrow few = refl
lines_until-whole zero width (cell ∷ cells) narrow few = absurd (omega arith)
lines_until-whole (suc most) width [] narrow few = refl
lines_until-whole (suc most) width (cell ∷ cells) narrow few =
    let split = next_line-split width (cell ∷ cells) in
    let fewer = length-next_rest width (cell ∷ cells) (omega arith) narrow in
    let more = lines_until-whole most width (next_line width (cell ∷ cells)).1 (All-next_rest (λ c. c.width ≤ width) width (cell ∷ cells) narrow) (omega (arith, fewer)) in
    (split.blanks, ((next_line width (cell ∷ cells)).1, (split.blank, split.is, more)))

blank_text : (text : List ℕ) → is_blank_text text ≡ true → text ≡ 32 ∷ []
blank_text [] is = cc
blank_text (byte ∷ []) is = ap (λ b. b ∷ []) (eqb-true byte 32 is)
blank_text (first ∷ second ∷ text) is = cc

blank_cell : (cell : CellValue) → IsOfItsText cell → is_blank cell ≡ true → cell ≡ blank cell.pen
blank_cell cell own is =
    let text = blank_text cell.text is in
    let made = sym own.own ∙ ap (λ t. cell_of t cell.pen) text ∙ (IsOfItsText-blank cell.pen own.channels).own in
    cc

with_tail-blank : (cell : CellValue) → IsOfItsText cell → is_blank cell ≡ true → with_tail cell ≡ cell ∷ []
with_tail-blank cell own is = let same = blank_cell cell own is in ap with_tail same ∙ ap (λ (c : CellValue). c ∷ []) (sym same)

with_tails-blanks : (blanks : List CellValue) → All IsOfItsText blanks → All (λ cell. is_blank cell ≡ true) blanks → with_tails blanks ≡ blanks
with_tails-blanks [] own blank = refl
with_tails-blanks (cell ∷ blanks) own blank =
    ap₂ ◌++◌ (with_tail-blank cell (All-head IsOfItsText cell blanks own) (All-head (λ c. is_blank c ≡ true) cell blanks blank))
    (with_tails-blanks blanks (All-tail IsOfItsText cell blanks own) (All-tail (λ c. is_blank c ≡ true) cell blanks blank))

with_tails-append : (front back : List CellValue) → with_tails (front ++ back) ≡ with_tails front ++ with_tails back
with_tails-append front back = flat_map-append with_tail front back

-- the same with the tails
pub AreLinesOf-with_tails : (cells : List CellValue) (lines : List (List CellValue)) → All IsOfItsText cells → AreLinesOf cells lines → AreLinesOf (with_tails cells) (map with_tails lines)
AreLinesOf-with_tails cells [] own are = ap with_tails are
AreLinesOf-with_tails cells (line ∷ lines) own are =
    let blanks = are.0 in
    let rest = are.1.0 in
    let own_parts = subst (All IsOfItsText) are.1.1.1 own in
    let own_behind = All-back IsOfItsText line (blanks ++ rest) own_parts in
    let own_blanks = All-front IsOfItsText blanks rest own_behind in
    let own_rest = All-back IsOfItsText blanks rest own_behind in
    let is = ap with_tails are.1.1.1 ∙ with_tails-append line (blanks ++ rest)
    ∙ ap (λ behind. with_tails line ++ behind) (with_tails-append blanks rest ∙ ap (λ front. front ++ with_tails rest) (with_tails-blanks blanks own_blanks are.1.1.0)) in
    (blanks, (with_tails rest, (are.1.1.0, is, AreLinesOf-with_tails rest lines own_rest are.1.1.2)))

-- lines of one text behind those of another
pub AreLinesOf-append : (cells more : List CellValue) (lines others : List (List CellValue)) → AreLinesOf cells lines → AreLinesOf more others → AreLinesOf (cells ++ more) (lines ++ others)
AreLinesOf-append cells more [] others are these = subst (λ front. AreLinesOf (front ++ more) others) (sym are) these
AreLinesOf-append cells more (line ∷ lines) others are these =
    let blanks = are.0 in
    let rest = are.1.0 in
    let is = ap (λ front. front ++ more) are.1.1.1 ∙ append_assoc line (blanks ++ rest) more ∙ ap (λ behind. line ++ behind) (append_assoc blanks rest more) in
    (blanks, (rest ++ more, (are.1.1.0, is, AreLinesOf-append rest more lines others are.1.1.2 these)))
