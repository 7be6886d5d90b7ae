-- How cells are cut where no wide cell is.
use Rattle.std.proofs.Common.{◌≡◌, ◌+◌, ◌-◌, ◌≤◌, ℕ, suc, zero, min, List, [], ◌∷◌, ◌++◌, length, map, take, drop, length-take, length-drop, length-append, replicate, refl, sym, ap, ap₂, ◌∙◌, arith}
use Rattle.std.proofs.lemmas.List.{take-replicate, length-replicate, replicate-append-replicate, take_min, nil_from_length}
use Rattle.tx_cell.specs.Cell.{CellValue, blank, shown}
use Rattle.tx_cell.specs.Strip.{cropped, cut_end, cut_front}
use Rattle.tx_cell.specs.declared.pen.Pen.{Pen}
use Rattle.tx_widgets.specs.Columns.{blanks, window}

pub length-cut_end : (cells : List CellValue) → length (cut_end cells) ≡ length cells
length-cut_end [] = refl
length-cut_end (cell ∷ []) = refl
length-cut_end (cell ∷ next ∷ cells) = ap suc (length-cut_end (next ∷ cells))

pub length-cut_front : (cells : List CellValue) → length (cut_front cells) ≡ length cells
length-cut_front [] = refl
length-cut_front (cell ∷ cells) = refl

pub length-cropped : (cells : List CellValue) (from to : ℕ) → length (cropped cells from to) ≡ min (to - from) (length cells - from)
length-cropped cells from to =
    length-cut_end (cut_front (take (to - from) (drop from cells))) ∙ length-cut_front (take (to - from) (drop from cells))
    ∙ length-take (to - from) (drop from cells) ∙ ap (λ n. min (to - from) n) (length-drop from cells)

-- a window is as wide as it says
pub length-window : (from width : ℕ) (pen : Pen) (cells : List CellValue) → length (window from width pen cells) ≡ width
unfolding window
length-window from width pen cells =
    let part = length-cropped cells from (min (from + width) (length cells)) in
    let behind = length-replicate (width - (length cells - from)) (blank pen) in
    length-append (cropped cells from (min (from + width) (length cells))) _ ∙ omega (arith, part, behind)

-- a window is made of a part and blanks
pub window-parts : (from width : ℕ) (pen : Pen) (cells : List CellValue) → from ≤ length cells
    → cropped cells from (from + min (length cells - from) width) ++ blanks (width - (length cells - from)) pen ≡ window from width pen cells
unfolding window
window-parts from width pen cells inside =
    let to : from + min (length cells - from) width ≡ min (from + width) (length cells) = omega arith in
    ap (λ n. cropped cells from n ++ blanks (width - (length cells - from)) pen) to

-- the same cell of one column, over and over
cut_end-replicate : (n : ℕ) (text : List ℕ) (pen : Pen) → cut_end (replicate n (shown text 1 pen)) ≡ replicate n (shown text 1 pen)
cut_end-replicate zero text pen = refl
cut_end-replicate (suc zero) text pen = refl
cut_end-replicate (suc (suc n)) text pen = ap (λ cells. shown text 1 pen ∷ cells) (cut_end-replicate (suc n) text pen)

cut_front-replicate : (n : ℕ) (text : List ℕ) (pen : Pen) → cut_front (replicate n (shown text 1 pen)) ≡ replicate n (shown text 1 pen)
cut_front-replicate zero text pen = refl
cut_front-replicate (suc n) text pen = refl

-- a part of them
pub cropped-replicate : (n m : ℕ) (text : List ℕ) (pen : Pen) → m ≤ n → cropped (replicate n (shown text 1 pen)) 0 m ≡ replicate m (shown text 1 pen)
cropped-replicate n m text pen few =
    let all : m - 0 ≡ m = omega arith in
    ap (λ k. cut_end (cut_front (take k (replicate n (shown text 1 pen))))) all
    ∙ ap (λ cells. cut_end (cut_front cells)) (take-replicate m n (shown text 1 pen) few)
    ∙ ap cut_end (cut_front-replicate m text pen)
    ∙ cut_end-replicate m text pen

-- the lengths of what is cut
pub ruleset cut_lengths = (length-cropped, length-window)

-- more of the same cells
pub doubled : (n most : ℕ) (text : List ℕ) (pen : Pen) (cells : List CellValue) → cells ≡ replicate n (shown text 1 pen)
    → cells ++ cropped cells 0 (min n (most - n)) ≡ replicate (n + min n (most - n)) (shown text 1 pen)
doubled n most text pen cells same =
    ap₂ ◌++◌ same (ap (λ all. cropped all 0 (min n (most - n))) same ∙ cropped-replicate n (min n (most - n)) text pen (omega arith))
    ∙ replicate-append-replicate n (min n (most - n)) (shown text 1 pen)

-- two pieces are as long as both
pub length-two : (first second x y : List CellValue) → first ≡ x → second ≡ y → length (first ++ second) ≡ length x + length y
length-two first second x y first_is second_is = length-append first second ∙ ap₂ ◌+◌ (ap length first_is) (ap length second_is)

-- a window, as it is made
pub window-made : (from width : ℕ) (pen : Pen) (cells : List CellValue) (len least rest : ℕ) (part behind : List CellValue) → from ≤ length cells
    → len ≡ length cells → least ≡ min (len - from) width → rest ≡ width - (len - from)
    → part ≡ cropped cells from (from + least) → behind ≡ blanks rest pen → part ++ behind ≡ window from width pen cells
window-made from width pen cells len least rest part behind inside len_is least_is rest_is part_is behind_is =
    let to : from + least ≡ from + min (length cells - from) width = omega (arith, least_is, len_is) in
    let more : rest ≡ width - (length cells - from) = omega (arith, rest_is, len_is) in
    ap₂ ◌++◌ (part_is ∙ ap (λ n. cropped cells from n) to) (behind_is ∙ ap (λ n. blanks n pen) more)
    ∙ window-parts from width pen cells inside

-- a window of no columns is nothing
pub window-none : (from : ℕ) (pen : Pen) (cells : List CellValue) → window from 0 pen cells ≡ []
window-none from pen cells = nil_from_length (window from 0 pen cells) (length-window from 0 pen cells)

-- a window from the first column on
pub window-first : (width : ℕ) (pen : Pen) (cells : List CellValue) → window 0 width pen cells ≡ cut_end (cut_front (take width cells)) ++ blanks (width - length cells) pen
unfolding window
window-first width pen cells =
    let to : min (0 + width) (length cells) - 0 ≡ min width (length cells) = omega arith in
    let rest : width - (length cells - 0) ≡ width - length cells = omega arith in
    ap₂ (λ m n. cut_end (cut_front (take m cells)) ++ blanks n pen) to rest
    ∙ ap (λ part. cut_end (cut_front part) ++ blanks (width - length cells) pen) (take_min width cells)

head_or : CellValue → List CellValue → CellValue
head_or other [] = other
head_or other (cell ∷ cells) = cell

-- where no tail comes first, none does in a front
front-take : (n : ℕ) (cells : List CellValue) → cut_front cells ≡ cells → cut_front (take n cells) ≡ take n cells
unfolding head_or
front-take zero cells whole = refl
front-take (suc n) [] whole = refl
front-take (suc n) (cell ∷ cells) whole = ap (λ first. first ∷ take n cells) (ap (head_or cell) whole)

cut_end-first : (text : List ℕ) (pen : Pen) (cells : List CellValue) → cut_end (shown text 1 pen ∷ cells) ≡ shown text 1 pen ∷ cut_end cells
cut_end-first text pen [] = refl
cut_end-first text pen (cell ∷ cells) = refl

-- a window that begins with a cell of one column
window-cons : (width : ℕ) (text : List ℕ) (pen own : Pen) (cells : List CellValue) → cut_front cells ≡ cells
    → window 0 (suc width) pen (shown text 1 own ∷ cells) ≡ shown text 1 own ∷ window 0 width pen cells
window-cons width text pen own cells whole =
    let rest : suc width - suc (length cells) ≡ width - length cells = omega arith in
    window-first (suc width) pen (shown text 1 own ∷ cells)
    ∙ ap₂ (λ part n. part ++ blanks n pen) (cut_end-first text own (take width cells) ∙ ap (λ part. shown text 1 own ∷ cut_end part) (sym (front-take width cells whole))) rest
    ∙ ap (λ part. shown text 1 own ∷ part) (sym (window-first width pen cells))

-- ASCII text, each byte in a cell
abbrev pub ascii : Pen → List ℕ → List CellValue
ascii pen bytes = map (λ byte. shown (byte ∷ []) 1 pen) bytes

pub front-ascii : (pen : Pen) (bytes : List ℕ) (cells : List CellValue) → cut_front cells ≡ cells → cut_front (ascii pen bytes ++ cells) ≡ ascii pen bytes ++ cells
front-ascii pen [] cells whole = whole
front-ascii pen (byte ∷ bytes) cells whole = refl

front-ascii_alone : (pen : Pen) (bytes : List ℕ) → cut_front (ascii pen bytes) ≡ ascii pen bytes
front-ascii_alone pen [] = refl
front-ascii_alone pen (byte ∷ bytes) = refl

-- a window of ASCII text and what stands behind it
pub window-ascii : (width : ℕ) (pen : Pen) (bytes : List ℕ) (cells : List CellValue) → cut_front cells ≡ cells
    → window 0 (min width (length bytes)) pen (ascii pen bytes) ++ window 0 (width - length bytes) pen cells ≡ window 0 width pen (ascii pen bytes ++ cells)
window-ascii width pen [] cells whole =
    let none : min width 0 ≡ 0 = omega arith in
    let all : width - 0 ≡ width = omega arith in
    ap₂ (λ m n. window 0 m pen [] ++ window 0 n pen cells) none all ∙ ap (λ front. front ++ window 0 width pen cells) (window-none 0 pen [])
window-ascii zero pen (byte ∷ bytes) cells whole =
    let none : min 0 (suc (length bytes)) ≡ 0 = omega arith in
    let left : 0 - suc (length bytes) ≡ 0 = omega arith in
    ap₂ (λ m n. window 0 m pen (ascii pen (byte ∷ bytes)) ++ window 0 n pen cells) none left
    ∙ ap₂ ◌++◌ (window-none 0 pen (ascii pen (byte ∷ bytes))) (window-none 0 pen cells)
    ∙ sym (window-none 0 pen (ascii pen (byte ∷ bytes) ++ cells))
window-ascii (suc width) pen (byte ∷ bytes) cells whole =
    let more : min (suc width) (suc (length bytes)) ≡ suc (min width (length bytes)) = omega arith in
    let rest : suc width - suc (length bytes) ≡ width - length bytes = omega arith in
    ap₂ (λ m n. window 0 m pen (ascii pen (byte ∷ bytes)) ++ window 0 n pen cells) more rest
    ∙ ap (λ front. front ++ window 0 (width - length bytes) pen cells) (window-cons (min width (length bytes)) (byte ∷ []) pen pen (ascii pen bytes) (front-ascii_alone pen bytes))
    ∙ ap (λ part. shown (byte ∷ []) 1 pen ∷ part) (window-ascii width pen bytes cells whole)
    ∙ sym (window-cons width (byte ∷ []) pen pen (ascii pen bytes ++ cells) (front-ascii pen bytes cells whole))
