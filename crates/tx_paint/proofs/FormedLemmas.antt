-- Which lists of cells are well formed.
use Rattle.std.proofs.Common.{◌≡◌, ℕ, ◌+◌, ◌<◌, ◌≤◌, suc, zero, nat_lt, List, [], ◌∷◌, ◌++◌, length, map, Option, Some, None, get_or, if◌then◌else◌, refl, sym, ap, ap₂, subst, ◌∙◌, arith}
use Rattle.std.specs.List.{range_with_len}
use Rattle.tx_cell.specs.Cell.{CellValue, IsOfItsText, tail_of}
use Rattle.tx_cell.specs.Strip.{IsWellFormed, IsWellFormedAfter, owed_tail}

-- a cell of one column that its own text makes
pub record IsSingle (cell : CellValue) : Type 0 where
  pub own : IsOfItsText cell
  pub narrow : cell.width ≡ 1

owed-single : (cell : CellValue) → cell.width ≡ 1 → owed_tail cell ≡ None
owed-single cell narrow = ap (λ width. if nat_lt 1 width then Some (tail_of cell.pen) else None) narrow

pub formed-single : (cell : CellValue) (cells : List CellValue) → IsSingle cell → IsWellFormed cells → IsWellFormed (cell ∷ cells)
formed-single cell cells single formed =
    let P : Option CellValue → Type 0 = λ owed. IsWellFormedAfter owed cells in
    (single.own, subst P (sym (owed-single cell single.narrow)) formed)

formed_after-append : (owed : Option CellValue) (xs ys : List CellValue) → IsWellFormedAfter owed xs → IsWellFormed ys → IsWellFormedAfter owed (xs ++ ys)
formed_after-append None [] ys first second = second
formed_after-append (Some tail) [] ys first second = absurd first
formed_after-append None (x ∷ xs) ys first second = (first.0, formed_after-append (owed_tail x) xs ys first.1 second)
formed_after-append (Some tail) (x ∷ xs) ys first second = (first.0, formed_after-append None xs ys first.1 second)

pub formed-append : (xs ys : List CellValue) → IsWellFormed xs → IsWellFormed ys → IsWellFormed (xs ++ ys)
formed-append xs ys first second = formed_after-append None xs ys first second

-- ---- cells by place

pub formed-singles : (f : ℕ → CellValue) (from count : ℕ) → ((x : ℕ) → from ≤ x → x < from + count → IsSingle (f x))
    → IsWellFormed (map f (range_with_len from count))
formed-singles f from zero singles = tt
formed-singles f from (suc count) singles =
    formed-single (f from) (map f (range_with_len (from + 1) count)) (singles from (omega arith) (omega arith))
    (formed-singles f (from + 1) count (λ x low high. singles x (omega arith) (omega arith)))

pub mapped-split : (f : ℕ → CellValue) (from first second : ℕ)
    → map f (range_with_len from (first + second)) ≡ map f (range_with_len from first) ++ map f (range_with_len (from + first) second)
mapped-split f from zero second =
    let all : zero + second ≡ second = omega arith in
    let start : from + zero ≡ from = omega arith in
    rw (all, start) refl
mapped-split f from (suc first) second =
    let all : suc first + second ≡ suc (first + second) = omega arith in
    let start : from + suc first ≡ (from + 1) + first = omega arith in
    rw (all, start) (ap (λ cells. f from ∷ cells) (mapped-split f (from + 1) first second))

pub mapped-list : (f : ℕ → CellValue) (none : CellValue) (from : ℕ) (line : List CellValue) → ((k : ℕ) → k < length line → f (from + k) ≡ get_or line k none)
    → map f (range_with_len from (length line)) ≡ line
mapped-list f none from [] same = refl
mapped-list f none from (cell ∷ line) same =
    let here : f from ≡ cell = ap f (let e : from ≡ from + 0 = omega arith in e) ∙ same 0 (omega arith) in
    let rest : map f (range_with_len (from + 1) (length line)) ≡ line =
    mapped-list f none (from + 1) line
    (λ k below. ap f (let e : from + 1 + k ≡ from + suc k = omega arith in e) ∙ same (suc k) (omega arith))
    in
    ap₂ (λ first cells. first ∷ cells) here rest

-- cells of which those in the middle are a well-formed list, and all others are of one column
pub formed-three : (f : ℕ → CellValue) (none : CellValue) (first count last : ℕ) (line : List CellValue) → length line ≡ count → IsWellFormed line
    → ((x : ℕ) → x < first → IsSingle (f x))
    → ((k : ℕ) → k < count → f (first + k) ≡ get_or line k none)
    → ((x : ℕ) → first + count ≤ x → IsSingle (f x))
    → IsWellFormed (map f (range_with_len 0 (first + (count + last))))
formed-three f none first count last line whole formed before inside behind =
    let start : 0 + first ≡ first = omega arith in
    let same : map f (range_with_len (0 + first) count) ≡ line =
    ap (λ n. map f (range_with_len (0 + first) n)) (sym whole)
    ∙ mapped-list f none (0 + first) line (λ k below. ap (λ n. f (n + k)) start ∙ inside k (omega (arith, whole)))
    in
    let split : map f (range_with_len 0 (first + (count + last)))
    ≡ map f (range_with_len 0 first) ++ (map f (range_with_len (0 + first) count) ++ map f (range_with_len (0 + first + count) last)) =
    mapped-split f 0 first (count + last) ∙ ap (λ cells. map f (range_with_len 0 first) ++ cells) (mapped-split f (0 + first) count last)
    in
    subst IsWellFormed (sym split) (formed-append _ _
    (formed-singles f 0 first (λ x _ below. before x (omega arith)))
    (formed-append _ _ (subst IsWellFormed (sym same) formed) (formed-singles f (0 + first + count) last (λ x low _. behind x (omega arith)))))
