-- What shows in a cell of a line.
use Rattle.std.proofs.Common.{◌≡◌, ℕ, Bool, true, false, not, nat_lt, List, Option, Some, None, get_or, if◌then◌else◌, refl, sym, ap, ◌∙◌}
use Rattle.std.specs.Option.{option_map_or}
use Rattle.tx_cell.specs.Cell.{CellValue, blank, tail_of}
use Rattle.tx_cell.specs.Strip.{before_end, behind_start}
use Rattle.tx_picture.specs.Laws.{CoveredHalvesAreBlank, OwnersDecide, SinglesShow, TailsNeedBoth, WideNeedBoth}
use Rattle.tx_picture.specs.Picture.{empty, is_place, kept_half, left_owner, owned_cell, right_owner, shown_cell, shown_line}

pub cell-owned : (cells : ℕ → ℕ → CellValue) (owners : List (Option ℕ)) (x place : ℕ) → get_or owners x None ≡ Some place
    → shown_cell cells owners x ≡ owned_cell cells owners x place
cell-owned cells owners x place is = ap (λ owner. option_map_or (owned_cell cells owners x) owner empty) is

pub cell-empty : (cells : ℕ → ℕ → CellValue) (owners : List (Option ℕ)) (x : ℕ) → get_or owners x None ≡ None → shown_cell cells owners x ≡ empty
cell-empty cells owners x is = ap (λ owner. option_map_or (owned_cell cells owners x) owner empty) is

pub owners-decide : OwnersDecide
owners-decide cells others owners other_owners x place agree =
    cell-owned cells owners x place agree.owner
    ∙ ap (λ left. kept_half left (is_place place (right_owner owners x)) (cells place x)) agree.left
    ∙ ap (λ right. kept_half (is_place place (left_owner other_owners x)) right (cells place x)) agree.right
    ∙ ap (λ cell. kept_half (is_place place (left_owner other_owners x)) (is_place place (right_owner other_owners x)) cell) agree.drawn
    ∙ sym (cell-owned others other_owners x place agree.other_owner)

-- a cell that is no tail is the same behind a start
pub behind-head : (is_first : Bool) (cell : CellValue) → cell.tail ≡ false → behind_start is_first cell ≡ cell
behind-head true cell head = ap (λ tail. if tail then blank cell.pen else cell) head
behind-head false cell head = refl

-- a cell that isn't wide is the same before an end
pub before-narrow : (is_last : Bool) (cell : CellValue) → nat_lt 1 cell.width ≡ false → before_end is_last cell ≡ cell
before-narrow true cell narrow = ap (λ wide. if wide then blank cell.pen else cell) narrow
before-narrow false cell narrow = refl

pub singles-show : SinglesShow
singles-show cells owners x place owner narrow head =
    let left = is_place place (left_owner owners x) in
    let right = is_place place (right_owner owners x) in
    cell-owned cells owners x place owner
    ∙ ap (λ cell. before_end (not right) cell) (behind-head (not left) (cells place x) head)
    ∙ before-narrow (not right) (cells place x) narrow

wide-ended : (right : Bool) (cell : CellValue) → nat_lt 1 cell.width ≡ true → (right ≡ true → before_end (not right) cell ≡ cell) × (right ≡ false → before_end (not right) cell ≡ blank cell.pen)
wide-ended true cell wide = (λ _. refl, λ is. cc)
wide-ended false cell wide = (λ is. cc, λ _. ap (λ (w : Bool). if w then blank cell.pen else cell) wide)

pub wide-both : WideNeedBoth
wide-both cells owners x place owner wide head =
    let left = is_place place (left_owner owners x) in
    let right = is_place place (right_owner owners x) in
    let is : shown_cell cells owners x ≡ before_end (not right) (cells place x) =
    cell-owned cells owners x place owner ∙ ap (λ cell. before_end (not right) cell) (behind-head (not left) (cells place x) head)
    in
    let ended = wide-ended right (cells place x) wide in
    (λ both. is ∙ ended.0 both, λ one. is ∙ ended.1 one)

tail-started : (left right : Bool) (cell : CellValue) → cell ≡ tail_of cell.pen
    → (left ≡ true → kept_half left right cell ≡ cell) × (left ≡ false → kept_half left right cell ≡ blank cell.pen)
tail-started true right cell tail = (λ _. before-narrow (not right) cell (ap (λ (c : CellValue). nat_lt 1 c.width) tail), λ is. cc)
tail-started false right cell tail = (λ is. cc, λ _. ap (λ c. before_end (not right) c) (ap (λ (c : CellValue). if c.tail then blank cell.pen else cell) tail) ∙ before-narrow (not right) (blank cell.pen) refl)

pub tails-both : TailsNeedBoth
tails-both cells owners x place owner tail =
    let is = cell-owned cells owners x place owner in
    let started = tail-started (is_place place (left_owner owners x)) (is_place place (right_owner owners x)) (cells place x) tail in
    (λ both. is ∙ started.0 both, λ one. is ∙ started.1 one)

pub covered-blank : CoveredHalvesAreBlank
unfolding shown_line
covered-blank pen = refl
