-- The lines of a picture, one after another.
use Rattle.std.proofs.Common.{◌≡◌, ℕ, ◌+◌, ◌-◌, ◌*◌, ◌<◌, ◌≤◌, suc, zero, List, [], ◌∷◌, ◌++◌, length, map, replicate, get_or, Option, Some, None, refl, sym, ap, ap₂, subst, ◌∙◌, arith, inl, inr, append_assoc, append-nil}
use Rattle.std.specs.List.{All, range_with_len}
use Rattle.std.specs.Prelude.{IfSome, slice_get}
use Rattle.std.proofs.lemmas.Bool.{cases_lt}
use Rattle.std.proofs.lemmas.List.{get_or_past}
use Rattle.std.proofs.lemmas.List.FromFn.{get_or-map-range_with_len, length-map-range_with_len, map-range_with_len_more}
use Rattle.tx_cascade.specs.Styles.{StylesValue}
use Rattle.tx_cell.specs.Cell.{CellValue}
use Rattle.tx_cell.specs.Grid.{GridValue, changed_at}
use Rattle.tx_geom.specs.declared.places.Size.{Size}
use Rattle.tx_map.specs.declared.entry.Entry.{Entry}
use Rattle.tx_node_map.specs.Held.{held}
use Rattle.tx_owner.specs.Laws.{TopmostIsThat, WithinIsHeld}
use Rattle.tx_owner.specs.Owner.{line_owners, owner, owners}
use Rattle.tx_owner.specs.Owners.{OwnersValue}
use Rattle.tx_paint.specs.Drawing.{DrawingValue, IsDrawing}
use Rattle.tx_picture.proofs.CoverLemmas.{AreDrawings, line-drawn, owners-cover}
use Rattle.tx_picture.specs.Cells.{AllCover, AreWide, OwnersCover, cell_by, drawn_lines}
use Rattle.tx_picture.specs.Drawings.{drawings}
use Rattle.tx_picture.specs.Given.{AreOwners}
use Rattle.tx_picture.specs.Picture.{empty, place_cell, shown_line, shown_lines, styles_of}

-- ---- a grid whose first lines are done

-- so many lines are done, and the others are blank
abbrev pub done_grid : Size → (ℕ → List CellValue) → ℕ → GridValue
done_grid size line y = record { size = size; rows = map line (range_with_len 0 y) ++ replicate (size.height - y) (replicate size.width empty) }

changed-seam : (front : List (List CellValue)) (row : List CellValue) (back : List (List CellValue)) (y : ℕ) (change : List CellValue → List CellValue) → length front ≡ y
    → changed_at y change (front ++ (row ∷ back)) ≡ front ++ (change row ∷ back)
changed-seam [] row back zero change is = refl
changed-seam [] row back (suc y) change is = absurd (omega (arith, is))
changed-seam (first ∷ front) row back zero change is = absurd (omega (arith, is))
changed-seam (first ∷ front) row back (suc y) change is = ap (λ rows. first ∷ rows) (changed-seam front row back y change (omega (arith, is)))

get-seam : (front : List (List CellValue)) (row : List CellValue) (back : List (List CellValue)) (y : ℕ) → length front ≡ y → slice_get (front ++ (row ∷ back)) y ≡ Some row
get-seam [] row back zero is = refl
get-seam [] row back (suc y) is = absurd (omega (arith, is))
get-seam (first ∷ front) row back zero is = absurd (omega (arith, is))
get-seam (first ∷ front) row back (suc y) is = get-seam front row back y (omega (arith, is))

-- the blank lines that are left begin with one
left-one : (height y : ℕ) (row : List CellValue) → y < height → replicate (height - y) row ≡ row ∷ replicate (height - (y + 1)) row
left-one height y row below = let e : height - y ≡ suc (height - (y + 1)) = omega arith in ap (λ n. replicate n row) e

pub done-blank : (size : Size) (line : ℕ → List CellValue) (y : ℕ) → y < size.height → slice_get (done_grid size line y).rows y ≡ Some (replicate size.width empty)
done-blank size line y below =
    let front = map line (range_with_len 0 y) in
    ap (λ back. slice_get (front ++ back) y) (left-one size.height y (replicate size.width empty) below)
    ∙ get-seam front (replicate size.width empty) (replicate (size.height - (y + 1)) (replicate size.width empty)) y (length-map-range_with_len line 0 y)

-- with the next line
pub done-next : (size : Size) (line : ℕ → List CellValue) (y : ℕ) (row : List CellValue) → y < size.height → row ≡ line y
    → record (done_grid size line y) { rows = changed_at y (λ _. row) (done_grid size line y).rows } ≡ done_grid size line (y + 1)
done-next size line y row below is =
    let front = map line (range_with_len 0 y) in
    let blank = replicate size.width empty in
    let back = replicate (size.height - (y + 1)) blank in
    let rows : changed_at y (λ _. row) (front ++ replicate (size.height - y) blank) ≡ map line (range_with_len 0 (y + 1)) ++ back =
    ap (λ left. changed_at y (λ _. row) (front ++ left)) (left-one size.height y blank below)
    ∙ changed-seam front blank back y (λ _. row) (length-map-range_with_len line 0 y)
    ∙ ap (λ r. front ++ (r ∷ back)) is
    ∙ sym (append_assoc front (line y ∷ []) back)
    ∙ ap (λ done. done ++ back) (sym (map-range_with_len_more line 0 y y (omega arith)))
    in
    ap (λ all. record { size = size; rows = all }) rows

pub done-all : (size : Size) (line : ℕ → List CellValue) (y : ℕ) → size.height ≤ y → y ≤ size.height → done_grid size line y ≡ record { size = size; rows = map line (range_with_len 0 size.height) }
done-all size line y from to =
    let e : y ≡ size.height = omega arith in
    let none : size.height - size.height ≡ 0 = omega arith in
    ap (done_grid size line) e
    ∙ ap (λ n. record { size = size; rows = map line (range_with_len 0 size.height) ++ replicate n (replicate size.width empty) }) none
    ∙ ap (λ rows. record { size = size; rows = rows }) (append-nil (map line (range_with_len 0 size.height)))

-- ---- owners

-- the line that a look-up gives
pub line-at : (lines : List (List (Option ℕ))) (y : ℕ) (line : List (Option ℕ)) → slice_get lines y ≡ Some line → get_or lines y [] ≡ line
line-at [] y line is = let clash : None ≡ Some line = is in cc
line-at (first ∷ lines) zero line is = cc
line-at (first ∷ lines) (suc y) line is = line-at lines y line is

some-line : (lines : List (List (Option ℕ))) (y : ℕ) → y < length lines → slice_get lines y ≡ None → ⊥
some-line [] y below none = omega arith
some-line (first ∷ lines) zero below none = let clash : Some first ≡ None = none in cc
some-line (first ∷ lines) (suc y) below none = some-line lines y (omega arith) none

pub no-line : (lines : List (List (Option ℕ))) (y height : ℕ) → length lines ≡ height → y < height → None ≡ slice_get lines y → ⊥
no-line lines y height is below none = some-line lines y (omega (arith, is)) (sym none)

slice_get_past : (lines : List (List (Option ℕ))) (y : ℕ) → length lines ≤ y → slice_get lines y ≡ None
slice_get_past [] y past = refl
slice_get_past (first ∷ lines) zero past = absurd (omega arith)
slice_get_past (first ∷ lines) (suc y) past = slice_get_past lines y (omega arith)

mapped-same : {A : Type 0} (f g : ℕ → A) (from n : ℕ) → ((x : ℕ) → from ≤ x → x < from + n → f x ≡ g x) → map f (range_with_len from n) ≡ map g (range_with_len from n)
mapped-same f g from zero same = refl
mapped-same f g from (suc n) same =
    ap₂ (λ x xs. x ∷ xs) (same from (omega arith) (omega arith)) (mapped-same f g (from + 1) n (λ x low high. same x (omega arith) (omega arith)))

module _ (shown : StylesValue) (entries : List Entry) (size : Size) where
  own-line : (y : ℕ) → y < size.height → get_or (owners (styles_of shown) entries size) y [] ≡ line_owners (styles_of shown) entries size.width y
  own-line y below = get_or-map-range_with_len (line_owners (styles_of shown) entries size.width) 0 size.height y y [] below (omega arith)

  pub own-count : length (owners (styles_of shown) entries size) ≡ size.height
  own-count = length-map-range_with_len (line_owners (styles_of shown) entries size.width) 0 size.height

  own-width : (y : ℕ) → length (line_owners (styles_of shown) entries size.width y) ≡ size.width
  own-width y = length-map-range_with_len (λ x. owner (styles_of shown) entries x y) 0 size.width

  pub all-wide : AreWide size.width (owners (styles_of shown) entries size)
  all-wide y line is = elim (cases_lt y size.height) [
    | inl below ↦ ap length (sym (line-at (owners (styles_of shown) entries size) y line is) ∙ own-line y below) ∙ own-width y
    | inr past ↦
        let none = slice_get_past (owners (styles_of shown) entries size) y (omega (arith, own-count, past)) in
        let clash : None ≡ Some line = sym none ∙ is in
        cc
  ]

  pub all-cover : TopmostIsThat → WithinIsHeld → (spots : ℕ → Option (ℕ × ℕ)) (all : List (Option DrawingValue)) → all ≡ drawings shown spots entries → AreDrawings all
      → AllCover entries all (owners (styles_of shown) entries size)
  all-cover that within spots all all_is are y = elim (cases_lt y size.height) [
    | inl below ↦ subst (OwnersCover entries all y) (sym (own-line y below)) (owners-cover that within shown entries spots all size.width y all_is are)
    | inr past ↦
        let none : get_or (owners (styles_of shown) entries size) y [] ≡ [] = get_or_past (owners (styles_of shown) entries size) y [] (omega (arith, own-count, past)) in
        subst (OwnersCover entries all y) (sym none) (λ x at is. let clash : None ≡ Some at = sym (get_or_past [] x None (omega arith)) ∙ is in cc)
  ]

  pub all-drawn : TopmostIsThat → WithinIsHeld → (of : OwnersValue) (all : List (Option DrawingValue)) → AreOwners (styles_of shown) entries size of → all ≡ drawings shown (held of.spots) entries
      → drawn_lines entries all of.lines ≡ shown_lines shown entries (owners (styles_of shown) entries size)
  unfolding shown_lines
  all-drawn that within of all are all_is =
      let lines = owners (styles_of shown) entries size in
      let each : (y : ℕ) → y < size.height → shown_line (cell_by entries all y) (get_or of.lines y []) ≡ shown_line (place_cell shown entries y) (get_or lines y []) =
      λ y below. line-drawn that within shown entries size of all (get_or of.lines y []) y are all_is refl (ap (λ ls. get_or ls y []) are.lines ∙ own-line y below)
      ∙ ap (λ ls. shown_line (place_cell shown entries y) (get_or ls y [])) are.lines
      in
      let count : length of.lines ≡ size.height = ap length are.lines ∙ own-count in
      ap (λ n. map (λ y. shown_line (cell_by entries all y) (get_or of.lines y [])) (range_with_len 0 n)) count
      ∙ mapped-same (λ y. shown_line (cell_by entries all y) (get_or of.lines y [])) (λ y. shown_line (place_cell shown entries y) (get_or lines y [])) 0 size.height
      (λ y from below. each y (omega arith))
      ∙ sym (ap (λ n. map (λ y. shown_line (place_cell shown entries y) (get_or lines y [])) (range_with_len 0 n)) own-count)

-- no more cells than all
pub few-cells : (width height y : ℕ) → y < height → width * y + width ≤ width * height
few-cells width height y below =
    let left = height - (y + 1) in
    let e : height ≡ y + 1 + left = omega arith in
    omega (arith, ap (λ n. width * n) e)

-- drawings that are all some
pub each-drawing : (all : List (Option DrawingValue)) → All (λ drawing. IfSome drawing IsDrawing) all → AreDrawings all
each-drawing all are at d is = elim (cases_lt at (length all)) [
  | inl below ↦ subst (λ (o : Option DrawingValue). IfSome o IsDrawing) is (are at None below)
  | inr past ↦ let clash : None ≡ Some d = sym (get_or_past all at None past) ∙ is in cc
]
