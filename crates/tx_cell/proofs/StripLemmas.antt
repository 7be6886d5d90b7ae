-- The cells of a line are well formed, and no more than its bytes.
use Rattle.std.proofs.Common.{◌≡◌, ◌+◌, ◌-◌, ◌<◌, ◌≤◌, ℕ, List, [], ◌∷◌, ◌++◌, length, Bool, true, false, ◌||◌, if◌then◌else◌, refl, sym, arith, rules, ap, subst, ◌∙◌, inl, inr, length-append, length-drop, zero, suc, set, get_or, take, drop, ap₂, add-one, append_assoc, append-nil}
use Rattle.std.proofs.Math.Seq.{length-take-le, drop-cons}
use Rattle.std.proofs.lemmas.Bool.{ltb-false, ltb-true, or_parts}
use Rattle.std.proofs.lemmas.List.Elements.{All-head, All-tail, All-get_or}
use Rattle.std.specs.List.{flat_map, concat, All, slice_get}
use Rattle.std.specs.Option.{option_map_or}
use Rattle.std.specs.Prelude.{Option, Some, None, nat_lt, ◌==◌}
use Rattle.std.specs.Bool.{Decides}
use Rattle.std.specs.Char.{is_control}
use Rattle.std.specs.Cmp.{unsigned_Decides}
use Rattle.std.specs.Int.{is_in_range}
use Rattle.std.specs.Str.{IsUtf8, chars}
use Rattle.std.proofs.lemmas.Str.{chars-nil}
use Rattle.unicode_segmentation.specs.Grapheme.{graphemes, is_grapheme_break}
use Rattle.unicode_width.specs.Width.{str_width}
use Rattle.unicode_width.proofs.Rules.{str_width-printable}
use Rattle.tx_cell.specs.Pen.{HasByteChannels, white_on_black}
use Rattle.tx_cell.specs.Cell.{CellValue, IsMade, IsOfItsText, most_bytes, shown, blank, replacement, tail_of, is_tab, is_unfit, cluster_cell, cell_of_clusters, cell_of}
use Rattle.tx_cell.specs.Strip.{with_tail, owed_tail, cluster_columns, line_cells, IsWellFormedAfter, IsWellFormed, without_tail, without_head, cut_end, cut_front, cropped, parts_from, joined, behind_start, before_end, AreCuts, laid}
use Rattle.tx_cell.specs.declared.pen.Pen.{Pen}
use Rattle.unicode_segmentation.proofs.SegmentsLemmas.{concat-segments}
use Rattle.tx_cell.proofs.ClusterLemmas.{IsUtf8-graphemes}
use Rattle.tx_cell.proofs.CellLemmas.{cluster_cell-cases, IsOfItsText-replacement, IsOfItsText-fit, same_text, single_from_clusters}
use Rattle.tx_cell.proofs.lemmas.MadeCells.{IsMade-own, IsOfItsText-blank, cell_of-nothing, white_on_black-channels}

printable_byte : (byte : ℕ) → byte < 128 → is_control byte ≡ false → is_in_range 0x20 0x7E byte ≡ true
printable_byte byte ascii shown = search rules

str_width-nil : str_width false [] ≡ 0
unfolding str_width
str_width-nil = refl

chars-ascii : (byte : ℕ) → nat_lt byte 128 ≡ true → chars (byte ∷ []) ≡ byte ∷ []
unfolding chars
chars-ascii byte below = rw below refl

chars-first_bytes : (byte : ℕ) (two three : Bool) → nat_lt byte 128 ≡ false → nat_lt byte 224 ≡ two → nat_lt byte 240 ≡ three → chars (byte ∷ []) ≡ []
unfolding chars
chars-first_bytes byte true three above is_two is_three = rw (above, is_two) refl
chars-first_bytes byte false true above is_two is_three = rw (above, is_two, is_three) refl
chars-first_bytes byte false false above is_two is_three = rw (above, is_two, is_three) refl

one_column-by : (byte : ℕ) (ascii : Bool) → nat_lt byte 128 ≡ ascii → is_unfit (chars (byte ∷ [])) ≡ false → str_width false (chars (byte ∷ [])) ≤ 1
one_column-by byte true below fit =
    let is = chars-ascii byte below in
    let fit_byte = rw is at fit in
    let shown_byte = (or_parts _ _ (or_parts _ _ fit_byte).0).0 in
    let small = ltb-true byte 128 below in
    let range = printable_byte byte small shown_byte in
    let one : str_width false (byte ∷ []) ≡ 1 = str_width-printable false (byte ∷ []) (rw range refl) in
    rw (is, one) (omega arith)
one_column-by byte false above fit = rw (chars-first_bytes byte _ _ above refl refl, str_width-nil) (omega arith)

-- a character of one byte that is no control character has one column
one_column : (byte : ℕ) → is_unfit (chars (byte ∷ [])) ≡ false → str_width false (chars (byte ∷ [])) ≤ 1
one_column byte fit = one_column-by byte (nat_lt byte 128) refl fit

-- a cluster of two columns has two bytes
pub wide_cluster : (cluster : List ℕ) → is_unfit (chars cluster) ≡ false → str_width false (chars cluster) ≤ length cluster + (str_width false (chars cluster) - 2)
wide_cluster [] fit = rw (chars-nil, str_width-nil) (omega arith)
wide_cluster (byte ∷ []) fit = omega (arith, one_column byte fit)
wide_cluster (first ∷ second ∷ rest) fit = omega arith

IsWellFormedAfter-append : (owed : Option CellValue) (front back : List CellValue) → IsWellFormedAfter owed front → IsWellFormed back → IsWellFormedAfter owed (front ++ back)
IsWellFormedAfter-append None [] back formed more = more
IsWellFormedAfter-append (Some tail) [] back formed more = absurd formed
IsWellFormedAfter-append None (cell ∷ front) back formed more = (formed.0, IsWellFormedAfter-append (owed_tail cell) front back formed.1 more)
IsWellFormedAfter-append (Some tail) (cell ∷ front) back formed more = (formed.0, IsWellFormedAfter-append None front back formed.1 more)

-- well-formed cells one behind the other are well formed
pub IsWellFormed-append : (front back : List CellValue) → IsWellFormed front → IsWellFormed back → IsWellFormed (front ++ back)
IsWellFormed-append front back formed more = IsWellFormedAfter-append None front back formed more

IsWellFormed-with_tail-by : (cell : CellValue) (is_wide : Bool) → nat_lt 1 cell.width ≡ is_wide → IsOfItsText cell → IsWellFormed (with_tail cell)
IsWellFormed-with_tail-by cell true wide own = rw (wide, wide) (own, (refl, tt))
IsWellFormed-with_tail-by cell false narrow own = rw (narrow, narrow) (own, tt)

-- a cell of its own text is well formed with its tail
pub IsWellFormed-with_tail : (cell : CellValue) → IsOfItsText cell → IsWellFormed (with_tail cell)
IsWellFormed-with_tail cell own = IsWellFormed-with_tail-by cell (nat_lt 1 cell.width) refl own

-- a cell of a text is the one that its own text makes
pub IsOfItsText-cell_of : (text : List ℕ) (pen : Pen) (cell : CellValue) → HasByteChannels pen → IsUtf8 text → cell_of text pen ≡ Some cell → IsOfItsText cell
unfolding cell_of
IsOfItsText-cell_of text pen cell channels utf8 is = by_clusters (graphemes true text) refl is
  where
    by_cluster : (cluster : List ℕ) → graphemes true text ≡ cluster ∷ [] → cluster_cell cluster pen ≡ Some cell → IsOfItsText cell
    by_cluster cluster single made = elim (cluster_cell-cases cluster pen cell made) [
      | inl blank_is ↦ rw blank_is (IsOfItsText-blank pen channels)
      | inr others ↦ elim others [
        | inl replacement_is ↦ rw replacement_is (IsOfItsText-replacement pen channels)
        | inr shows ↦ rw shows.is (IsOfItsText-fit cluster _ pen channels (subst IsUtf8 (same_text text cluster utf8 single) utf8) (single_from_clusters text cluster utf8 single) shows.no_tab shows.fit refl shows.some shows.few shows.fits)
      ]
    ]

    by_clusters : (clusters : List (List ℕ)) → graphemes true text ≡ clusters → cell_of_clusters clusters pen ≡ Some cell → IsOfItsText cell
    by_clusters [] same made = cc
    by_clusters (cluster ∷ []) same made = by_cluster cluster same made
    by_clusters (first ∷ second ∷ more) same made = let is_replacement : cell ≡ replacement pen = cc in rw is_replacement (IsOfItsText-replacement pen channels)

some_byte : (text : List ℕ) (pen : Pen) (cell : CellValue) → cell_of text pen ≡ Some cell → 0 < length text
some_byte [] pen cell is = let none = cell_of-nothing pen in cc
some_byte (byte ∷ text) pen cell is = omega arith

length-with_tail-by : (cell : CellValue) (is_wide : Bool) (n : ℕ) → nat_lt 1 cell.width ≡ is_wide → 0 < n → (1 < cell.width → 2 ≤ n) → length (with_tail cell) ≤ n
length-with_tail-by cell true n wide some two = let many = two (ltb-true 1 cell.width wide) in rw wide (omega arith)
length-with_tail-by cell false n narrow some two = rw narrow (omega arith)

-- a cell takes no more columns than its text has bytes
pub length-with_tail : (text : List ℕ) (pen : Pen) (cell : CellValue) → IsUtf8 text → cell_of text pen ≡ Some cell → length (with_tail cell) ≤ length text
unfolding cell_of
length-with_tail text pen cell utf8 is = by_clusters (graphemes true text) refl is
  where
    some : 0 < length text
    some = some_byte text pen cell is

    by_cluster : (cluster : List ℕ) → graphemes true text ≡ cluster ∷ [] → cluster_cell cluster pen ≡ Some cell → length (with_tail cell) ≤ length text
    by_cluster cluster single made = elim (cluster_cell-cases cluster pen cell made) [
      | inl blank_is ↦ rw blank_is (omega (arith, some))
      | inr others ↦ elim others [
        | inl replacement_is ↦ rw replacement_is (omega (arith, some))
        | inr shows ↦
            let wide = wide_cluster cluster shows.fit in
            let same = ap length (same_text text cluster utf8 single) in
            let width = ap (λ (c : CellValue). c.width) shows.is in
            length-with_tail-by cell (nat_lt 1 cell.width) (length text) refl some (λ more. omega (arith, wide, same, width, shows.few))
      ]
    ]

    by_clusters : (clusters : List (List ℕ)) → graphemes true text ≡ clusters → cell_of_clusters clusters pen ≡ Some cell → length (with_tail cell) ≤ length text
    by_clusters [] same made = cc
    by_clusters (cluster ∷ []) same made = by_cluster cluster same made
    by_clusters (first ∷ second ∷ more) same made = let is_replacement : cell ≡ replacement pen = cc in rw is_replacement (omega (arith, some))

-- what is known of the columns of a text
pub record FitColumns (text : List ℕ) (columns : List CellValue) : Type 0 where
  pub formed : IsWellFormed columns
  pub short : length columns ≤ length text

FitColumns-cell : (text : List ℕ) (pen : Pen) (made : Option CellValue) → HasByteChannels pen → IsUtf8 text → cell_of text pen ≡ made
    → FitColumns text (option_map_or with_tail made [])
FitColumns-cell text pen None channels utf8 is = record { formed = tt; short = omega arith }
FitColumns-cell text pen (Some cell) channels utf8 is = record {
  formed = IsWellFormed-with_tail cell (IsOfItsText-cell_of text pen cell channels utf8 is);
  short = length-with_tail text pen cell utf8 is;
}

FitColumns-clusters : (pen : Pen) (clusters : List (List ℕ)) → HasByteChannels pen → All IsUtf8 clusters → FitColumns (concat clusters) (flat_map (cluster_columns pen) clusters)
FitColumns-clusters pen [] channels all = record { formed = tt; short = omega arith }
FitColumns-clusters pen (cluster ∷ clusters) channels all =
    let first = FitColumns-cell cluster pen (cell_of cluster pen) channels (All-head IsUtf8 cluster clusters all) refl in
    let rest = FitColumns-clusters pen clusters channels (All-tail IsUtf8 cluster clusters all) in
    record {
      formed = IsWellFormed-append _ _ first.formed rest.formed;
      short = simp length-append (omega (arith, first.short, rest.short));
    }

-- the cells of a line are well formed, and no more than its bytes
pub FitColumns-line : (line : List ℕ) (pen : Pen) → HasByteChannels pen → IsUtf8 line → FitColumns line (line_cells line pen)
unfolding line_cells
FitColumns-line line pen channels utf8 =
    subst (λ text. FitColumns text (flat_map (cluster_columns pen) (graphemes true line))) (concat-segments (is_grapheme_break true) line utf8)
    (FitColumns-clusters pen (graphemes true line) channels (IsUtf8-graphemes line utf8))

-- the cell at the end changes
pub cut_end-set : (cells : List CellValue) (n : ℕ) (d : CellValue) → length cells ≡ suc n → cut_end cells ≡ set cells n (without_tail (get_or cells n d))
cut_end-set [] n d len = absurd (omega arith)
cut_end-set (cell ∷ []) zero d len = refl
cut_end-set (cell ∷ []) (suc n) d len = absurd (omega arith)
cut_end-set (cell ∷ next ∷ cells) zero d len = absurd (omega arith)
cut_end-set (cell ∷ next ∷ cells) (suc n) d len = ap (λ rest. cell ∷ rest) (cut_end-set (next ∷ cells) n d (omega arith))

pub cut_end-nil : (cells : List CellValue) → length cells ≤ 0 → cells ≡ cut_end cells
cut_end-nil [] none = refl
cut_end-nil (cell ∷ cells) none = absurd (omega arith)

pub length-cut_end : (cells : List CellValue) → length (cut_end cells) ≡ length cells
length-cut_end [] = refl
length-cut_end (cell ∷ []) = refl
length-cut_end (cell ∷ next ∷ cells) = ap suc (length-cut_end (next ∷ cells))

pub length-cut_front : (cells : List CellValue) → length (cut_front cells) ≡ length cells
length-cut_front [] = refl
length-cut_front (cell ∷ cells) = refl

IsWellFormed-without_tail-by : (cell : CellValue) (is_wide : Bool) → nat_lt 1 cell.width ≡ is_wide → IsOfItsText cell → IsWellFormed (without_tail cell ∷ [])
IsWellFormed-without_tail-by cell true wide own = rw wide (IsOfItsText-blank cell.pen own.channels, tt)
IsWellFormed-without_tail-by cell false narrow own = rw (narrow, narrow) (own, tt)

-- what is owed is a tail
OwesTail : Option CellValue → Type 0
OwesTail None = Unit {0}
OwesTail (Some tail) = (tail ≡ tail_of tail.pen) × HasByteChannels tail.pen

OwesTail-by : (cell : CellValue) (is_wide : Bool) → HasByteChannels cell.pen → OwesTail (if is_wide then Some (tail_of cell.pen) else None)
unfolding OwesTail
OwesTail-by cell true channels = (refl, channels)
OwesTail-by cell false channels = tt

OwesTail-owed_tail : (cell : CellValue) → IsOfItsText cell → OwesTail (owed_tail cell)
OwesTail-owed_tail cell own = OwesTail-by cell (nat_lt 1 cell.width) own.channels

tail-without_tail : (cell tail : CellValue) → tail ≡ tail_of tail.pen → cell ≡ tail → without_tail cell ≡ tail
tail-without_tail cell tail owes is = ap without_tail (is ∙ owes) ∙ sym owes

-- the cells before a cut are well formed
IsWellFormedAfter-cut_end : (cell : CellValue) (cells : List CellValue) (n : ℕ) (owed : Option CellValue) → OwesTail owed
    → IsWellFormedAfter owed (cell ∷ cells) → IsWellFormedAfter owed (cut_end (cell ∷ take n cells))
unfolding OwesTail
IsWellFormedAfter-cut_end cell cells zero None owes formed = IsWellFormed-without_tail-by cell (nat_lt 1 cell.width) refl formed.0
IsWellFormedAfter-cut_end cell cells zero (Some tail) owes formed = (tail-without_tail cell tail owes.0 formed.0, tt)
IsWellFormedAfter-cut_end cell [] (suc n) None owes formed = IsWellFormed-without_tail-by cell (nat_lt 1 cell.width) refl formed.0
IsWellFormedAfter-cut_end cell [] (suc n) (Some tail) owes formed = (tail-without_tail cell tail owes.0 formed.0, tt)
IsWellFormedAfter-cut_end cell (next ∷ cells) (suc n) None owes formed =
    (formed.0, IsWellFormedAfter-cut_end next cells n (owed_tail cell) (OwesTail-owed_tail cell formed.0) formed.1)
IsWellFormedAfter-cut_end cell (next ∷ cells) (suc n) (Some tail) owes formed = (formed.0, IsWellFormedAfter-cut_end next cells n None tt formed.1)

pub IsWellFormed-cut_end : (n : ℕ) (cells : List CellValue) → IsWellFormed cells → IsWellFormed (cut_end (take n cells))
unfolding OwesTail
IsWellFormed-cut_end zero cells formed = tt
IsWellFormed-cut_end (suc n) [] formed = tt
IsWellFormed-cut_end (suc n) (cell ∷ cells) formed = IsWellFormedAfter-cut_end cell cells n None tt formed

if_not : (test : Bool) (first second : CellValue) → test ≡ false → (if test then first else second) ≡ second
if_not true first second is = cc
if_not false first second is = refl

IsWellFormed-without_head : (cell : CellValue) (cells : List CellValue) → IsWellFormed (cell ∷ cells) → IsWellFormed (cut_front (cell ∷ cells))
IsWellFormed-without_head cell cells formed =
    subst (λ first. IsWellFormed (first ∷ cells)) (sym (if_not cell.tail (blank cell.pen) cell (IsMade-own cell formed.0).head)) formed

IsWellFormed-lone_tail : (cell tail : CellValue) (cells : List CellValue) → OwesTail (Some tail) → cell ≡ tail → IsWellFormed cells → IsWellFormed (cut_front (cell ∷ cells))
unfolding OwesTail
IsWellFormed-lone_tail cell tail cells owes is formed =
    subst (λ first. IsWellFormed (cut_front (first ∷ cells))) (sym (is ∙ owes.0)) (IsOfItsText-blank tail.pen owes.1, formed)

-- the cells behind a cut are well formed
IsWellFormedAfter-cut_front : (n : ℕ) (cells : List CellValue) (owed : Option CellValue) → OwesTail owed → IsWellFormedAfter owed cells
    → IsWellFormed (cut_front (drop n cells))
unfolding OwesTail
IsWellFormedAfter-cut_front zero [] owed owes formed = tt
IsWellFormedAfter-cut_front (suc n) [] owed owes formed = tt
IsWellFormedAfter-cut_front zero (cell ∷ cells) None owes formed = IsWellFormed-without_head cell cells formed
IsWellFormedAfter-cut_front zero (cell ∷ cells) (Some tail) owes formed = IsWellFormed-lone_tail cell tail cells owes formed.0 formed.1
IsWellFormedAfter-cut_front (suc n) (cell ∷ cells) None owes formed = IsWellFormedAfter-cut_front n cells (owed_tail cell) (OwesTail-owed_tail cell formed.0) formed.1
IsWellFormedAfter-cut_front (suc n) (cell ∷ cells) (Some tail) owes formed = IsWellFormedAfter-cut_front n cells None tt formed.1

pub IsWellFormed-cut_front : (n : ℕ) (cells : List CellValue) → IsWellFormed cells → IsWellFormed (cut_front (drop n cells))
unfolding OwesTail
IsWellFormed-cut_front n cells formed = IsWellFormedAfter-cut_front n cells None tt formed

-- cells laid over a row leave it well formed
pub IsWellFormed-laid : (x : ℕ) (cells row : List CellValue) → IsWellFormed cells → IsWellFormed row → IsWellFormed (laid x cells row)
IsWellFormed-laid x [] row formed kept = kept
IsWellFormed-laid x (cell ∷ cells) row formed kept =
    IsWellFormed-append (cut_end (take x row)) _ (IsWellFormed-cut_end x row kept)
    (IsWellFormed-append (cell ∷ cells) _ formed (IsWellFormed-cut_front (x + length (cell ∷ cells)) row kept))

-- cells laid over a row leave its length
pub length-laid : (x : ℕ) (cells row : List CellValue) → x + length cells ≤ length row → length (laid x cells row) ≡ length row
length-laid x [] row inside = refl
length-laid x (cell ∷ cells) row inside =
    let end = x + length (cell ∷ cells) in
    length-append (cut_end (take x row)) _
    ∙ ap₂ ◌+◌ (length-cut_end (take x row) ∙ length-take-le x row (omega arith))
    (length-append (cell ∷ cells) (cut_front (drop end row)) ∙ ap (λ n. length (cell ∷ cells) + n) (length-cut_front (drop end row) ∙ length-drop end row))
    ∙ omega arith

cut_front-take : (n : ℕ) (cells : List CellValue) → cut_front (take n cells) ≡ take n (cut_front cells)
cut_front-take zero cells = refl
cut_front-take (suc n) [] = refl
cut_front-take (suc n) (cell ∷ cells) = refl

-- a part of well-formed cells is well formed
pub IsWellFormed-cropped : (cells : List CellValue) (from to : ℕ) → IsWellFormed cells → IsWellFormed (cropped cells from to)
IsWellFormed-cropped cells from to formed =
    rw (cut_front-take (to - from) (drop from cells)) (IsWellFormed-cut_end (to - from) (cut_front (drop from cells)) (IsWellFormed-cut_front from cells formed))

-- a part has as many cells as columns were asked for
pub length-cropped : (cells : List CellValue) (from to : ℕ) → from ≤ to → to ≤ length cells → length (cropped cells from to) ≡ to - from
length-cropped cells from to order inside =
    length-cut_end (cut_front (take (to - from) (drop from cells)))
    ∙ length-cut_front (take (to - from) (drop from cells))
    ∙ length-take-le (to - from) (drop from cells) (rw (length-drop from cells) (omega arith))

slice_get-cut_front : (cells : List CellValue) (x : ℕ) (cell : CellValue) (is_first : Bool) → Decides is_first (x ≡ 0) → slice_get cells x ≡ Some cell
    → slice_get (cut_front cells) x ≡ Some (behind_start is_first cell)
slice_get-cut_front [] x cell is_first decides is = cc
slice_get-cut_front (first ∷ cells) zero cell true decides is = let same : first ≡ cell = cc in ap (λ (c : CellValue). Some (without_head c)) same
slice_get-cut_front (first ∷ cells) zero cell false decides is = let impossible = decides.1 refl in cc
slice_get-cut_front (first ∷ cells) (suc x) cell true decides is = let impossible = decides.0 refl in absurd (omega (arith, impossible))
slice_get-cut_front (first ∷ cells) (suc x) cell false decides is = is

slice_get-cut_end : (cells : List CellValue) (x : ℕ) (cell : CellValue) (is_last : Bool) → Decides is_last (x + 1 ≡ length cells) → slice_get cells x ≡ Some cell
    → slice_get (cut_end cells) x ≡ Some (before_end is_last cell)
slice_get-cut_end [] x cell is_last decides is = cc
slice_get-cut_end (first ∷ []) zero cell true decides is = let same : first ≡ cell = cc in ap (λ (c : CellValue). Some (without_tail c)) same
slice_get-cut_end (first ∷ []) zero cell false decides is = let impossible = decides.1 refl in cc
slice_get-cut_end (first ∷ []) (suc x) cell is_last decides is = cc
slice_get-cut_end (first ∷ next ∷ cells) zero cell true decides is = let impossible = decides.0 refl in absurd (omega (arith, impossible))
slice_get-cut_end (first ∷ next ∷ cells) zero cell false decides is = is
slice_get-cut_end (first ∷ next ∷ cells) (suc x) cell is_last decides is =
    slice_get-cut_end (next ∷ cells) x cell is_last (λ last. let more = decides.0 last in omega (arith, more), λ last. decides.1 (omega (arith, last))) is

slice_get-within : (cells : List CellValue) (x : ℕ) (cell : CellValue) → x < length cells → cell ≡ get_or cells x cell → slice_get cells x ≡ Some cell
slice_get-within [] x cell inside is = absurd (omega arith)
slice_get-within (first ∷ cells) zero cell inside is = ap (λ (c : CellValue). Some c) (sym is)
slice_get-within (first ∷ cells) (suc x) cell inside is = slice_get-within cells x cell (omega arith) is

-- each cell of a part
pub slice_get-cut : (cells : List CellValue) (x : ℕ) (cell : CellValue) → x < length cells → cell ≡ get_or cells x cell
    → slice_get (cut_end (cut_front cells)) x ≡ Some (before_end (x + 1 == length cells) (behind_start (x == 0) cell))
slice_get-cut cells x cell inside is =
    slice_get-cut_end (cut_front cells) x _ _ (rw (length-cut_front cells) (unsigned_Decides (x + 1) (length cells)))
    (slice_get-cut_front cells x cell (x == 0) (unsigned_Decides x 0) (slice_get-within cells x cell inside is))

-- cuts end no earlier than they begin
pub AreCuts-order : (from to : ℕ) (cuts : List ℕ) → AreCuts from to cuts → from ≤ to
AreCuts-order from to [] order = order
AreCuts-order from to (cut ∷ cuts) order = let past = AreCuts-order cut to cuts order.1 in omega (arith, order.0)

AreCuts-inside : (from to cut : ℕ) (cuts : List ℕ) → AreCuts from to (cut ∷ cuts) → cut ≤ to
AreCuts-inside from to cut cuts order = AreCuts-order cut to cuts order.1

-- the next cut is no earlier than the one before it, nor past the end
pub AreCuts-next : (from to index : ℕ) (cuts : List ℕ) → index < length cuts → AreCuts from to (drop index cuts)
    → (from ≤ get_or cuts index 0) × (get_or cuts index 0 ≤ to)
AreCuts-next from to index cuts inside order =
    let next = rw (drop-cons cuts index 0) at order in (next.0, AreCuts-order (get_or cuts index 0) to _ next.1)

-- one list more
pub joined-more : (parts : List (List CellValue)) (index : ℕ) (part : List CellValue) → index < length parts → part ≡ get_or parts index part
    → joined (take index parts) ++ part ≡ joined (take (index + 1) parts)
joined-more parts index part inside is = rw add-one (joined-suc parts index part inside is)
  where
    joined-suc : (parts : List (List CellValue)) (index : ℕ) (part : List CellValue) → index < length parts → part ≡ get_or parts index part
        → joined (take index parts) ++ part ≡ joined (take (suc index) parts)
    joined-suc [] index part inside is = absurd (omega arith)
    joined-suc (first ∷ parts) zero part inside is = is ∙ sym (append-nil first)
    joined-suc (first ∷ parts) (suc index) part inside is = append_assoc first _ part ∙ ap (λ rest. first ++ rest) (joined-suc parts index part (omega arith) is)

length-with_tail_shown : (cluster : List ℕ) (width : ℕ) (p q : Pen) (is_wide : Bool) → nat_lt 1 width ≡ is_wide
    → length (with_tail (shown cluster width p)) ≡ length (with_tail (shown cluster width q))
length-with_tail_shown cluster width p q true wide = rw wide refl
length-with_tail_shown cluster width p q false narrow = rw narrow refl

same_choice : (tab unfit none replaced : Bool) (cluster : List ℕ) (width : ℕ) (p q : Pen)
    → length (option_map_or with_tail (if tab then Some (blank p) else if unfit then Some (replacement p) else if none then None else if replaced then Some (replacement p) else Some (shown cluster width p)) [])
    ≡ length (option_map_or with_tail (if tab then Some (blank q) else if unfit then Some (replacement q) else if none then None else if replaced then Some (replacement q) else Some (shown cluster width q)) [])
same_choice true unfit none replaced cluster width p q = refl
same_choice false true none replaced cluster width p q = refl
same_choice false false true replaced cluster width p q = refl
same_choice false false false true cluster width p q = refl
same_choice false false false false cluster width p q = length-with_tail_shown cluster width p q (nat_lt 1 width) refl

same_of_clusters : (clusters : List (List ℕ)) (p q : Pen) → length (option_map_or with_tail (cell_of_clusters clusters p) []) ≡ length (option_map_or with_tail (cell_of_clusters clusters q) [])
unfolding cluster_cell
same_of_clusters [] p q = refl
same_of_clusters (cluster ∷ []) p q =
    let width = str_width false (chars cluster) in
    same_choice (is_tab cluster) (is_unfit (chars cluster)) (width == 0) (nat_lt 2 width || nat_lt most_bytes (length cluster)) cluster width p q
same_of_clusters (first ∷ second ∷ more) p q = refl

-- the columns of a text don't depend on the pen
pub same_columns : (cluster : List ℕ) (p q : Pen) → length (cluster_columns p cluster) ≡ length (cluster_columns q cluster)
unfolding cell_of
same_columns cluster p q = same_of_clusters (graphemes true cluster) p q

length-with_tail_width-by : (pen : Pen) (cell : CellValue) (is_wide : Bool) → nat_lt 1 cell.width ≡ is_wide → IsMade pen cell → length (with_tail cell) ≡ cell.width
length-with_tail_width-by pen cell true wide made = let many = ltb-true 1 cell.width wide in rw wide (omega (arith, made.few))
length-with_tail_width-by pen cell false narrow made = let few = ltb-false 1 cell.width narrow in rw narrow (omega (arith, made.some))

-- a cell takes the columns of its width
pub length-with_tail_width : (pen : Pen) (cell : CellValue) → IsMade pen cell → length (with_tail cell) ≡ cell.width
length-with_tail_width pen cell made = length-with_tail_width-by pen cell (nat_lt 1 cell.width) refl made

-- columns counted so far are no more than the bytes of the line
pub columns_fit : (line cluster : List ℕ) (rest : List (List ℕ)) (before here : ℕ) → IsUtf8 line
    → before + length (flat_map (cluster_columns white_on_black) (cluster ∷ rest)) ≡ length (line_cells line white_on_black)
    → here ≡ length (cluster_columns white_on_black cluster) → before + here ≤ length line
columns_fit line cluster rest before here utf8 total is =
    let fit = FitColumns-line line white_on_black white_on_black-channels utf8 in
    let parts = length-append (cluster_columns white_on_black cluster) (flat_map (cluster_columns white_on_black) rest) in
    omega (arith, fit.short, parts, total, is)

-- the cells of one head more
pub with_tails-more : (heads : List CellValue) (index : ℕ) (cell : CellValue) → index < length heads → cell ≡ get_or heads index cell
    → flat_map with_tail (take index heads) ++ with_tail cell ≡ flat_map with_tail (take (index + 1) heads)
with_tails-more heads index cell inside is = rw add-one (with_tails-suc heads index cell inside is)
  where
    with_tails-suc : (heads : List CellValue) (index : ℕ) (cell : CellValue) → index < length heads → cell ≡ get_or heads index cell
        → flat_map with_tail (take index heads) ++ with_tail cell ≡ flat_map with_tail (take (suc index) heads)
    with_tails-suc [] index cell inside is = absurd (omega arith)
    with_tails-suc (first ∷ heads) zero cell inside is = ap with_tail is ∙ sym (append-nil (with_tail first))
    with_tails-suc (first ∷ heads) (suc index) cell inside is =
        append_assoc (with_tail first) _ (with_tail cell) ∙ ap (λ rest. with_tail first ++ rest) (with_tails-suc heads index cell (omega arith) is)

-- what holds of all cells holds of the one at an index
pub own_at : (heads : List CellValue) (index : ℕ) (cell : CellValue) → All IsOfItsText heads → index < length heads → cell ≡ get_or heads index cell → IsOfItsText cell
own_at heads index cell all inside is = subst IsOfItsText (sym is) (All-get_or IsOfItsText heads index cell inside all)

-- the parts between cuts have as many cells together as the strip has from the first on
pub length-parts_from : (cells : List CellValue) (from : ℕ) (cuts : List ℕ) → AreCuts from (length cells) cuts → length (joined (parts_from cells from cuts)) ≡ length cells - from
length-parts_from cells from [] order = ap length (append-nil (cropped cells from (length cells))) ∙ length-cropped cells from (length cells) order (omega arith)
length-parts_from cells from (cut ∷ cuts) order =
    let inside = AreCuts-inside from (length cells) cut cuts order in
    length-append (cropped cells from cut) _
    ∙ ap₂ ◌+◌ (length-cropped cells from cut order.0 inside) (length-parts_from cells cut cuts order.1)
    ∙ between (length cells) from cut order.0 inside
  where
    between : (len from cut : ℕ) → from ≤ cut → cut ≤ len → (cut - from) + (len - cut) ≡ len - from
    between len from cut first second = omega arith
