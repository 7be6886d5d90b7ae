-- The cells of a line that is to be wrapped.
use Rattle.std.proofs.Common.{◌≡◌, ◌<◌, ◌≤◌, ℕ, List, [], ◌∷◌, ◌++◌, length, map, Bool, true, false, ◌&&◌, ◌||◌, if◌then◌else◌, refl, sym, ap, subst, ◌∙◌, arith, length-append}
use Rattle.std.proofs.lemmas.Bool.{eqb-true, eqb-false, ltb-false, ne_eqb}
use Rattle.std.proofs.lemmas.List.{nil_from_length}
use Rattle.std.proofs.lemmas.List.Elements.{All-nil, All-cons, All-head, All-tail, All-map}
use Rattle.std.proofs.lemmas.List.Sums.{sum_by-cons}
use Rattle.std.specs.List.{All, filter_map, flat_map, concat, cons_option}
use Rattle.std.specs.Option.{option_map, option_map_or}
use Rattle.std.specs.Prelude.{Option, Some, None, nat_lt, ◌==◌}
use Rattle.std.specs.Str.{IsUtf8}
use Rattle.unicode_segmentation.proofs.SegmentsLemmas.{concat-segments}
use Rattle.unicode_segmentation.specs.Grapheme.{graphemes, is_grapheme_break}
use Rattle.tx_cell.specs.Cell.{CellValue, IsOfItsText, replacement, cell_of}
use Rattle.tx_cell.specs.Strip.{with_tail, cluster_columns, line_cells}
use Rattle.tx_cell.specs.Wrap.{is_blank, narrowed, line_heads, columns, lines_until, wrapped, with_tails, wrapped_line, AreLinesOf}
use Rattle.tx_cell.specs.Pen.{HasByteChannels}
use Rattle.tx_cell.specs.declared.pen.Pen.{Pen}
use Rattle.tx_cell.proofs.CellLemmas.{IsOfItsText-replacement}
use Rattle.tx_cell.proofs.ClusterLemmas.{IsUtf8-graphemes}
use Rattle.tx_cell.proofs.StripLemmas.{IsOfItsText-cell_of, length-with_tail, length-with_tail_width}
use Rattle.tx_cell.proofs.lemmas.MadeCells.{IsMade-own}
use Rattle.tx_cell.proofs.WrapLaws.{lines_until-fit, lines_until-whole, AreLinesOf-with_tails}

-- what is known of a cell that is to be wrapped
pub record FitHead (width : ℕ) (cluster : List ℕ) (cell : CellValue) : Type 0 where
  pub own : IsOfItsText cell
  pub narrow : 0 < width → cell.width ≤ width
  pub short : cell.width ≤ length cluster

two_fit : (width columns : ℕ) → 0 < width → (width ≡ 1 → ⊥) → columns ≤ 2 → columns ≤ width
two_fit width columns some differ few = omega arith

FitHead-by : (is_one is_wide : Bool) (width : ℕ) (cluster : List ℕ) (pen : Pen) (cell : CellValue) → HasByteChannels pen → (width == 1) ≡ is_one → nat_lt 1 cell.width ≡ is_wide
    → IsUtf8 cluster → cell_of cluster pen ≡ Some cell → FitHead width cluster (if is_one && is_wide then replacement cell.pen else cell)
FitHead-by is_one is_wide width cluster pen cell channels one wide utf8 is = by is_one is_wide one wide
  where
    own : IsOfItsText cell
    own = IsOfItsText-cell_of cluster pen cell channels utf8 is

    bytes : cell.width ≤ length cluster
    bytes = let len = length-with_tail cluster pen cell utf8 is in let same = length-with_tail_width cell.pen cell (IsMade-own cell own) in omega (arith, len, same)

    by : (is_one is_wide : Bool) → (width == 1) ≡ is_one → nat_lt 1 cell.width ≡ is_wide → FitHead width cluster (if is_one && is_wide then replacement cell.pen else cell)
    by true true one wide = record { own = IsOfItsText-replacement cell.pen own.channels; narrow = λ some. some; short = let made = (IsMade-own cell own).some in omega (arith, made, bytes) }
    by true false one slim = record {
      own = own;
      narrow = λ some. let few = ltb-false 1 cell.width slim in omega (arith, few, some);
      short = bytes;
    }
    by false is_wide other wide = record {
      own = own;
      narrow = λ some. two_fit width cell.width some (eqb-false width 1 other) (IsMade-own cell own).few;
      short = bytes;
    }

-- what is known of the cells that are to be wrapped
pub record FitHeads (width : ℕ) (bytes : List ℕ) (cells : List CellValue) : Type 0 where
  pub own : All IsOfItsText cells
  pub narrow : 0 < width → All (λ cell. cell.width ≤ width) cells
  pub short : columns cells ≤ length bytes

FitHeads-made : (width : ℕ) (cluster : List ℕ) (pen : Pen) (rest : List ℕ) (cells : List CellValue) (made : Option CellValue) → HasByteChannels pen → IsUtf8 cluster → cell_of cluster pen ≡ made
    → FitHeads width rest cells → FitHeads width (cluster ++ rest) (cons_option (option_map (narrowed width) made) cells)
FitHeads-made width cluster pen rest cells None channels utf8 is fit = record { own = fit.own; narrow = fit.narrow; short = rw length-append (omega (arith, fit.short)) }
FitHeads-made width cluster pen rest cells (Some cell) channels utf8 is fit =
    let first = FitHead-by (width == 1) (nat_lt 1 cell.width) width cluster pen cell channels refl refl utf8 is in
    let sum = sum_by-cons (λ (c : CellValue). c.width) (narrowed width cell) cells in
    let len = length-append cluster rest in
    record {
      own = All-cons IsOfItsText (narrowed width cell) cells first.own fit.own;
      narrow = λ some. All-cons (λ c. c.width ≤ width) (narrowed width cell) cells (first.narrow some) (fit.narrow some);
      short = omega (arith, sum, len, first.short, fit.short);
    }

FitHeads-clusters : (width : ℕ) (pen : Pen) (clusters : List (List ℕ)) → HasByteChannels pen → All IsUtf8 clusters
    → FitHeads width (concat clusters) (filter_map (λ cluster. option_map (narrowed width) (cell_of cluster pen)) clusters)
FitHeads-clusters width pen [] channels all = record { own = All-nil IsOfItsText; narrow = λ some. All-nil (λ c. c.width ≤ width); short = omega arith }
FitHeads-clusters width pen (cluster ∷ clusters) channels all =
    FitHeads-made width cluster pen (concat clusters) _ (cell_of cluster pen) channels (All-head IsUtf8 cluster clusters all) refl
    (FitHeads-clusters width pen clusters channels (All-tail IsUtf8 cluster clusters all))

-- the cells of a line fit a width of at least 1 one by one, and are no more columns than its bytes
pub FitHeads-line : (width : ℕ) (pen : Pen) (line : List ℕ) → HasByteChannels pen → IsUtf8 line → FitHeads width line (line_heads width pen line)
unfolding line_heads
FitHeads-line width pen line channels utf8 =
    subst (λ bytes. FitHeads width bytes (filter_map (λ cluster. option_map (narrowed width) (cell_of cluster pen)) (graphemes true line))) (concat-segments (is_grapheme_break true) line utf8)
    (FitHeads-clusters width pen (graphemes true line) channels (IsUtf8-graphemes line utf8))

-- the same cells with the tails are those of the line, where the width is at least 2
line_heads-made : (width : ℕ) (made : Option CellValue) (cells : List CellValue) → (width == 1) ≡ false
    → with_tails (cons_option (option_map (narrowed width) made) cells) ≡ option_map_or with_tail made [] ++ with_tails cells
line_heads-made width None cells other = refl
line_heads-made width (Some cell) cells other = rw other refl

line_heads-clusters : (width : ℕ) (pen : Pen) (clusters : List (List ℕ)) → (width == 1) ≡ false
    → with_tails (filter_map (λ cluster. option_map (narrowed width) (cell_of cluster pen)) clusters) ≡ flat_map (cluster_columns pen) clusters
line_heads-clusters width pen [] other = refl
line_heads-clusters width pen (cluster ∷ clusters) other =
    line_heads-made width (cell_of cluster pen) _ other ∙ ap (λ more. cluster_columns pen cluster ++ more) (line_heads-clusters width pen clusters other)

with_tails-line_heads : (width : ℕ) (pen : Pen) (line : List ℕ) → 2 ≤ width → with_tails (line_heads width pen line) ≡ line_cells line pen
unfolding line_heads line_cells
with_tails-line_heads width pen line wide = line_heads-clusters width pen (graphemes true line) (ne_eqb width 1 (λ one. let same : width ≡ 1 = one in absurd (omega (arith, same))))

wrapped-fit-by : (none : Bool) (width : ℕ) (cells : List CellValue) → All IsOfItsText cells
    → All (λ line. length (with_tails line) ≤ width) (if none then [] ∷ [] else lines_until (length cells) width cells)
wrapped-fit-by true width cells own = All-cons (λ line. length (with_tails line) ≤ width) [] [] (omega arith) (All-nil (λ line. length (with_tails line) ≤ width))
wrapped-fit-by false width cells own = lines_until-fit (length cells) width cells own

-- each line of a wrapped line fits
pub wrapped_line-fit : (width : ℕ) (pen : Pen) (line : List ℕ) → HasByteChannels pen → IsUtf8 line → All (λ cells. length cells ≤ width) (wrapped_line width pen line)
unfolding wrapped_line
wrapped_line-fit width pen line channels utf8 =
    let heads = line_heads width pen line in
    let fit = FitHeads-line width pen line channels utf8 in
    All-map (λ cells. length cells ≤ width) with_tails (wrapped width heads) (wrapped-fit-by ((width == 0) || (length heads == 0)) width heads fit.own)

wrapped-whole-by : (none : Bool) (width : ℕ) (cells : List CellValue) → (length cells == 0) ≡ none → All (λ cell. cell.width ≤ width) cells
    → AreLinesOf cells (if none then [] ∷ [] else lines_until (length cells) width cells)
wrapped-whole-by true width cells none narrow =
    let empty : cells ≡ [] = nil_from_length cells (eqb-true (length cells) 0 none) in
    subst (λ c. AreLinesOf c ([] ∷ [])) (sym empty) ([], ([], (All-nil (λ c. is_blank c ≡ true), refl, refl)))
wrapped-whole-by false width cells some narrow = lines_until-whole (length cells) width cells narrow (omega arith)

wrapped-whole : (width : ℕ) (cells : List CellValue) → 2 ≤ width → All (λ cell. cell.width ≤ width) cells → AreLinesOf cells (wrapped width cells)
wrapped-whole width cells wide narrow =
    let not_none : (width == 0) ≡ false = ne_eqb width 0 (λ none. let same : width ≡ 0 = none in absurd (omega (arith, same))) in
    rw not_none (wrapped-whole-by (length cells == 0) width cells refl narrow)

-- with the dropped blanks, the lines of a wrapped line are its cells
pub wrapped_line-whole : (width : ℕ) (pen : Pen) (line : List ℕ) → HasByteChannels pen → IsUtf8 line → 2 ≤ width → AreLinesOf (line_cells line pen) (wrapped_line width pen line)
unfolding wrapped_line
wrapped_line-whole width pen line channels utf8 wide =
    let heads = line_heads width pen line in
    let fit = FitHeads-line width pen line channels utf8 in
    subst (λ cells. AreLinesOf cells (map with_tails (wrapped width heads))) (with_tails-line_heads width pen line wide)
    (AreLinesOf-with_tails heads (wrapped width heads) fit.own (wrapped-whole width heads wide (fit.narrow (omega arith))))
