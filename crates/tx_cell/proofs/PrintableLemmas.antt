-- A line of printable ASCII characters has one cell for each of its bytes.
use Rattle.std.proofs.Common.{◌≡◌, ◌<◌, ◌≤◌, ℕ, zero, suc, List, [], ◌∷◌, ◌++◌, Bool, true, false, not, ◌||◌, map, refl, sym, arith, rules, ap, ap₂, ◌∙◌}
use Rattle.std.proofs.lemmas.Bool.{and_parts, leb-true}
use Rattle.std.proofs.lemmas.List.Elements.{All-nil, All-cons, All-head, All-tail}
use Rattle.std.proofs.lemmas.Str.{chars-IsAscii, encode_ascii, is_utf8-from_IsUtf8, IsUtf8-from_ascii}
use Rattle.std.specs.Char.{is_control}
use Rattle.std.specs.List.{AllPass, flat_map}
use Rattle.std.specs.Option.{option_map_or}
use Rattle.std.specs.Prelude.{Some, encode_utf8_all}
use Rattle.std.specs.Str.{IsAscii}
use Rattle.ucd_table.proofs.Computing.{tables}
use Rattle.ucd_table.proofs.Facts.{Stepped-below}
use Rattle.ucd_breaks.specs.GraphemeClusterBreak.{grapheme_cluster_break}
use Rattle.ucd_breaks.specs.declared.GraphemeClusterBreak.{GraphemeClusterBreak}
use Rattle.ucd_breaks.specs.declared.GraphemeClusterBreak.TheVariants.{Other}
use Rattle.ucd_breaks.proofs.GraphemeClusterBreakLemmas.{grapheme_cluster_break_stepped}
use Rattle.unicode_segmentation.specs.Grapheme.{graphemes, is_grapheme_break}
use Rattle.unicode_segmentation.specs.Segments.{cut, segments}
use Rattle.unicode_segmentation.proofs.GraphemeLemmas.{is_grapheme_break-others}
use Rattle.unicode_width.specs.Width.{str_width}
use Rattle.unicode_width.proofs.Rules.{str_width-printable}
use Rattle.tx_cell.specs.Cell.{IsOfItsText, shown, is_tab, is_unfit, cluster_cell, cell_of}
use Rattle.tx_cell.specs.Plain.{is_printable}
use Rattle.tx_cell.specs.Strip.{cluster_columns, line_cells, with_tail}
use Rattle.tx_cell.specs.Pen.{HasByteChannels}
use Rattle.tx_cell.specs.declared.pen.Pen.{Pen}

is_other : GraphemeClusterBreak → Bool
is_other Other = true
is_other _ = false

Other-is_other : (v : GraphemeClusterBreak) → is_other v ≡ true → Other ≡ v
unfolding is_other
Other-is_other Other is = refl
Other-is_other _ is = cc

other_below : (c : ℕ) → c < 0x7F → not (is_printable c) || is_other (grapheme_cluster_break c) ≡ true
unfolding tables grapheme_cluster_break_stepped is_other
other_below = Stepped-below grapheme_cluster_break grapheme_cluster_break_stepped (λ c v. not (is_printable c) || is_other v) 0x7F refl

-- the character is printable
abbrev Printable : ℕ → Type 0
Printable c = is_printable c ≡ true

chosen : (test result : Bool) → test ≡ true → (not test || result) ≡ true → result ≡ true
chosen true result is holds = holds
chosen false result is holds = cc

printable_small : (c : ℕ) → is_printable c ≡ true → (0x20 ≤ c) × (c ≤ 0x7E)
printable_small c is = let both = and_parts _ _ is in (leb-true 0x20 c both.0, leb-true c 0x7E both.1)

printable_other : (c : ℕ) → is_printable c ≡ true → Other ≡ grapheme_cluster_break c
printable_other c is =
    let small = printable_small c is in
    Other-is_other _ (chosen (is_printable c) _ is (other_below c (omega (arith, small.1))))

-- two printable characters are two clusters
printable_breaks : (c next : ℕ) (before after : List ℕ) → is_printable c ≡ true → is_printable next ≡ true → is_grapheme_break true (c ∷ before) (next ∷ after) ≡ true
printable_breaks c next before after first second =
    let small = printable_small next second in
    sym (is_grapheme_break-others true (c ∷ before) next after (omega arith) (omega (arith, small.1)) (printable_other c first) (printable_other next second))

ends_break : (c : ℕ) (before : List ℕ) → is_grapheme_break true (c ∷ before) [] ≡ true
unfolding is_grapheme_break
ends_break c before = refl

cut-printable : (before cs : List ℕ) → AllPass is_printable cs → cut (is_grapheme_break true) before cs [] ≡ map (λ c. c ∷ []) cs
unfolding cut
cut-printable before [] all = refl
cut-printable before (c ∷ []) all = let breaks = ends_break c before in rw breaks refl
cut-printable before (c ∷ next ∷ cs) all =
    let first = All-head Printable c (next ∷ cs) all in
    let others = All-tail Printable c (next ∷ cs) all in
    let second = All-head Printable next cs others in
    let breaks = printable_breaks c next before (cs ++ []) first second in
    rw breaks (ap (λ rest. (c ∷ []) ∷ rest) (cut-printable (c ∷ before) (next ∷ cs) others))

encodes-printable : (cs : List ℕ) → AllPass is_printable cs → map encode_utf8_all (map (λ c. c ∷ []) cs) ≡ map (λ c. c ∷ []) cs
encodes-printable [] all = refl
encodes-printable (c ∷ cs) all =
    let small = printable_small c (All-head Printable c cs all) in
    ap₂ (λ first rest. first ∷ rest) (ap (λ bytes. bytes ++ []) (encode_ascii c (omega (arith, small.1)))) (encodes-printable cs (All-tail Printable c cs all))

IsAscii-printable : (cs : List ℕ) → AllPass is_printable cs → IsAscii cs
IsAscii-printable [] all i = omega arith
IsAscii-printable (c ∷ cs) all zero = let small = printable_small c (All-head Printable c cs all) in omega (arith, small.1)
IsAscii-printable (c ∷ cs) all (suc i) = IsAscii-printable cs (All-tail Printable c cs all) i

-- the clusters of a line of printable characters are its bytes
graphemes-printable : (line : List ℕ) → AllPass is_printable line → graphemes true line ≡ map (λ c. c ∷ []) line
unfolding segments
graphemes-printable line all =
    ap (λ cs. map encode_utf8_all (cut (is_grapheme_break true) [] cs [])) (chars-IsAscii line (IsAscii-printable line all))
    ∙ ap (map encode_utf8_all) (cut-printable [] line all)
    ∙ encodes-printable line all

no_control : (c : ℕ) → 0x20 ≤ c → c ≤ 0x7E → is_control c ≡ false
no_control c low high = search rules

not_unfit : (c : ℕ) → is_printable c ≡ true → is_unfit (c ∷ []) ≡ false
not_unfit c is = let small = printable_small c is in let shown_one = no_control c small.0 small.1 in rw (shown_one, is) refl

no_tab : (c : ℕ) → 0x20 ≤ c → is_tab (c ∷ []) ≡ false
no_tab c low = search rules

-- a printable character is the text of a cell
pub single_printable : (c : ℕ) (pen : Pen) → is_printable c ≡ true → cell_of (c ∷ []) pen ≡ Some (shown (c ∷ []) 1 pen)
unfolding cell_of cluster_cell
single_printable c pen is =
    let small = printable_small c is in
    let one : AllPass is_printable (c ∷ []) = All-cons Printable c [] is (All-nil Printable) in
    let clusters = graphemes-printable (c ∷ []) one in
    let characters = chars-IsAscii (c ∷ []) (IsAscii-printable (c ∷ []) one) in
    let tab = no_tab c small.0 in
    let fit = not_unfit c is in
    let width : str_width false (c ∷ []) ≡ 1 = str_width-printable false (c ∷ []) (rw is refl) in
    rw (clusters, characters, tab, fit, width) refl

pub IsOfItsText-printable : (c : ℕ) (pen : Pen) → HasByteChannels pen → is_printable c ≡ true → IsOfItsText (shown (c ∷ []) 1 pen)
IsOfItsText-printable c pen channels is =
    record {
      channels = channels;
      utf8 = is_utf8-from_IsUtf8 (c ∷ []) (IsUtf8-from_ascii (c ∷ []) (IsAscii-printable (c ∷ []) (All-cons Printable c [] is (All-nil Printable))));
      own = single_printable c pen is;
    }

cells-printable : (line : List ℕ) (pen : Pen) → AllPass is_printable line → flat_map (cluster_columns pen) (map (λ c. c ∷ []) line) ≡ map (λ c. shown (c ∷ []) 1 pen) line
cells-printable [] pen all = refl
cells-printable (c ∷ line) pen all =
    ap₂ (λ first rest. first ++ rest) (ap (λ made. option_map_or with_tail made []) (single_printable c pen (All-head Printable c line all))) (cells-printable line pen (All-tail Printable c line all))

-- a line of printable characters has one narrow cell for each
pub line_cells-printable : (line : List ℕ) (pen : Pen) → AllPass is_printable line → line_cells line pen ≡ map (λ c. shown (c ∷ []) 1 pen) line
unfolding line_cells
line_cells-printable line pen all = ap (flat_map (cluster_columns pen)) (graphemes-printable line all) ∙ cells-printable line pen all
