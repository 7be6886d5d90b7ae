-- A cluster of a text is one cluster by itself: no rule looks back behind the start of a cluster and joins.
use Rattle.std.proofs.Common.{◌≡◌, ℕ, List, [], ◌∷◌, ◌++◌, map, Bool, true, false, not, ◌&&◌, ◌||◌, if◌then◌else◌, unwrap_or, refl, sym, ap, ◌∙◌, subst}
use Rattle.std.proofs.lemmas.List.Elements.{All-nil, All-cons, All-head, All-tail, All-map, All-weaker}
use Rattle.std.proofs.lemmas.Str.{chars-encodes, scalars-chars}
use Rattle.std.specs.List.{All}
use Rattle.std.specs.Prelude.{Option, Some, None, encode_utf8_all}
use Rattle.std.specs.Str.{IsUtf8, chars}
use lib.Utf8.{scalars}
use Rattle.ucd_table.proofs.Computing.{tables}
use Rattle.ucd_table.proofs.Facts.{Stepped-everywhere}
use Rattle.ucd_table.proofs.Stepped.{zip_stepped}
use Rattle.ucd_breaks.specs.GraphemeClusterBreak.{grapheme_cluster_break}
use Rattle.ucd_breaks.specs.declared.GraphemeClusterBreak.{GraphemeClusterBreak}
use Rattle.ucd_breaks.specs.declared.GraphemeClusterBreak.TheVariants.{Control, Cr, Lf, Extend, Zwj, RegionalIndicator}
use Rattle.ucd_breaks.proofs.GraphemeClusterBreakLemmas.{grapheme_cluster_break_stepped}
use Rattle.ucd_derived.specs.IndicConjunctBreak.{indic_conjunct_break}
use Rattle.ucd_derived.specs.declared.IndicConjunctBreak.{IndicConjunctBreak}
use Rattle.ucd_derived.specs.declared.IndicConjunctBreak.TheVariants as InCb
use Rattle.ucd_derived.proofs.IndicConjunctBreakLemmas.{indic_conjunct_break_stepped}
use Rattle.ucd_emoji.specs.Binary.{is_extended_pictographic}
use Rattle.ucd_emoji.proofs.BinaryLemmas.{is_extended_pictographic_stepped}
use Rattle.ucd_emoji.proofs.Computing.{ucd_emoji}
use Rattle.unicode_segmentation.specs.Grapheme.{break_by_pair, ends_in_linker, joins_conjunct, is_extend, is_zwj, is_regional, ends_in_pictograph, joins_emoji, ends_in_half_flag, joins_flag, is_grapheme_break, graphemes}
use Rattle.unicode_segmentation.specs.Segments.{prepend, cut, segments}
use Rattle.std.proofs.lemmas.Bool.{and_from, and_parts}
use Rattle.tx_cell.specs.Cell.{cluster_cell, cell_of_clusters, cell_of}
use Rattle.tx_cell.specs.declared.pen.Pen.{Pen}
use Rattle.tx_cell.proofs.ClusterLemmas.{AreScalars, AreScalars-cut}

-- ---- what the tables say

-- no cluster begins before such a character, unless a control character is before it
joins_before : GraphemeClusterBreak → Bool
joins_before Extend = true
joins_before Zwj = true
joins_before _ = false

-- a cluster ends behind such a character, whatever follows
is_ender : GraphemeClusterBreak → Bool
is_ender Control = true
is_ender Cr = true
is_ender Lf = true
is_ender _ = false

-- a look back for a linker goes on over such a character
is_passed : IndicConjunctBreak → Bool
is_passed InCb.Extend = true
is_passed _ = false

-- a look back for a linker goes on over such a character or ends there
is_looked_at : IndicConjunctBreak → Bool
is_looked_at InCb.Linker = true
is_looked_at InCb.Extend = true
is_looked_at _ = false

implied : (first second : Bool) → first ≡ true → (not first || second) ≡ true → second ≡ true
implied true second is holds = holds
implied false second is holds = cc

passed_joins_test : (c : ℕ) → (not (is_passed (indic_conjunct_break c)) || joins_before (grapheme_cluster_break c)) ≡ true
unfolding tables grapheme_cluster_break_stepped indic_conjunct_break_stepped joins_before is_passed
passed_joins_test =
    Stepped-everywhere _ (zip_stepped (λ v w. not (is_passed v) || joins_before w) indic_conjunct_break grapheme_cluster_break indic_conjunct_break_stepped grapheme_cluster_break_stepped) refl

passed_joins : (c : ℕ) → is_passed (indic_conjunct_break c) ≡ true → joins_before (grapheme_cluster_break c) ≡ true
passed_joins c is = implied _ _ is (passed_joins_test c)

looked_at_test : (c : ℕ) → (not (is_looked_at (indic_conjunct_break c)) || not (is_ender (grapheme_cluster_break c))) ≡ true
unfolding tables grapheme_cluster_break_stepped indic_conjunct_break_stepped is_ender is_looked_at
looked_at_test =
    Stepped-everywhere _ (zip_stepped (λ v w. not (is_looked_at v) || not (is_ender w)) indic_conjunct_break grapheme_cluster_break indic_conjunct_break_stepped grapheme_cluster_break_stepped) refl

not_false : (test : Bool) → not test ≡ true → test ≡ false
not_false true is = cc
not_false false is = refl

looked_at_no_ender : (c : ℕ) → is_looked_at (indic_conjunct_break c) ≡ true → is_ender (grapheme_cluster_break c) ≡ false
looked_at_no_ender c is = not_false _ (implied _ _ is (looked_at_test c))

pictograph_test : (c : ℕ) → (not (is_extended_pictographic c) || not (is_ender (grapheme_cluster_break c))) ≡ true
unfolding tables ucd_emoji grapheme_cluster_break_stepped is_extended_pictographic_stepped is_ender
pictograph_test =
    Stepped-everywhere _ (zip_stepped (λ v w. not v || not (is_ender w)) is_extended_pictographic grapheme_cluster_break is_extended_pictographic_stepped grapheme_cluster_break_stepped) refl

pictograph_no_ender : (c : ℕ) → is_extended_pictographic c ≡ true → is_ender (grapheme_cluster_break c) ≡ false
pictograph_no_ender c is = not_false _ (implied _ _ is (pictograph_test c))

joins_no_ender : (v : GraphemeClusterBreak) → joins_before v ≡ true → is_ender v ≡ false
unfolding joins_before is_ender
joins_no_ender Extend is = refl
joins_no_ender Zwj is = refl
joins_no_ender _ is = cc

extend_joins : (v : GraphemeClusterBreak) → is_extend v ≡ true → joins_before v ≡ true
unfolding joins_before
extend_joins Extend is = refl
extend_joins _ is = cc

zwj_joins : (v : GraphemeClusterBreak) → is_zwj v ≡ true → joins_before v ≡ true
unfolding joins_before
zwj_joins Zwj is = refl
zwj_joins _ is = cc

pair_joins : (v w : GraphemeClusterBreak) → is_ender v ≡ false → joins_before w ≡ true → break_by_pair true v w ≡ Some false
unfolding joins_before is_ender
pair_joins Control w other joins = cc
pair_joins Cr w other joins = cc
pair_joins Lf w other joins = cc
pair_joins _ Extend other joins = refl
pair_joins _ Zwj other joins = refl
pair_joins _ _ other joins = cc

-- ---- what stands before the start of a cluster

-- a cluster begins with `first` behind `outer`, whose nearest character comes first
abbrev Starts : List ℕ → ℕ → Type 0
Starts outer first = is_grapheme_break true outer (first ∷ []) ≡ true

no_join_over_start : (o : ℕ) (outer : List ℕ) (first : ℕ) → Starts (o ∷ outer) first → joins_before (grapheme_cluster_break first) ≡ true
    → is_ender (grapheme_cluster_break o) ≡ false → ⊥
unfolding is_grapheme_break
no_join_over_start o outer first starts joins other =
    let pair = pair_joins (grapheme_cluster_break o) (grapheme_cluster_break first) other joins in
    let same : false ≡ true = ap (λ p. unwrap_or p (not ((true && joins_conjunct (o ∷ outer) first) || joins_emoji (o ∷ outer) first || joins_flag (o ∷ outer) first))) (sym pair) ∙ starts in
    cc

-- the last of these, which is the first of the cluster, is this one
LastIs : ℕ → List ℕ → Type 0
LastIs first [] = ⊥
LastIs first (c ∷ []) = c ≡ first
LastIs first (c ∷ d ∷ inner) = LastIs first (d ∷ inner)

-- ---- a look back that joins finds what it looks for inside the cluster

-- a linker before the start, with nothing but extending characters behind it
linker_over_start : (outer : List ℕ) (first : ℕ) → Starts outer first → is_passed (indic_conjunct_break first) ≡ true
    → ends_in_linker (map indic_conjunct_break outer) ≡ true → ⊥
unfolding ends_in_linker is_looked_at
linker_over_start [] first starts passed linker = cc
linker_over_start (o ∷ outer) first starts passed linker =
    no_join_over_start o outer first starts (passed_joins first passed)
    (looked_at_no_ender o (seen (indic_conjunct_break o) (map indic_conjunct_break outer) linker))
  where
    seen : (v : IndicConjunctBreak) (vs : List IndicConjunctBreak) → ends_in_linker (v ∷ vs) ≡ true → is_looked_at v ≡ true
    seen InCb.Linker vs is = refl
    seen InCb.Extend vs is = refl
    seen _ vs is = cc

linker_step : (v : IndicConjunctBreak) (vs ws : List IndicConjunctBreak) → (is_passed v ≡ true → ends_in_linker vs ≡ true → ends_in_linker ws ≡ true)
    → ends_in_linker (v ∷ vs) ≡ true → ends_in_linker (v ∷ ws) ≡ true
unfolding ends_in_linker is_passed
linker_step InCb.Linker vs ws go is = refl
linker_step InCb.Extend vs ws go is = go refl is
linker_step _ vs ws go is = cc

linker_inside : (inner outer : List ℕ) (first : ℕ) → LastIs first inner → Starts outer first
    → ends_in_linker (map indic_conjunct_break (inner ++ outer)) ≡ true → ends_in_linker (map indic_conjunct_break inner) ≡ true
unfolding LastIs
linker_inside [] outer first last starts is = absurd last
linker_inside (c ∷ []) outer first last starts is =
    linker_step (indic_conjunct_break c) _ [] (λ passed linker. absurd (linker_over_start outer first starts (subst (λ d. is_passed (indic_conjunct_break d) ≡ true) last passed) linker)) is
linker_inside (c ∷ d ∷ inner) outer first last starts is =
    linker_step (indic_conjunct_break c) _ _ (λ passed linker. linker_inside (d ∷ inner) outer first last starts linker) is

-- a pictograph before the start, with nothing but extending characters behind it
pictograph_over_start : (outer : List ℕ) (first : ℕ) → Starts outer first → joins_before (grapheme_cluster_break first) ≡ true → ends_in_pictograph outer ≡ true → ⊥
unfolding ends_in_pictograph
pictograph_over_start [] first starts joins is = cc
pictograph_over_start (o ∷ outer) first starts joins is =
    no_join_over_start o outer first starts joins (no_ender (is_extended_pictographic o) refl is)
  where
    no_ender : (test : Bool) → is_extended_pictographic o ≡ test → (test || (is_extend (grapheme_cluster_break o) && ends_in_pictograph outer)) ≡ true
        → is_ender (grapheme_cluster_break o) ≡ false
    no_ender true pictograph found = pictograph_no_ender o pictograph
    no_ender false other found = joins_no_ender _ (extend_joins _ (and_parts _ _ found).0)

pictograph_step : (pictograph extends before inside : Bool) → (extends ≡ true → before ≡ true → inside ≡ true)
    → (pictograph || (extends && before)) ≡ true → (pictograph || (extends && inside)) ≡ true
pictograph_step true extends before inside go is = refl
pictograph_step false true before inside go is = go refl is
pictograph_step false false before inside go is = cc

pictograph_inside : (inner outer : List ℕ) (first : ℕ) → LastIs first inner → Starts outer first → ends_in_pictograph (inner ++ outer) ≡ true → ends_in_pictograph inner ≡ true
unfolding ends_in_pictograph LastIs
pictograph_inside [] outer first last starts is = absurd last
pictograph_inside (c ∷ []) outer first last starts is =
    pictograph_step (is_extended_pictographic c) (is_extend (grapheme_cluster_break c)) (ends_in_pictograph outer) false
    (λ extends before. absurd (pictograph_over_start outer first starts (subst (λ d. joins_before (grapheme_cluster_break d) ≡ true) last (extend_joins _ extends)) before)) is
pictograph_inside (c ∷ d ∷ inner) outer first last starts is =
    pictograph_step (is_extended_pictographic c) (is_extend (grapheme_cluster_break c)) _ _ (λ extends before. pictograph_inside (d ∷ inner) outer first last starts before) is

emoji_inside : (inner outer : List ℕ) (first next : ℕ) → LastIs first inner → Starts outer first → joins_emoji (inner ++ outer) next ≡ true → joins_emoji inner next ≡ true
unfolding LastIs
emoji_inside [] outer first next last starts is = absurd last
emoji_inside (c ∷ []) outer first next last starts is =
    let joiner = (and_parts _ _ (and_parts _ _ is).0).0 in
    let before = (and_parts _ _ (and_parts _ _ is).0).1 in
    absurd (pictograph_over_start outer first starts (subst (λ d. joins_before (grapheme_cluster_break d) ≡ true) last (zwj_joins _ joiner)) before)
emoji_inside (c ∷ d ∷ inner) outer first next last starts is =
    let joiner = (and_parts _ _ (and_parts _ _ is).0).0 in
    let before = pictograph_inside (d ∷ inner) outer first last starts (and_parts _ _ (and_parts _ _ is).0).1 in
    and_from _ _ (and_from _ _ joiner before) (and_parts _ _ is).1

-- half a flag before the start isn't joined with the first character
unjoined_flag : (conjunct emoji half : Bool) → not ((true && conjunct) || emoji || (half && true)) ≡ true → half ≡ false
unjoined_flag true emoji half is = cc
unjoined_flag false true half is = cc
unjoined_flag false false true is = cc
unjoined_flag false false false is = refl

half_flag_by : (v w : GraphemeClusterBreak) (conjunct emoji before : Bool) → is_regional w ≡ true
    → unwrap_or (break_by_pair true v w) (not ((true && conjunct) || emoji || ((is_regional v && not before) && is_regional w))) ≡ true → (is_regional v && not before) ≡ false
half_flag_by RegionalIndicator RegionalIndicator conjunct emoji before regional starts = unjoined_flag conjunct emoji (not before) starts
half_flag_by RegionalIndicator _ conjunct emoji before regional starts = cc
half_flag_by _ w conjunct emoji before regional starts = refl

flag_over_start : (outer : List ℕ) (first : ℕ) → Starts outer first → is_regional (grapheme_cluster_break first) ≡ true → ends_in_half_flag outer ≡ false
unfolding ends_in_half_flag is_grapheme_break
flag_over_start [] first starts regional = refl
flag_over_start (o ∷ outer) first starts regional =
    half_flag_by (grapheme_cluster_break o) (grapheme_cluster_break first) (joins_conjunct (o ∷ outer) first) (joins_emoji (o ∷ outer) first) (ends_in_half_flag outer) regional starts

flag_same : (inner outer : List ℕ) (first : ℕ) → LastIs first inner → Starts outer first → ends_in_half_flag (inner ++ outer) ≡ ends_in_half_flag inner
unfolding ends_in_half_flag LastIs
flag_same [] outer first last starts = absurd last
flag_same (c ∷ []) outer first last starts = by (is_regional (grapheme_cluster_break c)) refl
  where
    by : (regional : Bool) → is_regional (grapheme_cluster_break c) ≡ regional → (regional && not (ends_in_half_flag outer)) ≡ (regional && true)
    by true is = ap not (flag_over_start outer first starts (subst (λ d. is_regional (grapheme_cluster_break d) ≡ true) last is))
    by false is = refl
flag_same (c ∷ d ∷ inner) outer first last starts = ap (λ half. is_regional (grapheme_cluster_break c) && not half) (flag_same (d ∷ inner) outer first last starts)

-- ---- no break inside a cluster of a text, so none where it is alone

joined_second : (first third : Bool) → not (first || true || third) ≡ false
joined_second true third = refl
joined_second false third = refl

joined_third : (first : Bool) → not (first || true) ≡ false
joined_third true = refl
joined_third false = refl

some_join : (conjunct emoji flag conjunct_alone emoji_alone flag_alone : Bool) → (conjunct ≡ true → conjunct_alone ≡ true) → (emoji ≡ true → emoji_alone ≡ true)
    → (flag ≡ true → flag_alone ≡ true) → not ((true && conjunct) || emoji || flag) ≡ false → not ((true && conjunct_alone) || emoji_alone || flag_alone) ≡ false
some_join true emoji flag ca ea fa c e f is = let joined = c refl in rw joined refl
some_join false true flag ca ea fa c e f is = let joined = e refl in rw joined (joined_second ca fa)
some_join false false true ca ea fa c e f is = let joined = f refl in rw joined (joined_third (ca || ea))
some_join false false false ca ea fa c e f is = cc

unbroken : (pair : Option Bool) (joined joined_alone : Bool) → (joined ≡ false → joined_alone ≡ false) → unwrap_or pair joined ≡ false → unwrap_or pair joined_alone ≡ false
unbroken None joined joined_alone go is = go is
unbroken (Some b) joined joined_alone go is = is

unbroken_alone : (inner outer : List ℕ) (first next : ℕ) (after more : List ℕ) → LastIs first inner → Starts outer first
    → is_grapheme_break true (inner ++ outer) (next ∷ after) ≡ false → is_grapheme_break true inner (next ∷ more) ≡ false
unfolding is_grapheme_break LastIs
unbroken_alone [] outer first next after more last starts is = absurd last
unbroken_alone (c ∷ inner) outer first next after more last starts is =
    unbroken (break_by_pair true (grapheme_cluster_break c) (grapheme_cluster_break next)) _ _
    (some_join (joins_conjunct (c ∷ (inner ++ outer)) next) (joins_emoji (c ∷ (inner ++ outer)) next) (joins_flag (c ∷ (inner ++ outer)) next)
    (joins_conjunct (c ∷ inner) next) (joins_emoji (c ∷ inner) next) (joins_flag (c ∷ inner) next)
    (λ joins. and_from _ _ (linker_inside (c ∷ inner) outer first last starts (and_parts _ _ joins).0) (and_parts _ _ joins).1)
    (λ joins. emoji_inside (c ∷ inner) outer first next last starts joins)
    (λ joins. and_from _ _ (sym (flag_same (c ∷ inner) outer first last starts) ∙ (and_parts _ _ joins).0) (and_parts _ _ joins).1))
    is

-- the characters are one cluster by themselves
IsOne : List ℕ → Type 0
IsOne piece = cut (is_grapheme_break true) [] piece [] ≡ piece ∷ []

-- the pieces of what follows inside a cluster: the rest of the cluster, and clusters that are such by themselves
record Pieces (inner outer : List ℕ) (c : ℕ) (cs : List ℕ) : Type 0 where
  pub rest : List ℕ
  pub others : List (List ℕ)
  pub is : cut (is_grapheme_break true) (inner ++ outer) (c ∷ cs) [] ≡ (c ∷ rest) ∷ others
  pub alone : cut (is_grapheme_break true) inner (c ∷ rest) [] ≡ (c ∷ rest) ∷ []
  pub all : All IsOne others

last_piece : (is_break : Bool) (c : ℕ) → (if is_break then (c ∷ []) ∷ [] else prepend (c ∷ []) []) ≡ (c ∷ []) ∷ []
last_piece true c = refl
last_piece false c = refl

alone_at_break : (inner outer : List ℕ) (c n : ℕ) (cs : List ℕ) → is_grapheme_break true (c ∷ (inner ++ outer)) (n ∷ (cs ++ [])) ≡ true
    → Pieces [] (c ∷ (inner ++ outer)) n cs → Pieces inner outer c (n ∷ cs)
unfolding cut IsOne
alone_at_break inner outer c n cs breaks next = record {
  rest = [];
  others = (n ∷ next.rest) ∷ next.others;
  is = rw breaks (ap (λ pieces. (c ∷ []) ∷ pieces) next.is);
  alone = last_piece (is_grapheme_break true (c ∷ inner) []) c;
  all = All-cons IsOne (n ∷ next.rest) next.others next.alone next.all;
}

alone_inside : (inner outer : List ℕ) (c n first : ℕ) (cs : List ℕ) → LastIs first (c ∷ inner) → Starts outer first
    → is_grapheme_break true (c ∷ (inner ++ outer)) (n ∷ (cs ++ [])) ≡ false → Pieces (c ∷ inner) outer n cs → Pieces inner outer c (n ∷ cs)
unfolding cut
alone_inside inner outer c n first cs last starts joined next =
    let alone = unbroken_alone (c ∷ inner) outer first n (cs ++ []) (next.rest ++ []) last starts joined in
    record {
      rest = n ∷ next.rest;
      others = next.others;
      is = rw joined (ap (prepend (c ∷ [])) next.is);
      alone = rw alone (ap (prepend (c ∷ [])) next.alone);
      all = next.all;
    }

pieces : (cs inner outer : List ℕ) (c first : ℕ) → LastIs first (c ∷ inner) → Starts outer first → Pieces inner outer c cs
unfolding cut LastIs is_grapheme_break
pieces [] inner outer c first last starts = record {
  rest = [];
  others = [];
  is = last_piece (is_grapheme_break true (c ∷ (inner ++ outer)) []) c;
  alone = last_piece (is_grapheme_break true (c ∷ inner) []) c;
  all = All-nil IsOne;
}
pieces (n ∷ cs) inner outer c first last starts =
    by (is_grapheme_break true (c ∷ (inner ++ outer)) (n ∷ (cs ++ []))) refl
    (λ breaks. pieces cs [] (c ∷ (inner ++ outer)) n n refl breaks)
    (pieces cs (c ∷ inner) outer n first last starts)
  where
    by : (is_break : Bool) → is_grapheme_break true (c ∷ (inner ++ outer)) (n ∷ (cs ++ [])) ≡ is_break
        → (is_grapheme_break true (c ∷ (inner ++ outer)) (n ∷ (cs ++ [])) ≡ true → Pieces [] (c ∷ (inner ++ outer)) n cs)
        → Pieces (c ∷ inner) outer n cs → Pieces inner outer c (n ∷ cs)
    by true breaks start go = alone_at_break inner outer c n cs breaks (start breaks)
    by false joined start go = alone_inside inner outer c n first cs last starts joined go

alone_pieces : (cs : List ℕ) → All IsOne (cut (is_grapheme_break true) [] cs [])
unfolding cut is_grapheme_break LastIs IsOne
alone_pieces [] = All-nil IsOne
alone_pieces (c ∷ cs) = let all = pieces cs [] [] c c refl refl in subst (All IsOne) (sym all.is) (All-cons IsOne (c ∷ all.rest) all.others all.alone all.all)

alone_text : (piece : List ℕ) → scalars piece ≡ true → IsOne piece → graphemes true (encode_utf8_all piece) ≡ encode_utf8_all piece ∷ []
unfolding segments IsOne
alone_text piece all one = ap (λ cs. map encode_utf8_all (cut (is_grapheme_break true) [] cs [])) (chars-encodes piece all) ∙ ap (map encode_utf8_all) one

alone_texts : (all : List (List ℕ)) → All IsOne all → All AreScalars all → All (λ piece. graphemes true (encode_utf8_all piece) ≡ encode_utf8_all piece ∷ []) all
unfolding AreScalars
alone_texts [] one scalar = All-nil (λ piece. graphemes true (encode_utf8_all piece) ≡ encode_utf8_all piece ∷ [])
alone_texts (piece ∷ all) one scalar =
    All-cons (λ p. graphemes true (encode_utf8_all p) ≡ encode_utf8_all p ∷ []) piece all
    (alone_text piece (All-head AreScalars piece all scalar) (All-head IsOne piece all one))
    (alone_texts all (All-tail IsOne piece all one) (All-tail AreScalars piece all scalar))

-- each cluster of a text is one cluster by itself
pub graphemes_alone : (text : List ℕ) → IsUtf8 text → All (λ cluster. graphemes true cluster ≡ cluster ∷ []) (graphemes true text)
unfolding segments
graphemes_alone text utf8 =
    let all = cut (is_grapheme_break true) [] (chars text) [] in
    All-map (λ cluster. graphemes true cluster ≡ cluster ∷ []) encode_utf8_all all
    (alone_texts all (alone_pieces (chars text)) (AreScalars-cut (is_grapheme_break true) [] (chars text) [] (scalars-chars text utf8)))

-- a cluster of a text has the cell of its rules
pub cell_of-graphemes : (text : List ℕ) (pen : Pen) → IsUtf8 text → All (λ cluster. cell_of cluster pen ≡ cluster_cell cluster pen) (graphemes true text)
unfolding cell_of
cell_of-graphemes text pen utf8 = All-weaker (λ cluster. graphemes true cluster ≡ cluster ∷ []) (λ cluster. cell_of_clusters (graphemes true cluster) pen ≡ cluster_cell cluster pen)
    (λ cluster alone. ap (λ clusters. cell_of_clusters clusters pen) alone) (graphemes true text) (graphemes_alone text utf8)
