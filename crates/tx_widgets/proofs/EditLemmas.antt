-- Cluster edges are edges of characters, and how the loops find them.
use Rattle.std.proofs.Common.{◌≡◌, ◌<◌, ◌≤◌, ℕ, suc, List, [], ◌∷◌, ◌++◌, length, map, filter, drop, cond, Bool, true, false, refl, sym, ◌∙◌, subst, arith, ◌||◌}
use Rattle.std.proofs.Math.Seq.{drop-cons}
use Rattle.std.proofs.lemmas.Bool.{leb-true, le-leb}
use Rattle.std.proofs.lemmas.Bool.Decides.{nat_tests}
use Rattle.std.proofs.lemmas.List.{drop_all}
use Rattle.std.proofs.lemmas.List.Elements.{All-nil, All-cons, All-head, All-tail, All-map, All-append, All-filter, All-weaker}
use Rattle.std.proofs.lemmas.Str.{IsCharBoundary-start, IsCharBoundary-end}
use Rattle.std.specs.List.{All, last_or}
use Rattle.std.specs.Prelude.{Some, None, unwrap_or, find, nat_lt, nat_le, slice_index}
use Rattle.std.specs.Str.{IsUtf8, IsCharBoundary}
use Rattle.unicode_segmentation.specs.Grapheme.{graphemes, is_grapheme_break}
use Rattle.unicode_segmentation.specs.Segments.{with_offsets}
use Rattle.unicode_segmentation.proofs.SegmentsLemmas.{IsPieceOf, All-IsPieceOf}
use Rattle.tx_tree.specs.declared.kind.Private.{Private}
use Rattle.tx_tree.specs.declared.kind.Private.TheVariants.{Cursor}
use Rattle.tx_widgets.specs.Drawing.{cursor_of}
use Rattle.tx_widgets.specs.Editing.{cluster_edges, edge_after, edge_before}
use Rattle.tx_widgets.specs.Form.{begins_character, is_edge, suits}

at_least : (a b : ℕ) → nat_lt a b ≡ false → b ≤ a
at_least a b no_less = grind (arith, nat_tests)

-- an edge of a text's characters
abbrev pub IsEdge : List ℕ → ℕ → Type 0
IsEdge text at = is_edge text at ≡ true

begins-of : (byte : ℕ) (bytes : List ℕ) → (128 ≤ byte → 192 ≤ byte) → begins_character (byte ∷ bytes) ≡ true
begins-of byte bytes high = by (nat_lt byte 128) refl
  where
    by : (test : Bool) → nat_lt byte 128 ≡ test → (nat_lt byte 128 || nat_le 192 byte) ≡ true
    by true low = rw low refl
    by false low = rw (low, le-leb 192 byte (high (at_least byte 128 low))) refl

begins-at : (text : List ℕ) (at : ℕ) → IsCharBoundary text at → begins_character (drop at text) ≡ true
begins-at text at edge = by (nat_lt at (length text)) refl
  where
    by : (test : Bool) → nat_lt at (length text) ≡ test → begins_character (drop at text) ≡ true
    by true inside =
        let within : at < length text = leb-true (suc at) (length text) inside in
        subst (λ bytes. begins_character bytes ≡ true) (sym (drop-cons text at 0 within)) (begins-of (slice_index text at) (drop (suc at) text) (edge.1 within))
    by false past = subst (λ bytes. begins_character bytes ≡ true) (sym (drop_all at text (at_least at (length text) past))) refl

pub IsEdge-boundary : (text : List ℕ) (at : ℕ) → IsCharBoundary text at → IsEdge text at
IsEdge-boundary text at edge = rw (le-leb at (length text) edge.0) (begins-at text at edge)

-- each cluster edge is one
pub IsEdge-clusters : (text : List ℕ) → IsUtf8 text → All (IsEdge text) (cluster_edges text)
IsEdge-clusters text utf8 =
    let pieces = with_offsets 0 (graphemes true text) in
    All-append (IsEdge text) (map (λ cluster. cluster.0) pieces) (length text ∷ [])
    (All-map (IsEdge text) (λ (cluster : ℕ × List ℕ). cluster.0) pieces
    (All-weaker (IsPieceOf text) (λ cluster. IsEdge text cluster.0) (λ cluster piece. IsEdge-boundary text cluster.0 piece.start) pieces
    (All-IsPieceOf (is_grapheme_break true) text utf8)))
    (All-cons (IsEdge text) (length text) [] (IsEdge-boundary text (length text) (IsCharBoundary-end text)) (All-nil (IsEdge text)))

-- the start of a text is one
pub IsEdge-start : (text : List ℕ) → IsUtf8 text → IsEdge text 0
IsEdge-start text utf8 = IsEdge-boundary text 0 (IsCharBoundary-start text utf8)

-- so is the cursor of a state that suits a text
pub IsEdge-cursor : (text : List ℕ) (private : Private) → IsUtf8 text → suits text private ≡ true → IsEdge text (cursor_of private)
IsEdge-cursor text (Cursor at) utf8 is = is
IsEdge-cursor text _ utf8 is = IsEdge-start text utf8

last-by : (P : ℕ → Type 0) (edges : List ℕ) (at found : ℕ) → P found → All P edges → P (unwrap_or (last_or (Some found) edges) at)
last-by P [] at found is all = is
last-by P (edge ∷ edges) at found is all = last-by P edges at edge (All-head P edge edges all) (All-tail P edge edges all)

pub last-all : (P : ℕ → Type 0) (edges : List ℕ) (at : ℕ) → P at → All P edges → P (unwrap_or (last_or None edges) at)
last-all P [] at is all = is
last-all P (edge ∷ edges) at is all = last-by P edges at edge (All-head P edge edges all) (All-tail P edge edges all)

find-by : (P : ℕ → Type 0) (p : ℕ → Bool) (edges : List ℕ) (at edge : ℕ) (test : Bool) → P edge → P (unwrap_or (find p edges) at)
    → P (unwrap_or (cond test (Some edge) (find p edges)) at)
find-by P p edges at edge true is rest = is
find-by P p edges at edge false is rest = rest

find-all : (P : ℕ → Type 0) (p : ℕ → Bool) (edges : List ℕ) (at : ℕ) → P at → All P edges → P (unwrap_or (find p edges) at)
find-all P p [] at is all = is
find-all P p (edge ∷ edges) at is all =
    find-by P p edges at edge (p edge) (All-head P edge edges all) (find-all P p edges at is (All-tail P edge edges all))

-- the last one before an edge is an edge, and so is the next one after it
pub IsEdge-before : (text : List ℕ) (at : ℕ) → IsUtf8 text → IsEdge text at → IsEdge text (edge_before text at)
unfolding edge_before
IsEdge-before text at utf8 is =
    last-all (IsEdge text) _ at is (All-filter (λ edge. nat_lt edge at) (IsEdge text) (cluster_edges text) (IsEdge-clusters text utf8))

pub IsEdge-after : (text : List ℕ) (at : ℕ) → IsUtf8 text → IsEdge text at → IsEdge text (edge_after text at)
unfolding edge_after
IsEdge-after text at utf8 is = find-all (IsEdge text) (λ edge. nat_lt at edge) (cluster_edges text) at is (IsEdge-clusters text utf8)

-- what the loops have still to look at
abbrev pub edges_left : ℕ → List (ℕ × List ℕ) → List ℕ
edges_left end clusters = map (λ cluster. cluster.0) clusters ++ end ∷ []

-- the last one before a place, where one was found already
abbrev pub last_before : ℕ → ℕ → List ℕ → ℕ
last_before at found edges = unwrap_or (last_or (Some found) (filter (λ edge. nat_lt edge at) edges)) at

-- the next one after it
abbrev pub next_after : ℕ → List ℕ → ℕ
next_after at edges = unwrap_or (find (λ edge. nat_lt at edge) edges) at

last_before-start : (at : ℕ) (edges : List ℕ) → unwrap_or (last_or (Some at) edges) at ≡ unwrap_or (last_or None edges) at
last_before-start at [] = refl
last_before-start at (edge ∷ edges) = refl

pub before-init : (text : List ℕ) (at : ℕ) → last_before at at (edges_left (length text) (with_offsets 0 (graphemes true text))) ≡ edge_before text at
unfolding edge_before
before-init text at = last_before-start at (filter (λ edge. nat_lt edge at) (cluster_edges text))

last_before-by : (at found edge : ℕ) (edges : List ℕ) (test : Bool) → nat_lt edge at ≡ test
    → last_before at found (edge ∷ edges) ≡ last_before at (cond test edge found) edges
last_before-by at found edge edges true is = rw is refl
last_before-by at found edge edges false is = rw is refl

next_after-by : (at edge : ℕ) (edges : List ℕ) (test : Bool) → nat_lt at edge ≡ test → next_after at (edge ∷ edges) ≡ cond test edge (next_after at edges)
next_after-by at edge edges true is = rw is refl
next_after-by at edge edges false is = rw is refl

pub before-taken : (at found edge : ℕ) (edges : List ℕ) → edge < at → last_before at found (edge ∷ edges) ≡ last_before at edge edges
before-taken at found edge edges less = last_before-by at found edge edges true (grind (arith, nat_tests))

pub before-left : (at found edge : ℕ) (edges : List ℕ) → at ≤ edge → last_before at found (edge ∷ edges) ≡ last_before at found edges
before-left at found edge edges more = last_before-by at found edge edges false (grind (arith, nat_tests))

pub after-taken : (at edge : ℕ) (edges : List ℕ) → at < edge → next_after at (edge ∷ edges) ≡ edge
after-taken at edge edges more = next_after-by at edge edges true (grind (arith, nat_tests))

pub after-left : (at edge : ℕ) (edges : List ℕ) → edge ≤ at → next_after at (edge ∷ edges) ≡ next_after at edges
after-left at edge edges less = next_after-by at edge edges false (grind (arith, nat_tests))

pub after-end : (at end : ℕ) → at ≤ end → next_after at (end ∷ []) ≡ end
after-end at end within = next_after-by at end [] (nat_lt at end) refl ∙ by (nat_lt at end) refl
  where
    by : (test : Bool) → nat_lt at end ≡ test → cond test end at ≡ end
    by true is = refl
    by false is = omega (arith, at_least at end is)

pub before-end : (at found end : ℕ) → at ≤ end → last_before at found (end ∷ []) ≡ found
before-end at found end within = before-left at found end [] within

pub after-init : (text : List ℕ) (at : ℕ) → next_after at (edges_left (length text) (with_offsets 0 (graphemes true text))) ≡ edge_after text at
unfolding edge_after
after-init text at = refl
