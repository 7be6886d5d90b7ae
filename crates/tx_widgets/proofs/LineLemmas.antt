-- The lines of a text are no longer than it, and hardly more than its bytes.
use Rattle.std.proofs.Common.{◌≡◌, ◌-◌, ◌+◌, ◌<◌, ◌≤◌, ℕ, suc, List, [], ◌∷◌, length, take, length-take, slice_index, cond, if◌then◌else◌, Bool, true, false, refl, sym, ap, subst, arith}
use Rattle.std.proofs.lemmas.List.Elements.{All-nil, All-cons, All-head, All-tail, All-weaker}
use Rattle.std.specs.List.{All, slice_split, onto_first}
use Rattle.std.proofs.lemmas.Option.{get_or_from_slice_get, slice_get_within}
use Rattle.std.specs.Prelude.{◌==◌, Some, slice_get}
use Rattle.std.specs.Str.Lines.{strip_carriage_return}
use Rattle.tx_widgets.specs.Drawing.{first_of}
use Rattle.tx_cell.specs.Lines.{lines_of_pieces, pieces_of, text_lines}

-- the byte is a line feed
abbrev is_feed : ℕ → Bool
is_feed byte = byte == 10

-- the piece is no longer than this
abbrev IsWithin : ℕ → List ℕ → Type 0
IsWithin most piece = length piece ≤ most

IsWithin-more : (most : ℕ) (piece : List ℕ) → IsWithin most piece → IsWithin (suc most) piece
IsWithin-more most piece within = omega arith

onto_first-within : (most byte : ℕ) (pieces : List (List ℕ)) → All (IsWithin most) pieces → All (IsWithin (suc most)) (onto_first byte pieces)
onto_first-within most byte [] all = All-cons (IsWithin (suc most)) (byte ∷ []) [] (omega arith) (All-nil (IsWithin (suc most)))
onto_first-within most byte (piece ∷ pieces) all =
    let first = All-head (IsWithin most) piece pieces all in
    All-cons (IsWithin (suc most)) (byte ∷ piece) pieces (omega (arith, first))
    (All-weaker (IsWithin most) (IsWithin (suc most)) (IsWithin-more most) pieces (All-tail (IsWithin most) piece pieces all))

slice_split-within-by : (feed : Bool) (most byte : ℕ) (pieces : List (List ℕ)) → All (IsWithin most) pieces → All (IsWithin (suc most)) (cond feed ([] ∷ pieces) (onto_first byte pieces))
slice_split-within-by true most byte pieces all =
    All-cons (IsWithin (suc most)) [] pieces (omega arith) (All-weaker (IsWithin most) (IsWithin (suc most)) (IsWithin-more most) pieces all)
slice_split-within-by false most byte pieces all = onto_first-within most byte pieces all

slice_split-within : (text : List ℕ) → All (IsWithin (length text)) (slice_split is_feed text)
slice_split-within [] = All-cons (IsWithin 0) [] [] (omega arith) (All-nil (IsWithin 0))
slice_split-within (byte ∷ text) = slice_split-within-by (is_feed byte) (length text) byte (slice_split is_feed text) (slice_split-within text)

strip-within : (most : ℕ) (line : List ℕ) → IsWithin most line → IsWithin most (strip_carriage_return line)
strip-within most line within = by (slice_index line (length line - 1) == 13)
  where
    by : (test : Bool) → IsWithin most (if test then take (length line - 1) line else line)
    by true = let len = length-take (length line - 1) line in omega (arith, len, within)
    by false = within

lines_of_pieces-within : (most : ℕ) (pieces : List (List ℕ)) → All (IsWithin most) pieces → All (IsWithin most) (lines_of_pieces pieces)
lines_of_pieces-within most [] all = all
lines_of_pieces-within most (last ∷ []) all = all
lines_of_pieces-within most (piece ∷ next ∷ pieces) all =
    All-cons (IsWithin most) (strip_carriage_return piece) _ (strip-within most piece (All-head (IsWithin most) piece (next ∷ pieces) all))
    (lines_of_pieces-within most (next ∷ pieces) (All-tail (IsWithin most) piece (next ∷ pieces) all))

-- no line of a text is longer than it
pub text_lines-short : (bound : ℕ) (text : List ℕ) → length text < bound → All (λ line. length line < bound) (text_lines text)
unfolding pieces_of
text_lines-short bound [] small = All-nil (λ line. length line < bound)
text_lines-short bound (byte ∷ text) small =
    All-weaker (IsWithin (length (byte ∷ text))) (λ line. length line < bound) (λ line within. omega (arith, within)) _
    (lines_of_pieces-within (length (byte ∷ text)) _ (slice_split-within (byte ∷ text)))

length-onto_first : (byte : ℕ) (pieces : List (List ℕ)) → length (onto_first byte pieces) ≤ length pieces + 1
length-onto_first byte [] = omega arith
length-onto_first byte (piece ∷ pieces) = omega arith

length-split-by : (feed : Bool) (byte most : ℕ) (pieces : List (List ℕ)) → length pieces ≤ most → length (cond feed ([] ∷ pieces) (onto_first byte pieces)) ≤ suc most
length-split-by true byte most pieces few = omega (arith, few)
length-split-by false byte most pieces few = omega (arith, few, length-onto_first byte pieces)

length-split : (text : List ℕ) → length (slice_split is_feed text) ≤ suc (length text)
length-split [] = omega arith
length-split (byte ∷ text) = length-split-by (is_feed byte) byte (suc (length text)) (slice_split is_feed text) (length-split text)

length-lines_of_pieces : (pieces : List (List ℕ)) → length (lines_of_pieces pieces) ≡ length pieces
length-lines_of_pieces [] = refl
length-lines_of_pieces (last ∷ []) = refl
length-lines_of_pieces (piece ∷ next ∷ pieces) = ap suc (length-lines_of_pieces (next ∷ pieces))

-- a text has at most one line more than bytes
pub length-text_lines : (text : List ℕ) → length (text_lines text) ≤ suc (length text)
unfolding pieces_of
length-text_lines [] = omega arith
length-text_lines (byte ∷ text) =
    let same = length-lines_of_pieces (slice_split is_feed (byte ∷ text)) in
    let few = length-split (byte ∷ text) in
    omega (arith, same, few)

-- nor is the first one, or one at an index
pub first-short : (bound : ℕ) (lines : List (List ℕ)) → 0 < bound → All (λ line. length line < bound) lines → length (first_of lines) < bound
first-short bound [] some all = some
first-short bound (line ∷ lines) some all = All-head (λ l. length l < bound) line lines all

pub short-at : (bound : ℕ) (lines : List (List ℕ)) (i : ℕ) (line : List ℕ) → All (λ l. length l < bound) lines → Some line ≡ slice_get lines i → length line < bound
short-at bound lines i line all is =
    let inside = slice_get_within lines i line (sym is) in
    let same = get_or_from_slice_get lines i line line (sym is) in
    let short = all i line inside in
    subst (λ l. length l < bound) same short
