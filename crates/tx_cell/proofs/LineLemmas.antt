-- The lines of a text, one after another.
use Rattle.std.proofs.Common.{◌≡◌, ◌-◌, ◌<◌, ◌≤◌, ℕ, suc, List, [], ◌∷◌, length, take, length-take, slice_index, cond, if◌then◌else◌, Bool, true, false, refl, sym, ap, ap₂, ◌∙◌, arith}
use Rattle.std.proofs.lemmas.List.Elements.{All-nil, All-cons, All-head, All-tail, All-weaker}
use Rattle.std.proofs.lemmas.List.Splits.{slice_split_first, slice_split_none, length-slice_split}
use Rattle.std.proofs.lemmas.List.Sums.{fails_before_first}
use Rattle.std.specs.List.{All, slice_split, onto_first, before_first, after_first, position_or_len}
use Rattle.std.specs.Prelude.{◌==◌}
use Rattle.std.specs.Str.Lines.{strip_carriage_return}
use Rattle.tx_cell.specs.Lines.{lines_of_pieces, pieces_of, text_lines}

-- the byte is a line feed
abbrev is_feed : ℕ → Bool
is_feed byte = byte == 10

first_piece : (piece : List ℕ) (pieces : List (List ℕ)) → 0 < length pieces → lines_of_pieces (piece ∷ pieces) ≡ strip_carriage_return piece ∷ lines_of_pieces pieces
first_piece piece [] some = absurd (omega arith)
first_piece piece (next ∷ pieces) some = refl

-- the first line of a text with a line feed, and the others
pub pieces_of-some : (text : List ℕ) → position_or_len is_feed text < length text
    → pieces_of text ≡ strip_carriage_return (before_first is_feed text) ∷ pieces_of (after_first is_feed text)
unfolding pieces_of
pieces_of-some text inside =
    let more = length-slice_split is_feed (after_first is_feed text) in
    ap lines_of_pieces (slice_split_first is_feed text 0 inside) ∙ first_piece _ _ (omega (arith, more))

no_feed : (text : List ℕ) → position_or_len is_feed text ≡ length text → All (λ byte. is_feed byte ≡ false) text
no_feed text none k d inside = fails_before_first is_feed text k d (omega (arith, none))

-- a text without a line feed is one line
pub pieces_of-none : (text : List ℕ) → position_or_len is_feed text ≡ length text → pieces_of text ≡ text ∷ []
unfolding pieces_of
pieces_of-none text none = ap lines_of_pieces (slice_split_none is_feed text (no_feed text none))

-- the same, by what was found
pub pieces_of-cut : (text line rest first : List ℕ) → line ≡ before_first is_feed text → rest ≡ after_first is_feed text → position_or_len is_feed text < length text
    → first ≡ strip_carriage_return line → pieces_of text ≡ first ∷ pieces_of rest
pieces_of-cut text line rest first line_is rest_is inside first_is =
    pieces_of-some text inside ∙ ap₂ (λ l r. l ∷ r) (sym (first_is ∙ ap strip_carriage_return line_is)) (ap pieces_of (sym rest_is))

-- the piece is no longer than this
abbrev IsWithin : ℕ → List ℕ → Type 0
IsWithin most piece = length piece ≤ most

IsWithin-more : (most : ℕ) (piece : List ℕ) → IsWithin most piece → IsWithin (suc most) piece
IsWithin-more most piece within = omega arith

onto_first-within : (most byte : ℕ) (pieces : List (List ℕ)) → All (IsWithin most) pieces → All (IsWithin (suc most)) (onto_first byte pieces)
onto_first-within most byte [] all = All-cons (IsWithin (suc most)) (byte ∷ []) [] (omega arith) (All-nil (IsWithin (suc most)))
onto_first-within most byte (piece ∷ pieces) all =
    let first = All-head (IsWithin most) piece pieces all in
    All-cons (IsWithin (suc most)) (byte ∷ piece) pieces (omega (arith, first))
    (All-weaker (IsWithin most) (IsWithin (suc most)) (IsWithin-more most) pieces (All-tail (IsWithin most) piece pieces all))

slice_split-within-by : (feed : Bool) (most byte : ℕ) (pieces : List (List ℕ)) → All (IsWithin most) pieces → All (IsWithin (suc most)) (cond feed ([] ∷ pieces) (onto_first byte pieces))
slice_split-within-by true most byte pieces all =
    All-cons (IsWithin (suc most)) [] pieces (omega arith) (All-weaker (IsWithin most) (IsWithin (suc most)) (IsWithin-more most) pieces all)
slice_split-within-by false most byte pieces all = onto_first-within most byte pieces all

slice_split-within : (text : List ℕ) → All (IsWithin (length text)) (slice_split is_feed text)
slice_split-within [] = All-cons (IsWithin 0) [] [] (omega arith) (All-nil (IsWithin 0))
slice_split-within (byte ∷ text) = slice_split-within-by (is_feed byte) (length text) byte (slice_split is_feed text) (slice_split-within text)

strip-within : (most : ℕ) (line : List ℕ) → IsWithin most line → IsWithin most (strip_carriage_return line)
strip-within most line within = by (slice_index line (length line - 1) == 13)
  where
    by : (test : Bool) → IsWithin most (if test then take (length line - 1) line else line)
    by true = let len = length-take (length line - 1) line in omega (arith, len, within)
    by false = within

lines_of_pieces-within : (most : ℕ) (pieces : List (List ℕ)) → All (IsWithin most) pieces → All (IsWithin most) (lines_of_pieces pieces)
lines_of_pieces-within most [] all = all
lines_of_pieces-within most (last ∷ []) all = all
lines_of_pieces-within most (piece ∷ next ∷ pieces) all =
    All-cons (IsWithin most) (strip_carriage_return piece) _ (strip-within most piece (All-head (IsWithin most) piece (next ∷ pieces) all))
    (lines_of_pieces-within most (next ∷ pieces) (All-tail (IsWithin most) piece (next ∷ pieces) all))

-- no line of a text is longer than it
pub text_lines-short : (bound : ℕ) (text : List ℕ) → length text < bound → All (λ line. length line < bound) (text_lines text)
unfolding pieces_of
text_lines-short bound [] small = All-nil (λ line. length line < bound)
text_lines-short bound (byte ∷ text) small =
    All-weaker (IsWithin (length (byte ∷ text))) (λ line. length line < bound) (λ line within. omega (arith, within)) _
    (lines_of_pieces-within (length (byte ∷ text)) _ (slice_split-within (byte ∷ text)))
