-- A text of one character, or of more.
use Rattle.std.proofs.Common.{◌≡◌, ℕ, List, [], ◌∷◌, ◌++◌, length, Some, None, refl, ap, ◌∙◌, IsUtf8, chars, encode_utf8, arith, lit<}
use Rattle.std.proofs.lemmas.Str.{chars_past_char, IsUtf8-past_char, chars-IsAscii}
use Rattle.tx_tree_file.specs.Parts.{only_char}

chars-nil : chars [] ≡ []
chars-nil = chars-IsAscii [] (λ i. lit< tt)

empty : (rest : List ℕ) → length rest ≡ 0 → rest ≡ []
empty [] h = refl
empty (x ∷ rest) h = absurd (omega (arith, h))

pub one_char : (text rest : List ℕ) (c : ℕ) → IsUtf8 text → text ≡ encode_utf8 c ++ rest → length rest ≡ 0 → Some c ≡ only_char (chars text)
one_char text rest c u e h =
    let none : chars rest ≡ [] = ap chars (empty rest h) ∙ chars-nil in
    rw (chars_past_char text rest c u e, none) refl

pub two_chars : (text rest more : List ℕ) (c d : ℕ) → IsUtf8 text → text ≡ encode_utf8 c ++ rest → rest ≡ encode_utf8 d ++ more → None ≡ only_char (chars text)
two_chars text rest more c d u e f =
    rw (chars_past_char text rest c u e, chars_past_char rest more d (IsUtf8-past_char text rest c u e) f) refl
