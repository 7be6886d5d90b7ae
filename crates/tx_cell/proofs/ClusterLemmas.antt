-- The clusters of a text are texts.
use Rattle.std.proofs.Common.{◌≡◌, ◌++◌, ℕ, List, [], ◌∷◌, Bool, true, false, if◌then◌else◌, refl}
use Rattle.std.proofs.lemmas.Bool.{and_parts}
use Rattle.std.proofs.lemmas.List.Elements.{All-nil, All-cons, All-head, All-tail, All-map, All-weaker}
use Rattle.std.proofs.lemmas.Str.{scalars-chars}
use Rattle.std.specs.List.{All}
use Rattle.std.specs.Prelude.{encode_utf8_all}
use Rattle.std.specs.Str.{IsUtf8, chars}
use lib.Utf8.{scalar, scalars}
use Rattle.unicode_segmentation.specs.Grapheme.{graphemes, is_grapheme_break}
use Rattle.unicode_segmentation.specs.Segments.{Rule, prepend, cut, segments}

unfoldable pub AreScalars : List ℕ → Type 0
AreScalars characters = scalars characters ≡ true

scalars-cons : (c : ℕ) (cs : List ℕ) → scalar c ≡ true → AreScalars cs → AreScalars (c ∷ cs)
unfolding AreScalars
scalars-cons c cs first rest = rw first rest

AreScalars-prepend : (c : ℕ) (pieces : List (List ℕ)) → scalar c ≡ true → All AreScalars pieces → All AreScalars (prepend (c ∷ []) pieces)
unfolding AreScalars
AreScalars-prepend c [] first rest = All-cons AreScalars (c ∷ []) [] (scalars-cons c [] first refl) (All-nil AreScalars)
AreScalars-prepend c (piece ∷ pieces) first rest =
    All-cons AreScalars (c ∷ piece) pieces (scalars-cons c piece first (All-head AreScalars piece pieces rest)) (All-tail AreScalars piece pieces rest)

AreScalars-by_break : (is_break : Bool) (c : ℕ) (pieces : List (List ℕ)) → scalar c ≡ true → All AreScalars pieces
    → All AreScalars (if is_break then (c ∷ []) ∷ pieces else prepend (c ∷ []) pieces)
unfolding AreScalars
AreScalars-by_break true c pieces first rest = All-cons AreScalars (c ∷ []) pieces (scalars-cons c [] first refl) rest
AreScalars-by_break false c pieces first rest = AreScalars-prepend c pieces first rest

pub AreScalars-cut : (rule : Rule) (before cs after : List ℕ) → scalars cs ≡ true → All AreScalars (cut rule before cs after)
unfolding cut
AreScalars-cut rule before [] after all = All-nil AreScalars
AreScalars-cut rule before (c ∷ cs) after all =
    AreScalars-by_break (rule (c ∷ before) (cs ++ after)) c (cut rule (c ∷ before) cs after) (and_parts _ _ all).0
    (AreScalars-cut rule (c ∷ before) cs after (and_parts _ _ all).1)

IsUtf8-scalars : (cs : List ℕ) → AreScalars cs → IsUtf8 (encode_utf8_all cs)
unfolding AreScalars
IsUtf8-scalars cs all = (cs, (all, refl))

-- the clusters of a text are texts
pub IsUtf8-graphemes : (text : List ℕ) → IsUtf8 text → All IsUtf8 (graphemes true text)
unfolding segments
IsUtf8-graphemes text utf8 =
    let pieces = cut (is_grapheme_break true) [] (chars text) [] in
    All-map IsUtf8 encode_utf8_all pieces
    (All-weaker AreScalars (λ cs. IsUtf8 (encode_utf8_all cs)) IsUtf8-scalars pieces (AreScalars-cut (is_grapheme_break true) [] (chars text) [] (scalars-chars text utf8)))
