-- Edits of the text of an Input at its cursor.
use Rattle.std.specs.Prelude.{ℕ, nat_lt, List, [], ◌∷◌, ◌++◌, length, map, filter, find, take, drop, encode_utf8, None, unwrap_or, true}
use Rattle.std.specs.List.{last_or}
use Rattle.unicode_segmentation.specs.Grapheme.{graphemes}
use Rattle.unicode_segmentation.specs.Segments.{with_offsets}

-- the cluster edges of a text: the places where its grapheme clusters begin, and its end
abbrev pub cluster_edges : List ℕ → List ℕ
cluster_edges text = map (λ cluster. cluster.0) (with_offsets 0 (graphemes true text)) ++ length text ∷ []

-- the last cluster edge before a place, or the place itself where there is none
unfoldable pub edge_before : List ℕ → ℕ → ℕ
edge_before text at = unwrap_or (last_or None (filter (λ edge. nat_lt edge at) (cluster_edges text))) at

-- the next cluster edge after a place, or the place itself where there is none
unfoldable pub edge_after : List ℕ → ℕ → ℕ
edge_after text at = unwrap_or (find (λ edge. nat_lt at edge) (cluster_edges text)) at

-- the longest text, in bytes, that typing leads to
abbrev pub most_typed : ℕ
most_typed = 65536

-- a text with a character put in at a place
abbrev pub with_character : List ℕ → ℕ → ℕ → List ℕ
with_character text at character = take at text ++ (encode_utf8 character ++ drop at text)

-- a text without what stands between two places
abbrev pub without_part : List ℕ → ℕ → ℕ → List ℕ
without_part text from to = take from text ++ drop to text
