-- Bytes cut at marks, as a text is cut into lines.
use Rattle.std.specs.Prelude.{ℕ, List, [], ◌∷◌, ◌==◌, Option, Some, None, if◌then◌else◌}

-- the first piece is longer by a byte at its front
abbrev pub onto : ℕ → List (List ℕ) → List (List ℕ)
onto byte [] = (byte ∷ []) ∷ []
onto byte (piece ∷ rest) = (byte ∷ piece) ∷ rest

-- the pieces between marks: one more than there are marks
abbrev pub pieces : ℕ → List ℕ → List (List ℕ)
pieces mark [] = [] ∷ []
pieces mark (byte ∷ bytes) = if byte == mark then [] ∷ pieces mark bytes else onto byte (pieces mark bytes)

-- what stands after a prefix, where the bytes have it
abbrev pub behind : List ℕ → List ℕ → Option (List ℕ)
behind [] bytes = Some bytes
behind (first ∷ prefix) [] = None
behind (first ∷ prefix) (byte ∷ bytes) = if byte == first then behind prefix bytes else None
