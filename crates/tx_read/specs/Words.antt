-- Tables of words.
use Rattle.std.specs.Prelude.{ℕ, List, [], ◌∷◌, Option, Some, None, bytes_eq, if◌then◌else◌}

-- what a table has at a word: of several rows of one word the first counts
abbrev pub entry : {A : Type 0} → List (List ℕ × A) → List ℕ → Option A
entry [] word = None
entry (row ∷ rows) word = if bytes_eq row.0 word then Some row.1 else entry rows word
