-- Lists of the numbers of children.
use Rattle.std.specs.Prelude.{ℕ, ◌+◌, ◌-◌, ◌==◌, cond, length, List, [], ◌∷◌, ◌++◌, slice_index}

-- how many times a number stands in a list
abbrev pub times : ℕ → List ℕ → ℕ
times n [] = 0
times n (k ∷ ks) = cond (k == n) 1 0 + times n ks

-- the first number of a list, or 0
abbrev pub first_or_zero : List ℕ → ℕ
first_or_zero [] = 0
first_or_zero (k ∷ ks) = k

-- the number after a number in a list, or 0
abbrev pub behind_in : ℕ → List ℕ → ℕ
behind_in n [] = 0
behind_in n (k ∷ ks) = cond (k == n) (first_or_zero ks) (behind_in n ks)

-- the last number of a list, or 0
abbrev pub last_or_zero : List ℕ → ℕ
last_or_zero ks = slice_index ks (length ks - 1)

-- a list up to the first place of a number, and after it
abbrev pub ahead_of : ℕ → List ℕ → List ℕ
ahead_of n [] = []
ahead_of n (k ∷ ks) = cond (k == n) [] (k ∷ ahead_of n ks)

abbrev pub past_of : ℕ → List ℕ → List ℕ
past_of n [] = []
past_of n (k ∷ ks) = cond (k == n) ks (past_of n ks)

-- a list without the first place of a number
abbrev pub without_child : ℕ → List ℕ → List ℕ
without_child n ks = ahead_of n ks ++ past_of n ks

-- the number ahead of the first place of a number, or 0
abbrev pub ahead_in : ℕ → List ℕ → ℕ
ahead_in n ks = last_or_zero (ahead_of n ks)

-- a list with a number directly before the first place of another
abbrev pub with_before : ℕ → ℕ → List ℕ → List ℕ
with_before n other ks = ahead_of other ks ++ (n ∷ (other ∷ past_of other ks))
