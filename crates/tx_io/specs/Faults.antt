-- Counts of failed calls.
use Rattle.std.specs.Prelude.{ℕ, ◌+◌, ◌-◌, ◌^◌, ◌≤◌, min}

-- A count after k more calls failed. Like every count here it saturates at 2^64 - 1.
abbrev pub raised : ℕ → ℕ → ℕ
raised count k = count + min k (2 ^ 64 - 1 - count)

-- A call failed between these two counts. A count at its end counts as risen.
abbrev pub Rose : ℕ → ℕ → Type 0
Rose before after = raised before 1 ≤ after
