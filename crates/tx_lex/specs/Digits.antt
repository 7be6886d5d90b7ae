-- How many digits a number may have. All written digits count.
use Rattle.std.specs.Prelude.{ℕ}

-- before its point
abbrev pub most_whole : ℕ
most_whole = 9

-- after its point
abbrev pub most_decimals : ℕ
most_decimals = 18
