-- How many of the first bytes pass a test.
use Rattle.std.proofs.Common.{◌≡◌, ℕ, ◌≤◌, Bool, List, length, Some, None, cond, nat_lt, arith}
use Rattle.std.proofs.lemmas.Bool.Decides.{nat_tests}
use Rattle.std.specs.List.{prefix_len}
use Rattle.std.proofs.lemmas.List.Sums.{prefix_len-le-length}

-- they are no more than there are
pub front_within : (p : ℕ → Bool) (bytes : List ℕ) → prefix_len p bytes ≤ length bytes
front_within p bytes = prefix_len-le-length p bytes

-- nothing is invalid where all is valid
pub none_invalid : (n m : ℕ) → n ≡ m → None ≡ cond (nat_lt n m) (Some n) None
none_invalid n m e = grind (arith, nat_tests)
