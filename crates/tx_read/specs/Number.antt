-- Numbers in plain digits.
use Rattle.std.specs.Prelude.{ℕ, ◌+◌, ◌-◌, ◌*◌, Bool, ◌&&◌, nat_le, nat_lt, List, [], ◌∷◌, length, Option, Some, None, if◌then◌else◌}
use Rattle.std.specs.Char.{is_ascii_digit}
use Rattle.std.specs.List.{list_all}

-- one digit or more, and nothing else
abbrev pub is_number : List ℕ → Bool
is_number bytes = nat_lt 0 (length bytes) && list_all is_ascii_digit bytes

-- the number that the digits write after those of another one
abbrev pub value_behind : ℕ → List ℕ → ℕ
value_behind before [] = before
value_behind before (byte ∷ bytes) = value_behind (before * 10 + (byte - 48)) bytes

-- the number that digits write
abbrev pub value : List ℕ → ℕ
value bytes = value_behind 0 bytes

-- the number that digits write, where it is at most a limit
abbrev pub number_at_most : ℕ → List ℕ → Option ℕ
number_at_most limit bytes = if is_number bytes && nat_le (value bytes) limit then Some (value bytes) else None
