-- What contracts see of the numbers that the code keeps.
use Rattle.std.specs.Prelude.{ℕ, List, Option, Some, None}
use Rattle.arrayvec.specs.ArrayVec.{ArrayVec}

-- the numbers, if there are any
abbrev pub numbers_in : Option (ArrayVec ℕ) → Option (List ℕ)
numbers_in None = None
numbers_in (Some numbers) = Some numbers.items
