-- What a sink tells of itself.
use Rattle.std.specs.Prelude.{ℕ, List, Option}

-- The bytes that it has taken, where it tells them, and how many puts have failed.
pub record SinkSeen : Type 0 where
  pub told : Option (List ℕ)
  pub faults : ℕ
