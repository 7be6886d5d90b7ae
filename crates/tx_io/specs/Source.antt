-- What a source tells of itself.
use Rattle.std.specs.Prelude.{ℕ, List, Option}

-- The bytes that it has left, where it tells them, and how many reads have failed.
pub record SourceSeen : Type 0 where
  pub left : Option (List ℕ)
  pub faults : ℕ
