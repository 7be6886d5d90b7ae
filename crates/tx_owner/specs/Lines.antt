-- One line of the screen, while its cells are given to their owners.
use Rattle.std.specs.Prelude.{◌≡◌, ℕ, ◌+◌, ◌≤◌, ◌<◌, ◌&&◌, nat_le, nat_lt, List, length, Option, Some, None, is_some, true, slice_index_or, if◌then◌else◌}
use Rattle.std.specs.Option.{option_or}

-- the owner of a cell, if it has one yet
abbrev pub held_at : List (Option ℕ) → ℕ → Option ℕ
held_at cells x = slice_index_or cells x None

-- each cell from one on, up to another, has an owner
abbrev pub AreOwned : List (Option ℕ) → ℕ → ℕ → Type 0
AreOwned cells from end = (x : ℕ) → from ≤ x → x < end → is_some (held_at cells x) ≡ true

-- a column of the line, or its end, where the cells from one on up to it have owners
pub record LeadsTo (cells : List (Option ℕ)) (from end : ℕ) : Type 0 where
  pub on : from ≤ end
  pub within : end ≤ length cells
  pub owned : AreOwned cells from end

-- each link leads over cells that have owners, and over its own cell where that has one
pub record LinksLead (cells : List (Option ℕ)) (links : List ℕ) : Type 0 where
  pub count : length links ≡ length cells + 1
  pub lead : (x : ℕ) → x ≤ length cells → LeadsTo cells x (slice_index_or links x 0)
  pub on : (x : ℕ) → x < length cells → is_some (held_at cells x) ≡ true → x < slice_index_or links x 0

-- what is first kept for a cell, and what a claim of the cells from one on up to another leaves there
abbrev pub claimed : ℕ → ℕ → ℕ → ℕ → Option ℕ → Option ℕ
claimed from end place x held = if nat_le from x && nat_lt x end then option_or held (Some place) else held
