-- A selector as contracts see it.
use Rattle.std.specs.Prelude.{◌<◌, ◌≤◌, ◌^◌, ℕ, List, length}
use Rattle.std.specs.List.{sum_by}
use Rattle.tx_select.specs.declared.value.Compound.{Compound}

pub record SelectorValue : Type 0 where
  pub compounds : List Compound

-- how many parts all compounds have
abbrev pub parts_of : List Compound → ℕ
parts_of compounds = sum_by (λ compound. length compound.parts) compounds

-- at most 16 compounds, with fewer than 2^32 parts in all
pub record IsSmall (compounds : List Compound) : Type 0 where
  pub few : length compounds ≤ 16
  pub few_parts : parts_of compounds < 2 ^ 32
