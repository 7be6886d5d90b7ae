-- Loads, and what files tell of themselves.
use Rattle.std.specs.Prelude.{ℕ, ◌+◌, List, [], ◌∷◌, ◌++◌, Option, option_map}
use Rattle.tx_io.specs.Faults.{raised}
use Rattle.tx_io.specs.Store.{Answer, failures_of}

-- A load: the name and the limit that it was given, and what it answered.
pub record Load : Type 0 where
  pub name : List ℕ
  pub limit : ℕ
  pub answer : Answer

abbrev pub load_of : List ℕ → ℕ → Answer → Load
load_of name limit answer = record { name = name; limit = limit; answer = answer }

-- What files tell, what stands under each name and the loads so far in their order, and how many loads have failed.
pub record FilesSeen : Type 0 where
  pub contents : Option (List ℕ → Option (List ℕ))
  pub loads : Option (List Load)
  pub faults : ℕ

-- further loads after those that are told
abbrev pub append_loads : Option (List Load) → List Load → Option (List Load)
append_loads told loads = option_map (λ past. past ++ loads) told

-- how many loads failed
abbrev pub failed_loads : List Load → ℕ
failed_loads [] = 0
failed_loads (load ∷ loads) = failures_of load.answer + failed_loads loads

-- The files once these loads were made, and no others: what stands under each name stays.
abbrev pub after_loads : FilesSeen → List Load → FilesSeen
after_loads before loads = record {
  contents = before.contents;
  loads = append_loads before.loads loads;
  faults = raised before.faults (failed_loads loads);
}
