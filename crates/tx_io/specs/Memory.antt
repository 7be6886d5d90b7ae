-- What contracts see of sources, sinks and files in memory.
use Rattle.std.specs.Prelude.{ℕ, ◌-◌, List, [], ◌∷◌, map, min, if◌then◌else◌, None, Some, Option, Vec, String, Bool, ◌||◌, is_none, nat_eq, nat_le, string_bytes}
use Rattle.std.specs.List.{list_any}
use Rattle.std.specs.declared.alloc.Global.{Global}
use Rattle.tx_io.specs.Store.{look_up}

-- The bytes that a sink has taken, the places at which a put is still to fail, and how many puts
-- have failed.
pub record SinkState : Type 0 where
  pub taken : List ℕ
  pub plan : List ℕ
  pub faults : ℕ

-- How many bytes a source has given, those that it has left, the places at which a read is still to fail, and how many reads have
-- failed.
pub record SourceState : Type 0 where
  pub given : ℕ
  pub left : List ℕ
  pub plan : List ℕ
  pub faults : ℕ

-- How many of `len` bytes a put may take, or a read may give, where `total` were before it: none, and it fails, where the next
-- failing place is reached, and else all up to that place.
abbrev pub room : List ℕ → ℕ → ℕ → Option ℕ
room [] total len = Some len
room (place ∷ places) total len = if nat_le place total then None else Some (min len (place - total))

-- Each name with its content, the numbers of the loads that fail, how many loads were made, and
-- how many have failed.
pub record FilesState : Type 0 where
  pub entries : List (List ℕ × List ℕ)
  pub plan : List ℕ
  pub loads : ℕ
  pub faults : ℕ

-- the bytes of each name and of its content
abbrev pub stored : List (String Global × Vec ℕ Global) → List (List ℕ × List ℕ)
stored entries = map (λ entry. (string_bytes entry.0, entry.1.items)) entries

-- Whether the load with this number fails: where it is planned to, and where there is no such name.
abbrev pub load_fails : FilesState → ℕ → List ℕ → Bool
load_fails files number name = list_any (λ planned. nat_eq planned number) files.plan || is_none (look_up files.entries name)
