-- Bytes that are gathered before they are put.
use Rattle.std.specs.Prelude.{◌≡◌, ◌≤◌, ◌<◌, ◌+◌, ℕ, List, ◌++◌, length, take, Bool, true, false, if◌then◌else◌}
use Rattle.std.specs.Io.KnownBytes.{append_known}
use Rattle.tx_io.specs.Faults.{raised}
use Rattle.tx_io.specs.Sink.{SinkSeen}

-- the bytes that wait, how many were taken before them, and whether a put failed
pub record Gathered : Type 0 where
  pub waiting : List ℕ
  pub taken : ℕ
  pub failed : Bool

-- how many bytes were handed in, as long as no put has failed
abbrev pub handed : Gathered → ℕ
handed g = g.taken + length g.waiting

-- All these bytes were sent since the sink was seen so: the front of them was taken, and the rest waits, or is lost
-- where a put has failed.
pub record Queues (before now : SinkSeen) (all : List ℕ) (g : Gathered) : Type 0 where
  pub content : now.told ≡ append_known before.told (take g.taken all)
  pub faults : now.faults ≡ raised before.faults (if g.failed then 1 else 0)
  pub waits : g.failed ≡ false → all ≡ take g.taken all ++ g.waiting
  pub within : g.taken ≤ length all
  pub lost : g.failed ≡ true → g.taken < length all

-- these bytes were sent after whatever was sent before them
pub record Adds (sink_old sink_new : SinkSeen) (old new : Gathered) (bytes : List ℕ) : Type 0 where
  pub behind : (before : SinkSeen) (all : List ℕ) → Queues before sink_old all old → Queues before sink_new (all ++ bytes) new
