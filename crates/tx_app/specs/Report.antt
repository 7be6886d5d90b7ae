-- Pieces of a line that are sent one after another.
use Rattle.std.specs.Prelude.{◌≡◌, ℕ, Bool, List, ◌++◌}
use Rattle.tx_io.specs.declared.send.Sent.{Sent}
use Rattle.tx_io.specs.Sending.{Sends}
use Rattle.tx_io.specs.Sink.{SinkSeen}

-- these bytes were sent, so far as the sink took them, and a put failed or not
pub record Said (before now : SinkSeen) (bytes : List ℕ) (failed : Bool) : Type 0 where
  pub sent : Sent
  pub sends : Sends before now bytes sent
  pub known : sent.failed ≡ failed

-- this piece was sent after whatever was sent before it
pub record Says (old new : SinkSeen) (failed_old failed_new : Bool) (piece : List ℕ) : Type 0 where
  pub behind : (before : SinkSeen) (all : List ℕ) → Said before old all failed_old → Said before new (all ++ piece) failed_new

-- these bytes were sent, so far as the sink took them
pub record IsReported (before after : SinkSeen) (bytes : List ℕ) : Type 0 where
  pub sent : Sent
  pub sends : Sends before after bytes sent
