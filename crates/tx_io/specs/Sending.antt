-- What is said of bytes that were sent to a sink.
use Rattle.std.specs.Prelude.{◌≡◌, ◌<◌, ℕ, List, length, take, true, false, if◌then◌else◌}
use Rattle.std.specs.Io.KnownBytes.{append_known}
use Rattle.tx_io.specs.declared.send.Sent.{Sent}
use Rattle.tx_io.specs.Faults.{raised}
use Rattle.tx_io.specs.Sink.{SinkSeen}

-- how many puts failed
abbrev pub failed_puts : Sent → ℕ
failed_puts sent = if sent.failed then 1 else 0

-- These bytes were sent, so far as the sink took them: the first `taken` of them, which are all
-- unless a put failed and fewer where one did. No put comes after one that failed.
pub record Sends (before after : SinkSeen) (bytes : List ℕ) (sent : Sent) : Type 0 where
  pub content : after.told ≡ append_known before.told (take sent.taken bytes)
  pub all : sent.failed ≡ false → sent.taken ≡ length bytes
  pub part : sent.failed ≡ true → sent.taken < length bytes
  pub faults : after.faults ≡ raised before.faults (failed_puts sent)
