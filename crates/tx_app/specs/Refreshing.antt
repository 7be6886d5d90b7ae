-- What a refresh does, by its entry.
use Rattle.std.specs.Prelude.{◌≡◌, ◌+◌, ◌-◌, ◌^◌, min, [], ◌∷◌, Option, Some}
use Rattle.std.specs.Io.KnownBytes.{append_known}
use Rattle.tx_io.specs.declared.send.Sent.{Sent}
use Rattle.tx_io.specs.Faults.{raised}
use Rattle.tx_io.specs.Sending.{failed_puts}
use Rattle.tx_io.specs.Sink.{SinkSeen}
use Rattle.tx_compose.specs.Presented.{Presented}
use Rattle.tx_app.specs.Course.{Act, IsRefresh, act_bytes, act_faults}
use Rattle.tx_app.specs.Journal.{act_entries}
use Rattle.tx_app.specs.Causes.{sink_cause}
use Rattle.tx_app.specs.declared.causes.Cause.{Cause}
use Rattle.tx_app.specs.declared.causes.Cause.TheVariants.{Fraction, NoMemory}
use Rattle.tx_app.specs.declared.journal.Entry.{Entry}
use Rattle.tx_app.specs.declared.journal.Entry.TheVariants.{Refresh}
use Rattle.tx_app.specs.declared.journal.Refreshed.TheVariants.{Accepted, Fraction as NoPicture, SinkFault as SinkFailed, NoMemory as NoGrid}

-- a refresh on a fresh screen
pub record Refreshes (before after : SinkSeen) (shown : Presented) (entry : Entry) : Type 0 where
  pub act : Act
  pub is : IsRefresh shown act
  pub told : after.told ≡ append_known before.told (act_bytes act)
  pub faults : after.faults ≡ raised before.faults (act_faults act)
  pub entry_is : entry ∷ [] ≡ act_entries act

-- the cause of a run whose last refresh has this entry, after the closing bytes
abbrev pub entry_cause : Entry → Sent → Option Cause
entry_cause (Refresh NoGrid sent faults) closed = Some NoMemory
entry_cause (Refresh (NoPicture node axis) sent faults) closed = Some (Fraction node axis)
entry_cause (Refresh Accepted sent faults) closed = sink_cause (min (faults + failed_puts closed) (2 ^ 64 - 1))
entry_cause (Refresh SinkFailed sent faults) closed = sink_cause (min (faults + failed_puts closed) (2 ^ 64 - 1))
