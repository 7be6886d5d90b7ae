-- The run: what is read, what is sent, and which journal, status and error line follow.
use Rattle.std.specs.Prelude.{◌≡◌, ℕ, List, [], ◌++◌, Option}
use Rattle.std.specs.Io.KnownBytes.{append_known}
use Rattle.tx_io.specs.declared.send.Sent.{Sent}
use Rattle.tx_io.specs.Faults.{raised}
use Rattle.tx_io.specs.Sending.{Sends}
use Rattle.tx_io.specs.Sink.{SinkSeen}
use Rattle.tx_io.specs.Loading.{FilesSeen}
use Rattle.tx_app.specs.Openings.{Opening, ComesTo}
use Rattle.tx_app.specs.Plan.{Plan, Begun}
use Rattle.tx_app.specs.Plans.{IsPlanned}
use Rattle.tx_app.specs.Course.{Act, IsCourse, bytes_of, faults_of}
use Rattle.tx_app.specs.Journal.{entries_of}
use Rattle.tx_app.specs.Causes.{cause_of, status_of}
use Rattle.tx_app.specs.ErrorLine.{error_bytes}
use Rattle.tx_app.specs.declared.causes.Cause.{Cause}
use Rattle.tx_app.specs.declared.journal.Entry.{Entry}
use Rattle.tx_app.specs.declared.outcome.Outcome.{Outcome}

-- What was opened is done, act by act, and what is sent, the journal and the cause follow from that.
pub record IsDone (opening : Opening) (before after : SinkSeen) (journal_before journal_after : List Entry) (cause : Option Cause) : Type 0 where
  pub acts : List Act
  pub course : IsCourse opening acts
  pub told : after.told ≡ append_known before.told (bytes_of acts)
  pub faults : after.faults ≡ raised before.faults (faults_of acts)
  pub journal : journal_after ≡ journal_before ++ entries_of acts
  pub cause_is : cause ≡ cause_of opening acts

-- It is shown or printed, or memory ran out for that.
pub record Does (opening : Opening) (before after : SinkSeen) (journal_before journal_after : List Entry) (cause : Option Cause) : Type 0 where
  pub actual : Opening
  pub comes : ComesTo opening actual
  pub done : IsDone actual before after journal_before journal_after cause

-- The run up to its error line. There are a plan, an opening that it comes to by the answers of the loads, and acts, from
-- which all else follows.
pub record Runs (words : List (List ℕ)) (files_before files_after : FilesSeen) (out_before out_after : SinkSeen) (journal : List Entry) (cause : Option Cause) : Type 0 where
  pub plan : Plan
  pub planned : IsPlanned words plan
  pub opening : Opening
  pub reads : Begun files_before files_after plan opening
  pub done : IsDone opening out_before out_after [] journal cause

-- The run of these words over these files and sinks.
pub record IsRun (words : List (List ℕ)) (files_before files_after : FilesSeen) (out_before out_after err_before err_after : SinkSeen) (outcome : Outcome) : Type 0 where
  pub runs : Runs words files_before files_after out_before out_after outcome.journal outcome.cause
  pub status : outcome.status ≡ status_of outcome.cause
  pub error_sent : Sent
  pub err : Sends err_before err_after (error_bytes outcome.cause) error_sent
