-- Why a run didn't end with status 0, and the status.
use Rattle.std.specs.Prelude.{ℕ, ◌+◌, ◌==◌, List, [], ◌∷◌, Option, Some, None, if◌then◌else◌}
use Rattle.tx_io.specs.Sending.{failed_puts}
use Rattle.tx_geom.specs.declared.choices.Axis.{Axis}
use Rattle.tx_tree.specs.declared.row.NodeId.{NodeId}
use Rattle.tx_app.specs.Course.{Act, Unmade, Undefined, Updates, Closes, Writes}
use Rattle.tx_app.specs.Openings.{Opening, Stops, Opens, Prints, Finds}
use Rattle.tx_app.specs.declared.causes.Cause.{Cause}
use Rattle.tx_app.specs.declared.causes.Cause.TheVariants.{Usage, Refused, ReadFault, Fraction, SinkFault, NoMemory}

-- How it stands after the last refresh and what was sent after it: memory ran out for that refresh, its picture was undefined, or so
-- many puts failed.
pub data End : Type 0 where
  Wanting : End
  Broken : NodeId → Axis → End
  Failures : ℕ → End

-- further puts that failed
abbrev pub failures_more : End → ℕ → End
failures_more Wanting n = Wanting
failures_more (Broken node axis) n = Broken node axis
failures_more (Failures m) n = Failures (m + n)

-- a refresh begins anew
abbrev pub end_after : End → Act → End
end_after end Unmade = Wanting
end_after end (Undefined node axis) = Broken node axis
end_after end (Updates update sent) = Failures (failed_puts sent)
end_after end (Closes sent) = failures_more end (failed_puts sent)
end_after end (Writes lines sent) = failures_more end (failed_puts sent)

abbrev pub end_of : End → List Act → End
end_of end [] = end
end_of end (act ∷ acts) = end_of (end_after end act) acts

-- so many puts failed
abbrev pub sink_cause : ℕ → Option Cause
sink_cause rose = if rose == 0 then None else Some (SinkFault rose)

abbrev pub end_cause : End → Option Cause
end_cause Wanting = Some NoMemory
end_cause (Broken node axis) = Some (Fraction node axis)
end_cause (Failures n) = sink_cause n

-- what stopped the run decides first, then the last refresh, and then what was sent after it
abbrev pub cause_of : Opening → List Act → Option Cause
cause_of (Stops cause) acts = Some cause
cause_of (Opens shown) acts = end_cause (end_of (Failures 0) acts)
cause_of (Prints lines) acts = end_cause (end_of (Failures 0) acts)
cause_of (Finds rows selector) acts = end_cause (end_of (Failures 0) acts)

abbrev pub status_of : Option Cause → ℕ
status_of None = 0
status_of (Some Usage) = 1
status_of (Some (Refused file line column kind)) = 2
status_of (Some (ReadFault rose)) = 3
status_of (Some (Fraction node axis)) = 4
status_of (Some (SinkFault rose)) = 5
status_of (Some NoMemory) = 6
