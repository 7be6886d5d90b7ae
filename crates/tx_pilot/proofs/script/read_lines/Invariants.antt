use Rattle.std.proofs.Common.{◌≤◌, ◌+◌, length}
use Rattle.tx_pilot.proofs.ScriptSteps.{So}
use Rattle.tx_pilot.proofs.script.read_lines.Given as goal

-- what is read so far, with what the lines that are left give, is what all gives
abbrev pub invariant-loop-line : goal.invariant-loop-line
invariant-loop-line l = record {
  lines : l.before + length l.left ≤ length l.bytes;
  so : So l.bytes l.left l.inputs.items l.before;
}

abbrev pub decreases-loop-line : goal.decreases-loop-line
decreases-loop-line l = length l.left
