use Rattle.std.proofs.Common.{◌≡◌, ◌+◌, drop}
use Rattle.tx_tree_file.specs.Indent.{blanks}
use Rattle.tx_tree_file.proofs.line.blanks.Given as goal

-- blanks so far
abbrev pub invariant-loop-i : goal.invariant-loop-i
invariant-loop-i l = blanks l.line ≡ l.i + blanks (drop l.i l.line)
