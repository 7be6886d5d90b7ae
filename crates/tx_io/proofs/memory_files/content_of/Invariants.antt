use Rattle.std.proofs.Common.{◌≡◌, drop}
use Rattle.tx_io.specs.Memory.{stored}
use Rattle.tx_io.specs.Store.{look_up}
use Rattle.tx_io.proofs.memory_files.content_of.Given as goal

-- No entry so far has the name.
abbrev pub invariant-loop-entry : goal.invariant-loop-entry
invariant-loop-entry l = look_up (stored (drop l.entry-index l.files)) l.name ≡ look_up (stored l.files) l.name
