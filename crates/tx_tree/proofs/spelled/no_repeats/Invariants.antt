use Rattle.std.proofs.Common.{◌≡◌, drop}
use Rattle.tx_tree.specs.Spelled.{no_repeats}
use Rattle.tx_tree.proofs.spelled.no_repeats.Given as goal

-- the names passed repeat nothing
abbrev pub invariant-loop-place : goal.invariant-loop-place
invariant-loop-place l = no_repeats l.names ≡ no_repeats (drop l.place l.names)
