use Rattle.std.proofs.Common.{◌≡◌, ◌++◌, drop, length}
use Rattle.tx_cell.specs.Strip.{AreCuts, parts_from}
use Rattle.tx_cell.proofs.strip.Strip.divide.Given as goal

abbrev pub invariant-loop-cut : goal.invariant-loop-cut
invariant-loop-cut l = record {
  parts : l.parts.items ++ parts_from l.self l.from (drop l.cut-index l.cuts) ≡ parts_from l.self 0 l.cuts;
  order : AreCuts l.from (length l.self) (drop l.cut-index l.cuts);
}
