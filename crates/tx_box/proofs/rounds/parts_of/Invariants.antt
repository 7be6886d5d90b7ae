use Rattle.std.proofs.Common.{◌≡◌, length, []}
use Rattle.std.specs.Prelude.{All}
use Rattle.tx_box.specs.Shape.{IsPart}
use Rattle.tx_box.proofs.Passes.{parts_so_far}
use Rattle.tx_box.proofs.rounds.parts_of.Given as goal

abbrev pub invariant-loop-index : goal.invariant-loop-index
invariant-loop-index l = record {
  done : parts_so_far l.axis l.basis 0 l.items l.own [] ≡ parts_so_far l.axis l.basis l.index l.items l.own l.parts.items;
  count : length l.parts.items ≡ l.index;
  parts : All IsPart l.parts.items;
}
