use Rattle.std.proofs.Common.{◌≡◌, ◌≤◌, ◌<◌, ◌^◌, ◌++◌, length, map}
use Rattle.std.specs.List.{All}
use Rattle.tx_cell.specs.Cell.{IsOfItsText}
use Rattle.tx_cell.specs.Wrap.{columns, lines_until, with_tails}
use Rattle.tx_cell.proofs.wrapping.wrap_heads.Given as goal

abbrev pub decreases-loop-rest : goal.decreases-loop-rest
decreases-loop-rest l = length l.rest

abbrev pub invariant-loop-rest : goal.invariant-loop-rest
invariant-loop-rest l = record {
  own : All IsOfItsText l.rest;
  narrow : All (λ cell. cell.width ≤ l.width) l.rest;
  short : columns l.rest < 2 ^ 32;
  lines : l.lines.items ++ map with_tails (lines_until (length l.rest) l.width l.rest) ≡ l.fn.lines.items ++ map with_tails (lines_until (length l.cells) l.width l.cells);
}
