use Rattle.std.proofs.Common.{◌≡◌, ℕ, ◌+◌, ◌*◌, length, List, Option}
use Rattle.tx_grid.specs.Taken.{FitsInNoRowBefore, IsBoard}
use Rattle.tx_grid.proofs.known.raise.Given as goal

abbrev pub invariant-loop-width : goal.invariant-loop-width
invariant-loop-width l = record {
  count : length l.known.items ≡ 100 * l.columns + 101;
  board : (rows : Option ℕ) (taken : List ℕ) → IsBoard l.columns rows taken l.fn.known.items → FitsInNoRowBefore l.columns rows taken l.span l.row → IsBoard l.columns rows taken l.known.items;
}

abbrev pub invariant-loop-height : goal.invariant-loop-height
invariant-loop-height l = record {
  count : length l.known.items ≡ 100 * l.columns + 101;
  board : (rows : Option ℕ) (taken : List ℕ) → IsBoard l.columns rows taken l.fn.known.items → FitsInNoRowBefore l.columns rows taken l.span l.row → IsBoard l.columns rows taken l.known.items;
}
