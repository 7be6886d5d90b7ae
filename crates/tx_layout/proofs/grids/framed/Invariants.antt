use Rattle.std.proofs.Common.{◌≡◌, drop, ◌++◌, All}
use Rattle.tx_layout.specs.Grid.{framed, IsFramed}
use Rattle.tx_layout.proofs.grids.framed.Given as goal

abbrev pub invariant-loop-index : goal.invariant-loop-index
invariant-loop-index l = record {
  done : framed l.columns l.rows l.places l.children ≡ l.frames.items ++ framed l.columns l.rows (drop l.index l.places) (drop l.index l.children);
  frames : All (IsFramed l.count) l.frames.items;
}
