use Rattle.std.proofs.Common.{◌≡◌, ℕ, List, ◌++◌, take, length}
use Rattle.tx_geom.specs.declared.places.Region.{Region}
use Rattle.tx_layout.specs.Arrangement.{AreWithinReach, placed_by, at_edges}
use Rattle.tx_layout.proofs.arranging.put_docked.Given as goal

abbrev pub invariant-loop-child : goal.invariant-loop-child
invariant-loop-child l = record {
  done : (done : List (ℕ × Region)) → l.initial.placed ≡ placed_by l.count done → l.placed ≡ placed_by l.count (done ++ at_edges l.area (take l.child-index l.children));
  count : length l.placed ≡ l.count;
  near : AreWithinReach l.placed;
}
