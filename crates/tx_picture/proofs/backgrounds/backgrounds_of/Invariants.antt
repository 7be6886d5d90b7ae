use Rattle.std.proofs.Common.{◌≡◌, ◌++◌, List}
use Rattle.tx_node_map.specs.Held.{held}
use Rattle.tx_picture.proofs.backgrounds.backgrounds_of.Given as goal
use Rattle.tx_picture.specs.Backgrounds.{AreBackgrounds}
use Rattle.tx_tree.specs.declared.row.Row.{Row}

-- the rows so far have the backgrounds under them
abbrev pub invariant-loop-row : goal.invariant-loop-row
invariant-loop-row l = record {
  done : List Row;
  whole : done ++ l.row-iterator ≡ l.tree.rows;
  backgrounds : AreBackgrounds l.styles done (held l.backgrounds);
}
