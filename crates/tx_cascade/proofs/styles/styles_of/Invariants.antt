use Rattle.std.proofs.Common.{◌≡◌, ◌*◌, ◌++◌, List, length}
use Rattle.tx_tree.specs.declared.row.Row.{Row}
use Rattle.tx_node_map.specs.Held.{held}
use Rattle.tx_cascade.specs.Reaching.{selectors_in}
use Rattle.tx_cascade.specs.Styles.{styles_within, AreWhole, ArePlaced}
use Rattle.tx_cascade.specs.Tested.{TestedAtMost}
use Rattle.tx_cascade.proofs.styles.styles_of.Given as goal

-- the rows so far have their styles, and no other number has one
abbrev pub invariant-loop-row : goal.invariant-loop-row
invariant-loop-row g l = record {
  done : List Row;
  whole : done ++ l.row-iterator ≡ l.tree.rows;
  made : AreWhole l.styles.made.items;
  styles : ArePlaced l.styles.made.items (held l.styles.places) (styles_within l.sheet l.pseudo l.tree.rows done);
  ticks : TestedAtMost g.L.Ledger.ticked (selectors_in l.sheet * length done) l.fn.steps.ledger l.steps.ledger;
}
