use Rattle.std.proofs.Common.{◌≡◌, ◌++◌, drop}
use Rattle.tx_cascade.specs.Styles.{all_styles}
use Rattle.tx_owner.specs.Owner.{placed_from}
use Rattle.tx_owner.specs.Panes.{panes, panes_of}
use Rattle.tx_owner.proofs.pane.panes_of.Given as goal

abbrev pub invariant-loop-place : goal.invariant-loop-place
invariant-loop-place l =
    panes (all_styles l.styles.sheet l.styles.state l.styles.rows) l.entries l.size
    ≡ l.all.items ++ panes_of (all_styles l.styles.sheet l.styles.state l.styles.rows) l.size (placed_from l.place (drop l.place l.entries))
