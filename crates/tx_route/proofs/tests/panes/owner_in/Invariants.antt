use Rattle.std.proofs.Common.{◌≡◌, false, drop}
use Rattle.std.specs.List.{find}
use Rattle.std.specs.Option.{option_map_or}
use Rattle.tx_route.specs.Panes.{covers, pane_of}
use Rattle.tx_route.proofs.tests.panes.owner_in.Given as goal

-- the topmost of the panes that are left is the topmost of all
abbrev pub invariant-loop-pane : goal.invariant-loop-pane
invariant-loop-pane l =
    find (λ pane. option_map_or (covers l.x l.y) (pane_of pane.0 l.panes) false) (drop l.pane-index l.panes)
    ≡ find (λ pane. option_map_or (covers l.x l.y) (pane_of pane.0 l.panes) false) l.panes
