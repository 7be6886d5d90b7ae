use Rattle.std.proofs.Common.{ℕ, ◌∙◌, ap}
use Rattle.std.specs.Prelude.{Option, Some, if◌then◌else◌}
use Rattle.tx_node_map.specs.Held.{held}
use Rattle.tx_owner.specs.Owner.{is_some_of}
use Rattle.tx_owner.proofs.owners.add_cell.Goals as goal

pub returns : goal.returns
returns c = λ n.
    ap (λ (at : ℕ → Option (ℕ × ℕ)). at n) c.in-Ok.ensures.ok
    ∙ ap (λ o. if is_some_of n o then Some c.args.cell else held c.args.spots.now n) c.in-Some.ensures
