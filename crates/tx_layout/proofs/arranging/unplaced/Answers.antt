use Rattle.std.proofs.Common.{◌≡◌, ◌∙◌, ap, rules, List, Option, None, replicate}
use Rattle.tx_geom.specs.declared.places.Region.{Region}
use Rattle.tx_layout.specs.declared.styles.Arrangement.{Arrangement}
use Rattle.tx_layout.specs.Arrangement.{over_all}
use Rattle.tx_layout.proofs.Placed.{nothing_placed}
use Rattle.tx_layout.proofs.arranging.unplaced.Goals as goal

pub returns-clause-exact : goal.returns-clause-exact
unfolding over_all
returns-clause-exact c =
    let items : c.in_ok-vec.field-0.items ≡ replicate c.args.count None = search rules in
    ap (λ (l : List (Option Region)). let a : Arrangement = record { placed = l; over = record { width = 0; height = 0 } } in a) (items ∙ nothing_placed c.args.count)
