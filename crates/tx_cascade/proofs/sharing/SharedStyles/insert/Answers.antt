use Rattle.tx_node_map.specs.Held.{held}
use Rattle.tx_cascade.proofs.Placing.{placed-more}
use Rattle.tx_cascade.proofs.sharing.SharedStyles.insert.Goals as goal

pub returns-clause-placed : goal.returns-clause-placed
returns-clause-placed c = λ styles placed.
    placed-more c.args.self.now.made.items c.place_of.new.made.items (held c.args.self.now.places) (held c.insert.new.self) styles c.args.node.0 c.in_ok-place.place c.args.style
    c.place_of.ensures.kept c.in_ok-place.ensures.found c.in-Ok.ensures.ok placed
