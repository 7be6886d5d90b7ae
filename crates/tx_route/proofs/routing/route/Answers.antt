use Rattle.std.proofs.Common.{sym, subst}
use Rattle.tx_route.specs.Deliveries.{IsAlone, AreThere}
use Rattle.tx_route.proofs.Missed.{missed-alone}
use Rattle.tx_route.proofs.There.{delivered-there}
use Rattle.tx_route.proofs.routing.route.Goals as goal

pub returns-clause-alone : goal.returns-clause-alone
returns-clause-alone g c =
    subst IsAlone (sym c.delivered.ensures)
    (missed-alone c.args.tree.now c.args.pseudo.now.focused (g.S.Sight.frame c.args.sight.now) (g.met.S.Sight.law c.args.sight.now) c.args.input.now c.meant_by-target.result c.meant_by-other.result c.meant_by-target.ensures.there)

pub returns-clause-there : goal.returns-clause-there
returns-clause-there g c =
    subst (AreThere c.args.tree.now.rows) (sym c.delivered.ensures)
    (delivered-there c.args.tree.now c.args.pseudo.now.focused (g.S.Sight.frame c.args.sight.now) c.args.input.now c.meant_by-target.result c.meant_by-other.result c.requires.focus c.meant_by-target.ensures.there c.meant_by-other.ensures.there)
