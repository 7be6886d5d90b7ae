use Rattle.std.proofs.Common.{rules, arith}
use mir.Val.{SFits}
use Rattle.std.specs.Int.{w64}
use Rattle.tx_geom.proofs.Cells.{read_back-fits, near_fits, common_back, common_cells, no_cells, some_cell}
use Rattle.tx_geom.proofs.places.Region.intersect.Goals as goal

pub returns-then-width-eq0-clause-cells : goal.returns-then-width-eq0-clause-cells
returns-then-width-eq0-clause-cells c =
    let x = common_back _ _ _ _ _ _ c.requires.near.x c.requires.other_near.x c.common-x.ensures in
    let y = common_back _ _ _ _ _ _ c.requires.near.y c.requires.other_near.y c.common-y.ensures in
    rw (read_back-fits c.args.self.x (near_fits _ c.requires.near.x), read_back-fits c.args.self.y (near_fits _ c.requires.near.y))
    (no_cells c.args.self c.args.other _ _ _ _ x y (grind arith))

pub returns-clause-cells : goal.returns-clause-cells
returns-clause-cells c =
    let x = common_back _ _ _ _ _ _ c.requires.near.x c.requires.other_near.x c.common-x.ensures in
    let y = common_back _ _ _ _ _ _ c.requires.near.y c.requires.other_near.y c.common-y.ensures in
    let fx : SFits w64 c.common-x.result.0 = search rules in
    let fy : SFits w64 c.common-y.result.0 = search rules in
    rw (read_back-fits c.common-x.result.0 fx, read_back-fits c.common-y.result.0 fy) (common_cells c.args.self c.args.other _ x y)

pub returns-clause-nothing : goal.returns-clause-nothing
returns-clause-nothing c apart =
    let x = common_back _ _ _ _ _ _ c.requires.near.x c.requires.other_near.x c.common-x.ensures in
    let y = common_back _ _ _ _ _ _ c.requires.near.y c.requires.other_near.y c.common-y.ensures in
    absurd (some_cell c.args.self c.args.other _ _ _ _ x y (omega arith) (omega arith) apart)
