use Rattle.std.proofs.Common.{rules}
use mir.Val.{SFits}
use Rattle.std.specs.Int.{w64}
use Rattle.tx_geom.proofs.Cells.{read_back-fits, near_fits}
use Rattle.tx_geom.proofs.places.Region.contains.Goals as goal

pub returns-then-is_among : goal.returns-then-is_among
returns-then-is_among c =
    let fx : SFits w64 c.args.at.x = search rules in
    let fy : SFits w64 c.args.at.y = search rules in
    let x = rw (read_back-fits c.args.self.x (near_fits _ c.requires.near.x), read_back-fits c.args.at.x fx) at c.is_among.ensures in
    let y = rw (read_back-fits c.args.self.y (near_fits _ c.requires.near.y), read_back-fits c.args.at.y fy) at c.is_among-then-is_among.ensures in
    (λ h. record { column = x.0 c.if-is_among.true; row = y.0 h }, λ h. y.1 h.row)
