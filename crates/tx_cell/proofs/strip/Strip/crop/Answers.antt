use Rattle.std.proofs.Common.{arith}
use Rattle.tx_cell.proofs.StripLemmas.{IsWellFormed-cropped, length-cropped}
use Rattle.tx_cell.proofs.strip.Strip.crop.Goals as goal

pub invariant_of-result : goal.invariant_of-result
invariant_of-result c =
    let asked = rw (← c.self.view_is) at c.requires in
    let len = length-cropped c.self.inside.cells.items c.args.from c.args.to asked.order asked.inside in
    rw c.deref.ensures.value (record {
      formed = IsWellFormed-cropped c.self.inside.cells.items c.args.from c.args.to c.self.invariant.formed;
      short = omega (arith, len, c.self.invariant.short, asked.inside);
    })

pub returns-clause-len : goal.returns-clause-len
returns-clause-len c =
    let asked = rw (← c.self.view_is) at c.requires in
    rw c.deref.ensures.value (length-cropped c.self.inside.cells.items c.args.from c.args.to asked.order asked.inside)
