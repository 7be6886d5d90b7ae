use Rattle.std.proofs.Common.{refl, lit≤, rules}
use Rattle.tx_cell.proofs.CellLemmas.{IsOfItsText-replacement}
use Rattle.tx_cell.proofs.cell.Cell.replacement.Goals as goal

pub invariant_of-result : goal.invariant_of-result
invariant_of-result c = record {
  fits = lit≤ tt;
  whole = refl;
  spare = refl;
  seen = record { channels = search rules; tail = λ impossible. cc; text = λ _. IsOfItsText-replacement c.args.pen (search rules) };
}
