use Rattle.std.proofs.Common.{refl, lit≤, rules}
use Rattle.tx_cell.proofs.PrintableLemmas.{IsOfItsText-printable}
use Rattle.tx_cell.proofs.cell.Cell.printable.Goals as goal

pub invariant_of-result : goal.invariant_of-result
invariant_of-result c = record {
  fits = lit≤ tt;
  whole = refl;
  spare = refl;
  seen = record { channels = search rules; tail = λ impossible. cc; text = λ _. IsOfItsText-printable c.args.byte c.args.pen (search rules) c.requires };
}
