use Rattle.std.proofs.Common.{ℕ, ◌∙◌, ap, sym, arith}
use Rattle.std.specs.Prelude.{Option}
use Rattle.std.proofs.Math.ListN.{drop_of_length-le}
use Rattle.tx_owner.specs.Owner.{first_cell, is_entry_of}
use Rattle.tx_owner.proofs.owners.spots_of.Goals as goal

pub loop-y-init : goal.loop-y-init
loop-y-init c = λ n.
    ap (λ (at : ℕ → Option (ℕ × ℕ)). at n) c.new-spots.ensures
    ∙ ap (first_cell (is_entry_of c.args.entries.now n) c.args.size.height) (sym (drop_of_length-le c.args.lines.now (omega (arith, c.requires.lines))))
