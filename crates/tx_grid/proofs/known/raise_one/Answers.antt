use Rattle.std.proofs.Common.{slice_set, subst, sym}
use Rattle.tx_grid.specs.Taken.{IsBoard}
use Rattle.tx_grid.proofs.Steps.{board_set}
use Rattle.tx_grid.proofs.known.raise_one.Goals as goal

pub returns-then-index-row-clause-board : goal.returns-then-index-row-clause-board
returns-then-index-row-clause-board c = λ rows taken b none.
    subst (λ n. IsBoard c.args.columns rows taken (slice_set c.args.known.now.items n c.args.row)) (sym c.number_of-number.ensures)
    (board_set c.args.columns rows taken c.args.known.now.items c.args.span c.args.row c.requires.span c.requires.width c.requires.row b none)
