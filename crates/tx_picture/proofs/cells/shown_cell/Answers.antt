use Rattle.std.proofs.Common.{sym}
use Rattle.tx_picture.proofs.cells.shown_cell.Goals as goal

pub cell_by-cell-requires : goal.cell_by-cell-requires
cell_by-cell-requires c = record { covers = λ entry d. c.requires.covers c.args.x c.in-Some.place (sym c.in-Some.ensures) entry d }
