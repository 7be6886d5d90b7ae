use Rattle.std.proofs.Common.{sym, ◌∙◌}
use Rattle.tx_picture.proofs.FormedLemmas.{cell-drawn}
use Rattle.tx_picture.proofs.cells.cell_by.Goals as goal

pub drawn_in-requires : goal.drawn_in-requires
drawn_in-requires c = record { covers = c.requires.covers c.in-Some.entry.now c.in-Some-drawing_at.drawing.now (sym c.in-Some.ensures) (sym c.in-Some-drawing_at.ensures) }

pub returns : goal.returns
returns c =
    c.drawn_in.ensures
    ∙ sym (cell-drawn c.args.entries.now c.args.drawings.now c.args.y c.args.place c.args.x c.in-Some.entry.now c.in-Some-drawing_at.drawing.now (sym c.in-Some.ensures) (sym c.in-Some-drawing_at.ensures))
