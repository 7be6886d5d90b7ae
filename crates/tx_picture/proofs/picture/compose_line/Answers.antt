use Rattle.std.proofs.Common.{List, length, sym, ap, subst, ◌∙◌}
use Rattle.tx_cell.specs.Cell.{CellValue}
use Rattle.tx_cell.specs.Strip.{IsWellFormed}
use Rattle.tx_picture.proofs.FormedLemmas.{drawn-formed, line-length}
use Rattle.tx_picture.proofs.picture.compose_line.Goals as goal
use Rattle.tx_picture.specs.Cells.{cell_by}

pub lay_line-requires-clause-width : goal.lay_line-requires-clause-width
lay_line-requires-clause-width g c =
    ap (λ (cells : List CellValue). length cells) (c.deref.ensures.value ∙ c.in_ok-cells.ensures.cells) ∙ line-length (cell_by c.args.entries.now c.args.drawings.now c.args.y) c.args.line.now ∙ c.requires.width

pub lay_line-requires-clause-formed : goal.lay_line-requires-clause-formed
lay_line-requires-clause-formed g c =
    subst (λ (cells : List CellValue). IsWellFormed cells) (sym (c.deref.ensures.value ∙ c.in_ok-cells.ensures.cells))
    (drawn-formed c.lines_are_whole.ensures.law c.args.entries.now c.args.drawings.now c.args.y c.args.line.now c.requires.covers)
