use Rattle.std.proofs.Common.{List, subst}
use Rattle.std.proofs.lemmas.List.{take_all}
use Rattle.std.proofs.lemmas.List.Elements.{All-more}
use Rattle.std.specs.List.{All}
use Rattle.tx_cell.specs.Cell.{CellValue}
use Rattle.tx_cell.specs.Strip.{IsWellFormed}
use Rattle.tx_paint.proofs.drawing.see_formed.Goals as goal

pub seeing-preserved : goal.seeing-preserved
seeing-preserved c =
    let P : List CellValue → Type 0 = IsWellFormed in
    All-more P c.args.strips.now c.seeing.strip-index c.strip-item.result c.seeing-test.true c.seeing.invariant (subst P c.strip-item.is c.len-len.ensures.formed)

pub returns : goal.returns
returns c =
    let P : List (List CellValue) → Type 0 = All IsWellFormed in
    subst P (take_all c.seeing.strip-index c.args.strips.now c.seeing-test.false) c.seeing.invariant
