use Rattle.std.proofs.Common.{◌≡◌, ◌+◌, List, [], ◌∷◌, drop, replicate, refl, sym, ap, ◌∙◌, arith, if◌then◌else◌}
use Rattle.std.proofs.lemmas.List.{drop_all}
use Rattle.tx_cell.specs.Cell.{CellValue}
use Rattle.tx_cell.specs.Grid.{GridValue}
use Rattle.tx_cell.specs.Strip.{laid, with_tail}
use Rattle.tx_geom.specs.declared.places.Size.{Size}
use Rattle.tx_picture.proofs.LayLemmas.{cell-fits, cell-there, drop-cell, laid-all, laid_cells, lay-next, with_row, with_row-same}
use Rattle.tx_picture.proofs.laying.lay_line.Goals as goal
use Rattle.tx_picture.specs.Picture.{empty}

pub loop-x-init : goal.loop-x-init
loop-x-init c = record {
  row = replicate c.args.grid.now.size.width empty;
  grid = with_row-same c.args.grid.now c.args.y (replicate c.args.grid.now.size.width empty) c.requires.blank;
  left = refl;
}

pub lay_cell-requires-clause-columns : goal.lay_cell-requires-clause-columns
lay_cell-requires-clause-columns c head =
    let fits = cell-fits c.args.cells.now c.requires.formed c.loop-x.x c.index-cells-x.result (cell-there c.args.cells.now c.loop-x.x c.index-cells-x.result (omega (arith, c.loop-x-test.true, c.loop-x.auto.x-end, c.requires.width, ap (λ (s : Size). s.width) c.size-x-end.ensures.size)) (sym c.index-cells-x.is)) head in
    let wide = ap (λ (g : GridValue). g.size.width) c.loop-x.invariant.grid in
    omega (arith, fits, wide, c.requires.width)

pub loop-x-preserved : goal.loop-x-preserved
loop-x-preserved c =
    let row = c.loop-x.invariant.row in
    let cell = c.index-cells-x.result in
    let rest : drop c.loop-x.x c.args.cells.now ≡ cell ∷ drop (c.loop-x.x + 1) c.args.cells.now =
    drop-cell c.args.cells.now c.loop-x.x cell (omega (arith, c.loop-x-test.true, c.loop-x.auto.x-end, c.requires.width, ap (λ (s : Size). s.width) c.size-x-end.ensures.size)) (sym c.index-cells-x.is)
    in
    record {
      row = if cell.tail then row else laid c.loop-x.x (with_tail cell) row;
      grid = lay-next c.args.grid.now c.loop-x.grid c.lay_cell.new.grid c.loop-x.x c.args.y row cell c.loop-x.invariant.grid c.lay_cell.ensures;
      left = sym (ap (λ (cells : List CellValue). laid_cells c.loop-x.x cells row) rest) ∙ c.loop-x.invariant.left;
    }

pub returns : goal.returns
returns c =
    let row = c.loop-x.invariant.row in
    let none : drop c.loop-x.x c.args.cells.now ≡ [] = drop_all c.loop-x.x c.args.cells.now (omega (arith, c.loop-x-test.false, c.loop-x.auto.x-end, c.requires.width, ap (λ (s : Size). s.width) c.size-x-end.ensures.size)) in
    let all : row ≡ c.args.cells.now =
    sym (ap (λ (cells : List CellValue). laid_cells c.loop-x.x cells row) none)
    ∙ c.loop-x.invariant.left
    ∙ laid-all empty refl c.args.cells.now c.args.grid.now.size.width c.requires.width c.requires.formed
    in
    c.loop-x.invariant.grid ∙ ap (λ (cells : List CellValue). with_row c.args.grid.now c.args.y cells) all
