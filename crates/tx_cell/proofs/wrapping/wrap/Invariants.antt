use Rattle.std.proofs.Common.{◌≡◌, ◌≤◌, ◌<◌, ◌^◌, ◌++◌, List, length}
use Rattle.std.specs.List.{All, flat_map}
use Rattle.tx_cell.specs.Cell.{CellValue}
use Rattle.tx_cell.specs.Lines.{lines_left}
use Rattle.tx_cell.specs.Strip.{line_cells}
use Rattle.tx_cell.specs.Wrap.{wrapped_line, wrapped_text, text_cells, AreLinesOf}
use Rattle.tx_cell.proofs.wrapping.wrap.Given as goal

abbrev pub invariant-loop-line : goal.invariant-loop-line
invariant-loop-line l = record {
  short : All (λ line. length line < 2 ^ 32) (lines_left l.line-iterator);
  lines : l.lines.items ++ flat_map (wrapped_line l.width l.pen) (lines_left l.line-iterator) ≡ wrapped_text l.width l.pen l.text;
  fit : All (λ line. length line ≤ l.width) l.lines.items;
  whole : 2 ≤ l.width → (cells : List CellValue) × (AreLinesOf cells l.lines.items × (cells ++ flat_map (λ line. line_cells line l.pen) (lines_left l.line-iterator) ≡ text_cells l.pen l.text));
}
