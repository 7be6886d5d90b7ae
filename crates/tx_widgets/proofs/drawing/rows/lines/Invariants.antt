use Rattle.std.proofs.Common.{◌≡◌, length}
use Rattle.std.specs.List.{All}
use Rattle.tx_widgets.specs.Drawing.{drawn_rows}
use Rattle.tx_widgets.proofs.drawing.rows.lines.Given as goal

abbrev pub invariant-loop-y : goal.invariant-loop-y
invariant-loop-y l = record {
  rows : l.rows.items ≡ drawn_rows l.face l.y;
  width : All (λ row. length row ≡ l.face.content.width) l.rows.items;
}
