use Rattle.std.proofs.Common.{List, Option, subst}
use Rattle.std.specs.List.{All}
use Rattle.std.specs.Prelude.{IfSome}
use Rattle.std.proofs.lemmas.List.{take_all}
use Rattle.std.proofs.lemmas.List.Elements.{All-more}
use Rattle.tx_paint.specs.Drawing.{DrawingValue, IsDrawing}
use Rattle.tx_picture.proofs.drawings.see_drawings.Goals as goal

pub loop-drawing-preserved : goal.loop-drawing-preserved
loop-drawing-preserved c =
    let P : Option DrawingValue → Type 0 = λ drawing. IfSome drawing IsDrawing in
    All-more P c.args.drawings.now c.loop-drawing.drawing-index c.drawing-item.result c.loop-drawing-test.true c.loop-drawing.invariant (subst P c.drawing-item.is c.see_drawing.ensures)

pub returns : goal.returns
returns c =
    let P : List (Option DrawingValue) → Type 0 = All (λ drawing. IfSome drawing IsDrawing) in
    subst P (take_all c.loop-drawing.drawing-index c.args.drawings.now c.loop-drawing-test.false) c.loop-drawing.invariant
