use Rattle.std.proofs.Common.{take}
use Rattle.std.specs.Prelude.{IfSome}
use Rattle.std.specs.List.{All}
use Rattle.tx_paint.specs.Drawing.{IsDrawing}
use Rattle.tx_picture.proofs.drawings.see_drawings.Given as goal

-- the drawings so far are some
abbrev pub invariant-loop-drawing : goal.invariant-loop-drawing
invariant-loop-drawing l = All (λ drawing. IfSome drawing IsDrawing) (take l.drawing-index l.drawings)
