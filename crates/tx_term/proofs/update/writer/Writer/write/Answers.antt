use Rattle.std.proofs.Common.{arith, ap, cond, Some, ◌++◌, ◌∙◌, sym, [], append-nil}
use Rattle.tx_term.proofs.GatherLemmas.{Adds-then, Adds-along}
use Rattle.tx_term.specs.Update.{is_last_pen, pen_bytes, cell_bytes}
use Rattle.tx_term.proofs.update.writer.Writer.write.Goals as goal

pub returns : goal.returns
returns g c =
    let last = c.args.self.now.pen in
    let text = c.as_bytes.ensures.value ∙ c.text.ensures.text in
    record {
      added = Adds-along _ _
          (ap (λ pen. cond (is_last_pen last pen) [] (pen_bytes pen) ++ c.as_bytes.result.now) c.pen-pen.ensures.pen
          ∙ ap (λ bytes. cond (is_last_pen last c.args.cell.now.pen) [] (pen_bytes c.args.cell.now.pen) ++ bytes) text
          ∙ sym (append-nil (cell_bytes last c.args.cell.now)))
          (Adds-then _ _ c.push_new_pen.ensures.added c.push.ensures.added);
      pen = ap Some c.pen-pen.ensures.pen;
      bounded = omega (arith, c.push_new_pen.ensures.bounded, c.push.ensures.bounded, c.text.ensures.short, c.as_bytes.ensures.len);
    }
