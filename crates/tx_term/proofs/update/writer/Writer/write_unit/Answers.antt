use Rattle.tx_term.proofs.DrawingLemmas.{Draws-then}
use Rattle.tx_term.proofs.update.writer.Writer.write_unit.Goals as goal

pub returns-clause-drawn : goal.returns-clause-drawn
returns-clause-drawn g c = rw (← c.is_plain_cell-plain.ensures) (Draws-then _ _ c.move_before.ensures c.write.ensures)
