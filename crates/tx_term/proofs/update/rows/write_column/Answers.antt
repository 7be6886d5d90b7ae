use Rattle.std.proofs.Common.{sym, ◌∙◌}
use Rattle.tx_term.proofs.DrawingLemmas.{DrawsColumn-tail, DrawsColumn-same, DrawsColumn-unit}
use Rattle.tx_term.proofs.update.rows.write_column.Goals as goal

pub returns-then-tail : goal.returns-then-tail
returns-then-tail g c = λ whole old pairs is. DrawsColumn-tail _ _ _ _ _ _ _ (sym c.tail.ensures.tail ∙ c.if-tail.true)

pub returns-then-not-differs : goal.returns-then-not-differs
returns-then-not-differs g c = λ whole old pairs is. DrawsColumn-same _ _ _ _ _ _ _ (sym c.tail.ensures.tail ∙ c.if-tail.false) (is ∙ c.if-not-differs.true)

pub returns : goal.returns
returns g c = λ whole old pairs is.
    DrawsColumn-unit _ _ _ _ _ _ _ _ (sym c.tail.ensures.tail ∙ c.if-tail.false) (is ∙ c.if-not-differs.false) c.write_unit.ensures.drawn c.write_unit.ensures.plain
