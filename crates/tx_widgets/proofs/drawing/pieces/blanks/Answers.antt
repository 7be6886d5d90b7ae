use Rattle.tx_widgets.proofs.SingleLemmas.{line_cells-blank}
use Rattle.tx_widgets.proofs.drawing.pieces.blanks.Goals as goal

pub copies-requires-clause-single : goal.copies-requires-clause-single
copies-requires-clause-single c = line_cells-blank c.args.pen
