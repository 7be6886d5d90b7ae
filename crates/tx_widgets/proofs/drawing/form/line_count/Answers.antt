use Rattle.std.proofs.Common.{arith}
use Rattle.tx_widgets.proofs.LineLemmas.{length-text_lines}
use Rattle.tx_widgets.proofs.drawing.form.line_count.Goals as goal

pub overflow_add-count : goal.overflow_add-count
overflow_add-count c = let few = length-text_lines c.args.text.now in omega (arith, few, c.requires, c.counting.invariant)
