use Rattle.std.proofs.Common.{arith}
use Rattle.tx_widgets.proofs.LineLemmas.{length-text_lines}
use Rattle.tx_widgets.proofs.reactions.lists.last_line.Goals as goal

pub overflow_cast-result : goal.overflow_cast-result
overflow_cast-result c = let few = length-text_lines c.args.text.now in omega (arith, few, c.requires)
