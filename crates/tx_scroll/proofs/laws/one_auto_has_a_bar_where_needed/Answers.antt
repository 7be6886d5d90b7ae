use Rattle.tx_scroll.proofs.InOrder.{across-where-needed, down-where-needed}
use Rattle.tx_scroll.proofs.laws.one_auto_has_a_bar_where_needed.Goals as goal

pub returns-clause-across : goal.returns-clause-across
returns-clause-across c = across-where-needed

pub returns-clause-down : goal.returns-clause-down
returns-clause-down c = down-where-needed
