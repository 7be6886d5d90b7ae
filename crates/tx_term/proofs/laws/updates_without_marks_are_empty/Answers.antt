use Rattle.tx_term.proofs.LawLemmas.{updates_without_marks}
use Rattle.tx_term.proofs.laws.updates_without_marks_are_empty.Goals as goal

pub returns : goal.returns
returns c = record { law = updates_without_marks }
