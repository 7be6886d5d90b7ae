-- What `retain` keeps is what its test keeps.
use Rattle.std.proofs.Common.{rules}
use Rattle.std.proofs.lemmas.Fn.{filter_same}
use Rattle.tx_tree.proofs.classes.Classes.remove.Goals as goal

pub returns-clause-names : goal.returns-clause-names
returns-clause-names c = rw (← c.self.view_is) (filter_same _ _ _ (λ x b f' k. search rules) _ _ c.retain.ensures.filtered)
