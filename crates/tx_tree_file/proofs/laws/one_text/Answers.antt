use Rattle.std.proofs.Common.{sym, ◌∙◌}
use Rattle.tx_tree_file.proofs.Whole.{file-found}
use Rattle.tx_tree_file.proofs.laws.one_text.Goals as goal

pub returns : goal.returns
returns c = λ a b rows h g. (file-found a rows h).text ∙ sym (file-found b rows g).text
