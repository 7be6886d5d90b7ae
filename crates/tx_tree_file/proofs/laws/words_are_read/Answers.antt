use Rattle.tx_tree_file.proofs.lemmas.Words.{words-read}
use Rattle.tx_tree_file.proofs.laws.words_are_read.Goals as goal

pub returns : goal.returns
returns c = words-read
