use Rattle.tx_term.proofs.SizeLemmas.{bytes_keep_size}
use Rattle.tx_term.proofs.laws.bytes_keep_the_size.Goals as goal

pub returns : goal.returns
returns c = record { law = bytes_keep_size }
