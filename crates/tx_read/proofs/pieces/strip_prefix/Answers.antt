use Rattle.tx_read.proofs.PiecesLemmas.{behind_from_strip}
use Rattle.tx_read.proofs.pieces.strip_prefix.Goals as goal

pub returns : goal.returns
returns c = behind_from_strip c.args.prefix.now c.args.bytes.now c.strip_prefix.result c.strip_prefix.ensures.cases
