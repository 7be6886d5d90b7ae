use Rattle.tx_parse.proofs.DefaultRead.{default_read}
use Rattle.tx_parse.proofs.laws.default_sheet_is_read.Goals as goal

pub returns : goal.returns
returns c = default_read
