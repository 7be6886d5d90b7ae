use Rattle.std.proofs.Common.{[]}
use Rattle.tx_parse.proofs.AgainBodies.{inline_again}
use Rattle.tx_parse.proofs.FoundSheets.{inline_found}
use Rattle.tx_parse.proofs.laws.inline_texts_are_read.Goals as goal

pub returns : goal.returns
returns c = λ ts body. (λ is. (inline_found ts [] body is).0, inline_again ts body)
