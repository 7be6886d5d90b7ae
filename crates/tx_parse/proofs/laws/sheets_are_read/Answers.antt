use Rattle.std.proofs.Common.{[]}
use Rattle.tx_parse.proofs.AgainSheets.{sheet_again}
use Rattle.tx_parse.proofs.FoundSheets.{sheet_found}
use Rattle.tx_parse.proofs.laws.sheets_are_read.Goals as goal

pub returns : goal.returns
returns c = λ ts found. (λ is. (sheet_found ts [] found is).0, sheet_again ts found)
