use Rattle.tx_parse.proofs.lemmas.TextLaws.{sheet_text, text_sheet, inline_text, text_inline}
use Rattle.tx_parse.proofs.laws.texts_are_read.Goals as goal

pub returns : goal.returns
returns c = λ bytes. (λ found. (sheet_text bytes found, text_sheet bytes found), λ body. (inline_text bytes body, text_inline bytes body))
