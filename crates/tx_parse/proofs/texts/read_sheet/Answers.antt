use Rattle.tx_parse.specs.Default.{sheet_value}
use Rattle.tx_parse.specs.Texts.{sheet_of, IsSheetText}
use Rattle.tx_parse.proofs.WholeAnswers.{answer_read, read_answered}
use Rattle.tx_parse.proofs.lemmas.TextLaws.{sheet_text, text_sheet}
use Rattle.tx_parse.proofs.texts.read_sheet.Goals as goal

pub returns-clause-found : goal.returns-clause-found
returns-clause-found c = answer_read (λ sheet. sheet) sheet_value (IsSheetText c.args.bytes.now) c.args.bytes.now c.sheet_with_defaults.result (sheet_of c.args.bytes.now) (sheet_text c.args.bytes.now) c.sheet_with_defaults.ensures

pub returns-clause-only : goal.returns-clause-only
returns-clause-only c found is = read_answered (λ sheet. sheet) sheet_value c.args.bytes.now c.sheet_with_defaults.result (sheet_of c.args.bytes.now) found (text_sheet c.args.bytes.now found is) c.sheet_with_defaults.ensures
