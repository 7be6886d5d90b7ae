use Rattle.std.proofs.lemmas.Str.{utf8_valid_len-IsUtf8}
use Rattle.tx_lex.proofs.Fronts.{none_invalid}
use Rattle.tx_lex.proofs.lexer.invalid_place.Goals as goal

pub returns-in-Ok-clause-place : goal.returns-in-Ok-clause-place
returns-in-Ok-clause-place c = none_invalid _ _ (utf8_valid_len-IsUtf8 _ c.in-Ok.ensures.cases.1)
