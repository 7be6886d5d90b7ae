use Rattle.tx_lex.specs.Blanks.{without_blanks}
use Rattle.tx_lex.specs.Lexemes.{lexemes}
use Rattle.tx_value.proofs.Held.{all_held}
use Rattle.tx_value.proofs.declaration.values_of.Goals as goal

pub returns-clause-held : goal.returns-clause-held
returns-clause-held c = all_held c.pairs_without_blanks.result c.in-Some.what (without_blanks (lexemes c.args.text.now c.args.tokens.now)) c.pairs_without_blanks.ensures
