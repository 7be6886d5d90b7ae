use Rattle.tx_lex.specs.Lexemes.{lexeme, lexemes_from}
use Rattle.tx_parse.specs.Answers.{told_in}
use Rattle.tx_parse.specs.Seen.{defined_in, spelled_in}
use Rattle.tx_parse.proofs.Turns.{passed_on, spelled_ok, spelled_bad_values, spelled_bad_importance}
use Rattle.tx_parse.proofs.declarations.before_end.Goals as goal

pub returns-in_err-stand-clause-gives : goal.returns-in_err-stand-clause-gives
returns-in_err-stand-clause-gives c =
    passed_on (spelled_in c.args.text.now) c.args.text.now c.args.tokens.now c.from_residual-in_err-stand.result c.in_err-stand.field-0.0 _ c.from_residual-in_err-stand.ensures.1
    (spelled_bad_values (told_in c.args.text.now c.args.tokens.now c.in_err-stand.field-0.0) (defined_in c.args.text.now c.args.variables.now) (lexeme c.args.text.now c.args.name) _ _ _ (lexemes_from c.args.text.now c.args.tokens.now c.past_blanks-first.result)
    c.in_ok-colon.ensures.gives (c.past_blanks-first.ensures.gives c.args.text.now) c.in_err-stand.ensures.gives)

pub returns-in_err-important-clause-gives : goal.returns-in_err-important-clause-gives
returns-in_err-important-clause-gives c =
    passed_on (spelled_in c.args.text.now) c.args.text.now c.args.tokens.now c.from_residual-in_err-important.result c.in_err-important.field-0.0 _ c.from_residual-in_err-important.ensures.1
    (spelled_bad_importance (told_in c.args.text.now c.args.tokens.now c.in_err-important.field-0.0) (defined_in c.args.text.now c.args.variables.now) (lexeme c.args.text.now c.args.name) _ _ _ (lexemes_from c.args.text.now c.args.tokens.now c.past_blanks-first.result) _ _
    c.in_ok-colon.ensures.gives (c.past_blanks-first.ensures.gives c.args.text.now) c.in_ok-stand.ensures.gives c.in_err-important.ensures.gives)

pub returns-clause-gives : goal.returns-clause-gives
returns-clause-gives c = spelled_ok (defined_in c.args.text.now c.args.variables.now) (lexeme c.args.text.now c.args.name) _ _ _ (lexemes_from c.args.text.now c.args.tokens.now c.past_blanks-first.result) _ _ _ c.place_of.result c.in_ok-important.important.0
    c.in_ok-colon.ensures.gives (c.past_blanks-first.ensures.gives c.args.text.now) (c.place_of.ensures c.args.text.now) c.in_ok-stand.ensures.gives c.in_ok-important.ensures.gives
