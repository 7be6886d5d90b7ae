use Rattle.std.proofs.Common.{ℕ, ◌≤◌, ◌<◌, ap, sym, ◌∙◌, ◌+◌, arith}
use Rattle.tx_lex.specs.Lexemes.{lexeme, lexemes, lexemes_from}
use Rattle.tx_parse.specs.Answers.{told_in, gathered_in}
use Rattle.tx_parse.specs.Seen.{defined_in}
use Rattle.tx_parse.proofs.Turns.{passed_on}
use Rattle.tx_parse.proofs.ValueSteps.{values_init, values_next, values_last, values_end, values_err}
use Rattle.tx_parse.proofs.values.values_as_far.Goals as goal

farther : {a b c d : ℕ} → a ≤ b → b < c → c ≤ d → a ≤ d
farther here more past = omega (arith, here, more, past)

pub loop-token-init : goal.loop-token-init
loop-token-init c = (values_init _ _ _ _ (ap (lexemes c.args.text.now) c.new-found.ensures.items) (c.past_blanks-behind.ensures.gives c.args.text.now), c.past_blanks-behind.ensures.behind)

pub loop-token-preserved : goal.loop-token-preserved
loop-token-preserved c = (
  values_next (defined_in c.args.text.now c.args.variables.now) (lexemes c.args.text.now c.loop-token.found.items) _ _ (lexeme c.args.text.now c.in-Some.token) (lexemes_from c.args.text.now c.args.tokens.now (c.loop-token.behind + 1)) _ _ _
      c.loop-token.invariant.0 (ap (lexemes c.args.text.now) c.in-Some.ensures.0) (sym c.is_value.ensures ∙ c.if-not-is_value.false) c.in_ok-more.ensures.gives
      (c.past_blanks-behind-in-Some.ensures.gives c.args.text.now),
  farther c.loop-token.invariant.1 c.in_ok-more.ensures.behind c.past_blanks-behind-in-Some.ensures.behind,
)

pub returns-then-not-is_value-clause-gives : goal.returns-then-not-is_value-clause-gives
returns-then-not-is_value-clause-gives c = values_last _ _ _ _ _ _ c.loop-token.invariant.0 (ap (lexemes c.args.text.now) c.in-Some.ensures.0) (sym c.is_value.ensures ∙ c.if-not-is_value.true)

pub returns-in_err-more-clause-gives : goal.returns-in_err-more-clause-gives
returns-in_err-more-clause-gives c =
    passed_on (gathered_in c.args.text.now) c.args.text.now c.args.tokens.now c.from_residual.result c.in_err-more.field-0.0 _ c.from_residual.ensures.1
    (values_err (told_in c.args.text.now c.args.tokens.now c.in_err-more.field-0.0) (defined_in c.args.text.now c.args.variables.now) (lexemes c.args.text.now c.loop-token.found.items) _ _ (lexeme c.args.text.now c.in-Some.token)
    (lexemes_from c.args.text.now c.args.tokens.now (c.loop-token.behind + 1)) c.loop-token.invariant.0 (ap (lexemes c.args.text.now) c.in-Some.ensures.0) (sym c.is_value.ensures ∙ c.if-not-is_value.false) c.in_err-more.ensures.gives)

pub returns-clause-gives : goal.returns-clause-gives
returns-clause-gives c = values_end _ _ _ _ c.loop-token.invariant.0 (ap (lexemes c.args.text.now) c.in_default.ensures)
