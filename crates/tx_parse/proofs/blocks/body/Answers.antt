use Rattle.std.proofs.Common.{ℕ, ◌-◌, ◌≤◌, ◌<◌, arith, length}
use Rattle.tx_lex.specs.Lexemes.{lexemes_from}
use Rattle.tx_parse.specs.Seen.{defined_in, body_of}
use Rattle.tx_parse.proofs.BodySteps.{body_init, body_next}
use Rattle.tx_parse.proofs.blocks.body.Goals as goal

farther : {a b c d : ℕ} → a ≤ b → b < c → c ≤ d → a ≤ d
farther here more past = omega (arith, here, more, past)

fewer : (n a b c : ℕ) → a < b → a < n → b ≤ c → n - c < n - a
fewer n a b c more within past = omega (arith, more, within, past)

pub loop-end-init : goal.loop-end-init
loop-end-init c = (
  body_init c.args.inline (defined_in c.args.text.now c.args.variables.now) c.args.text.now c.args.tokens.now (body_of c.nothing-found.result) c.args.at c.past_blanks-behind.result
      c.nothing-found.ensures (c.past_blanks-behind.ensures.gives c.args.text.now) c.past_blanks-behind.ensures.behind,
  c.past_blanks-behind.ensures.behind,
)

pub loop-end-preserved : goal.loop-end-preserved
loop-end-preserved c = (
  body_next c.args.inline (defined_in c.args.text.now c.args.variables.now) (body_of c.loop-end.found) (body_of c.in_ok-more.more.0) (lexemes_from c.args.text.now c.args.tokens.now c.loop-end.behind) _
      (lexemes_from c.args.text.now c.args.tokens.now c.in_ok-more.more.1) _ (length c.args.tokens.now - c.loop-end.behind) (length c.args.tokens.now - c.past_blanks-behind-in-loop-end.result)
      c.loop-end.invariant.0 (c.in_default.ensures.ends c.args.text.now) c.in_ok-more.ensures.gives (c.past_blanks-behind-in-loop-end.ensures.gives c.args.text.now)
      (fewer (length c.args.tokens.now) c.loop-end.behind c.in_ok-more.more.1 c.past_blanks-behind-in-loop-end.result c.in_ok-more.ensures.behind.0 c.in_ok-more.ensures.behind.1 c.past_blanks-behind-in-loop-end.ensures.behind),
  farther c.loop-end.invariant.1 c.in_ok-more.ensures.behind.0 c.past_blanks-behind-in-loop-end.ensures.behind,
)
