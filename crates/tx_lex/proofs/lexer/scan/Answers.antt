use Rattle.std.proofs.Common.{[], ◌∷◌, length, Some, None, ap, ◌∙◌, arith, length-append}
use Rattle.tx_read.specs.Reading.{behind_items}
use Rattle.tx_lex.specs.Lexing.{spot_at, tokens_from, of_run}
use Rattle.tx_lex.proofs.Scanning.{scanned, scan-token, scan-fault, scan-end}
use Rattle.tx_lex.proofs.lexer.scan.Goals as goal

pub loop-place-preserved : goal.loop-place-preserved
loop-place-preserved c = record {
  within = c.in-Ok.ensures.goes_on.1;
  few = omega (arith, c.in-Ok.ensures.goes_on.0, c.loop-place.invariant.few, ap length c.in_ok-push-in-Ok.ensures.items, length-append c.loop-place.tokens.items (c.in-Ok.token ∷ []));
  read = ap (λ tokens. of_run (behind_items tokens (tokens_from (spot_at c.args.bytes.now c.in-Ok.token.to)))) c.in_ok-push-in-Ok.ensures.items
      ∙ scan-token _ _ _ c.in-Ok.token c.loop-place-test.true c.in-Ok.ensures.token c.loop-place.invariant.read;
}

pub returns-in-Err-clause-read : goal.returns-in-Err-clause-read
returns-in-Err-clause-read c = ap (λ tokens. scanned tokens (Some c.in-Err.fault)) c.of.ensures ∙ scan-fault _ _ _ _ c.loop-place-test.true c.in-Err.ensures.token c.loop-place.invariant.read

pub returns-clause-read : goal.returns-clause-read
returns-clause-read c = ap (λ tokens. scanned tokens None) c.of-2.ensures ∙ scan-end _ _ _ c.loop-place-test.false c.loop-place.invariant.read
