use Rattle.std.proofs.Common.{◌<◌, arith}
use Rattle.tx_lex.proofs.LongestTokens.{longest_token-some}
use Rattle.tx_lex.proofs.lexer.token_at.Goals as goal

pub returns-in-None-clause-goes_on : goal.returns-in-None-clause-goes_on
returns-in-None-clause-goes_on c =
    let some : 0 < c.in-Some.found.1 = longest_token-some _ c.in-Some.found c.in-Some.ensures.token in
    omega arith
