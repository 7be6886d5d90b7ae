use Rattle.tx_lex.proofs.Scanning.{lexed-exact}
use Rattle.tx_lex.proofs.laws.tokens_are_the_longest.Goals as goal

pub returns : goal.returns
returns c = lexed-exact
