use Rattle.std.proofs.Common.{◌≤◌, length, sym, subst}
use Rattle.tx_parse.proofs.FewRules.{few_rules}
use Rattle.tx_parse.proofs.texts.sheet_with_defaults.Goals as goal

pub of-requires-clause-few : goal.of-requires-clause-few
of-requires-clause-few c = subst (λ rules. length rules ≤ 10000) (sym c.of-rules.ensures) (few_rules c.args.bytes.now c.in_ok-found.found c.in_ok-found.ensures)
