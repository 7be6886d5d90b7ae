use Rattle.std.proofs.Common.{rules}
use Rattle.tx_compose.proofs.Unscrolled.{built_in}
use Rattle.tx_compose.proofs.tests.anew_in.Goals as goal

pub refresh-requires-clause-built_in : goal.refresh-requires-clause-built_in
refresh-requires-clause-built_in c = built_in c.args.present.now.tree.now.rows (search rules)
