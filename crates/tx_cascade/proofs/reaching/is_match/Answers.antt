use Rattle.tx_cascade.proofs.Matching.{same-matcher}
use Rattle.tx_cascade.proofs.reaching.is_match.Goals as goal

pub returns-clause-exact : goal.returns-clause-exact
returns-clause-exact g c =
    same-matcher c.args.tree.now.rows c.root-root.ensures.known.once c.args.pseudo.now c.args.node.0 c.args.selector.now.compounds c.matches.result c.matches.ensures.sound c.matches.ensures.whole
