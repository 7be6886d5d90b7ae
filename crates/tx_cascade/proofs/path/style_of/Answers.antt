use Rattle.tx_cascade.proofs.Paths.{all-styles}
use Rattle.tx_cascade.proofs.path.style_of.Goals as goal

pub returns-clause-exact : goal.returns-clause-exact
returns-clause-exact g c = all-styles c.args.tree.now.rows c.root-root.ensures.known.once c.args.pseudo.now c.args.sheet.now c.args.node.0 c.requires c.style_at.result c.style_at.ensures.exact
