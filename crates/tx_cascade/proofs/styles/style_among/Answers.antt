use Rattle.std.proofs.Common.{[], sym, ◌∙◌}
use Rattle.tx_tree.specs.Row.{plain}
use Rattle.tx_cascade.specs.Cascade.{up_from}
use Rattle.tx_cascade.specs.Matchers.{matchers_of}
use Rattle.tx_cascade.proofs.Paths.{up-parent, up-alone, answer-below}
use Rattle.tx_cascade.proofs.lemmas.Parents.{some-same}
use Rattle.tx_cascade.proofs.styles.style_among.Goals as goal

pub returns-in_default-clause-exact : goal.returns-in_default-clause-exact
returns-in_default-clause-exact g c =
    let rows = c.args.tree.now.rows in
    let row = plain c.args.row.now in
    answer-below rows c.root-root.ensures.known.once (matchers_of c.args.pseudo.now rows) c.args.sheet.now c.args.row.now.node.0 row [] c.in_ok-above.above c.requires.there
    (up-alone rows c.root-root.ensures.known.once c.args.row.now.node.0 row c.requires.there (sym c.in_default.is ∙ c.parent.ensures))
    c.in_ok-above.ensures.exact c.row_style.result c.row_style.ensures.exact

pub returns-clause-exact : goal.returns-clause-exact
returns-clause-exact g c =
    let rows = c.args.tree.now.rows in
    let row = plain c.args.row.now in
    answer-below rows c.root-root.ensures.known.once (matchers_of c.args.pseudo.now rows) c.args.sheet.now c.args.row.now.node.0 row (up_from rows c.in-Some.parent.0) c.in-Some-get.above.now c.requires.there
    (up-parent rows c.root-root.ensures.known.once c.args.row.now.node.0 row c.in-Some.parent c.requires.there c.in-Some.ensures)
    (some-same _ _ (c.in-Some-get.ensures ∙ c.requires.above c.in-Some.parent c.in-Some.ensures)) c.row_style-2.result c.row_style-2.ensures.exact
