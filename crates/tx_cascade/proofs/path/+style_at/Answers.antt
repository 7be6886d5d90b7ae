use Rattle.std.proofs.Common.{rules, ◌≡◌, ◌*◌, ◌<◌, true, is_some, length, [], ◌∷◌, sym, ◌∙◌, arith}
use Rattle.tx_tree.specs.Row.{plain}
use Rattle.tx_tree.specs.Rows.{row_at}
use Rattle.tx_tree.specs.declared.row.Row.{Row}
use Rattle.tx_cascade.specs.Cascade.{up_from}
use Rattle.tx_cascade.specs.Reaching.{selectors_in}
use Rattle.tx_cascade.specs.Matchers.{matchers_of}
use Rattle.tx_cascade.specs.Tested.{TestedAtMost}
use Rattle.tx_cascade.proofs.lemmas.Parents.{row-number}
use Rattle.tx_cascade.proofs.Paths.{up-parent, up-alone, parent-is-there, answer-below, tested-up}
use Rattle.tx_cascade.proofs.Ticks.{untested, both-tested, more-tested}
use Rattle.tx_cascade.proofs.path.+style_at.Goals as goal
use Rattle.tx_cascade.proofs.path.+style_at.Goals.{in-Some-parent+in_ok-above-in-Some-parent, in-None+in_ok-above-in-None}

pub style_at-requires : goal.style_at-requires
style_at-requires g t c κs within =
    let rows = c.args.tree.now.rows in
    let path : up_from rows c.args.node.0 ≡ plain c.in-Some.row.now ∷ up_from rows c.in-Some-parent.parent.0 =
    up-parent rows c.root-root.ensures.known.once c.args.node.0 (plain c.in-Some.row.now) c.in-Some-parent.parent (sym c.in-Some.ensures) c.in-Some-parent.ensures in
    let there : is_some (row_at c.in-Some-parent.parent.0 rows) ≡ true = parent-is-there rows c.root-root.ensures.known.once c.args.node.0 c.in-Some-parent.parent c.in-Some-parent.ensures in
    let shorter : length (up_from rows c.in-Some-parent.parent.0) < length (up_from rows c.args.node.0) = rw path (omega arith) in
    (search rules, (within, there))

pub returns-in_err-above-in-Some-parent-clause-ticks : goal.returns-in_err-above-in-Some-parent-clause-ticks
returns-in_err-above-in-Some-parent-clause-ticks g t c =
    let rows = c.args.tree.now.rows in
    let path : up_from rows c.args.node.0 ≡ plain c.in-Some.row.now ∷ up_from rows c.in-Some-parent.parent.0 =
    up-parent rows c.root-root.ensures.known.once c.args.node.0 (plain c.in-Some.row.now) c.in-Some-parent.parent (sym c.in-Some.ensures) c.in-Some-parent.ensures in
    more-tested c.style_at.ensures.ticks (rw path (omega arith))

pub row_style-requires : goal.row_style-requires
row_style-requires g t c =
    let same = row-number c.args.node.0 c.args.tree.now.rows (plain c.in-Some.row.now) (sym c.in-Some.ensures) in
    rw same c.requires

pub returns-clause-exact : goal.returns-clause-exact
returns-clause-exact g t c =
    let rows = c.args.tree.now.rows in
    let row = plain c.in-Some.row.now in
    let tests = matchers_of c.args.pseudo.now rows in
    elim c.match-parent.branch [
      | in-Some-parent+in_ok-above-in-Some-parent w ↦
          answer-below rows c.root-root.ensures.known.once tests c.args.sheet.now c.args.node.0 row (up_from rows w.in-Some-parent.parent.0) c.match-parent.above (sym c.in-Some.ensures)
          (up-parent rows c.root-root.ensures.known.once c.args.node.0 row w.in-Some-parent.parent (sym c.in-Some.ensures) w.in-Some-parent.ensures)
          (w.above-is ∙ w.in_ok-above-in-Some-parent.ensures.exact) c.row_style.result c.row_style.ensures.exact
      | in-None+in_ok-above-in-None w ↦
          answer-below rows c.root-root.ensures.known.once tests c.args.sheet.now c.args.node.0 row [] c.match-parent.above (sym c.in-Some.ensures)
          (up-alone rows c.root-root.ensures.known.once c.args.node.0 row (sym c.in-Some.ensures) w.in-None.ensures)
          (w.above-is ∙ w.in_ok-above-in-None.ensures.exact) c.row_style.result c.row_style.ensures.exact
    ]

pub returns-clause-ticks : goal.returns-clause-ticks
returns-clause-ticks g t c =
    let rows = c.args.tree.now.rows in
    let row = plain c.in-Some.row.now in
    let each = selectors_in c.args.sheet.now in
    elim c.match-parent.branch [
      | in-Some-parent+in_ok-above-in-Some-parent w ↦
          let first : TestedAtMost g.L.Ledger.ticked (each * length (up_from rows w.in-Some-parent.parent.0)) c.args.steps.now.ledger c.match-parent.steps.ledger = rw w.steps-is w.style_at.ensures.ticks in
          more-tested (both-tested first c.row_style.ensures.ticks)
          (tested-up each (up_from rows w.in-Some-parent.parent.0) row (up_from rows c.args.node.0)
          (up-parent rows c.root-root.ensures.known.once c.args.node.0 row w.in-Some-parent.parent (sym c.in-Some.ensures) w.in-Some-parent.ensures))
      | in-None+in_ok-above-in-None w ↦
          let first : TestedAtMost g.L.Ledger.ticked (each * length {A = Row} []) c.args.steps.now.ledger c.match-parent.steps.ledger = rw w.steps-is (untested g.L.Ledger.ticked (each * length {A = Row} []) c.args.steps.now.ledger) in
          more-tested (both-tested first c.row_style.ensures.ticks)
          (tested-up each [] row (up_from rows c.args.node.0)
          (up-alone rows c.root-root.ensures.known.once c.args.node.0 row (sym c.in-Some.ensures) w.in-None.ensures))
    ]
