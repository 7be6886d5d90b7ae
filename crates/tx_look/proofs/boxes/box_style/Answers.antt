use Rattle.tx_look.proofs.Within.{box_within}
use Rattle.tx_look.proofs.boxes.box_style.Goals as goal

pub returns-clause-accepted : goal.returns-clause-accepted
returns-clause-accepted c =
    rw (
      c.size.ensures,
      c.size-2.ensures,
      c.least.ensures,
      c.least-2.ensures,
      c.most.ensures,
      c.most-2.ensures,
      c.margin.ensures,
      c.gutter.ensures,
      c.box_sizing.ensures,
      c.dock.ensures,
      c.layer_number.ensures,
      c.offset.ensures,
      c.column_span.ensures.exact,
      c.row_span.ensures.exact,
    )
    (box_within c.args.container.now c.args.own.now (c.reads_are_within.ensures c.args.own.now))
