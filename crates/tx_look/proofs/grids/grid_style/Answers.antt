use Rattle.tx_look.proofs.Within.{grid_within}
use Rattle.tx_look.proofs.grids.grid_style.Goals as goal

pub returns-clause-accepted : goal.returns-clause-accepted
returns-clause-accepted c =
    rw (
      c.grid_size-columns.ensures,
      c.grid_gutter-gutter_vertical.ensures,
      c.of.ensures,
      c.of-2.ensures,
      c.in_ok-column_tracks.ensures.items,
      c.in_ok-row_tracks.ensures.items,
      c.column_tracks.ensures,
      c.row_tracks.ensures,
    )
    (grid_within c.args.own.now (c.reads_are_within.ensures c.args.own.now))
