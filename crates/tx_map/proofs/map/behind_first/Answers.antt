use Rattle.std.proofs.Common.{◌∙◌, length, ap, sym, drop, arith}
use Rattle.tx_sizes.proofs.lemmas.RowsBelow.{counts-drop, length-counts}
use Rattle.tx_sizes.specs.Counts.{counts}
use Rattle.tx_map.proofs.map.behind_first.Goals as goal

pub split_at-requires-2 : goal.split_at-requires-2
split_at-requires-2 c = omega (arith, c.requires.some, ap length c.requires.below, length-counts c.args.rows.now)

pub returns-clause-counts : goal.returns-clause-counts
returns-clause-counts c =
    c.split_at-2.ensures.back ∙ ap (drop 1) c.requires.below ∙ sym (counts-drop 1 c.args.rows.now) ∙ ap counts (sym c.split_at.ensures.back)
