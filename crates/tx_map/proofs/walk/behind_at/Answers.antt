use Rattle.std.proofs.Common.{◌+◌, length, drop, sym, ap, ◌∙◌, arith}
use Rattle.tx_sizes.proofs.lemmas.RowsBelow.{counts-drop, length-counts}
use Rattle.tx_sizes.specs.Counts.{counts}
use Rattle.tx_map.proofs.walk.behind_at.Goals as goal

pub split_at-requires-2 : goal.split_at-requires-2
split_at-requires-2 c = omega (arith, ap length c.requires.below, length-counts c.args.rows.now, c.requires.within)

pub returns-clause-counts : goal.returns-clause-counts
returns-clause-counts c =
    c.split_at-2.ensures.back ∙ ap (drop (c.args.at + 1)) c.requires.below ∙ sym (counts-drop (c.args.at + 1) c.args.rows.now) ∙ ap counts (sym c.split_at.ensures.back)
