use Rattle.std.proofs.Common.{length, drop, slice_index, sym, ap, ◌∙◌, arith}
use Rattle.std.proofs.lemmas.List.{length-drop}
use Rattle.tx_sizes.proofs.lemmas.RowsBelow.{counts-drop, length-counts}
use Rattle.tx_sizes.specs.Counts.{counts}
use Rattle.tx_map.proofs.barring.fn.bars_beside.answer.Goals as goal

pub rows_from-requires : goal.rows_from-requires
rows_from-requires c = let h = c.requires.1 c.args.ask.child 0 c.requires.0 in omega (arith, h)

pub counts_from-requires : goal.counts_from-requires
counts_from-requires c =
    let h = c.requires.1 c.args.ask.child 0 c.requires.0 in
    omega (arith, h, ap length c.requires.2, length-counts c.captures.rows.now)

pub measure-requires : goal.measure-requires
measure-requires c =
    let rows = c.captures.rows.now in
    let start = slice_index c.captures.starts.now c.args.ask.child in
    let h = c.requires.1 c.args.ask.child 0 c.requires.0 in
    let long = length-drop start rows in
    record {
      some = rw c.rows_from.ensures (omega (arith, h, long));
      below = c.counts_from.ensures ∙ ap (drop start) c.requires.2 ∙ sym (counts-drop start rows) ∙ ap counts (sym c.rows_from.ensures);
      few = rw c.rows_from.ensures (omega (arith, long, c.requires.3));
    }
