use Rattle.std.proofs.Common.{◌/◌, ◌^◌, refl, arith}
use Rattle.std.specs.Int.{trailing_zeros, w128}
use Rattle.tx_grid.proofs.Bits.{no_start, first_start, past_last_start}
use Rattle.tx_grid.proofs.taken.next_open.Goals as goal

pub returns-then-starts-eq0 : goal.returns-then-starts-eq0
returns-then-starts-eq0 c =
    no_start c.args.row c.args.from c.args.width c.args.columns c.starts_of.result c.requires.columns c.starts_of.ensures c.if-starts-eq0.true

pub returns-then-column-width : goal.returns-then-column-width
returns-then-column-width c =
    first_start c.args.row c.args.from c.args.width c.args.columns c.starts_of.result (trailing_zeros w128 (c.starts_of.result / 2 ^ c.args.from))
    c.requires.columns c.starts_of.ensures (omega (arith, c.if-starts-eq0.false)) c.starts_of.type_inv refl c.if-column-width.true

pub returns-else-column-width : goal.returns-else-column-width
returns-else-column-width c =
    past_last_start c.args.row c.args.from c.args.width c.args.columns c.starts_of.result (trailing_zeros w128 (c.starts_of.result / 2 ^ c.args.from))
    c.requires.columns c.starts_of.ensures (omega (arith, c.if-starts-eq0.false)) c.starts_of.type_inv refl c.if-column-width.false
