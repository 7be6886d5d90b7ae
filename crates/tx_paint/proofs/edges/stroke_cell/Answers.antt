use Rattle.tx_paint.proofs.GlyphLemmas.{glyph-single}
use Rattle.tx_paint.proofs.edges.stroke_cell.Goals as goal

pub single-requires : goal.single-requires
single-requires c = record { single = rw c.glyph.ensures (glyph-single c.args.stroke.kind c.args.part c.args.stroke.pen) }
