use Rattle.tx_paint.proofs.GlyphLemmas.{thumb-single, track-single}
use Rattle.tx_paint.proofs.bars.bar_at.Goals as goal

pub single-requires : goal.single-requires
single-requires c = record { single = thumb-single c.args.pen }

pub single-requires-else-is_thumb : goal.single-requires-else-is_thumb
single-requires-else-is_thumb c = record { single = track-single c.args.pen }
