use Rattle.std.proofs.Common.{sym, ◌∙◌}
use Rattle.tx_select.proofs.Upwards.{climb-here, climb-above}
use Rattle.tx_select.proofs.climb.climbs_from.Goals as goal

pub returns-then-place_at : goal.returns-then-place_at
returns-then-place_at c = sym (climb-here _ _ _ _ _ c.open_last.ensures (sym c.place_at.ensures.placed ∙ c.if-place_at.true))

pub returns : goal.returns
returns c = c.climbs_on.ensures ∙ climb-above _ _ _ _ _ _ c.open_last.ensures (sym c.place_at.ensures.placed ∙ c.if-place_at.false) c.place_at.ensures.above
