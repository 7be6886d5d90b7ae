use Rattle.std.proofs.Common.{sym, ◌∙◌}
use Rattle.tx_select.proofs.Upwards.{none-placed, placed-here, placed-above, placed-nowhere}
use Rattle.tx_select.proofs.climb.climbs_on.Goals as goal

pub returns-then-not-some_open : goal.returns-then-not-some_open
returns-then-not-some_open c = sym (none-placed _ _ _ _ (sym c.some_open.ensures ∙ c.if-not-some_open.true)) ∙ c.loop-row.invariant

pub returns-then-place_at : goal.returns-then-place_at
returns-then-place_at c = sym (placed-here _ _ _ _ _ _ c.in-Some.ensures.steps (sym c.place_at.ensures.placed ∙ c.if-place_at.true)) ∙ c.loop-row.invariant

pub loop-row-preserved : goal.loop-row-preserved
loop-row-preserved c = placed-above _ _ _ _ _ _ _ c.in-Some.ensures.steps (sym c.place_at.ensures.placed ∙ c.if-place_at.false) c.place_at.ensures.above ∙ c.loop-row.invariant

pub returns : goal.returns
returns c = sym (placed-nowhere _ _ _ _ c.in-None.ensures.steps.0) ∙ c.loop-row.invariant
