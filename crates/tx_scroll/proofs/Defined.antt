-- A container has its bars where each trial is defined.
use Rattle.std.proofs.Common.{refl, Result, Ok, Err}
use Rattle.std.specs.Prelude.{IsOk}
use Rattle.tx_read.specs.Reading.{◌>>=◌}
use Rattle.tx_geom.specs.declared.choices.Axis.{Axis}
use Rattle.tx_geom.specs.declared.places.Size.{Size}
use Rattle.tx_layout.specs.declared.styles.Arrangement.{Arrangement}
use Rattle.tx_scroll.specs.Bars.{last_of, made, no_bar, outcome, viewport, with_bars}
use Rattle.tx_scroll.specs.Laws.{Arranges, DefinedWhereArranged}
use Rattle.tx_scroll.specs.declared.trials.Barred.{Barred}
use Rattle.tx_scroll.specs.declared.trials.Trial.{Trial}

with_ok : (content : Size) (trial : Trial) (r : Result Arrangement Axis) → IsOk r → IsOk (r >>= (λ arrangement. let b : Result Barred Axis = Ok (with_bars content trial arrangement) in b))
with_ok content trial (Ok arrangement) h = refl
with_ok content trial (Err axis) h = h

outcome_ok : (arrange : Arranges) (content : Size) (trial : Trial) → IsOk (arrange (viewport content trial)) → IsOk (outcome arrange content trial)
outcome_ok arrange content trial h = with_ok content trial (arrange (viewport content trial)) h

pub defined_where_arranged : DefinedWhereArranged
defined_where_arranged arrange x y content h = let trial = last_of no_bar (made arrange x y content) in outcome_ok arrange content trial (h trial)
