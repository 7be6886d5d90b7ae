use Rattle.std.proofs.Common.{◌+◌, get_or, subst, sym, refl}
use Rattle.tx_grid.specs.declared.places.Spans.{Spans}
use Rattle.tx_grid.specs.Taken.{StandsOpen}
use Rattle.tx_grid.proofs.Steps.{ArePlaced, placed_more, cut_are_spans}
use Rattle.tx_grid.proofs.placing.stand.Goals as goal

pub loop-asked-preserved : goal.loop-asked-preserved
loop-asked-preserved c =
    let none : Spans = record { columns = 0; rows = 0 } in
    let asked = get_or c.args.spans.now c.loop-asked.asked-index none in
    subst (λ p. ArePlaced c.args.columns c.args.rows c.args.spans.now (c.loop-asked.asked-index + 1) p c.place_next.new.taken.items c.place_next.new.known.items)
    (sym c.in_ok-push.ensures.items)
    (placed_more c.args.columns c.args.rows c.args.spans.now c.loop-asked.asked-index c.loop-asked.places.items c.loop-asked.taken.items c.place_next.new.taken.items
    c.loop-asked.known.items c.place_next.new.known.items asked none c.in_ok-place.place c.loop-asked-test.true refl
    (cut_are_spans c.args.columns c.args.rows asked c.requires.columns c.requires.rows (c.requires.spans c.loop-asked.asked-index none c.loop-asked-test.true))
    (subst (λ s. StandsOpen c.args.columns c.args.rows c.loop-asked.taken.items s c.in_ok-place.place) c.cut_span-span.ensures c.in_ok-place.ensures.stands)
    c.in_ok-place.ensures.adds c.in_ok-place.ensures.board c.in_ok-place.ensures.length c.loop-asked.invariant)
