use Rattle.std.proofs.Common.{◌≡◌, ℕ, ◌+◌, ◌*◌, ◌<◌, ◌∙◌, [], ◌∷◌, All, ap, refl, subst, sym, length, length-append, arith}
use Rattle.std.proofs.lemmas.List.Elements.{All-push}
use Rattle.std.specs.Prelude.{slice_index}
use Rattle.tx_box.specs.Shape.{EndsBy, IsSpan}
use Rattle.tx_box.proofs.Passes.{spans_next}
use Rattle.tx_box.proofs.Places.{ends_later, gap_at, steps_within, up_to_more}
use Rattle.tx_box.proofs.axes.place.Goals as goal

pub loop-index-preserved : goal.loop-index-preserved
loop-index-preserved c =
    let i = c.loop-index.invariant in
    let a = c.in-Some.ensures {u = tt} in
    let b = c.in_ok-push.ensures {u = tt} in
    let within : c.loop-index.index < length c.args.parts.now = c.loop-index-test.true in
    let gap_within : c.loop-index.index + 1 < length c.args.gaps.now = omega arith in
    record {
      done = rw b.items (i.done ∙ spans_next c.loop-index.from c.in-Some.placed.1 c.loop-index.index c.args.parts.now c.args.gaps.now c.loop-index.spans.items
          c.index-parts-index.result c.settled.result _ c.in-Some.placed.0 within gap_within c.index-parts-index.is refl c.settled.ensures.size (sym a.exact));
      place = (up_to_more _ _ c.in-Some.placed.1 (omega arith) (a.next (4294967296 + 8589934592 * c.loop-index.index) i.place));
      cells = rw b.items (All-push IsSpan c.loop-index.spans.items c.in-Some.placed.0 i.cells a.span);
      reach = λ most h.
          up_to_more (most + (65535 + most) * c.loop-index.index + 65535 + slice_index c.args.gaps.now (c.loop-index.index + 1)) (most + (65535 + most) * (c.loop-index.index + 1)) c.in-Some.placed.1
          (let g = gap_at c.args.gaps.now (c.loop-index.index + 1) most gap_within h in omega arith)
          (a.next (most + (65535 + most) * c.loop-index.index) (i.reach most h));
      near = λ most h.
          rw b.items (All-push (EndsBy ((65535 + most) * length c.args.parts.now)) c.loop-index.spans.items c.in-Some.placed.0 (i.near most h)
          (ends_later _ _ c.in-Some.placed.0 (steps_within most c.loop-index.index (length c.args.parts.now) within)
          (a.near (most + (65535 + most) * c.loop-index.index) (i.reach most h))));
      count = rw b.items (length-append c.loop-index.spans.items (c.in-Some.placed.0 ∷ []) ∙ ap (λ n. n + 1) i.count);
    }

pub returns-clause-near : goal.returns-clause-near
returns-clause-near c =
    let i = c.loop-index.invariant in
    let same : length c.args.parts.now ≡ length c.loop-index.spans.items = omega (arith, i.count, c.loop-index.auto.index-end, c.loop-index-test.false) in
    λ most h. subst (λ (n : ℕ). All (EndsBy ((65535 + most) * n)) c.loop-index.spans.items) same (i.near most h)
