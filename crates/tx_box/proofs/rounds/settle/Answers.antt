use Rattle.std.proofs.Common.{◌∙◌, arith}
use Rattle.tx_box.proofs.Ends.{last-settled, loop_stops, loop_goes_on, loop_fails}
use Rattle.tx_box.proofs.rounds.settle.Goals as goal
use Rattle.tx_box.proofs.rounds.settle.Goals.{else-loop-count-test, then-loop-count-test+in_ok-rest+then-still-count}

pub returns-in_err-rest-clause-exact : goal.returns-in_err-rest-clause-exact
returns-in_err-rest-clause-exact c =
    let e = (c.in_err-rest.ensures {u = tt}).exact in
    let i = c.loop-count.invariant in
    rw c.from_residual.ensures (i.done ∙ loop_fails c.loop-count.count c.loop-count.left c.loop-count.parts (omega arith) e)

pub loop-count-smaller : goal.loop-count-smaller
loop-count-smaller c =
    let e = (c.in_ok-rest.ensures {u = tt}).exact in
    let i = c.loop-count.invariant in
    rw c.count_growing-still.ensures (loop_goes_on c.loop-count.count c.loop-count.left c.loop-count.parts c.follow.new.parts c.in_ok-rest.rest i.count (omega arith) e (λ same_count. omega arith)).1

pub loop-count-preserved : goal.loop-count-preserved
loop-count-preserved c =
    let e = c.in_ok-rest.ensures {u = tt} in
    let i = c.loop-count.invariant in
    record {
      done = i.done ∙ rw c.count_growing-still.ensures (loop_goes_on c.loop-count.count c.loop-count.left c.loop-count.parts c.follow.new.parts c.in_ok-rest.rest i.count (omega arith) e.exact (λ same_count. omega arith)).0;
      count = c.count_growing-still.ensures;
      parts = e.parts;
    }

pub returns-clause-exact : goal.returns-clause-exact
returns-clause-exact c =
    let i = c.loop-count.invariant in
    elim c.loop-count-test.branch [
      | else-loop-count-test w ↦ rw w.parts-is (i.done ∙ last-settled c.loop-count.count c.loop-count.left c.loop-count.parts (omega arith))
      | then-loop-count-test+in_ok-rest+then-still-count w ↦
          let e = (w.in_ok-rest.ensures {u = tt}).exact in
          let stop = loop_stops c.loop-count.count c.loop-count.left c.loop-count.parts w.follow.new.parts w.in_ok-rest.rest (omega arith) e (omega arith) in
          rw (w.parts-is, stop.1) (i.done ∙ stop.0)
    ]
