use Rattle.std.proofs.Common.{arith, ◌∙◌}
use Rattle.tx_io.proofs.SendingLemmas.{append_known-rest, drop-rest}
use Rattle.tx_io.proofs.send.send_all.Goals as goal

pub loop-rest-preserved : goal.loop-rest-preserved
loop-rest-preserved g c =
    let so_far = c.loop-rest.invariant in
    let put = c.in-Ok.ensures in
    let left = c.split_at.ensures.back in
    record {
      short = omega (arith, c.split_at.ensures.back_len);
      rest = drop-rest _ _ _ _ so_far.short put.within so_far.rest left;
      content = append_known-rest _ _ _ _ _ _ _ so_far.short put.within so_far.rest left so_far.content put.taken;
      quiet = put.quiet ∙ so_far.quiet;
    }
