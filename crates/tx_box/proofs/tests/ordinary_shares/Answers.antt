use Rattle.std.proofs.Common.{◌≡◌, ◌+◌, length, arith, length-append}
use Rattle.std.proofs.lemmas.List.Elements.{All-push}
use Rattle.tx_box.specs.Item.{IsSized}
use Rattle.tx_box.proofs.tests.ordinary_shares.Goals as goal

pub loop-index-preserved : goal.loop-index-preserved
loop-index-preserved c =
    let i = c.loop-index.invariant in
    let b = c.in_ok-push.ensures {u = tt} in
    let count = i.count in
    record {
      sized = rw b.items (All-push IsSized c.loop-index.items.items c.in-Some.share i.sized c.in-Some.ensures);
      count = rw b.items (simp length-append (omega arith));
    }
