use Rattle.std.proofs.Common.{◌≡◌, ◌+◌, ◌-◌, min, length, replicate, sym, ap, ◌∙◌, arith}
use Rattle.std.proofs.lemmas.List.{length-replicate}
use Rattle.tx_cell.specs.Cell.{shown}
use Rattle.tx_widgets.proofs.CutLemmas.{doubled}
use Rattle.tx_widgets.proofs.drawing.pieces.copies.Goals as goal

pub doubling-preserved : goal.doubling-preserved
doubling-preserved c =
    let n = length c.doubling.strip in
    let all = c.in_ok-strip-2.ensures ∙ doubled n c.args.count c.args.text.now c.args.pen c.doubling.strip c.doubling.invariant.same in
    let long : length c.in_ok-strip-2.strip ≡ n + min n (c.args.count - n) =
    ap length all ∙ length-replicate (n + min n (c.args.count - n)) (shown c.args.text.now 1 c.args.pen) in
    record {
      same = all ∙ ap (λ k. replicate k (shown c.args.text.now 1 c.args.pen)) (sym long);
      some = omega (arith, long, c.doubling.invariant.some);
      few = omega (arith, long, c.doubling.invariant.few);
    }

pub returns : goal.returns
returns c =
    let full : length c.doubling.strip ≡ c.args.count = omega (arith, c.doubling-test.false, c.len.ensures.len, c.doubling.invariant.few) in
    c.doubling.invariant.same ∙ ap (λ k. replicate k (shown c.args.text.now 1 c.args.pen)) full
