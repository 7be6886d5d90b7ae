use Rattle.std.proofs.Common.{◌≡◌, take, sym, ap, ◌∙◌, arith}
use Rattle.tx_cell.specs.Wrap.{trimmed}
use Rattle.tx_cell.proofs.WrapLemmas.{trimmed-step, trimmed-done}
use Rattle.tx_cell.proofs.wrapping.trimmed.Goals as goal
use Rattle.tx_cell.proofs.wrapping.trimmed.Goals.{then-loop-end-test+else-is_blank, else-loop-end-test}

pub loop-end-preserved : goal.loop-end-preserved
loop-end-preserved c = record {
  inside = omega (arith, c.loop-end.invariant.inside);
  same = trimmed-step c.args.cells.now c.loop-end.end c.index-cells-end.result c.loop-end-test.true c.loop-end.invariant.inside c.index-cells-end.is (sym c.is_blank.ensures ∙ c.if-is_blank.true)
      ∙ c.loop-end.invariant.same;
}

pub returns : goal.returns
returns c = elim c.loop-end-test.branch [
  | then-loop-end-test+else-is_blank w ↦
      sym (trimmed-done c.args.cells.now c.loop-end.end w.index-cells-end.result w.loop-end-test.true c.loop-end.invariant.inside w.index-cells-end.is (sym w.is_blank.ensures ∙ w.if-is_blank.false))
      ∙ c.loop-end.invariant.same
  | else-loop-end-test w ↦
      let none : c.loop-end.end ≡ 0 = omega arith in
      ap (λ n. take n c.args.cells.now) none ∙ sym (ap (λ n. trimmed (take n c.args.cells.now)) none) ∙ c.loop-end.invariant.same
]
