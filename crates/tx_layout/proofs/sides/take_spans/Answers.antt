use Rattle.std.proofs.Common.{◌∙◌, arith, ap, sym}
use Rattle.std.proofs.lemmas.List.{length-set}
use Rattle.std.proofs.lemmas.List.Elements.{All-set}
use Rattle.tx_layout.specs.Children.{IsChild}
use Rattle.tx_layout.specs.Sides.{with_side}
use Rattle.tx_layout.proofs.Spans.{spans_written, spans_all}
use Rattle.tx_layout.proofs.sides.take_spans.Goals as goal

pub loop-index-preserved : goal.loop-index-preserved
loop-index-preserved c =
    let i = c.loop-index.invariant in
    let s = c.side_of.ensures in
    let w = c.with_side.ensures in
    let child = c.index-children-index.result in
    let xs = c.loop-index.children in
    let n = c.loop-index.index in
    let y = c.with_side.result in
    record {
      done = i.done ∙ spans_written c.args.axis xs c.args.spans.now n child y _ (omega arith) c.index-children-index.is (omega arith) (w.exact ∙ (ap (with_side c.args.axis c.side_of.result) (sym c.index-children-index.is) ∙ ap (λ side. with_side c.args.axis side child) s.exact));
      children = All-set (IsChild c.args.count) xs n y w.child i.children;
      count = length-set xs n y ∙ i.count;
    }

pub returns-clause-exact : goal.returns-clause-exact
returns-clause-exact c = sym (c.loop-index.invariant.done ∙ spans_all c.args.axis c.loop-index.children c.args.spans.now c.loop-index.index (omega arith))
