use Rattle.std.proofs.Common.{length, arith, ◌∙◌, sym, subst}
use Rattle.std.proofs.lemmas.List.Elements.{All-push}
use Rattle.tx_layout.specs.Children.{IsChild}
use Rattle.tx_layout.specs.Style.{IsBoxStyle}
use Rattle.tx_layout.proofs.Lists.{pushed_length}
use Rattle.tx_layout.proofs.Kept.{numbered_next}
use Rattle.tx_layout.proofs.layers.numbered_children.Goals as goal

pub loop-index-preserved : goal.loop-index-preserved
loop-index-preserved c =
    let i = c.loop-index.invariant in
    let b = c.in_ok-push.ensures {u = tt} in
    let s = c.index-styles-index.result in
    let n = length c.args.styles.now in
    let at = c.child_at.ensures in
    let one : IsChild n c.child_at.result = rw at (record {
      below = omega arith;
      style = subst IsBoxStyle (sym c.index-styles-index.is) (c.requires.styles c.loop-index.index s (omega arith));
      wide = record { from = omega arith; size = omega arith };
      tall = record { from = omega arith; size = omega arith };
    }) in
    record {
      done = rw b.items (i.done ∙ numbered_next c.args.styles.now c.loop-index.index s c.child_at.result c.loop-index.children.items (omega arith) c.index-styles-index.is at);
      children = rw b.items (All-push (IsChild n) c.loop-index.children.items c.child_at.result i.children one);
      count = rw b.items (pushed_length c.loop-index.children.items c.child_at.result c.loop-index.index i.count);
    }
