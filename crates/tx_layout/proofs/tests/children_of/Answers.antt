use Rattle.std.proofs.Common.{◌≡◌, ◌≤◌, ◌+◌, ◌++◌, ◌∷◌, [], length, arith, refl}
use Rattle.std.proofs.lemmas.Grind.{common_steps}
use Rattle.std.proofs.lemmas.List.Elements.{All-push}
use Rattle.tx_layout.specs.Style.{IsBoxStyle}
use Rattle.tx_layout.proofs.Lists.{pushed_length}
use Rattle.tx_layout.proofs.tests.children_of.Goals as goal

pub loop-word-preserved : goal.loop-word-preserved
loop-word-preserved c =
    let i = c.loop-word.invariant in
    let b = c.in_ok-push.ensures {u = tt} in
    let x = c.child_of.result in
    let items = c.loop-word.children.items in
    let long : length (items ++ x ∷ []) ≡ length items + 1 = pushed_length items x (length items) refl in
    let count : length items ≤ 20 = i.count in
    record {
      styles = rw b.items (All-push IsBoxStyle items x i.styles c.child_of.ensures);
      count = rw b.items (first_of (omega arith, grind (arith, common_steps)));
    }
