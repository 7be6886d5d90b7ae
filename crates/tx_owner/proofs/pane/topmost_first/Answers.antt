use Rattle.std.proofs.Common.{rules, ap, subst, ◌≡◌, is_lt}
use Rattle.std.specs.Prelude.{IsPermutation}
use Rattle.std.specs.List.Sorted.{IsStableBy}
use Rattle.std.proofs.lemmas.List.Sorted.{answers_always}
use Rattle.tx_cascade.specs.Styles.{all_styles}
use Rattle.tx_owner.proofs.Topmost.{before, before-order, sorted_topmost}
use Rattle.tx_owner.proofs.pane.topmost_first.Goals as goal

pub returns : goal.returns
returns c =
    let ys = c.sort_by.new.self.items in
    let all = c.in_ok-all.ensures {u = tt} in
    let s = c.in_ok-sort_by.ensures {u = tt} in
    sorted_topmost (all_styles c.args.styles.now.sheet c.args.styles.now.state c.args.styles.now.rows) c.args.entries.now c.args.size ys
    (subst (λ xs. IsPermutation xs ys) all s.permutation)
    (s.sorted before before-order (answers_always _ _ _ (λ f a r g h. search rules)))
    (subst (λ xs. IsStableBy before xs ys) all (s.stable before before-order (answers_always _ _ _ (λ f a r g h. search rules))))
