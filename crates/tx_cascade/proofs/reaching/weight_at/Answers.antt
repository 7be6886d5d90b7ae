use Rattle.std.proofs.Common.{◌≡◌, map, filter, None, sym, ap, ◌∙◌, arith}
use Rattle.std.specs.List.{fold}
use Rattle.tx_cascade.specs.Key.{weight_parts, greater}
use Rattle.tx_cascade.specs.Reaching.{weight}
use Rattle.tx_cascade.specs.Matchers.{matchers_of}
use Rattle.tx_cascade.proofs.Greatest.{weighed, fold-greatest, fold-weighed, fold-step, fold-end, weighed-match, weighed-other}
use Rattle.tx_cascade.proofs.Ticks.{both-tested}
use Rattle.tx_cascade.proofs.reaching.weight_at.Goals as goal
use Rattle.tx_cascade.proofs.reaching.weight_at.Goals.{then-is_match, else-is_match}

pub loop-selector-preserved : goal.loop-selector-preserved
loop-selector-preserved g c =
    let test = matchers_of c.args.pseudo.now c.args.tree.now.rows c.args.node.0 in
    let best = c.loop-selector.best in
    let item = c.selector-item.result in
    let next : weighed test best item ≡ c.if-is_match.best = elim c.if-is_match.branch [
      | then-is_match w ↦
          weighed-match test best item (sym c.is_match.ensures.exact ∙ w.if-is_match.true)
          ∙ (ap (λ x. greater weight_parts best x) (sym w.weight.ensures) ∙ (sym w.heavier-best.ensures ∙ sym w.best-is))
      | else-is_match w ↦ weighed-other test best item (sym c.is_match.ensures.exact ∙ w.if-is_match.false) ∙ sym w.best-is
    ] in
    record {
      best = fold-step (weighed test) c.args.selectors.now c.loop-selector.selector-index item best c.if-is_match.best (fold (weighed test) None c.args.selectors.now) (omega arith) c.selector-item.is next c.loop-selector.invariant.best;
      ticks = both-tested c.loop-selector.invariant.ticks c.is_match.ensures.ticks;
    }

pub returns-clause-exact : goal.returns-clause-exact
returns-clause-exact g c =
    let test = matchers_of c.args.pseudo.now c.args.tree.now.rows c.args.node.0 in
    fold-end (weighed test) c.args.selectors.now c.loop-selector.selector-index c.loop-selector.best (fold (weighed test) None c.args.selectors.now) (omega arith) c.loop-selector.invariant.best
    ∙ (fold-weighed test None c.args.selectors.now ∙ fold-greatest weight_parts (map weight (filter (λ selector. test selector.compounds) c.args.selectors.now)))
