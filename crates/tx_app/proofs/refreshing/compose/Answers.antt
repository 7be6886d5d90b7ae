use Rattle.tx_opening.specs.OpeningState.{opening_state}
use Rattle.tx_app.proofs.ShownLemmas.{Gives-unscrolled}
use Rattle.tx_app.proofs.refreshing.compose.Goals as goal

pub returns-clause-exact : goal.returns-clause-exact
returns-clause-exact c = λ d.
    Gives-unscrolled _ d.refresh.result d.args.screen.now.sheet d.args.tree.now.rows d.opening_state-pseudo.result (opening_state d.args.tree.now.rows)
    d.new-scrolls.result d.args.size d.opening_state-pseudo.ensures d.new-scrolls.ensures d.refresh.ensures.exact
