use Rattle.std.proofs.Common.{◌≡◌, inl, inr, length, suc, arith}
use Rattle.tx_scroll.specs.Bars.{arranged_in}
use Rattle.tx_scroll.proofs.InOrder.{made-one, goes-on, tests-true}
use Rattle.tx_scroll.proofs.Ticking.{at-most-next, by-next, one-time}
use Rattle.tx_scroll.proofs.barring.+first_fit.Goals as goal
use Rattle.tx_scroll.proofs.barring.+first_fit.Goals.{then-is_empty-via-then-is_empty, then-is_empty-via-else-is_empty+then-fits}

pub returns-then-is_empty-clause-ticked : goal.returns-then-is_empty-clause-ticked
returns-then-is_empty-clause-ticked g t c meaning means =
    let a = arranged_in meaning c.args.kind c.args.grid.now c.args.align c.args.children.now c.args.screen in
    one-time g.L.Ledger.ticked _ c.args.steps.now.ledger c.tried.new.steps.ledger
    (
    made-one a c.args.x c.args.y c.args.content c.args.trials.now c.in-Some.trial.now c.in-Some.later.now c.in_ok-barred.barred c.in-Some.ensures.cases.0 (c.in_ok-barred.ensures.exact meaning means)
    (elim c.then-is_empty.branch [
      | then-is_empty-via-then-is_empty w ↦ inl (tests-true c.is_empty.result _ c.is_empty.ensures w.if-is_empty.true)
      | then-is_empty-via-else-is_empty+then-fits w ↦ inr (tests-true w.fits.result _ w.fits.ensures w.if-fits.true)
    ])
    )
    c.in_ok-barred.ensures.ticked

pub returns-clause-exact : goal.returns-clause-exact
returns-clause-exact g t c meaning means =
    let a = arranged_in meaning c.args.kind c.args.grid.now c.args.align c.args.children.now c.args.screen in
    let on = goes-on a c.args.x c.args.y c.args.content c.args.trials.now c.in-Some.trial.now c.in-Some.later.now c.in_ok-barred.barred c.in-Some.ensures.cases.0
    (c.in_ok-barred.ensures.exact meaning means) c.is_empty.result c.fits.result c.is_empty.ensures c.if-is_empty.false c.fits.ensures c.if-fits.false in
    rw on.outcome (c.first_fit.ensures.exact meaning means)

pub returns-clause-ticked : goal.returns-clause-ticked
returns-clause-ticked g t c meaning means =
    let a = arranged_in meaning c.args.kind c.args.grid.now c.args.align c.args.children.now c.args.screen in
    let on = goes-on a c.args.x c.args.y c.args.content c.args.trials.now c.in-Some.trial.now c.in-Some.later.now c.in_ok-barred.barred c.in-Some.ensures.cases.0
    (c.in_ok-barred.ensures.exact meaning means) c.is_empty.result c.fits.result c.is_empty.ensures c.if-is_empty.false c.fits.ensures c.if-fits.false in
    rw on.count
    (by-next g.L.Ledger.ticked c.first_fit.result _ c.args.steps.now.ledger c.tried.new.steps.ledger c.first_fit.new.steps.ledger c.in_ok-barred.ensures.ticked
    (c.first_fit.ensures.ticked meaning means))

pub returns-clause-few : goal.returns-clause-few
returns-clause-few g t c =
    let all : length c.args.trials.now ≡ suc (length c.in-Some.later.now) = omega (arith, c.in-Some.ensures.cases.1) in
    rw all (at-most-next g.L.Ledger.ticked _ c.args.steps.now.ledger c.tried.new.steps.ledger c.first_fit.new.steps.ledger c.in_ok-barred.ensures.ticked c.first_fit.ensures.few)
