use Rattle.std.proofs.Common.{Ok, ap, sym, ◌∙◌, refl}
use Rattle.tx_compose.specs.Presented.{composed}
use Rattle.tx_app.specs.FirstShown.{first_shown}
use Rattle.tx_app.proofs.CourseLemmas.{Refreshes-made, Refreshes-undefined}
use Rattle.tx_app.proofs.ShownLemmas.{tells-fraction}
use Rattle.tx_app.proofs.refreshing.refresh.Goals as goal

pub returns-in-Ok-clause-refreshes : goal.returns-in-Ok-clause-refreshes
returns-in-Ok-clause-refreshes g c =
    Refreshes-made _ _ _ _ _ c.present.result _ c.requires.limits c.size.ensures.shape c.size-size.ensures.shape c.requires.blank
    (ap (λ s. composed (first_shown c.args.tree.now.rows c.args.screen.now.sheet s)) (sym c.size.ensures.size) ∙ c.in-Ok.ensures.exact ∙ ap Ok (sym c.next-next.ensures))
    c.present.ensures.sent c.entry_of.ensures

pub returns-in-Err-Fraction-clause-refreshes : goal.returns-in-Err-Fraction-clause-refreshes
returns-in-Err-Fraction-clause-refreshes g c =
    Refreshes-undefined _ _ c.in-Err-Fraction.node c.in-Err-Fraction.axis _
    (ap (λ s. composed (first_shown c.args.tree.now.rows c.args.screen.now.sheet s)) (sym c.size.ensures.size) ∙ tells-fraction _ c.in-Err-Fraction.node c.in-Err-Fraction.axis _ c.in-Err-Fraction.field-0-is c.in-Err-Fraction.ensures.exact) refl
