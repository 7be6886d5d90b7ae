use Rattle.std.proofs.Common.{◌≡◌, ap, sym, ◌∙◌, ◌++◌, ◌∷◌, []}
use Rattle.tx_cell.specs.Grid.{GridValue, filled}
use Rattle.tx_compose.specs.Screen.{ScreenValue}
use Rattle.tx_app.specs.FirstShown.{at_first, first_shown}
use Rattle.tx_app.proofs.CourseLemmas.{Does-shown, Does-unbegun}
use Rattle.tx_app.proofs.run.show.Goals as goal

pub returns-then-is_err-clause-does : goal.returns-then-is_err-clause-does
returns-then-is_err-clause-does g c = Does-unbegun _ _ _ (c.try_reserve.ensures.items ∙ c.requires.empty)

pub returns-in-Err-clause-does : goal.returns-in-Err-clause-does
returns-in-Err-clause-does g c = Does-unbegun _ _ _ (c.try_reserve.ensures.items ∙ c.requires.empty)

pub returns-in-Err-open-clause-does : goal.returns-in-Err-open-clause-does
returns-in-Err-open-clause-does g c = Does-unbegun _ _ _ (c.try_reserve.ensures.items ∙ c.requires.empty)

pub refresh-entry-requires-clause-blank : goal.refresh-entry-requires-clause-blank
unfolding at_first
refresh-entry-requires-clause-blank g c =
    let whole : c.in-Ok.shown ≡ at_first c.args.size = c.in-Ok.ensures.grid ∙ ap (filled c.args.size) c.blank.ensures.cell in
    whole ∙ ap at_first (sym (ap (λ (grid : GridValue). grid.size) whole))

pub returns-clause-does : goal.returns-clause-does
returns-clause-does g c =
    let rows = c.args.tree.now.rows in
    let size : c.in-Ok.shown.size ≡ c.args.size = ap (λ (grid : GridValue). grid.size) c.in-Ok.ensures.grid in
    let same : first_shown rows c.in-Ok-open.screen.sheet c.in-Ok.shown.size ≡ first_shown rows c.args.sheet c.args.size =
    ap (λ (s : ScreenValue). first_shown rows s.sheet c.in-Ok.shown.size) c.in-Ok-open.ensures ∙ ap (first_shown rows c.args.sheet) size in
    let journal = c.in-Ok-push.ensures.items ∙ ap (λ items. items ++ c.refresh-entry.result ∷ []) (c.try_reserve.ensures.items ∙ c.requires.empty) in
    Does-shown _ _ _ _ _ _ c.refresh-entry.result c.send_closing-closed.result _ same journal c.refresh-entry.ensures.refreshes c.send_closing-closed.ensures c.end_cause.ensures
