use Rattle.std.proofs.Common.{◌≡◌, ◌∷◌, option_map, length, sym, ap, ◌∙◌, arith}
use Rattle.std.specs.Prelude.{filter}
use Rattle.std.specs.Option.{option_or}
use Rattle.tx_select.specs.Match.{last_row}
use Rattle.tx_tree.specs.Row.{plain}
use Rattle.tx_tree.specs.Walk.{rest_between}
use Rattle.tx_route.specs.Focus.{takes_focus}
use Rattle.tx_route.proofs.Steps.{at-end, nowhere, goes-on, goes-between, last-kept, last-dropped}
use Rattle.tx_route.proofs.focus.last_between.Goals as goal
use Rattle.tx_route.proofs.focus.last_between.Goals.{then-takes_focus, else-takes_focus}

pub returns-then-eq : goal.returns-then-eq
returns-then-eq g c =
    let rows = c.args.tree.now.rows in
    let test = takes_focus (g.S.Sight.frame c.args.sight.now) rows in
    let none = at-end rows c.in-Some.node c.loop-here.here c.args.end c.in-Some.is (sym c.eq.ensures ∙ c.if-eq.true) in
    ap (λ rs. option_or (option_map (λ row. row.node) (last_row (filter test rs))) c.loop-here.last) (sym none) ∙ c.loop-here.invariant.1

pub returns-in_default-row : goal.returns-in_default-row
returns-in_default-row g c =
    let rows = c.args.tree.now.rows in
    let test = takes_focus (g.S.Sight.frame c.args.sight.now) rows in
    let none = nowhere rows c.in-Some.node c.loop-here.here c.args.end c.in-Some.is (sym c.row.ensures ∙ ap (option_map (λ row. plain row.now)) c.in_default-row.is) in
    ap (λ rs. option_or (option_map (λ row. row.node) (last_row (filter test rs))) c.loop-here.last) (sym none) ∙ c.loop-here.invariant.1

pub loop-here-smaller : goal.loop-here-smaller
loop-here-smaller g c =
    let rows = c.args.tree.now.rows in
    let row = plain c.in-Some-row.row.now in
    let on = goes-on c.walk.ensures rows c.root-root.ensures.known.once c.in-Some.node c.loop-here.here c.next-here.result row c.in-Some.is
    (sym c.row.ensures ∙ ap (option_map (λ r. plain r.now)) c.in-Some-row.is) c.next-here.ensures in
    omega (arith, ap length on)

pub loop-here-preserved : goal.loop-here-preserved
loop-here-preserved g c =
    let rows = c.args.tree.now.rows in
    let test = takes_focus (g.S.Sight.frame c.args.sight.now) rows in
    let row = plain c.in-Some-row.row.now in
    let rest = rest_between c.next-here.result c.args.end rows in
    let on = goes-between c.walk.ensures rows c.root-root.ensures.known.once c.in-Some.node c.loop-here.here c.args.end c.next-here.result row c.in-Some.is
    (sym c.eq.ensures ∙ c.if-eq.false) (sym c.row.ensures ∙ ap (option_map (λ r. plain r.now)) c.in-Some-row.is) c.next-here.ensures in
    let step : option_or (option_map (λ r. r.node) (last_row (filter test rest))) c.if-takes_focus.last ≡ option_or (option_map (λ r. r.node) (last_row (filter test (row ∷ rest)))) c.loop-here.last = elim c.if-takes_focus.branch [
      | then-takes_focus w ↦ ap (option_or (option_map (λ r. r.node) (last_row (filter test rest)))) w.last-is ∙ last-kept test row rest c.loop-here.last (sym c.takes_focus.ensures.told ∙ w.if-takes_focus.true)
      | else-takes_focus w ↦ ap (option_or (option_map (λ r. r.node) (last_row (filter test rest)))) w.last-is ∙ last-dropped test row rest c.loop-here.last (sym c.takes_focus.ensures.told ∙ w.if-takes_focus.false)
    ] in
    (c.takes_focus.ensures.known, step ∙ (ap (λ rs. option_or (option_map (λ r. r.node) (last_row (filter test rs))) c.loop-here.last) (sym on) ∙ c.loop-here.invariant.1))
