use Rattle.std.proofs.Common.{reverse, sym, ap, ◌∙◌}
use Rattle.std.specs.Prelude.{option_map}
use Rattle.std.specs.Option.{option_or}
use Rattle.tx_tree.specs.Row.{plain}
use Rattle.tx_tree.specs.Rows.{ancestors_of}
use Rattle.tx_route.specs.Pressing.{priority_on}
use Rattle.tx_route.proofs.Paths.{priority-begin, priority-up}
use Rattle.tx_route.proofs.pressing.priority_on_path.Goals as goal

pub loop-above-init : goal.loop-above-init
loop-above-init c =
    ap (λ rows. option_or (priority_on c.args.key (reverse rows)) c.own_or-first.result) (c.into_iter-above-iterator.ensures.into_iter_gives ∙ c.ancestors-above-items.ensures)
    ∙ (ap (option_or (priority_on c.args.key (reverse (ancestors_of c.args.node.0 c.args.tree.now.rows)))) c.own_or-first.ensures
    ∙ priority-begin c.args.key c.args.node.0 c.args.tree.now.rows (plain c.in-Some.row.now) (sym c.row.ensures ∙ ap (option_map (λ row. plain row.now)) c.in-Some.is))

pub loop-above-preserved : goal.loop-above-preserved
loop-above-preserved c =
    ap (option_or (priority_on c.args.key (reverse c.next.new.self))) c.own_or-first-in-loop-above.ensures
    ∙ (sym (priority-up c.args.key (plain c.in-Some-above.above.now) c.next.new.self c.loop-above.first)
    ∙ (ap (λ rows. option_or (priority_on c.args.key (reverse rows)) c.loop-above.first) (sym c.in-Some-above.ensures.steps) ∙ c.loop-above.invariant))

pub returns : goal.returns
unfolding priority_on
returns c =
    ap (λ rows. option_or (priority_on c.args.key (reverse rows)) c.loop-above.first) (sym c.in-None.ensures.steps.0) ∙ c.loop-above.invariant
