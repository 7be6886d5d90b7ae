use Rattle.std.proofs.Common.{◌≡◌, ◌*◌, ◌++◌, List, [], ◌∷◌, length, sym, ap, subst, ◌∙◌, append_assoc}
use Rattle.tx_tree.specs.Row.{plain}
use Rattle.tx_tree.specs.declared.row.Row.{Row}
use Rattle.tx_node_map.specs.Held.{held}
use Rattle.tx_cascade.specs.Cascade.{up_from}
use Rattle.tx_cascade.specs.Matchers.{matchers_of}
use Rattle.tx_cascade.specs.Reaching.{selectors_in}
use Rattle.tx_cascade.specs.Styles.{styles_within, style_placed}
use Rattle.tx_value.specs.Style.{IsStyle}
use Rattle.tx_value.specs.declared.value.Value.{Value}
use Rattle.tx_cascade.proofs.Placing.{styled-whole, placed-is}
use Rattle.tx_cascade.proofs.StyleSteps.{found-row, above-held, placed-next, all-placed, tested-row, tested-next}
use Rattle.tx_cascade.proofs.Ticks.{untested, both-tested, more-tested}
use Rattle.tx_cascade.proofs.styles.styles_of.Goals as goal

pub loop-row-init : goal.loop-row-init
loop-row-init g c = record {
  done = [];
  whole = c.into_iter-row-iterator.ensures.into_iter_gives ∙ c.walk-row-items.ensures;
  made = c.new-styles.ensures.made;
  styles = c.new-styles.ensures.none;
  ticks = untested g.L.Ledger.ticked (selectors_in c.args.sheet.now * length {A = Row} []) c.args.steps.now.ledger;
}

pub style_among-requires-clause-there : goal.style_among-requires-clause-there
style_among-requires-clause-there g c =
    let row = plain c.in-Some.row.now in
    found-row c.args.tree.now.rows c.root-root.ensures.known.once c.loop-row.invariant.done c.next.new.self row
    (ap (λ (rs : List Row). c.loop-row.invariant.done ++ rs) (sym c.in-Some.ensures.steps) ∙ c.loop-row.invariant.whole)

pub style_among-requires-clause-above : goal.style_among-requires-clause-above
style_among-requires-clause-above g c =
    let row = plain c.in-Some.row.now in
    above-held c.args.tree.now.rows c.root-root.ensures.known.once c.args.sheet.now c.args.pseudo.now c.loop-row.invariant.done c.next.new.self row (style_placed c.loop-row.styles.made.items (held c.loop-row.styles.places))
    (ap (λ (rs : List Row). c.loop-row.invariant.done ++ rs) (sym c.in-Some.ensures.steps) ∙ c.loop-row.invariant.whole)
    (placed-is c.loop-row.styles.made.items (held c.loop-row.styles.places) (styles_within c.args.sheet.now c.args.pseudo.now c.args.tree.now.rows c.loop-row.invariant.done) c.loop-row.invariant.styles)

pub returns-in_err-style-clause-ticks : goal.returns-in_err-style-clause-ticks
returns-in_err-style-clause-ticks g c =
    more-tested (both-tested c.loop-row.invariant.ticks c.style_among.ensures.ticks)
    (tested-row (selectors_in c.args.sheet.now) c.loop-row.invariant.done c.next.new.self (plain c.in-Some.row.now) c.args.tree.now.rows
    (ap (λ (rs : List Row). c.loop-row.invariant.done ++ rs) (sym c.in-Some.ensures.steps) ∙ c.loop-row.invariant.whole))

pub returns-in_err-insert-clause-ticks : goal.returns-in_err-insert-clause-ticks
returns-in_err-insert-clause-ticks g c =
    more-tested (both-tested c.loop-row.invariant.ticks c.style_among.ensures.ticks)
    (tested-row (selectors_in c.args.sheet.now) c.loop-row.invariant.done c.next.new.self (plain c.in-Some.row.now) c.args.tree.now.rows
    (ap (λ (rs : List Row). c.loop-row.invariant.done ++ rs) (sym c.in-Some.ensures.steps) ∙ c.loop-row.invariant.whole))

pub loop-row-preserved : goal.loop-row-preserved
loop-row-preserved g c =
    let row = plain c.in-Some.row.now in
    let done = c.loop-row.invariant.done in
    let whole : done ++ (row ∷ c.next.new.self) ≡ c.args.tree.now.rows = ap (λ (rs : List Row). done ++ rs) (sym c.in-Some.ensures.steps) ∙ c.loop-row.invariant.whole in
    record {
      done = done ++ (row ∷ []);
      whole = append_assoc done (row ∷ []) c.next.new.self ∙ whole;
      made = c.insert.ensures.made;
      styles = placed-next c.args.tree.now.rows c.root-root.ensures.known.once c.args.sheet.now c.args.pseudo.now done c.next.new.self row c.in_ok-style.style c.insert.new.self.made.items (held c.insert.new.self.places)
          whole c.in_ok-style.ensures.exact (c.in_ok-insert.ensures.placed (styles_within c.args.sheet.now c.args.pseudo.now c.args.tree.now.rows done) c.loop-row.invariant.styles);
      ticks = more-tested (both-tested c.loop-row.invariant.ticks c.style_among.ensures.ticks) (tested-next (selectors_in c.args.sheet.now) done row);
    }

pub returns-clause-exact : goal.returns-clause-exact
returns-clause-exact g c =
    all-placed c.args.tree.now.rows c.root-root.ensures.known.once c.args.sheet.now c.args.pseudo.now c.loop-row.invariant.done c.loop-row.styles.made.items (held c.loop-row.styles.places)
    (ap (λ (rs : List Row). c.loop-row.invariant.done ++ rs) (sym c.in-None.ensures.steps.0) ∙ c.loop-row.invariant.whole) c.loop-row.invariant.styles

pub insert-requires-clause-style : goal.insert-requires-clause-style
insert-requires-clause-style g c =
    let rows = c.args.tree.now.rows in
    let row = plain c.in-Some.row.now in
    subst (λ (s : List Value). IsStyle s) (sym c.in_ok-style.ensures.exact) (styled-whole (matchers_of c.args.pseudo.now rows) c.args.sheet.now (up_from rows row.node.0))
