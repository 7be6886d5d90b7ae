use Rattle.std.proofs.Common.{◌∙◌, ap, get_or, length, arith}
use Rattle.std.specs.Prelude.{Option}
use Rattle.std.proofs.lemmas.List.FromFn.{get_or-map-range_with_len, length-map-range_with_len}
use Rattle.tx_cascade.specs.Styles.{all_styles}
use Rattle.tx_owner.specs.Owner.{line_owners, owner}
use Rattle.tx_owner.proofs.owners.Owners.of.Goals as goal

pub spots_of-requires-clause-lines : goal.spots_of-requires-clause-lines
spots_of-requires-clause-lines c =
    let styles = all_styles c.args.styles.now.sheet c.args.styles.now.state c.args.styles.now.rows in
    let entries = c.entries.result.now in
    ap (λ l. length l) (c.deref.ensures.value ∙ c.in_ok-lines.ensures {u = tt})
    ∙ length-map-range_with_len (λ y. line_owners styles entries c.args.size.width y) 0 c.args.size.height

pub spots_of-requires-clause-cells : goal.spots_of-requires-clause-cells
spots_of-requires-clause-cells c = λ k d within.
    let styles = all_styles c.args.styles.now.sheet c.args.styles.now.state c.args.styles.now.rows in
    let entries = c.entries.result.now in
    let lines = c.deref.ensures.value ∙ c.in_ok-lines.ensures {u = tt} in
    let long = ap (λ l. length l) lines ∙ length-map-range_with_len (λ y. line_owners styles entries c.args.size.width y) 0 c.args.size.height in
    ap (λ l. length (get_or l k d)) lines
    ∙ (ap (λ l. length l) (get_or-map-range_with_len (λ y. line_owners styles entries c.args.size.width y) 0 c.args.size.height k k d (omega (arith, long, within)) (omega arith))
    ∙ length-map-range_with_len (λ x. owner styles entries x k) 0 c.args.size.width)
