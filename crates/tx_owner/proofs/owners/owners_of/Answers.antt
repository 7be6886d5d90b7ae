use Rattle.std.proofs.Common.{◌∙◌, ap, map}
use Rattle.std.specs.List.{range_with_len}
use Rattle.tx_cascade.specs.Styles.{all_styles}
use Rattle.tx_owner.specs.Owner.{line_owners, owner}
use Rattle.tx_owner.specs.Panes.{first_at}
use Rattle.tx_owner.proofs.Ranges.{same_places}
use Rattle.tx_owner.proofs.owners.owners_of.Goals as goal

pub returns : goal.returns
returns c =
    let styles = all_styles c.args.styles.now.sheet c.args.styles.now.state c.args.styles.now.rows in
    let entries = c.args.entries.now in
    let size = c.args.size in
    let first = c.in_ok-panes.ensures {u = tt} in
    c.in_ok-lines.ensures {u = tt}
    ∙ (ap (λ all. map (λ y. map (λ x. first_at x y all) (range_with_len 0 size.width)) (range_with_len 0 size.height)) c.deref.ensures.value
    ∙ same_places (λ y. map (λ x. first_at x y c.in_ok-panes.panes.items) (range_with_len 0 size.width)) (λ y. line_owners styles entries size.width y) size.height
    (λ y tall. same_places (λ x. first_at x y c.in_ok-panes.panes.items) (λ x. owner styles entries x y) size.width (λ x wide. first x y wide tall)))
