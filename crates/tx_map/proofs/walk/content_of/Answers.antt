use Rattle.std.proofs.Common.{◌+◌, ◌^◌, ◌≤◌, sym, ap, ◌∙◌, subst, arith}
use Rattle.tx_geom.specs.Region.{corner}
use Rattle.tx_geom.specs.declared.places.Region.{Region}
use Rattle.tx_geom.specs.declared.places.Spacing.{Spacing}
use Rattle.tx_look.specs.Content.{content_region}
use Rattle.tx_map.specs.Reach.{IsPlaceWithin, reach}
use Rattle.tx_map.proofs.Reaching.{inside_within}
use Rattle.tx_sizes.specs.Forest.{depth}
use Rattle.tx_value.specs.StyleReads.{gutter}
use Rattle.tx_map.proofs.walk.content_of.Goals as goal

pub returns-clause-near : goal.returns-clause-near
returns-clause-near c =
    let own = c.args.own.now.style in
    let exact = c.gutter_of-gutter.ensures.exact ∙ ap gutter c.style.ensures in
    let left : (gutter own).left ≤ 2 ^ 16 = omega (arith, c.gutter_of-gutter.ensures.left, ap (λ (s : Spacing). s.left) exact) in
    let top : (gutter own).top ≤ 2 ^ 16 = omega (arith, c.gutter_of-gutter.ensures.top, ap (λ (s : Spacing). s.top) exact) in
    subst (λ (r : Region). IsPlaceWithin (reach (depth c.args.own.now) + 2 ^ 16) (corner r)) (sym (c.content_region.ensures ∙ ap (λ s. content_region s c.args.region) c.style-2.ensures))
    (inside_within (gutter own).left (gutter own).top left top c.requires.near)
