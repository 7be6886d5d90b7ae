use Rattle.std.proofs.Common.{◌≡◌, ◌+◌, ◌^◌, ◌≤◌, sym, ap, ◌∙◌, subst, arith}
use Rattle.tx_geom.specs.Region.{IsNearPlace, corner, moved}
use Rattle.tx_geom.specs.declared.places.Offset.{Offset}
use Rattle.tx_geom.specs.declared.places.Region.{Region}
use Rattle.tx_map.specs.Reach.{IsPlaceWithin, reach}
use Rattle.tx_map.proofs.Reaching.{near, moved_within, child_within, more_within, in_reach}
use Rattle.tx_sizes.specs.Forest.{depth}
use Rattle.tx_map.proofs.places.child_region.Goals as goal

pub translate-requires-2-clause-near : goal.translate-requires-2-clause-near
translate-requires-2-clause-near c =
    let first : IsPlaceWithin (2 ^ 53) (corner c.translate.result) =
    subst (λ (r : Region). IsPlaceWithin (2 ^ 53) (corner r)) (sym (c.translate.ensures.fields ∙ ap (moved c.args.region) c.corner_of-viewport.ensures))
    (moved_within c.args.frame.depth c.args.region c.args.frame.viewport (omega (arith, c.requires.deeper, c.requires.deep)) (in_reach c.args.region c.requires.region) c.requires.near.viewport) in
    near (omega arith) first

pub returns-clause-near : goal.returns-clause-near
returns-clause-near c =
    let e = depth c.args.own.now in
    let d = c.args.frame.depth in
    let whole : c.translate-2.result ≡ moved (moved c.args.region (corner c.args.frame.viewport)) c.scrolled_by-scrolled.result =
    c.translate-2.ensures.fields ∙ ap (λ r. moved r c.scrolled_by-scrolled.result) (c.translate.ensures.fields ∙ ap (moved c.args.region) c.corner_of-viewport.ensures) in
    record {
      region = subst (λ (r : Region). IsPlaceWithin (reach e) (corner r)) (sym whole)
          (child_within d e c.args.region c.args.frame.viewport c.scrolled_by-scrolled.result c.requires.deeper (in_reach c.args.region c.requires.region) c.requires.near.viewport c.scrolled_by-scrolled.ensures.near);
      clip = more_within (omega (arith, c.requires.deeper)) c.requires.near.clip;
    }

pub translate-requires-clause-by_near : goal.translate-requires-clause-by_near
translate-requires-clause-by_near c =
    let most : reach c.args.frame.depth + 2 ^ 16 ≤ 2 ^ 61 = omega (arith, c.requires.deeper, c.requires.deep) in
    subst (λ (p : Offset). IsNearPlace p) (sym c.corner_of-viewport.ensures) (near most c.requires.near.viewport)
