use Rattle.std.proofs.Common.{◌≡◌, ℕ, ◌+◌, ◌^◌, sym, ap, ◌∙◌, subst, arith}
use Rattle.tx_geom.specs.Along.{region_of}
use Rattle.tx_geom.specs.Region.{corner}
use Rattle.tx_geom.specs.declared.places.Region.{Region}
use Rattle.tx_map.specs.Reach.{IsPlaceWithin, reach}
use Rattle.tx_map.proofs.Reaching.{clipped_within, more_within}
use Rattle.tx_sizes.specs.Forest.{depth}
use Rattle.tx_map.proofs.walk.frame_of.Goals as goal

pub returns-clause-near : goal.returns-clause-near
returns-clause-near c =
    let most = reach (depth c.args.own.now) + 2 ^ 16 in
    let at : c.of-viewport.result ≡ region_of (corner c.args.content) c.args.viewport = c.of-viewport.ensures ∙ ap (λ p. region_of p c.args.viewport) c.corner_of.ensures in
    let viewport : IsPlaceWithin most (corner c.of-viewport.result) = subst (λ (r : Region). IsPlaceWithin most (corner r)) (sym at) c.requires.near in
    let by : IsPlaceWithin most (corner c.args.by) = more_within (omega arith) c.requires.by_near in
    let shown : IsPlaceWithin most (corner c.clip.result) = subst (λ (r : Region). IsPlaceWithin most (corner r)) (sym c.clip.ensures.exact) (clipped_within c.of-viewport.result c.args.by viewport by) in
    record {
      viewport = subst (λ (d : ℕ). IsPlaceWithin (reach d + 2 ^ 16) (corner c.of-viewport.result)) (sym c.depth.ensures) viewport;
      clip = subst (λ (d : ℕ). IsPlaceWithin (reach d + 2 ^ 16) (corner c.clip.result)) (sym c.depth.ensures) shown;
    }
