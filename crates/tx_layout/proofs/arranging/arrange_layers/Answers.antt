use Rattle.std.proofs.Common.{◌≡◌, ◌∷◌, arith}
use Rattle.std.proofs.lemmas.List.Elements.{All-drop}
use Rattle.tx_layout.specs.Children.{IsChild, runs}
use Rattle.tx_layout.proofs.Lists.{answered, reached_next, reached_none, reached_told}
use Rattle.tx_layout.proofs.arranging.arrange_layers.Goals as goal

pub loop-rest-init : goal.loop-rest-init
loop-rest-init g c = record {
  done = λ meaning means. reached_none _ _ _ _ c.requires.empty;
  children = c.requires.children;
  count = c.requires.count;
  near = c.requires.near;
  places = c.requires.places;
}

pub returns-in-Err-clause-exact : goal.returns-in-Err-clause-exact
returns-in-Err-clause-exact g c meaning means =
    let r = c.loop-rest.invariant.done meaning means in
    let cut : runs c.loop-rest.rest.now ≡ c.split_at.result.0.now ∷ runs c.split_at.result.1.now = rw (c.split_at.ensures.front, c.split_at.ensures.back) c.layer_len.ensures.cut in
    reached_told _ _ _ _ _ _ _ _ _ r cut ((c.in-Err.ensures {u = tt}).exact meaning means r.done r.is)

pub loop-rest-preserved : goal.loop-rest-preserved
loop-rest-preserved g c =
    let cut : runs c.loop-rest.rest.now ≡ c.split_at.result.0.now ∷ runs c.split_at.result.1.now = rw (c.split_at.ensures.front, c.split_at.ensures.back) c.layer_len.ensures.cut in
    let back = c.split_at.ensures.back_len in
    let count = c.loop-rest.invariant.count in
    record {
      done = λ meaning means.
          let r = c.loop-rest.invariant.done meaning means in
          reached_next _ _ _ _ _ _ _ _ r cut (answered _ _ _ ((c.in-Ok.ensures {u = tt}).exact meaning means r.done r.is));
      children = rw c.split_at.ensures.back (All-drop (IsChild c.args.setting.count) c.layer_len.result c.loop-rest.rest.now c.loop-rest.invariant.children);
      count = omega arith;
      near = (c.in-Ok.ensures {u = tt}).near;
      places = (c.in-Ok.ensures {u = tt}).places;
    }
