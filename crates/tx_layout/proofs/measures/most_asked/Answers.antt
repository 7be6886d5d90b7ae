use Rattle.std.proofs.Common.{◌≡◌, [], ◌∷◌, ◌++◌, ◌∙◌, sym, ap, refl, arith}
use Rattle.std.specs.Prelude.{max}
use Rattle.std.proofs.lemmas.List.Elements.{All-drop}
use Rattle.tx_layout.specs.Children.{IsChild, runs}
use Rattle.tx_layout.specs.Room.{greatest}
use Rattle.tx_layout.proofs.Greatest.{greatest_push}
use Rattle.tx_layout.proofs.Lists.{reached_next, reached_none, reached_stops}
use Rattle.tx_layout.proofs.measures.most_asked.Goals as goal

pub loop-rest-init : goal.loop-rest-init
loop-rest-init g c = record {
  done = λ meaning means. reached_none _ _ _ _ refl;
  children = c.requires.children;
  count = c.requires.count;
}

pub returns-in-Err : goal.returns-in-Err
returns-in-Err g c meaning means =
    let r = c.loop-rest.invariant.done meaning means in
    let cut : runs c.loop-rest.rest.now ≡ c.split_at.result.0.now ∷ runs c.split_at.result.1.now = rw (c.split_at.ensures.front, c.split_at.ensures.back) c.layer_len.ensures.cut in
    reached_stops _ _ _ _ _ _ _ _ r cut ((c.in-Err.ensures {u = tt}).exact meaning means)

pub loop-rest-preserved : goal.loop-rest-preserved
loop-rest-preserved g c =
    let cut : runs c.loop-rest.rest.now ≡ c.split_at.result.0.now ∷ runs c.split_at.result.1.now = rw (c.split_at.ensures.front, c.split_at.ensures.back) c.layer_len.ensures.cut in
    let back = c.split_at.ensures.back_len in
    let count = c.loop-rest.invariant.count in
    record {
      done = λ meaning means.
          let r = c.loop-rest.invariant.done meaning means in
          let is : c.max-most.result ≡ greatest (r.done ++ c.in-Ok.asked ∷ []) = c.max-most.ensures ∙ (ap (λ n. max n c.in-Ok.asked) r.is ∙ sym (greatest_push r.done c.in-Ok.asked)) in
          reached_next _ _ _ _ _ _ _ _ r cut (record { value = c.in-Ok.asked; answer = (c.in-Ok.ensures {u = tt}).exact meaning means; is = is });
      children = rw c.split_at.ensures.back (All-drop (IsChild c.args.setting.count) c.layer_len.result c.loop-rest.rest.now c.loop-rest.invariant.children);
      count = omega arith;
    }
