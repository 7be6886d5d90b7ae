-- Links that lead to the next cell without an owner.
use Rattle.std.proofs.Common.{◌≡◌, ℕ, ◌+◌, ◌≤◌, ◌∙◌, sym, ap, List, arith, length, get_or, replicate, is_some, true, true≢false}
use Rattle.std.specs.Prelude.{Option, Some, None}
use Rattle.std.specs.List.{range_with_len}
use Rattle.std.proofs.lemmas.List.{length-replicate, get_or-replicate}
use Rattle.std.proofs.lemmas.List.FromFn.{get_or-range_with_len, length-range_with_len}
use Rattle.tx_owner.specs.Lines.{LeadsTo, LinksLead, held_at}

pub none_is_some : {A : Type 0} (o : Option A) → o ≡ None → is_some o ≡ true → ⊥
none_is_some o is some = true≢false (sym some ∙ ap is_some is)

-- nothing is led over
pub stays : (cells : List (Option ℕ)) (x : ℕ) → x ≤ length cells → LeadsTo cells x x
stays cells x within = record { on = omega arith; within = within; owned = λ k from to. absurd (omega arith) }

from_first : (width x : ℕ) → x ≤ width → get_or (range_with_len 0 (width + 1)) x 0 ≡ x
from_first width x within = get_or-range_with_len 0 (width + 1) x 0 (omega arith) ∙ omega arith

-- at first each leads to itself
pub links_stay : (width : ℕ) → LinksLead (replicate width None) (range_with_len 0 (width + 1))
links_stay width =
    let wide = length-replicate {A = Option ℕ} width None in
    record {
      count = length-range_with_len 0 (width + 1) ∙ omega (arith, wide);
      lead = λ x within. rw (from_first width x (omega (arith, wide))) (stays (replicate width None) x within);
      on = λ x within some. absurd (none_is_some (held_at (replicate width None) x) (get_or-replicate width x None None (omega (arith, wide))) some);
    }
