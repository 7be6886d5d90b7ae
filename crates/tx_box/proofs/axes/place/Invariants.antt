use Rattle.std.proofs.Common.{◌≡◌, ℕ, ◌+◌, ◌*◌, ◌≤◌, [], All, length}
use Rattle.tx_box.specs.Sizes.{cells}
use Rattle.std.specs.Prelude.{slice_index}
use Rattle.tx_box.specs.Shape.{EndsBy, IsSpan, IsUpTo}
use Rattle.tx_box.proofs.Passes.{spans_so_far}
use Rattle.tx_box.proofs.axes.place.Given as goal

abbrev pub invariant-loop-index : goal.invariant-loop-index
invariant-loop-index l = record {
  done : spans_so_far (cells (slice_index l.gaps 0)) 0 l.parts l.gaps [] ≡ spans_so_far l.from l.index l.parts l.gaps l.spans.items;
  place : IsUpTo (4294967296 + 8589934592 * l.index) l.from;
  cells : All IsSpan l.spans.items;
  reach : (most : ℕ) → All (λ gap. gap ≤ most) l.gaps → IsUpTo (most + (65535 + most) * l.index) l.from;
  near : (most : ℕ) → All (λ gap. gap ≤ most) l.gaps → All (EndsBy ((65535 + most) * length l.parts)) l.spans.items;
  count : length l.spans.items ≡ l.index;
}
