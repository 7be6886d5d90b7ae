-- Regions that lie within reach, and spans that end near.
use Rattle.std.proofs.Common.{◌≡◌, ℕ, ◌+◌, ◌*◌, ◌<◌, ◌≤◌, ◌^◌, List, length, All, Option, Some, arith}
use Rattle.std.specs.Prelude.{IfSome, slice_index_or, slice_set}
use Rattle.std.proofs.lemmas.Int.{ints}
use Rattle.std.proofs.lemmas.List.Elements.{All-set}
use Rattle.tx_geom.specs.declared.places.Region.{Region}
use Rattle.tx_box.specs.declared.items.Span.{Span}
use Rattle.tx_box.specs.Shape.{AreNear, EndsBy, IsSpan}
use Rattle.tx_layout.specs.Arrangement.{AreWithinReach, IsWithinReach}
use Rattle.tx_layout.specs.Children.{IsGap, IsNearSpan}

-- one more region within reach
pub within_set : (placed : List (Option Region)) (i : ℕ) (r : Region) → AreWithinReach placed → IsWithinReach r → AreWithinReach (slice_set placed i (Some r))
within_set placed i r all near = All-set (λ o. IfSome o IsWithinReach) placed i (Some r) near all

ends_near : (s : Span) (n : ℕ) → n ≤ 2 ^ 41 → EndsBy n s → EndsBy (2 ^ 41) s
ends_near s n h e = omega (arith, ints, h, e)

-- spans between gaps, no more than 2^24 of them, end before 2^41
pub near_spans : (gaps : List ℕ) (spans : List Span) → length spans ≤ 2 ^ 24 → All IsGap gaps → AreNear gaps spans → All IsSpan spans → All IsNearSpan spans
near_spans gaps spans few narrow near all k d within =
    record { span = all k d within; near = ends_near (slice_index_or spans k d) ((65535 + 65535) * length spans) (omega arith) (near 65535 narrow k d within) }
