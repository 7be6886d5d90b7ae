use Rattle.std.proofs.Common.{◌≡◌, drop, ◌≤◌, ◌^◌, Some}
use Rattle.std.specs.Prelude.{map, unwrap_or}
use Rattle.std.specs.List.{last_or}
use Rattle.tx_box.specs.declared.items.Span.{Span}
use Rattle.tx_layout.specs.Sides.{count_of}
use Rattle.tx_layout.proofs.tracks.tracks_end.Given as goal

abbrev pub invariant-loop-span : goal.invariant-loop-span
invariant-loop-span l = record {
  done : unwrap_or (last_or (Some 0) (map (λ (s : Span). count_of s.to) l.initial.spans)) 0 ≡ unwrap_or (last_or (Some l.end) (map (λ (s : Span). count_of s.to) (drop l.span-index l.spans))) 0;
  bound : l.end ≤ 2 ^ 41;
}
