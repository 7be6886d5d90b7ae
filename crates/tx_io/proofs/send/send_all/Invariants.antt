use Rattle.std.proofs.Common.{◌≡◌, ◌-◌, ◌≤◌, length, take, drop}
use Rattle.std.specs.Io.KnownBytes.{append_known}
use Rattle.tx_io.proofs.send.send_all.Given as goal

-- What was taken, and the rest, are the bytes; no put has failed so far.
abbrev pub invariant-loop-rest : goal.invariant-loop-rest
invariant-loop-rest g l = record {
  short : length l.rest ≤ length l.bytes;
  rest : l.rest ≡ drop (length l.bytes - length l.rest) l.bytes;
  content : (g.K.Sink.seen l.sink).told ≡ append_known (g.K.Sink.seen l.fn.sink).told (take (length l.bytes - length l.rest) l.bytes);
  quiet : (g.K.Sink.seen l.sink).faults ≡ (g.K.Sink.seen l.fn.sink).faults;
}

abbrev pub decreases-loop-rest : goal.decreases-loop-rest
decreases-loop-rest g l = length l.rest
