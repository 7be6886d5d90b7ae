-- Pieces of a line that are sent one after another.
use Rattle.std.proofs.Common.{◌≡◌, ◌≤◌, ◌<◌, ◌+◌, ℕ, Bool, true, false, cond, List, [], ◌++◌, length, take, Option, None, Some, refl, ap, sym, ◌∙◌, append_assoc, append-nil, arith, length-append}
use Rattle.std.proofs.lemmas.List.{take-append-le}
use Rattle.std.proofs.Math.Seq.{take-append-add}
use Rattle.std.proofs.lemmas.Grind.{common_steps}
use Rattle.std.specs.Io.KnownBytes.{append_known}
use Rattle.tx_io.specs.declared.send.Sent.{Sent}
use Rattle.tx_io.specs.Faults.{raised}
use Rattle.tx_io.specs.Sending.{Sends, failed_puts}
use Rattle.tx_io.specs.Sink.{SinkSeen}
use Rattle.tx_app.specs.Report.{Said, Says, IsReported}

-- nothing was said yet
pub Said-start : (before : SinkSeen) → Said before before [] false
Said-start before = record {
  sent = record { taken = 0; failed = false };
  sends = record {
    content = nothing before.told;
    all = λ _. refl;
    part = λ failed. absurd (cc);
    faults = same before.faults;
  };
  known = refl;
}
  where
    nothing : (known : Option (List ℕ)) → known ≡ append_known known []
    nothing None = refl
    nothing (Some xs) = ap Some (sym (append-nil xs))

    same : (n : ℕ) → n ≡ raised n 0
    same n = omega arith

-- a put failed before
pub Says-failed : (now : SinkSeen) (piece : List ℕ) → Says now now true true piece
Says-failed now piece = record {
  behind = λ before all said.
      let lost : said.sent.taken < length all = said.sends.part said.known in
      let fits : said.sent.taken ≤ length all = omega arith in
      record {
        sent = said.sent;
        sends = record {
          content = said.sends.content ∙ ap (append_known before.told) (sym (take-append-le said.sent.taken all piece fits));
          all = λ whole. absurd (cc (whole, said.known));
          part = λ failed. omega (arith, lost, length-append all piece);
          faults = said.sends.faults;
        };
        known = said.known;
      };
}

append_known-append : (known : Option (List ℕ)) (a b : List ℕ) → append_known (append_known known a) b ≡ append_known known (a ++ b)
append_known-append None a b = refl
append_known-append (Some xs) a b = ap Some (append_assoc xs a b)

take-whole : (n : ℕ) (xs : List ℕ) → n ≡ length xs → take n xs ≡ xs
take-whole n xs e = grind (arith, common_steps)

-- a piece is sent behind what was all taken
pub Says-sent : (old new : SinkSeen) (piece : List ℕ) (sent : Sent) → Sends old new piece sent → Says old new false sent.failed piece
Says-sent old new piece sent sends = record {
  behind = λ before all said.
      let whole : said.sent.taken ≡ length all = said.sends.all said.known in
      let told : old.told ≡ append_known before.told all = said.sends.content ∙ ap (append_known before.told) (take-whole said.sent.taken all whole) in
      let quiet : old.faults ≡ before.faults = said.sends.faults ∙ ap (λ b. raised before.faults (cond b 1 0)) said.known ∙ none before.faults in
      record {
        sent = record { taken = length all + sent.taken; failed = sent.failed };
        sends = record {
          content = sends.content ∙ ap (λ t. append_known t (take sent.taken piece)) told
              ∙ append_known-append before.told all (take sent.taken piece)
              ∙ ap (append_known before.told) (sym (take-append-add all piece sent.taken));
          all = λ good. ap (λ n. length all + n) (sends.all good) ∙ sym (length-append all piece);
          part = λ failed. omega (arith, sends.part failed, length-append all piece);
          faults = sends.faults ∙ ap (λ n. raised n (failed_puts sent)) quiet;
        };
        known = refl;
      };
}
  where
    none : (n : ℕ) → raised n 0 ≡ n
    none n = omega arith

-- some pieces behind others
pub Says-then : {s0 s1 s2 : SinkSeen} {b0 b1 b2 : Bool} (x y : List ℕ) → Says s0 s1 b0 b1 x → Says s1 s2 b1 b2 y → Says s0 s2 b0 b2 (x ++ y)
Says-then x y first second = record {
  behind = λ before all said. rw (← append_assoc all x y) (second.behind before (all ++ x) (first.behind before all said));
}

-- a piece that is equal
pub Says-along : {s0 s1 : SinkSeen} {b0 b1 : Bool} (x y : List ℕ) → x ≡ y → Says s0 s1 b0 b1 x → Says s0 s1 b0 b1 y
Says-along x y e says = rw (← e) says

-- a whole line
pub IsReported-line : (before after : SinkSeen) (failed : Bool) (line : List ℕ) → Says before after false failed line → IsReported before after line
IsReported-line before after failed line says = let said = says.behind before [] (Said-start before) in record { sent = said.sent; sends = said.sends }

-- no line
pub IsReported-nothing : (before : SinkSeen) → IsReported before before []
IsReported-nothing before = let said = Said-start before in record { sent = said.sent; sends = said.sends }
