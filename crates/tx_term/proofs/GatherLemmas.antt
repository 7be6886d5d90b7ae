-- Bytes that are gathered and sent one after another.
use Rattle.std.proofs.Common.{◌≡◌, ◌≤◌, ◌<◌, ◌+◌, ℕ, List, [], ◌++◌, length, take, drop, Bool, true, false, cond, Option, None, Some, refl, ap, sym, ◌∙◌, append_assoc, append-nil, arith, length-drop, length-take-le, take-append-drop, length-append}
use Rattle.std.proofs.lemmas.Grind.{common_steps}
use Rattle.std.proofs.Math.Seq.{take-add}
use Rattle.std.proofs.lemmas.List.{append_cancel_left}
use Rattle.std.specs.Io.KnownBytes.{append_known}
use Rattle.tx_io.specs.declared.send.Sent.{Sent}
use Rattle.tx_io.specs.Faults.{raised}
use Rattle.tx_io.specs.Sending.{Sends}
use Rattle.tx_io.specs.Sink.{SinkSeen}
use Rattle.tx_term.specs.Gather.{Gathered, Queues, Adds}

-- one piece behind another
append_known-append : (known : Option (List ℕ)) (a b : List ℕ) → append_known (append_known known a) b ≡ append_known known (a ++ b)
append_known-append None a b = refl
append_known-append (Some xs) a b = ap Some (append_assoc xs a b)

-- what waits is what isn't taken
waiting_is_rest : (all waiting : List ℕ) (k : ℕ) → all ≡ take k all ++ waiting → drop k all ≡ waiting
waiting_is_rest all waiting k e = append_cancel_left (take k all) (drop k all) waiting (take-append-drop k all ∙ e)

take-all_lem : (n : ℕ) (xs : List ℕ) → n ≡ length xs → take n xs ≡ xs
take-all_lem n xs e = grind (arith, common_steps)

raised-none : (n : ℕ) → raised n 0 ≡ n
raised-none n = omega arith

-- no more is taken than there was
taken-bound : (n : ℕ) (b : Bool) (len : ℕ) → (b ≡ false → n ≡ len) → (b ≡ true → n < len) → n ≤ len
taken-bound n false len all part = omega (arith, all refl)
taken-bound n true len all part = omega (arith, part refl)

-- what waited was sent
pub Queues-sent : (before sink_old sink_new : SinkSeen) (all : List ℕ) (g : Gathered) (sent : Sent)
    → g.failed ≡ false
    → Sends sink_old sink_new g.waiting sent
    → Queues before sink_old all g
    → Queues before sink_new (all ++ []) (record { waiting = []; taken = g.taken + sent.taken; failed = sent.failed })
Queues-sent before sink_old sink_new all g sent good sends q =
    let k : ℕ = g.taken in
    let split : all ≡ take k all ++ g.waiting = q.waits good in
    let rest : drop k all ≡ g.waiting = waiting_is_rest all g.waiting k split in
    let len : length all ≡ k + length g.waiting = omega (arith, ap length rest, length-drop k all, q.within) in
    let none : all ++ [] ≡ all = append-nil all in
    let front : take (k + sent.taken) all ≡ take k all ++ take sent.taken g.waiting =
    take-add k sent.taken all ∙ ap (λ r. take k all ++ take sent.taken r) rest in
    let quiet : sink_old.faults ≡ before.faults = q.faults ∙ ap (λ b. raised before.faults (cond b 1 0)) good ∙ raised-none before.faults in
    rw none (record {
      content = sends.content ∙ ap (λ t. append_known t (take sent.taken g.waiting)) q.content
          ∙ append_known-append before.told (take k all) (take sent.taken g.waiting)
          ∙ ap (append_known before.told) (sym front);
      faults = sends.faults ∙ ap (λ n. raised n (cond sent.failed 1 0)) quiet;
      waits = λ whole. split ∙ ap (λ w. take k all ++ w) (sym (take-all_lem sent.taken g.waiting (sends.all whole))) ∙ sym front ∙ sym (append-nil (take (k + sent.taken) all));
      within = omega (arith, taken-bound _ _ _ sends.all sends.part);
      lost = λ cut. omega (arith, sends.part cut);
    })

-- no bytes were added
pub Queues-nothing : (before now : SinkSeen) (all : List ℕ) (g : Gathered) → Queues before now all g → Queues before now (all ++ []) g
Queues-nothing before now all g q = rw (append-nil all) q

-- one piece behind another
pub Adds-then : {s0 s1 s2 : SinkSeen} {g0 g1 g2 : Gathered} (x y : List ℕ) → Adds s0 s1 g0 g1 x → Adds s1 s2 g1 g2 y → Adds s0 s2 g0 g2 (x ++ y)
Adds-then x y first second = record {
  behind = λ before all q. rw (← append_assoc all x y) (second.behind before (all ++ x) (first.behind before all q));
}

-- no piece
pub Adds-nothing : {s : SinkSeen} {g : Gathered} → Adds s s g g []
Adds-nothing = record { behind = λ before all q. Queues-nothing before _ all _ q }

-- bytes that are equal
pub Adds-along : {s0 s1 : SinkSeen} {g0 g1 : Gathered} (x y : List ℕ) → x ≡ y → Adds s0 s1 g0 g1 x → Adds s0 s1 g0 g1 y
Adds-along x y e added = rw (← e) added

-- from nothing at all
Queues-start : (before : SinkSeen) → Queues before before [] (record { waiting = []; taken = 0; failed = false })
Queues-start before = record {
  content = append_known-nothing before.told;
  faults = sym (raised-none before.faults);
  waits = λ _. refl;
  within = omega arith;
  lost = λ failed. absurd (cc);
}
  where
    append_known-nothing : (known : Option (List ℕ)) → known ≡ append_known known []
    append_known-nothing None = refl
    append_known-nothing (Some xs) = ap Some (sym (append-nil xs))

-- all of it was taken where nothing waits
taken_all : (all waiting : List ℕ) (k : ℕ) → k ≤ length all → all ≡ take k all ++ waiting → waiting ≡ [] → k ≡ length all
taken_all all waiting k within split none =
    let len : length all ≡ length (take k all) + length waiting = ap length split ∙ length-append (take k all) waiting in
    omega (arith, ap length none, length-take-le k all within)

-- to the end
pub Sends-from_Adds : (sink_old sink_new : SinkSeen) (all : List ℕ) (g : Gathered) (sent : Sent)
    → Adds sink_old sink_new (record { waiting = []; taken = 0; failed = false }) g all
    → (g.failed ≡ false → g.waiting ≡ []) → sent.taken ≡ g.taken → sent.failed ≡ g.failed
    → Sends sink_old sink_new all sent
Sends-from_Adds sink_old sink_new all g sent added empty taken failed =
    let q = added.behind sink_old [] (Queues-start sink_old) in
    record {
      content = q.content ∙ ap (λ n. append_known sink_old.told (take n all)) (sym taken);
      all = λ whole. let good : g.failed ≡ false = sym failed ∙ whole in taken ∙ taken_all all g.waiting g.taken q.within (q.waits good) (empty good);
      part = λ cut. let lost : g.failed ≡ true = sym failed ∙ cut in let short : g.taken < length all = q.lost lost in omega (arith, taken);
      faults = q.faults ∙ ap (λ b. raised sink_old.faults (cond b 1 0)) (sym failed);
    }
