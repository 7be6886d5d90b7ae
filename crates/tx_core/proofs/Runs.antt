-- Events one after another.
use Rattle.std.proofs.Common.{◌≡◌, ℕ, ◌&&◌, Bool, true, false, not, List, [], ◌∷◌, ◌++◌, Option, refl, sym, ap, ◌∙◌, append_assoc}
use Rattle.std.specs.Bool.{beq}
use Rattle.std.specs.Prelude.{if◌then◌else◌}
use Rattle.std.proofs.lemmas.Bool.{and_parts, false≢true}
use Rattle.tx_core.specs.History.{Event, Refreshes, behind, is_due_after, is_refresh, keeps_pace, run, step}
use Rattle.tx_core.specs.Laws.{EventsFollow, PacedGoesOn}
use Rattle.tx_core.specs.Outcome.{Outcome}
use Rattle.tx_core.specs.State.{State}
use Rattle.tx_core.specs.Waiting.{is_quiet}
use Rattle.tx_core.specs.declared.entry.Entry.{Entry}

behind-assoc : (a b c : Outcome) → behind (behind a b) c ≡ behind a (behind b c)
behind-assoc a b c =
    ap (λ (es : List Entry). record { entries = es; state = c.state; bytes = (a.bytes ++ b.bytes) ++ c.bytes }) (append_assoc a.entries b.entries c.entries)
    ∙ ap (λ (bs : List ℕ). record { entries = a.entries ++ (b.entries ++ c.entries); state = c.state; bytes = bs }) (append_assoc a.bytes b.bytes c.bytes)

pub events-follow : EventsFollow
events-follow state [] second = refl
events-follow state (event ∷ first) second =
    ap (behind (step state event)) (events-follow (step state event).state first second)
    ∙ sym (behind-assoc (step state event) (run (step state event).state first) (run (run (step state event).state first).state second))

-- ---- pace

due-false : (b : Bool) → not b ≡ true → b ≡ false
due-false false is = refl
due-false true is = absurd (false≢true is)

beq-same : (b : Bool) → beq b b ≡ true
beq-same true = refl
beq-same false = refl

-- the refresh that is due, or none, at the end
ends : (state : State) (event : Event) (wanting : Bool) (fails : Option ℕ) (quiet : Bool) → is_refresh event ≡ false
    → keeps_pace (not (is_refresh event) && quiet) state (if quiet then Refreshes wanting fails ∷ [] else []) ≡ true
ends state event wanting fails true isnt = rw isnt refl
ends state event wanting fails false isnt = rw isnt refl

paced-on : (due : Bool) (state : State) (events : List Event) (event : Event) (wanting : Bool) (fails : Option ℕ)
    → keeps_pace due state events ≡ true → is_refresh event ≡ false
    → keeps_pace due state (events ++ (event ∷ (if is_quiet (step (run state events).state event).state then Refreshes wanting fails ∷ [] else []))) ≡ true
paced-on due state [] event wanting fails keeps isnt =
    let none : due ≡ false = due-false due keeps in
    let same : beq (is_refresh event) due ≡ true = ap (λ b. beq b due) isnt ∙ (ap (beq false) none ∙ refl) in
    rw same (ends (step state event).state event wanting fails (is_quiet (step state event).state) isnt)
paced-on due state (first ∷ events) event wanting fails keeps isnt =
    let parts = and_parts (beq (is_refresh first) due) (keeps_pace (is_due_after first (step state first).state) (step state first).state events) keeps in
    rw parts.0 (paced-on (is_due_after first (step state first).state) (step state first).state events event wanting fails parts.1 isnt)

pub paced-goes-on : PacedGoesOn
paced-goes-on opening first events event wanting fails paced isnt = paced-on true opening (first ∷ events) event wanting fails paced isnt
