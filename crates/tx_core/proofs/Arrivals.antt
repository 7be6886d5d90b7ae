-- The inputs of each sender are counted.
use Rattle.std.proofs.Common.{◌≡◌, ℕ, ◌+◌, ◌==◌, Bool, true, false, List, [], ◌∷◌, ◌++◌, map, Option, Some, None, refl, sym, ap, subst, ◌∙◌, inl, inr, append_assoc, append-nil}
use Rattle.std.specs.Option.{option_map_or}
use Rattle.std.proofs.lemmas.Bool.{cases_Bool, eqb-true}
use Rattle.std.specs.Prelude.{if◌then◌else◌}
use Rattle.tx_map.specs.LayoutMap.{Mapped}
use Rattle.std.specs.Prelude.{Ok, Err, nat_lt}
use Rattle.tx_map.specs.declared.entry.Entry.{Entry as Placed}
use Rattle.tx_route.specs.declared.deliveries.Deliveries.{Deliveries}
use Rattle.tx_route.specs.declared.deliveries.Why.{Why}
use Rattle.tx_route.specs.declared.input.Input.{Input}
use Rattle.tx_route.specs.declared.input.Input.TheVariants as In
use Rattle.tx_route.specs.Focus.{focus_order, step_along}
use Rattle.tx_tree.specs.Mount.{mounted}
use Rattle.tx_tree.specs.Edits.{changed_at, with_state}
use Rattle.tx_tree.specs.Rows.{parent_of, row_at, subtree_of}
use Rattle.tx_tree.specs.Row.{number}
use Rattle.tx_tree.specs.declared.bind.Action.{Action}
use Rattle.tx_tree.specs.declared.kind.Kind.{Kind}
use Rattle.tx_tree.specs.declared.kind.Kind.TheVariants.{Handed}
use Rattle.tx_tree.specs.declared.row.NodeId.{NodeId}
use Rattle.tx_tree.specs.declared.row.Row.{Row}
use Rattle.tx_widgets.specs.Reaction.{effect_of}
use Rattle.tx_widgets.specs.declared.reactions.message.Effect.{Effect}
use Rattle.tx_widgets.specs.declared.reactions.message.Effect.TheVariants.{Post, Focus, FocusNext, FocusPrevious, Scroll, ToggleClass, ToggleDark}
use Rattle.tx_widgets.specs.declared.reactions.message.Message.{Message}
use Rattle.tx_core.specs.Arrive
use Rattle.tx_core.specs.Arrive.{arrived}
use Rattle.tx_core.specs.Effects.{all_applied, applied, focused_if, focused_on, may_be_focused}
use Rattle.tx_core.specs.History.{Event, Arrives, Serves, Refreshes, events_of, run, step}
use Rattle.tx_core.specs.Laws.{ArrivalsAreNumbered}
use Rattle.tx_core.specs.Opening.{opened}
use Rattle.tx_core.specs.Order.{CountsOn, arrivals}
use Rattle.tx_core.specs.Outcome.{Outcome}
use Rattle.tx_core.specs.Refresh
use Rattle.tx_core.specs.Refresh.{refreshed}
use Rattle.tx_core.specs.Serve.{passed, reaction_of, served, served_by, with_mail}
use Rattle.tx_core.specs.State.{State, Waiting, frame_in, with_one, with_rows}
use Rattle.tx_core.specs.Waiting.{put_at}
use Rattle.tx_core.specs.declared.entry.Entry.{Entry}
use Rattle.tx_core.specs.declared.entry.Entry.TheVariants as Told
use Rattle.tx_core.specs.declared.entry.Sender.{Sender}

-- ---- what changes no number of an input

put-same : (node : NodeId) (message : Message) (parent : Option Row) (state : State) → state.next_input ≡ (put_at node message parent state).next_input
put-same node message None state = refl
put-same node message (Some parent) state = refl

focused-same : (b : Bool) (node : NodeId) (state : State) → state.next_input ≡ (focused_if b node state).next_input
focused-same true node state = refl
focused-same false node state = refl

moved-same : (to : Option NodeId) (state : State) → state.next_input ≡ (focused_on to state).next_input
moved-same None state = refl
moved-same (Some node) state = refl

pub effect-same : (node : NodeId) (effect : Effect) (state : State) → state.next_input ≡ (applied node effect state).next_input
effect-same node (Post message) state = put-same node message (parent_of node.0 state.rows) state
effect-same node Focus state = focused-same (may_be_focused state.rows node) node state
effect-same node FocusNext state = moved-same (step_along false (focus_order (frame_in state) state.rows) state.pseudo.focused) state
effect-same node FocusPrevious state = moved-same (step_along true (focus_order (frame_in state) state.rows) state.pseudo.focused) state
effect-same node (Scroll jump) state = refl
effect-same node (ToggleClass name) state = refl
effect-same node ToggleDark state = refl

effects-same : (node : NodeId) (effects : List Effect) (state : State) → state.next_input ≡ (all_applied node effects state).next_input
effects-same node [] state = refl
effects-same node (effect ∷ effects) state = effect-same node effect state ∙ effects-same node effects (applied node effect state)

passed-same : (b : Bool) (node : NodeId) (message : Message) (state : State) → state.next_input ≡ (passed b node message state).next_input
passed-same true node message state = refl
passed-same false node message state = put-same node message (parent_of node.0 state.rows) state

pointed-same : (to : Option NodeId) (state : State) → state.next_input ≡ (Arrive.pointed_to to state).next_input
pointed-same None state = refl
pointed-same (Some node) state = refl

acted-same : (at : Option (NodeId × Action)) (state : State) → state.next_input ≡ (Arrive.acted at state).next_input
acted-same None state = refl
acted-same (Some at) state = effect-same at.0 (effect_of at.1) state

given-same : (sender : Sender) (to : Option (NodeId × Message)) (state : State) → state.next_input ≡ (Arrive.put_by sender to state).next_input
given-same sender None state = refl
given-same sender (Some to) state = refl

object-same : (n : ℕ) (kind : Kind) (state : State) → state.next_input ≡ (Arrive.with_object n kind state).next_input
object-same n (Handed name) state = refl
object-same n _ state = refl

row-same : (input : Input) (node : NodeId) (state : State) → state.next_input ≡ (Arrive.changed_with input node state).next_input
row-same (In.Mount target row) node state = object-same (state.made + 1) row.kind (record state { rows = mounted node.0 (state.made + 1) row state.rows; made = state.made + 1 })
row-same (In.Remove target) node state = refl
row-same (In.Disable target) node state = refl
row-same _ node state = refl

target-same : (input : Input) (target : Option NodeId) (state : State) → state.next_input ≡ (option_map_or (λ node. Arrive.changed_with input node state) target state).next_input
target-same input None state = refl
target-same input (Some node) state = row-same input node state

order-same : (one other : Option NodeId) (state : State) → state.next_input ≡ (Arrive.moved_with one other state).next_input
order-same None other state = refl
order-same (Some one) None state = refl
order-same (Some one) (Some other) state = refl

change-same : (input : Input) (d : Deliveries) (state : State) → state.next_input ≡ (Arrive.changed_by input d state).next_input
change-same (In.Resize size) d state = refl
change-same (In.Theme dark) d state = refl
change-same (In.Before target other) d state = order-same d.target d.other state
change-same input d state = target-same input d.target state

delivered-same : (sender : ℕ) (d : Deliveries) (state : State) → state.next_input ≡ (Arrive.delivered_to sender d state).next_input
delivered-same sender d state =
    pointed-same d.pointed state
    ∙ (acted-same d.action (Arrive.pointed_to d.pointed state)
    ∙ given-same _ d.put (Arrive.acted d.action (Arrive.pointed_to d.pointed state)))

-- ---- entries

arrivals-append : (s : ℕ) (one other : List Entry) → arrivals s (one ++ other) ≡ arrivals s one ++ arrivals s other
arrivals-append s [] other = refl
arrivals-append s (Told.Arrive from number input ∷ one) other =
    ap (λ (ns : List ℕ). (if s == from then number ∷ [] else []) ++ ns) (arrivals-append s one other)
    ∙ sym (append_assoc (if s == from then number ∷ [] else []) (arrivals s one) (arrivals s other))
arrivals-append s (Told.Missed from number why ∷ one) other = arrivals-append s one other
arrivals-append s (Told.Dropped node message ∷ one) other = arrivals-append s one other
arrivals-append s (Told.Serve node message effects stopped ∷ one) other = arrivals-append s one other
arrivals-append s (Told.Refresh result sent faults ∷ one) other = arrivals-append s one other

row-drops : (s : ℕ) (node : NodeId) (mail : List Waiting) → arrivals s (map (λ waiting. Told.Dropped node waiting.number) mail) ≡ []
row-drops s node [] = refl
row-drops s node (front ∷ rest) = row-drops s node rest

no-drops : (s : ℕ) (rows : List Row) (mail : ℕ → List Waiting) → arrivals s (Arrive.drops rows mail) ≡ []
no-drops s [] mail = refl
no-drops s (row ∷ rows) mail =
    arrivals-append s (map (λ waiting. Told.Dropped row.node waiting.number) (mail (number row))) (Arrive.drops rows (with_one mail (number row) []))
    ∙ (ap (λ (ns : List ℕ). ns ++ arrivals s (Arrive.drops rows (with_one mail (number row) []))) (row-drops s row.node (mail (number row)))
    ∙ no-drops s rows (with_one mail (number row) []))

none-dropped : (s : ℕ) (input : Input) (target : Option NodeId) (state : State) → arrivals s (Arrive.dropped_by input target state) ≡ []
none-dropped s (In.Remove selector) (Some node) state = no-drops s (subtree_of node.0 state.rows) state.mail
none-dropped s (In.Remove selector) None state = refl
none-dropped s _ target state = refl

-- ---- counting

counts-on : (a b c : ℕ) (xs ys : List ℕ) → CountsOn a xs b → CountsOn b ys c → CountsOn a (xs ++ ys) c
counts-on a b c [] ys first second = subst (λ (n : ℕ). CountsOn n ys c) (sym first) second
counts-on a b c (x ∷ xs) ys first second = (first.0, counts-on (a + 1) b c xs ys first.1 second)

one-counted : (s sender : ℕ) (state : State)
    → CountsOn (state.next_input s) (if s == sender then state.next_input sender ∷ [] else []) ((Arrive.counted sender state).next_input s)
one-counted s sender state = elim (cases_Bool (s == sender)) [
  | inl is ↦ let same : sender ≡ s = sym (eqb-true s sender is) in rw is (ap state.next_input same, ap (λ (n : ℕ). state.next_input n + 1) (sym same))
  | inr other ↦ rw other refl
]

abbrev Counted : State → Outcome → Type 0
Counted state outcome = (s : ℕ) → CountsOn (state.next_input s) (arrivals s outcome.entries) (outcome.state.next_input s)

module _ (sender : ℕ) (input : Input) (state : State) where
  arrived-or : (d : Deliveries) (why : Option Why) (s : ℕ)
      → CountsOn (state.next_input s) (arrivals s (Arrive.arrived_or sender input state d why).entries) ((Arrive.arrived_or sender input state d why).state.next_input s)
  arrived-or d (Some why) s = subst (λ (ns : List ℕ). CountsOn (state.next_input s) ns ((Arrive.counted sender state).next_input s)) (sym (append-nil _)) (one-counted s sender state)
  arrived-or d None s =
      let before : State = Arrive.delivered_to sender d (Arrive.counted sender state) in
      let entries : arrivals s (Arrive.arrived_or sender input state d None).entries ≡ (if s == sender then state.next_input sender ∷ [] else []) =
      ap (λ (ns : List ℕ). (if s == sender then state.next_input sender ∷ [] else []) ++ ns) (none-dropped s input d.target before) ∙ append-nil (if s == sender then state.next_input sender ∷ [] else []) in
      let numbers : (Arrive.counted sender state).next_input ≡ (Arrive.changed_by input d before).next_input =
      delivered-same sender d (Arrive.counted sender state) ∙ change-same input d before in
      subst (λ (ns : List ℕ). CountsOn (state.next_input s) ns ((Arrive.changed_by input d before).next_input s)) (sym entries)
      (subst (λ (f : ℕ → ℕ). CountsOn (state.next_input s) (if s == sender then state.next_input sender ∷ [] else []) (f s)) numbers (one-counted s sender state))

  arrived-if : (b : Bool) (s : ℕ) → CountsOn (state.next_input s) (arrivals s (Arrive.arrived_if b sender input state).entries) ((Arrive.arrived_if b sender input state).state.next_input s)
  arrived-if false s = refl
  arrived-if true s = arrived-or (Arrive.deliveries_in state input) (Arrive.missed_for state input (Arrive.deliveries_in state input)) s

served-counted : (node : NodeId) (state : State) (row : Option Row) (mail : List Waiting) (s : ℕ)
    → CountsOn (state.next_input s) (arrivals s (served_by node state row mail).entries) ((served_by node state row mail).state.next_input s)
served-counted node state None mail s = refl
served-counted node state (Some row) [] s = refl
served-counted node state (Some row) (front ∷ rest) s =
    let made = reaction_of state row front.message in
    let begun : State = with_rows (changed_at node.0 (with_state made.text made.private) state.rows) (with_mail node rest state) in
    ap (λ (f : ℕ → ℕ). f s) (effects-same node made.effects begun ∙ passed-same made.stopped node front.message (all_applied node made.effects begun))

sent-counted : (state : State) (entries : List Placed) (bytes : List ℕ) (fails : Option ℕ) (s : ℕ)
    → CountsOn (state.next_input s) (arrivals s (Refresh.sent_or_failed state entries bytes fails).entries) ((Refresh.sent_or_failed state entries bytes fails).state.next_input s)
sent-counted state entries bytes None s = refl
sent-counted state entries bytes (Some count) s = refl

shown-counted : (state : State) (fails : Option ℕ) (map : Mapped (List Placed)) (s : ℕ)
    → CountsOn (state.next_input s) (arrivals s (Refresh.shown_or state fails map).entries) ((Refresh.shown_or state fails map).state.next_input s)
shown-counted state fails (Err fault) s = refl
shown-counted state fails (Ok entries) s = sent-counted state entries (Refresh.update_in state entries) (Refresh.failing fails (Refresh.update_in state entries)) s

refresh-counted : (wanting : Bool) (fails : Option ℕ) (state : State) (s : ℕ)
    → CountsOn (state.next_input s) (arrivals s (Refresh.refreshed_if wanting fails state).entries) ((Refresh.refreshed_if wanting fails state).state.next_input s)
refresh-counted true fails state s = refl
refresh-counted false fails state s = shown-counted state fails (Refresh.map_in state) s

pub step-counted : (state : State) (event : Event) → Counted state (step state event)
unfolding arrived served refreshed
step-counted state (Arrives sender input) s = arrived-if sender input state (nat_lt sender state.senders) s
step-counted state (Serves node) s = served-counted node state (row_at node.0 state.rows) (state.mail node.0) s
step-counted state (Refreshes wanting fails) s = refresh-counted wanting fails state s

run-counted : (state : State) (events : List Event) → Counted state (run state events)
run-counted state [] s = refl
run-counted state (event ∷ events) s =
    subst (λ (ns : List ℕ). CountsOn (state.next_input s) ns ((run (step state event).state events).state.next_input s))
    (sym (arrivals-append s (step state event).entries (run (step state event).state events).entries))
    (counts-on (state.next_input s) ((step state event).state.next_input s) ((run (step state event).state events).state.next_input s)
    (arrivals s (step state event).entries) (arrivals s (run (step state event).state events).entries)
    (step-counted state event s) (run-counted (step state event).state events s))

pub arrivals-are-numbered : ArrivalsAreNumbered
unfolding opened
arrivals-are-numbered tree sheet size senders journal state bytes legal sender =
    subst (λ (o : Outcome). CountsOn 1 (arrivals sender o.entries) (o.state.next_input sender)) legal.is
    (run-counted (opened tree sheet size senders) (events_of journal) sender)
