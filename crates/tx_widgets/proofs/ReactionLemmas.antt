-- What holds of every reaction.
use Rattle.std.proofs.Common.{◌≡◌, ◌+◌, ◌-◌, ◌≤◌, ℕ, min, max, List, [], ◌∷◌, ◌++◌, length, filter, take, drop, cond, Bool, true, false, not, ◌||◌, if◌then◌else◌, refl, subst, sym, arith, append_assoc, length-append, length-take, length-drop}
use Rattle.std.proofs.lemmas.Bool.{and_parts, leb-true, le-leb}
use Rattle.std.proofs.lemmas.Bool.Decides.{nat_tests}
use Rattle.std.proofs.lemmas.List.{drop_at}
use Rattle.std.proofs.lemmas.List.Elements.{All-nil, All-cons}
use Rattle.std.proofs.lemmas.Str.{IsCharBoundary-end}
use Rattle.std.specs.List.{All}
use Rattle.std.specs.Option.{option_map_or}
use Rattle.std.specs.Prelude.{IfOk, Result, Ok, Err, Option, Some, None, unwrap_or, find, nat_lt, nat_le, encode_utf8, ◌==◌}
use Rattle.std.specs.Str.{IsUtf8}
use Rattle.tx_cell.specs.Lines.{text_lines}
use Rattle.tx_tree.specs.Kind.{fresh}
use Rattle.tx_tree.specs.declared.bind.Action.{Action}
use Rattle.tx_tree.specs.declared.bind.Key.TheVariants as Press
use Rattle.tx_tree.specs.declared.kind.Kind.{Kind}
use Rattle.tx_tree.specs.declared.kind.Kind.TheVariants as Of
use Rattle.tx_tree.specs.declared.kind.Private.{Private}
use Rattle.tx_tree.specs.declared.kind.Private.TheVariants as Is
use Rattle.tx_widgets.specs.Drawing.{box_is_on, chosen_of, cursor_of}
use Rattle.tx_widgets.specs.Editing.{cluster_edges, edge_after, edge_before, most_typed, with_character, without_part}
use Rattle.tx_widgets.specs.Form.{begins_character, is_in_form, state_of}
use Rattle.tx_widgets.specs.Reaction.{advanced, answered, bar_reaction, box_reaction, button_reaction, choosing, effect_of, field_reaction, kind_reaction, list_reaction, passed_on, reaction, screen_reaction, scroll_reaction, unbound_reaction}
use Rattle.tx_widgets.specs.ReactionLaws.{IsModest, ReactionsAreModest}
use Rattle.tx_widgets.specs.declared.reactions.held.Held.{Held}
use Rattle.tx_widgets.specs.declared.reactions.held.Reaction.{Reaction}
use Rattle.tx_widgets.specs.declared.reactions.message.Effect.{Effect}
use Rattle.tx_widgets.specs.declared.reactions.message.Message.{Message}
use Rattle.tx_widgets.specs.declared.reactions.message.Message.TheVariants.{Key, Click, Advance}
use Rattle.tx_widgets.proofs.EditLemmas.{IsEdge, IsEdge-after, IsEdge-before, IsEdge-boundary, IsEdge-cursor, IsEdge-start, last-all}

-- a private state is in form
abbrev InForm : Kind → List ℕ → Private → Type 0
InForm kind text state = is_in_form kind text state ≡ true

-- the text stays
same_text : (kind : Kind) (text : List ℕ) (state : Private) (effects : List Effect) (stopped : Bool) → length effects ≤ 2 → InForm kind text state
    → IsModest kind text (record { text = text; private = state; effects = effects; stopped = stopped })
same_text kind text state effects stopped few form = record { few = few; form = form; kept = λ other. refl; short = omega arith }

passed : (kind : Kind) (text : List ℕ) (state : Private) → InForm kind text state → IsModest kind text (passed_on text state)
passed kind text state form = same_text kind text state [] false (omega arith) form

said : (kind : Kind) (text : List ℕ) (state : Private) (effects : List Effect) → length effects ≤ 2 → InForm kind text state → IsModest kind text (answered text state effects)
said kind text state effects few form = same_text kind text state effects true few form

screen-modest : (kind : Kind) (text : List ℕ) (state : Private) (message : Message) → InForm kind text state → IsModest kind text (screen_reaction text state message)
screen-modest kind text state (Key Press.Tab) form = said kind text state _ (omega arith) form
screen-modest kind text state (Key Press.ShiftTab) form = said kind text state _ (omega arith) form
screen-modest kind text state _ form = passed kind text state form

scroll-modest : (kind : Kind) (text : List ℕ) (state : Private) (message : Message) → InForm kind text state → IsModest kind text (scroll_reaction text state message)
scroll-modest kind text state (Key Press.Up) form = said kind text state _ (omega arith) form
scroll-modest kind text state (Key Press.Down) form = said kind text state _ (omega arith) form
scroll-modest kind text state (Key Press.Home) form = said kind text state _ (omega arith) form
scroll-modest kind text state (Key Press.End) form = said kind text state _ (omega arith) form
scroll-modest kind text state (Key Press.PageUp) form = said kind text state _ (omega arith) form
scroll-modest kind text state (Key Press.PageDown) form = said kind text state _ (omega arith) form
scroll-modest kind text state (Click x y) form = said kind text state _ (omega arith) form
scroll-modest kind text state _ form = passed kind text state form

button-modest : (kind : Kind) (text : List ℕ) (state : Private) (message : Message) → InForm kind text state → IsModest kind text (button_reaction text state message)
button-modest kind text state (Key Press.Enter) form = said kind text state _ (omega arith) form
button-modest kind text state (Click x y) form = said kind text state _ (omega arith) form
button-modest kind text state _ form = passed kind text state form

blank-modest : (text : List ℕ) (state turned : Private) (effects : List Effect) (test : Bool) → length effects ≤ 2 → InForm Of.Checkbox text state → InForm Of.Checkbox text turned
    → IsModest Of.Checkbox text (if test then answered text turned effects else passed_on text state)
blank-modest text state turned effects true few form also = said Of.Checkbox text turned effects few also
blank-modest text state turned effects false few form also = passed Of.Checkbox text state form

box-modest : (on : Bool) (text : List ℕ) (state : Private) (message : Message) → InForm Of.Checkbox text state → IsModest Of.Checkbox text (box_reaction on text state message)
box-modest on text state (Key Press.Enter) form = said Of.Checkbox text (Is.On (not on)) _ (omega arith) refl
box-modest on text state (Key (Press.Char character)) form = blank-modest text state (Is.On (not on)) _ (character == 32) (omega arith) form refl
box-modest on text state (Click x y) form = said Of.Checkbox text (Is.On (not on)) _ (omega arith) refl
box-modest on text state _ form = passed Of.Checkbox text state form

-- a line that is no further than the last one
chosen-form : (text : List ℕ) (line count : ℕ) → count ≡ length (text_lines text) → line ≤ count - 1 → InForm Of.OptionList text (Is.Chosen line)
chosen-form text line count same few = rw (← same) (by (line == 0) refl)
  where
    by : (test : Bool) → (line == 0) ≡ test → (test || nat_lt line count) ≡ true
    by true is = refl
    by false is = grind (arith, nat_tests)

choosing-modest : (text : List ℕ) (line : ℕ) → IsModest Of.OptionList text (choosing text line)
choosing-modest text line =
    said Of.OptionList text (Is.Chosen (min line (length (text_lines text) - 1))) [] (omega arith) (chosen-form text _ (length (text_lines text)) refl (omega arith))

taking-modest : (text : List ℕ) (state : Private) (line : ℕ) (test : Bool) (effects : List Effect) → length effects ≤ 2 → InForm Of.OptionList text state
    → IsModest Of.OptionList text (answered text state (if test then [] else effects))
taking-modest text state line true effects few form = said Of.OptionList text state [] (omega arith) form
taking-modest text state line false effects few form = said Of.OptionList text state effects few form

list-modest : (line : ℕ) (text : List ℕ) (state : Private) (message : Message) → InForm Of.OptionList text state → IsModest Of.OptionList text (list_reaction line text state message)
list-modest line text state (Key Press.Up) form = choosing-modest text (line - 1)
list-modest line text state (Key Press.Down) form = choosing-modest text (line + 1)
list-modest line text state (Key Press.Home) form = choosing-modest text 0
list-modest line text state (Key Press.End) form = choosing-modest text (length (text_lines text) - 1)
list-modest line text state (Key Press.Enter) form = taking-modest text state line (length (text_lines text) == 0) _ (omega arith) form
list-modest line text state (Click x y) form = said Of.OptionList text state _ (omega arith) form
list-modest line text state _ form = passed Of.OptionList text state form

bar-form : (text : List ℕ) (done by total : ℕ) → InForm Of.ProgressBar text (Is.Bar done total) → InForm Of.ProgressBar text (Is.Bar (min total (done + by)) total)
bar-form text done by total form =
    let within : nat_le (min total (done + by)) total ≡ true = le-leb (min total (done + by)) total (omega arith) in
    let some : not (total == 0) ≡ true = (and_parts (not (total == 0)) (nat_le done total) form).0 in
    rw (some, within) refl

advanced-form : (text : List ℕ) (state : Private) (by : ℕ) → InForm Of.ProgressBar text state → InForm Of.ProgressBar text (advanced by state)
advanced-form text (Is.Bar done total) by form = bar-form text done by total form
advanced-form text _ by form = form

bar-modest : (text : List ℕ) (state : Private) (message : Message) → InForm Of.ProgressBar text state → IsModest Of.ProgressBar text (bar_reaction text state message)
bar-modest text state (Advance by) form = said Of.ProgressBar text (advanced by state) [] (omega arith) (advanced-form text state by form)
bar-modest text state _ form = passed Of.ProgressBar text state form

-- an edge between two parts of a text
seam-edge : (front back : List ℕ) (at : ℕ) → length front ≡ at → begins_character back ≡ true → IsEdge (front ++ back) at
seam-edge front back at size begins =
    let within : nat_le at (length (front ++ back)) ≡ true = le-leb at (length (front ++ back)) (omega (arith, length-append front back)) in
    rw (within, drop_at front back at size) begins

edge-within : (text : List ℕ) (at : ℕ) → IsEdge text at → at ≤ length text
edge-within text at edge = leb-true at (length text) (and_parts _ _ edge).0

edge-begins : (text : List ℕ) (at : ℕ) → IsEdge text at → begins_character (drop at text) ≡ true
edge-begins text at edge = (and_parts _ _ edge).1

new_text : (text made : List ℕ) (at : ℕ) (effects : List Effect) → length effects ≤ 2 → IsEdge made at → length made ≤ max most_typed (length text)
    → IsModest Of.Input text (answered made (Is.Cursor at) effects)
new_text text made at effects few edge short = record { few = few; form = edge; kept = λ other. absurd (other refl); short = short }

typed-by : (at : ℕ) (text : List ℕ) (character : ℕ) (test : Bool) (effects : List Effect) → length effects ≤ 2 → IsEdge text at
    → nat_le (length text + length (encode_utf8 character)) most_typed ≡ test
    → IsModest Of.Input text (if test then answered (with_character text at character) (Is.Cursor (at + length (encode_utf8 character))) effects
    else answered text (Is.Cursor at) [])
typed-by at text character false effects few edge is = said Of.Input text (Is.Cursor at) [] (omega arith) edge
typed-by at text character true effects few edge is =
    let within = edge-within text at edge in
    let fits : length text + length (encode_utf8 character) ≤ most_typed = leb-true _ most_typed is in
    let front = length-append (take at text) (encode_utf8 character) in
    let taken = length-take at text in
    let left = length-drop at text in
    let all = length-append (take at text) (encode_utf8 character ++ drop at text) in
    let back = length-append (encode_utf8 character) (drop at text) in
    new_text text (with_character text at character) (at + length (encode_utf8 character)) effects few
    (subst (λ made. IsEdge made (at + length (encode_utf8 character))) (append_assoc (take at text) (encode_utf8 character) (drop at text))
    (seam-edge (take at text ++ encode_utf8 character) (drop at text) (at + length (encode_utf8 character)) (omega arith) (edge-begins text at edge)))
    (omega arith)

taken-by : (text : List ℕ) (from to : ℕ) (test : Bool) (effects : List Effect) → length effects ≤ 2 → IsEdge text from → IsEdge text to → from ≤ to
    → IsModest Of.Input text (if test then answered text (Is.Cursor from) [] else answered (without_part text from to) (Is.Cursor from) effects)
taken-by text from to true effects few first last order = said Of.Input text (Is.Cursor from) [] (omega arith) first
taken-by text from to false effects few first last order =
    let within = edge-within text from first in
    let inside = edge-within text to last in
    let taken = length-take from text in
    let left = length-drop to text in
    let all = length-append (take from text) (drop to text) in
    new_text text (without_part text from to) from effects few (seam-edge (take from text) (drop to text) from (omega arith) (edge-begins text to last)) (omega arith)

all-pass : (P : ℕ → Type 0) (p : ℕ → Bool) (xs : List ℕ) → ((x : ℕ) → p x ≡ true → P x) → All P (filter p xs)
all-pass P p [] holds = All-nil P
all-pass P p (x ∷ xs) holds = by (p x) refl (all-pass P p xs holds)
  where
    by : (test : Bool) → p x ≡ test → All P (filter p xs) → All P (cond test (x ∷ filter p xs) (filter p xs))
    by true passes rest = All-cons P x (filter p xs) (holds x passes) rest
    by false fails rest = rest

find-passes : (P : ℕ → Type 0) (p : ℕ → Bool) (xs : List ℕ) (at : ℕ) → ((x : ℕ) → p x ≡ true → P x) → P at → P (unwrap_or (find p xs) at)
find-passes P p [] at holds is = is
find-passes P p (x ∷ xs) at holds is = by (p x) refl (find-passes P p xs at holds is)
  where
    by : (test : Bool) → p x ≡ test → P (unwrap_or (find p xs) at) → P (unwrap_or (cond test (Some x) (find p xs)) at)
    by true passes rest = holds x passes
    by false fails rest = rest

before-order : (text : List ℕ) (at : ℕ) → edge_before text at ≤ at
unfolding edge_before
before-order text at =
    last-all (λ edge. edge ≤ at) (filter (λ edge. nat_lt edge at) (cluster_edges text)) at (omega arith)
    (all-pass (λ edge. edge ≤ at) (λ edge. nat_lt edge at) (cluster_edges text) (λ edge less. grind (arith, nat_tests)))

after-order : (text : List ℕ) (at : ℕ) → at ≤ edge_after text at
unfolding edge_after
after-order text at = find-passes (λ edge. at ≤ edge) (λ edge. nat_lt at edge) (cluster_edges text) at (λ edge more. grind (arith, nat_tests)) (omega arith)

field-modest : (at : ℕ) (text : List ℕ) (state : Private) (message : Message) → IsUtf8 text → InForm Of.Input text state → IsEdge text at
    → IsModest Of.Input text (field_reaction at text state message)
field-modest at text state (Key (Press.Char character)) utf8 form edge =
    typed-by at text character (nat_le (length text + length (encode_utf8 character)) most_typed) _ (omega arith) edge refl
field-modest at text state (Key Press.Backspace) utf8 form edge =
    taken-by text (edge_before text at) at (edge_before text at == at) _ (omega arith) (IsEdge-before text at utf8 edge) edge (before-order text at)
field-modest at text state (Key Press.Delete) utf8 form edge =
    taken-by text at (edge_after text at) (at == edge_after text at) _ (omega arith) edge (IsEdge-after text at utf8 edge) (after-order text at)
field-modest at text state (Key Press.Left) utf8 form edge = said Of.Input text (Is.Cursor (edge_before text at)) [] (omega arith) (IsEdge-before text at utf8 edge)
field-modest at text state (Key Press.Right) utf8 form edge = said Of.Input text (Is.Cursor (edge_after text at)) [] (omega arith) (IsEdge-after text at utf8 edge)
field-modest at text state (Key Press.Home) utf8 form edge = said Of.Input text (Is.Cursor 0) [] (omega arith) (IsEdge-start text utf8)
field-modest at text state (Key Press.End) utf8 form edge =
    said Of.Input text (Is.Cursor (length text)) [] (omega arith) (IsEdge-boundary text (length text) (IsCharBoundary-end text))
field-modest at text state (Key Press.Enter) utf8 form edge = said Of.Input text state _ (omega arith) form
field-modest at text state (Click x y) utf8 form edge = said Of.Input text state _ (omega arith) form
field-modest at text state _ utf8 form edge = passed Of.Input text state form

kind-modest : (kind : Kind) (text : List ℕ) (state : Private) (message : Message) → IsUtf8 text → InForm kind text state
    → IsModest kind text (kind_reaction kind text state message)
kind-modest Of.Screen text state message utf8 form = screen-modest Of.Screen text state message form
kind-modest Of.VerticalScroll text state message utf8 form = scroll-modest Of.VerticalScroll text state message form
kind-modest Of.Button text state message utf8 form = button-modest Of.Button text state message form
kind-modest Of.Checkbox text state message utf8 form = box-modest (box_is_on state) text state message form
kind-modest Of.Input text state message utf8 form =
    field-modest (cursor_of state) text state message utf8 form (IsEdge-cursor text state utf8 (and_parts _ _ form).1)
kind-modest Of.OptionList text state message utf8 form = list-modest (chosen_of state) text state message form
kind-modest Of.ProgressBar text state message utf8 form = bar-modest text state message form
kind-modest kind text state message utf8 form = passed kind text state form

-- the state that a row is taken to have is in form
fresh-form : (kind : Kind) (text : List ℕ) → InForm kind text (fresh kind (length text))
fresh-form Of.Input text = IsEdge-boundary text (length text) (IsCharBoundary-end text)
fresh-form kind text = refl

state-form : (kind : Kind) (text : List ℕ) (private : Private) → InForm kind text (state_of kind text private)
state-form kind text private = by (is_in_form kind text private) refl
  where
    by : (test : Bool) → is_in_form kind text private ≡ test → InForm kind text (if test then private else fresh kind (length text))
    by true is = is
    by false is = fresh-form kind text

unbound-modest : (held : Held) (state : Private) (message : Message) (disabled : Bool) → IsUtf8 held.text → InForm held.kind held.text state
    → IsModest held.kind held.text (if disabled then passed_on held.text state else kind_reaction held.kind held.text state message)
unbound-modest held state message true utf8 form = passed held.kind held.text state form
unbound-modest held state message false utf8 form = kind-modest held.kind held.text state message utf8 form

bound-modest : (held : Held) (state : Private) (action : Option Action) (unbound : Reaction) → InForm held.kind held.text state → IsModest held.kind held.text unbound
    → IsModest held.kind held.text (option_map_or (λ action. answered held.text state (effect_of action ∷ [])) action unbound)
bound-modest held state None unbound form modest = modest
bound-modest held state (Some action) unbound form modest = said held.kind held.text state _ (omega arith) form

-- what is made of a row without an action
pub unbound-ok : {E : Type 0} (result : Result Reaction E) (held : Held) (state : Private) (message : Message) → IsUtf8 held.text
    → state ≡ state_of held.kind held.text held.private → IfOk result (λ made. made ≡ unbound_reaction held state message)
    → IfOk result (λ made. IsModest held.kind held.text made)
unbound-ok (Ok made) held state message utf8 is same =
    let form : InForm held.kind held.text state = subst (InForm held.kind held.text) (sym is) (state-form held.kind held.text held.private) in
    subst (IsModest held.kind held.text) (sym same) (unbound-modest held state message held.disabled utf8 form)
unbound-ok (Err fault) held state message utf8 is same = same

pub reactions-modest : ReactionsAreModest
unfolding reaction
reactions-modest held message utf8 =
    let form = state-form held.kind held.text held.private in
    bound-modest held _ _ _ form (unbound-modest held _ message held.disabled utf8 form)
