-- What a built-in widget does with a message.
use Rattle.std.specs.Prelude.{ℕ, ◌+◌, ◌-◌, ◌==◌, min, not, Bool, true, false, nat_le, List, [], ◌∷◌, length, encode_utf8, Option, None, if◌then◌else◌}
use Rattle.std.specs.Option.{option_map_or}
use Rattle.tx_cell.specs.Lines.{text_lines}
use Rattle.tx_tree.specs.declared.bind.Action.{Action}
use Rattle.tx_tree.specs.declared.bind.Action.TheVariants as Bound
use Rattle.tx_tree.specs.declared.bind.Jump.TheVariants as To
use Rattle.tx_tree.specs.declared.bind.Key.TheVariants as Press
use Rattle.tx_tree.specs.declared.kind.Kind.{Kind}
use Rattle.tx_tree.specs.declared.kind.Kind.TheVariants as Of
use Rattle.tx_tree.specs.declared.kind.Private.{Private}
use Rattle.tx_tree.specs.declared.kind.Private.TheVariants as Is
use Rattle.tx_widgets.specs.Drawing.{box_is_on, chosen_of, cursor_of}
use Rattle.tx_widgets.specs.Editing.{edge_after, edge_before, most_typed, with_character, without_part}
use Rattle.tx_widgets.specs.Form.{state_of}
use Rattle.tx_widgets.specs.declared.reactions.message.Effect.{Effect}
use Rattle.tx_widgets.specs.declared.reactions.message.Effect.TheVariants.{Post, Focus, FocusNext, FocusPrevious, Scroll, ToggleClass, ToggleDark}
use Rattle.tx_widgets.specs.declared.reactions.message.Message.{Message}
use Rattle.tx_widgets.specs.declared.reactions.message.Message.TheVariants.{Key, Click, Advance, Pressed, Changed, Submitted, Toggled, Chosen}
use Rattle.tx_widgets.specs.declared.reactions.held.Held.{Held}
use Rattle.tx_widgets.specs.declared.reactions.held.Reaction.{Reaction}

-- nothing changes, and the message goes on
abbrev pub passed_on : List ℕ → Private → Reaction
passed_on text state = record { text = text; private = state; effects = []; stopped = false }

-- the row has this text and this state then, with these effects, and the message stops
abbrev pub answered : List ℕ → Private → List Effect → Reaction
answered text state effects = record { text = text; private = state; effects = effects; stopped = true }

-- the Screen
abbrev pub screen_reaction : List ℕ → Private → Message → Reaction
screen_reaction text state (Key Press.Tab) = answered text state (FocusNext ∷ [])
screen_reaction text state (Key Press.ShiftTab) = answered text state (FocusPrevious ∷ [])
screen_reaction text state _ = passed_on text state

-- a VerticalScroll
abbrev pub scroll_reaction : List ℕ → Private → Message → Reaction
scroll_reaction text state (Key Press.Up) = answered text state (Scroll To.Up ∷ [])
scroll_reaction text state (Key Press.Down) = answered text state (Scroll To.Down ∷ [])
scroll_reaction text state (Key Press.Home) = answered text state (Scroll To.Home ∷ [])
scroll_reaction text state (Key Press.End) = answered text state (Scroll To.End ∷ [])
scroll_reaction text state (Key Press.PageUp) = answered text state (Scroll To.PageUp ∷ [])
scroll_reaction text state (Key Press.PageDown) = answered text state (Scroll To.PageDown ∷ [])
scroll_reaction text state (Click x y) = answered text state (Focus ∷ [])
scroll_reaction text state _ = passed_on text state

-- a Button
abbrev pub button_reaction : List ℕ → Private → Message → Reaction
button_reaction text state (Key Press.Enter) = answered text state (Post Pressed ∷ [])
button_reaction text state (Click x y) = answered text state (Focus ∷ Post Pressed ∷ [])
button_reaction text state _ = passed_on text state

-- a Checkbox, which is on or off before
abbrev pub box_reaction : Bool → List ℕ → Private → Message → Reaction
box_reaction on text state (Key Press.Enter) = answered text (Is.On (not on)) (Post (Toggled (not on)) ∷ [])
box_reaction on text state (Key (Press.Char character)) =
    if character == 32 then answered text (Is.On (not on)) (Post (Toggled (not on)) ∷ []) else passed_on text state
box_reaction on text state (Click x y) = answered text (Is.On (not on)) (Focus ∷ Post (Toggled (not on)) ∷ [])
box_reaction on text state _ = passed_on text state

-- a character goes in at the cursor, which moves past it, unless the text would be too long
abbrev pub typed : ℕ → List ℕ → ℕ → Reaction
typed at text character =
    if nat_le (length text + length (encode_utf8 character)) most_typed
    then answered (with_character text at character) (Is.Cursor (at + length (encode_utf8 character))) (Post Changed ∷ [])
    else answered text (Is.Cursor at) []

-- what stands between two places goes, and the cursor stands there then
abbrev pub taken_out : List ℕ → ℕ → ℕ → Reaction
taken_out text from to =
    if from == to then answered text (Is.Cursor from) [] else answered (without_part text from to) (Is.Cursor from) (Post Changed ∷ [])

-- an Input, with its cursor at this byte
abbrev pub field_reaction : ℕ → List ℕ → Private → Message → Reaction
field_reaction at text state (Key (Press.Char character)) = typed at text character
field_reaction at text state (Key Press.Backspace) = taken_out text (edge_before text at) at
field_reaction at text state (Key Press.Delete) = taken_out text at (edge_after text at)
field_reaction at text state (Key Press.Left) = answered text (Is.Cursor (edge_before text at)) []
field_reaction at text state (Key Press.Right) = answered text (Is.Cursor (edge_after text at)) []
field_reaction at text state (Key Press.Home) = answered text (Is.Cursor 0) []
field_reaction at text state (Key Press.End) = answered text (Is.Cursor (length text)) []
field_reaction at text state (Key Press.Enter) = answered text state (Post Submitted ∷ [])
field_reaction at text state (Click x y) = answered text state (Focus ∷ [])
field_reaction at text state _ = passed_on text state

-- this line is chosen, but no line past the last one
abbrev pub choosing : List ℕ → ℕ → Reaction
choosing text line = answered text (Is.Chosen (min line (length (text_lines text) - 1))) []

-- the chosen line is posted, where there is a line
abbrev pub taking : List ℕ → Private → ℕ → Reaction
taking text state line = answered text state (if length (text_lines text) == 0 then [] else Post (Chosen line) ∷ [])

-- an OptionList, with this line chosen
abbrev pub list_reaction : ℕ → List ℕ → Private → Message → Reaction
list_reaction line text state (Key Press.Up) = choosing text (line - 1)
list_reaction line text state (Key Press.Down) = choosing text (line + 1)
list_reaction line text state (Key Press.Home) = choosing text 0
list_reaction line text state (Key Press.End) = choosing text (length (text_lines text) - 1)
list_reaction line text state (Key Press.Enter) = taking text state line
list_reaction line text state (Click x y) = answered text state (Focus ∷ [])
list_reaction line text state _ = passed_on text state

-- so much more of the work is done, but no more than all
abbrev pub advanced : ℕ → Private → Private
advanced by (Is.Bar done total) = Is.Bar (min total (done + by)) total
advanced by state = state

-- a ProgressBar
abbrev pub bar_reaction : List ℕ → Private → Message → Reaction
bar_reaction text state (Advance by) = answered text (advanced by state) []
bar_reaction text state _ = passed_on text state

-- what an enabled row of a kind does with a message that isn't bound; a kind that isn't listed does nothing
abbrev pub kind_reaction : Kind → List ℕ → Private → Message → Reaction
kind_reaction Of.Screen text state message = screen_reaction text state message
kind_reaction Of.VerticalScroll text state message = scroll_reaction text state message
kind_reaction Of.Button text state message = button_reaction text state message
kind_reaction Of.Checkbox text state message = box_reaction (box_is_on state) text state message
kind_reaction Of.Input text state message = field_reaction (cursor_of state) text state message
kind_reaction Of.OptionList text state message = list_reaction (chosen_of state) text state message
kind_reaction Of.ProgressBar text state message = bar_reaction text state message
kind_reaction _ text state message = passed_on text state

-- the effect that an action is
abbrev pub effect_of : Action → Effect
effect_of Bound.FocusNext = FocusNext
effect_of Bound.FocusPrevious = FocusPrevious
effect_of Bound.ToggleDark = ToggleDark
effect_of (Bound.ToggleClass name) = ToggleClass name
effect_of (Bound.Scroll jump) = Scroll jump

-- the action that an enabled row has on the key that a message is; no other message has one
abbrev pub action_on : Held → Message → Option Action
action_on held (Key key) = if held.disabled then None else held.action
action_on held _ = None

-- what a row does with a message for which it has no action: nothing where it is disabled
abbrev pub unbound_reaction : Held → Private → Message → Reaction
unbound_reaction held state message = if held.disabled then passed_on held.text state else kind_reaction held.kind held.text state message

-- what a row does with a message, from the private state that it is taken to have
abbrev pub reaction_from : Held → Private → Message → Reaction
reaction_from held state message =
    option_map_or (λ action. answered held.text state (effect_of action ∷ [])) (action_on held message) (unbound_reaction held state message)

-- what a row does with a message
unfoldable pub reaction : Held → Message → Reaction
reaction held message = reaction_from held (state_of held.kind held.text held.private) message
