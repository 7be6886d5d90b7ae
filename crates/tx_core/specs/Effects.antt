-- What each effect of a reaction does, with a row as the node.
use Rattle.std.specs.Prelude.{ℕ, ◌+◌, ◌-◌, Bool, true, false, not, max, min, List, [], ◌∷◌, Option, Some, None, if◌then◌else◌}
use Rattle.std.specs.Option.{option_map_or}
use Rattle.tx_geom.specs.declared.places.Size.{Size}
use Rattle.tx_route.specs.Focus.{focus_order, step_along}
use Rattle.tx_tree.specs.Classes.{has_name, with_name, without}
use Rattle.tx_tree.specs.Edits.{changed_at, with_classes}
use Rattle.tx_tree.specs.Rows.{row_at}
use Rattle.tx_tree.specs.declared.bind.Jump.{Jump}
use Rattle.tx_tree.specs.declared.bind.Jump.TheVariants.{Up, Down, Home, End, PageUp, PageDown}
use Rattle.tx_tree.specs.declared.row.NodeId.{NodeId}
use Rattle.tx_tree.specs.declared.row.Row.{Row}
use Rattle.tx_widgets.specs.declared.reactions.message.Effect.{Effect}
use Rattle.tx_widgets.specs.declared.reactions.message.Effect.TheVariants.{Post, Focus, FocusNext, FocusPrevious, Scroll, ToggleClass, ToggleDark}
use Rattle.tx_opening.specs.OpeningState.{may_have_focus}
use Rattle.tx_core.specs.State.{State, frame_in, viewport_in, with_dark, with_focus, with_one, with_rows}
use Rattle.tx_core.specs.Waiting.{put_above}

-- ---- the focus

-- whether the row of a node may be focused
abbrev pub may_be_focused : List Row → NodeId → Bool
may_be_focused rows node = option_map_or (may_have_focus rows) (row_at node.0 rows) false

-- the row is focused, where it may be
abbrev pub focused_if : Bool → NodeId → State → State
focused_if true node state = with_focus (Some node) state
focused_if false node state = state

-- another row is focused, where there is one
abbrev pub focused_on : Option NodeId → State → State
focused_on None state = state
focused_on (Some node) state = with_focus (Some node) state

-- the focus goes one step along the focus order, forwards or back
abbrev pub focus_moved : Bool → State → State
focus_moved back state = focused_on (step_along back (focus_order (frame_in state) state.rows) state.pseudo.focused) state

-- ---- scrolls

-- as far as a row is ever scrolled
abbrev pub farthest : ℕ
farthest = 4294967295

-- a page is as high as the row's viewport, but at least a line: a line where it has none
abbrev pub page_of : Option Size → ℕ
page_of viewport = option_map_or (λ size. max 1 size.height) viewport 1

-- how far down it is scrolled after a jump
abbrev pub jumped : ℕ → Jump → ℕ → ℕ
jumped page Up y = y - 1
jumped page Down y = min farthest (y + 1)
jumped page Home y = 0
jumped page End y = farthest
jumped page PageUp y = y - page
jumped page PageDown y = min farthest (y + page)

-- a row is scrolled up or down
abbrev pub scrolled : NodeId → Jump → State → State
scrolled node jump state =
    record state { scrolls = with_one state.scrolls node.0 ((state.scrolls node.0).0, jumped (page_of (viewport_in state node)) jump (state.scrolls node.0).1) }

-- ---- classes

-- a name is taken away where it is there, and else added
abbrev pub toggled : List ℕ → List (List ℕ) → List (List ℕ)
toggled name names = if has_name name names then without name names else with_name name names

-- ---- effects

abbrev pub applied : NodeId → Effect → State → State
applied node (Post message) state = put_above node message state
applied node Focus state = focused_if (may_be_focused state.rows node) node state
applied node FocusNext state = focus_moved false state
applied node FocusPrevious state = focus_moved true state
applied node (Scroll jump) state = scrolled node jump state
applied node (ToggleClass name) state = with_rows (changed_at node.0 (with_classes (toggled name)) state.rows) state
applied node ToggleDark state = with_dark (not state.pseudo.dark) state

-- one after another
abbrev pub all_applied : NodeId → List Effect → State → State
all_applied node [] state = state
all_applied node (effect ∷ effects) state = all_applied node effects (applied node effect state)
