-- What a refresh sends, and what it makes of the state.
use Rattle.std.specs.Prelude.{ℕ, Bool, true, false, nat_lt, List, [], ◌∷◌, length, take, Option, Some, None, option_map, Ok, Err, if◌then◌else◌}
use Rattle.std.specs.Option.{option_map_or}
use Rattle.tx_cascade.specs.Styles.{StylesValue}
use Rattle.tx_cell.specs.Grid.{GridValue}
use Rattle.tx_compose.specs.Frame.{frame_with}
use Rattle.tx_compose.specs.Presented.{presented}
use Rattle.tx_map.specs.LayoutMap.{Mapped, layout_map}
use Rattle.tx_map.specs.Lookup.{entry_of}
use Rattle.tx_map.specs.Present.{scene_of}
use Rattle.tx_map.specs.declared.entry.Entry.{Entry as Placed}
use Rattle.tx_picture.specs.Picture.{picture}
use Rattle.tx_term.specs.Update.{update}
use Rattle.tx_core.specs.Outcome.{Outcome}
use Rattle.tx_core.specs.State.{Kept, State}
use Rattle.tx_core.specs.declared.entry.Entry.TheVariants.{Refresh}
use Rattle.tx_core.specs.declared.entry.Refreshed.{Refreshed}
use Rattle.tx_core.specs.declared.entry.Refreshed.TheVariants.{Accepted, Fraction, SinkFault, NoMemory}

-- ---- the picture

-- what styles are made of
abbrev pub styling_in : State → StylesValue
styling_in state = record { sheet = state.sheet; rows = state.rows; state = state.pseudo }

-- where the rows stand; or the first container whose arrangement is undefined, with its axis
unfoldable pub map_in : State → Mapped (List Placed)
map_in state = layout_map (scene_of (styling_in state) (λ n. Some (state.scrolls n)) state.size)

-- what each cell of the screen shows, where the rows stand so
unfoldable pub picture_in : State → List Placed → GridValue
picture_in state entries = picture (styling_in state) entries state.size

-- ---- how it may end

-- the frame in which rows stand so, which depends on no scroll beside, and their viewports
abbrev pub kept_of : State → List Placed → Kept
kept_of state entries = record {
  frame = frame_with (presented state.sheet state.rows state.pseudo [] state.size) entries;
  viewport = λ node. option_map (λ entry. entry.viewport) (entry_of node.0 entries);
}

-- A refresh that is accepted: its frame and its picture are kept, each row that takes part is scrolled as far as is in range, and the next
-- update isn't whole.
abbrev pub accepted : State → List Placed → State
accepted state entries = record state {
  kept = Some (kept_of state entries);
  shown = picture_in state entries;
  scrolls = λ n. option_map_or (λ entry. entry.scroll) (entry_of n entries) (state.scrolls n);
  whole = false;
}

-- one that is refused: the next update is whole
abbrev pub refused : State → State
refused state = record state { whole = true }

-- it is refused before anything is sent
abbrev pub unsent : Refreshed → State → Outcome
unsent result state = record { entries = Refresh result 0 0 ∷ []; state = refused state; bytes = [] }

-- ---- sending

-- the sink takes all of these bytes, or it fails after so many
abbrev pub sent_or_failed : State → List Placed → List ℕ → Option ℕ → Outcome
sent_or_failed state entries bytes None = record { entries = Refresh Accepted (length bytes) 0 ∷ []; state = accepted state entries; bytes = bytes }
sent_or_failed state entries bytes (Some count) = record { entries = Refresh SinkFault count 1 ∷ []; state = refused state; bytes = take count bytes }

-- where the sink would fail after so many bytes: never, where there are no more
abbrev pub failing : Option ℕ → List ℕ → Option ℕ
failing None bytes = None
failing (Some count) bytes = if nat_lt count (length bytes) then Some count else None

-- the bytes that lead from the cells that are shown to the picture
abbrev pub update_in : State → List Placed → List ℕ
update_in state entries = update state.shown (picture_in state entries) state.whole

-- the update is sent where the picture is defined
abbrev pub shown_or : State → Option ℕ → Mapped (List Placed) → Outcome
shown_or state fails (Err fault) = unsent (Fraction fault.0 fault.1) state
shown_or state fails (Ok entries) = sent_or_failed state entries (update_in state entries) (failing fails (update_in state entries))

-- ---- the event

-- where memory is wanting nothing is sent
abbrev pub refreshed_if : Bool → Option ℕ → State → Outcome
refreshed_if true fails state = unsent NoMemory state
refreshed_if false fails state = shown_or state fails (map_in state)

-- a refresh, where memory is wanting or not, and where the sink would fail after so many bytes or never
unfoldable pub refreshed : Bool → Option ℕ → State → Outcome
refreshed wanting fails state = refreshed_if wanting fails state
