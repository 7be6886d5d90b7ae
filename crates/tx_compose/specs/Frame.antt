-- What the frame of a picture reports of rows and cells.
use Rattle.std.specs.Prelude.{ℕ, Bool, false, ◌&&◌, nat_lt, List, [], Option, Some, None, option_map, Result, Ok, Err, if◌then◌else◌}
use Rattle.std.specs.Option.{option_and_then, option_map_or}
use Rattle.tx_compose.specs.Presented.{Presented, map_of, styles_of}
use Rattle.tx_geom.specs.declared.places.Size.{Size}
use Rattle.tx_map.specs.LayoutMap.{Mapped}
use Rattle.tx_map.specs.Lookup.{entry_of}
use Rattle.tx_map.specs.declared.entry.Entry.{Entry}
use Rattle.tx_owner.specs.Owner.{is_seen, owner_node, owners, spot}
use Rattle.tx_tree.specs.declared.row.NodeId.{NodeId}
use Rattle.tx_widgets.specs.Frame.{FrameValue}

-- whether a cell is on a screen of this size
abbrev pub is_on : Size → ℕ → ℕ → Bool
is_on size x y = nat_lt x size.width && nat_lt y size.height

-- With these entries the frame reports: on the screen the owner of each cell; the first cell, line by line from the top left, that a row
-- owns; the whole region of a row, whether it is clipped or not; and that a row is shown where it has an entry and is visible.
abbrev pub frame_with : Presented → List Entry → FrameValue
frame_with shown entries =
    record {
      owner = λ x y. if is_on shown.size x y then owner_node (styles_of shown) entries x y else None;
      spot = λ node. spot entries (owners (styles_of shown) entries shown.size) node.0;
      region = λ node. option_map (λ entry. entry.region) (entry_of node.0 entries);
      shown = λ node. option_map_or (is_seen (styles_of shown)) (entry_of node.0 entries) false;
    }

-- the entries of a map; of an undefined one there are none
abbrev pub entries_in : Mapped (List Entry) → List Entry
entries_in (Ok entries) = entries
entries_in (Err fault) = []

-- the frame of a picture
abbrev pub frame_of : Presented → FrameValue
frame_of shown = frame_with shown (entries_in (map_of shown))

-- the entry of a row in the frame of a picture
abbrev pub entry_in : Presented → NodeId → Option Entry
entry_in shown node = entry_of node.0 (entries_in (map_of shown))

-- ---- where there may be no frame

-- it reports nothing
abbrev pub no_frame : FrameValue
no_frame = record { owner = λ x y. None; spot = λ node. None; region = λ node. None; shown = λ node. false }

-- the frame of the picture of what was accepted last, if anything was
abbrev pub reported : Option Presented → FrameValue
reported None = no_frame
reported (Some shown) = frame_of shown

-- the entry of a row there
abbrev pub reported_entry : Option Presented → NodeId → Option Entry
reported_entry accepted node = option_and_then (λ shown. entry_in shown node) accepted

-- whether there is a frame, and it has the cell
abbrev pub has_cell : Option Presented → ℕ → ℕ → Bool
has_cell accepted x y = option_map_or (λ shown. is_on shown.size x y) accepted false
