-- What is kept of a picture.
use Rattle.std.specs.Prelude.{◌≡◌, ℕ, Bool, true, List, Option, is_some, option_map, slice_get, Ok}
use Rattle.std.specs.Option.{option_and_then}
use Rattle.tx_compose.specs.Frame.{frame_with, is_on}
use Rattle.tx_compose.specs.Presented.{Presented, map_of, styles_of}
use Rattle.tx_compose.specs.Seen.{AreSeen}
use Rattle.tx_map.specs.declared.entry.Entry.{Entry}
use Rattle.tx_node_map.specs.Held.{held}
use Rattle.tx_owner.specs.Owner.{at_cell, is_seen, owner_node, owners, spot}
use Rattle.tx_owner.specs.Owners.{OwnersValue}
use Rattle.tx_tree.specs.declared.row.NodeId.{NodeId}
use Rattle.tx_widgets.specs.Frame.{IsFrame}

-- the node of the entry at a place, if there is one
abbrev pub node_at : List Entry → Option ℕ → Option NodeId
node_at entries place = option_and_then (λ at. option_map (λ entry. entry.node) (slice_get entries at)) place

-- the owners are those of the cells of the screen, and each of these has one
pub record AreOwned (shown : Presented) (entries : List Entry) (lines : List (List (Option ℕ))) : Type 0 where
  pub owner : (x y : ℕ) → is_on shown.size x y ≡ true → node_at entries (at_cell lines x y) ≡ owner_node (styles_of shown) entries x y
  pub some : (x y : ℕ) → is_on shown.size x y ≡ true → is_some (owner_node (styles_of shown) entries x y) ≡ true

-- The map, the owners and what is visible are those of the picture, and what its frame reports keeps the law of frames.
pub record IsKept (shown : Presented) (entries : List Entry) (kept : OwnersValue) (seen : ℕ → Option Bool) : Type 0 where
  pub map : map_of shown ≡ Ok entries
  pub owned : AreOwned shown entries kept.lines
  pub spots : (n : ℕ) → held kept.spots n ≡ spot entries (owners (styles_of shown) entries shown.size) n
  pub visible : AreSeen (is_seen (styles_of shown)) entries seen
  pub frame : IsFrame (frame_with shown entries)
