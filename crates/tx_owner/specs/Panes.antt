-- The part of the screen in which each entry shows.
use Rattle.std.specs.Prelude.{◌≡◌, ℕ, ◌≤◌, ◌<◌, ℤ, pos, negsuc, ◌+ℤ◌, Bool, true, false, not, ◌&&◌, ◌||◌, nat_lt, nat_le, List, map, Option, option_map, min, None}
use Rattle.std.specs.Int.{int_max, int_min}
use Rattle.std.specs.List.{filter, find}
use Rattle.tx_geom.specs.declared.places.Region.{Region}
use Rattle.tx_geom.specs.declared.places.Size.{Size}
use Rattle.tx_map.specs.declared.entry.Entry.{Entry}
use Rattle.tx_owner.specs.Owner.{Placed, is_seen, placed_from}
use Rattle.tx_sizes.specs.Forest.{Styles}

-- columns from `left` up to, but not including, `right`, and so the rows, with the place and the key of the entry
pub record PaneValue : Type 0 where
  pub place : ℕ
  pub key : List ℕ
  pub left : ℕ
  pub right : ℕ
  pub top : ℕ
  pub bottom : ℕ

-- a column or row, kept from 0 to a side of the screen
abbrev pub kept_in : ℕ → ℤ → ℕ
kept_in most (pos n) = min n most
kept_in most (negsuc n) = 0

-- where two runs of columns or rows both are
abbrev pub first_of : ℕ → ℤ → ℤ → ℕ
first_of most one other = kept_in most (int_max one other)

abbrev pub end_of : ℕ → ℤ → ℕ → ℤ → ℕ → ℕ
end_of most one count other more = kept_in most (int_min (one +ℤ pos count) (other +ℤ pos more))

abbrev pub pane_of : Size → Placed → PaneValue
pane_of size placed =
    record {
      place = placed.place;
      key = placed.entry.key;
      left = first_of size.width placed.entry.region.x placed.entry.clip.x;
      right = end_of size.width placed.entry.region.x placed.entry.region.width placed.entry.clip.x placed.entry.clip.width;
      top = first_of size.height placed.entry.region.y placed.entry.clip.y;
      bottom = end_of size.height placed.entry.region.y placed.entry.region.height placed.entry.clip.y placed.entry.clip.height;
    }

-- whether a pane has a cell
abbrev pub has_cells : PaneValue → Bool
has_cells pane = nat_lt pane.left pane.right && nat_lt pane.top pane.bottom

-- whether it is on a line, and whether a cell is one of its
abbrev pub is_on : ℕ → PaneValue → Bool
is_on y pane = nat_le pane.top y && nat_lt y pane.bottom

abbrev pub is_along : ℕ → PaneValue → Bool
is_along x pane = nat_le pane.left x && nat_lt x pane.right

abbrev pub covers : ℕ → ℕ → PaneValue → Bool
covers x y pane = is_along x pane && is_on y pane

-- those of entries with their places that are seen and have a cell on the screen
abbrev pub panes_of : Styles → Size → List Placed → List PaneValue
panes_of styles size placed = filter has_cells (map (pane_of size) (filter (λ one. is_seen styles one.entry) placed))

-- those of all entries
abbrev pub panes : Styles → List Entry → Size → List PaneValue
panes styles entries size = panes_of styles size (placed_from 0 entries)

-- the first of some panes that covers a cell, by its place
abbrev pub first_at : ℕ → ℕ → List PaneValue → Option ℕ
first_at x y all = option_map (λ pane. pane.place) (find (covers x y) all)
