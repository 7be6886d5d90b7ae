-- The picture: what each cell of a screen shows, by the row that owns it.
use Rattle.std.specs.Prelude.{ℕ, ◌+◌, ◌-◌, ◌==◌, pos, ◌-ℤ◌, nat_abs, Bool, false, not, List, [], length, map, get_or, slice_get, Option, Some, None, option_map, if◌then◌else◌}
use Rattle.std.specs.List.{range_with_len}
use Rattle.std.specs.Option.{option_map_or}
use Rattle.tx_cascade.specs.Styles.{StylesValue, all_styles}
use Rattle.tx_cell.specs.Cell.{CellValue, blank}
use Rattle.tx_cell.specs.Grid.{GridValue}
use Rattle.tx_cell.specs.Pen.{white_on_black}
use Rattle.tx_cell.specs.Strip.{before_end, behind_start}
use Rattle.tx_geom.specs.declared.colours.Rgb.{Rgb}
use Rattle.tx_geom.specs.declared.places.Region.{Region}
use Rattle.tx_geom.specs.declared.places.Size.{Size}
use Rattle.tx_map.specs.declared.entry.Entry.{Entry}
use Rattle.tx_owner.specs.Owner.{owners}
use Rattle.tx_paint.specs.Drawing.{DrawingValue, drawing_of, drawn}
use Rattle.tx_paint.specs.Pens.{background_above}
use Rattle.tx_paint.specs.declared.placement.Placement.{Placement}
use Rattle.tx_select.specs.Holds.{is_row_of}
use Rattle.tx_sizes.specs.Forest.{Styles, styled}
use Rattle.tx_tree.specs.Row.{number}
use Rattle.tx_tree.specs.Rows.{ancestors_of, row_at}
use Rattle.tx_tree.specs.declared.row.Row.{Row}
use Rattle.tx_value.specs.declared.value.Value.{Value}

-- ---- rows

-- the styles of the rows by their numbers
abbrev pub styles_of : StylesValue → Styles
styles_of shown = all_styles shown.sheet shown.state shown.rows

-- the style of a row
abbrev pub style_of : StylesValue → Row → List Value
style_of shown row = (styled (styles_of shown) row).style

-- the background under the row with a number: that of its ancestors, each over its parent's
unfoldable pub background_under : StylesValue → ℕ → Rgb
background_under shown n = background_above shown.state.dark (map (style_of shown) (ancestors_of n shown.rows))

-- how large the region of an entry is, and what it shows of the children
abbrev pub placement_of : Entry → Placement
placement_of entry =
    record {
      size = record { width = entry.region.width; height = entry.region.height };
      viewport = entry.viewport;
      over = entry.over;
      scroll = entry.scroll;
    }

-- the drawing of a row that stands where its entry says
unfoldable pub row_drawing : StylesValue → Entry → Row → DrawingValue
row_drawing shown entry row =
    drawing_of shown.state.dark (style_of shown row) (background_under shown (number row)) row.kind row.text row.private
    (is_row_of shown.state.focused (number row)) (placement_of entry)

-- the drawing of the row of an entry, where the tree has that row
abbrev pub entry_drawing : StylesValue → Entry → Option DrawingValue
entry_drawing shown entry = option_map (row_drawing shown entry) (row_at entry.node.0 shown.rows)

-- ---- cells

-- what shows where there is no row
abbrev pub empty : CellValue
empty = blank white_on_black

-- what a drawing shows at a cell of the screen, which is counted from the corner of the region
abbrev pub drawn_in : Region → DrawingValue → ℕ → ℕ → CellValue
drawn_in region d x y = drawn d (nat_abs (pos x -ℤ region.x)) (nat_abs (pos y -ℤ region.y))

-- the same of the row of an entry
abbrev pub entry_cell : StylesValue → ℕ → ℕ → Entry → CellValue
entry_cell shown x y entry = option_map_or (λ d. drawn_in entry.region d x y) (entry_drawing shown entry) empty

-- the same of the entry at a place, in a line of the screen
abbrev pub place_cell : StylesValue → List Entry → ℕ → ℕ → ℕ → CellValue
place_cell shown entries y place x = option_map_or (entry_cell shown x y) (slice_get entries place) empty

-- ---- halves of wide clusters

-- whether an owner is the entry at a place
abbrev pub is_place : ℕ → Option ℕ → Bool
is_place place None = false
is_place place (Some other) = other == place

-- the owners of the cells to the left and to the right of a column of a line: none off the screen
abbrev pub left_owner : List (Option ℕ) → ℕ → Option ℕ
left_owner owners x = if x == 0 then None else get_or owners (x - 1) None

abbrev pub right_owner : List (Option ℕ) → ℕ → Option ℕ
right_owner owners x = get_or owners (x + 1) None

-- A cell of a row that owns the cells to its left and to its right or doesn't: a half of a wide cluster whose other half the row doesn't
-- own is a blank of the same pen.
abbrev pub kept_half : Bool → Bool → CellValue → CellValue
kept_half left right cell = before_end (not right) (behind_start (not left) cell)

-- ---- the picture

-- what shows in a column of a line that the entry at a place owns, by what each place shows in each column
abbrev pub owned_cell : (ℕ → ℕ → CellValue) → List (Option ℕ) → ℕ → ℕ → CellValue
owned_cell cells owners x place =
    kept_half (is_place place (left_owner owners x)) (is_place place (right_owner owners x)) (cells place x)

-- what shows in a column of a line with these owners
abbrev pub shown_cell : (ℕ → ℕ → CellValue) → List (Option ℕ) → ℕ → CellValue
shown_cell cells owners x = option_map_or (owned_cell cells owners x) (get_or owners x None) empty

-- such a line
unfoldable pub shown_line : (ℕ → ℕ → CellValue) → List (Option ℕ) → List CellValue
shown_line cells owners = map (shown_cell cells owners) (range_with_len 0 (length owners))

-- the lines of a screen with these owners
unfoldable pub shown_lines : StylesValue → List Entry → List (List (Option ℕ)) → List (List CellValue)
shown_lines shown entries lines =
    map (λ y. shown_line (place_cell shown entries y) (get_or lines y [])) (range_with_len 0 (length lines))

-- The picture on a screen of this size: each cell shows what its owner draws there.
abbrev pub picture : StylesValue → List Entry → Size → GridValue
picture shown entries size = record { size = size; rows = shown_lines shown entries (owners (styles_of shown) entries size) }
