-- What a screen shows, and its picture.
use Rattle.std.specs.Prelude.{ℕ, ◌≤◌, List, Option, Ok}
use Rattle.tx_cascade.specs.Styles.{StylesValue, all_styles}
use Rattle.tx_cell.specs.Grid.{GridValue}
use Rattle.tx_geom.specs.declared.places.Size.{Size}
use Rattle.tx_map.specs.LayoutMap.{Mapped, layout_map}
use Rattle.tx_map.specs.Present.{scene_of}
use Rattle.tx_map.specs.declared.entry.Entry.{Entry}
use Rattle.tx_node_map.specs.Held.{held}
use Rattle.tx_parse.specs.Values.{SheetValue}
use Rattle.tx_picture.specs.Picture.{picture}
use Rattle.tx_read.specs.Reading.{◌>>=◌}
use Rattle.tx_select.specs.declared.value.Pseudo.{Pseudo}
use Rattle.tx_sizes.specs.Forest.{Styles}
use Rattle.tx_tree.specs.declared.row.Row.{Row}

-- a sheet, the rows of a tree, by what pseudo-classes are judged, how far rows are scrolled, by the numbers of their nodes, and the size of
-- the screen
pub record Presented : Type 0 where
  pub sheet : SheetValue
  pub rows : List Row
  pub pseudo : Pseudo
  pub scrolls : List (Option (ℕ × ℕ))
  pub size : Size

abbrev pub presented : SheetValue → List Row → Pseudo → List (Option (ℕ × ℕ)) → Size → Presented
presented sheet rows pseudo scrolls size = record { sheet = sheet; rows = rows; pseudo = pseudo; scrolls = scrolls; size = size }

-- a screen within the limits
pub record IsScreen (size : Size) : Type 0 where
  pub some_width : 1 ≤ size.width
  pub width : size.width ≤ 1024
  pub some_height : 1 ≤ size.height
  pub height : size.height ≤ 512

-- what styles are made of
abbrev pub styling : Presented → StylesValue
styling shown = record { sheet = shown.sheet; rows = shown.rows; state = shown.pseudo }

-- the styles of the rows by their numbers
abbrev pub styles_of : Presented → Styles
styles_of shown = all_styles shown.sheet shown.pseudo shown.rows

-- The entries of all rows that take part; or the first container, in the order of the document, whose arrangement is undefined, with its
-- axis.
unfoldable pub map_of : Presented → Mapped (List Entry)
map_of shown = layout_map (scene_of (styling shown) (held shown.scrolls) shown.size)

-- The picture: what each cell shows by its owner. It is undefined where the map is.
abbrev pub composed : Presented → Mapped GridValue
composed shown = map_of shown >>= (λ entries. Ok (picture (styling shown) entries shown.size))
