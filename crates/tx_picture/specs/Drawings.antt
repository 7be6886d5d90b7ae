-- The drawings of the rows that own a cell.
use Rattle.std.specs.Prelude.{ℕ, List, map, Option, None, is_some, if◌then◌else◌}
use Rattle.tx_cascade.specs.Styles.{StylesValue}
use Rattle.tx_map.specs.declared.entry.Entry.{Entry}
use Rattle.tx_paint.specs.Drawing.{DrawingValue}
use Rattle.tx_picture.specs.Picture.{entry_drawing}

-- the drawing of an entry's row, where that row is met on the screen
abbrev pub drawing_where : StylesValue → (ℕ → Option (ℕ × ℕ)) → Entry → Option DrawingValue
drawing_where shown spots entry = if is_some (spots entry.node.0) then entry_drawing shown entry else None

-- those of all entries
abbrev pub drawings : StylesValue → (ℕ → Option (ℕ × ℕ)) → List Entry → List (Option DrawingValue)
drawings shown spots entries = map (drawing_where shown spots) entries
