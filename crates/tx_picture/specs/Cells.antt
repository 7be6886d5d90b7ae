-- The cells of a line, by the drawings of rows.
use Rattle.std.specs.Prelude.{◌≡◌, ℕ, List, [], length, map, get_or, slice_get, Option, Some, None}
use Rattle.std.specs.List.{range_with_len}
use Rattle.std.specs.Option.{option_map_or}
use Rattle.tx_cell.specs.Cell.{CellValue}
use Rattle.tx_geom.specs.Region.{Holds}
use Rattle.tx_geom.specs.declared.places.Region.{Region}
use Rattle.tx_map.specs.declared.entry.Entry.{Entry}
use Rattle.tx_paint.specs.Drawing.{DrawingValue, IsDrawing}
use Rattle.tx_picture.specs.Picture.{drawn_in, empty, shown_line}
use Rattle.tx_widgets.specs.Frame.{place}

-- what the entry at a place shows at a cell, by the drawings of all entries
abbrev pub cell_by : List Entry → List (Option DrawingValue) → ℕ → ℕ → ℕ → CellValue
cell_by entries drawings y at x =
    option_map_or (λ entry. option_map_or (λ d. drawn_in entry.region d x y) (get_or drawings at None) empty) (slice_get entries at) empty

-- a region holds a cell, and a drawing is as large as the region
pub record Covers (region : Region) (d : DrawingValue) (x y : ℕ) : Type 0 where
  pub holds : Holds region (place x y)
  pub size : d.size ≡ record { width = region.width; height = region.height }
  pub shape : IsDrawing d

-- so it is at a place that has an entry and a drawing
abbrev pub CoversAt : List Entry → List (Option DrawingValue) → ℕ → ℕ → ℕ → Type 0
CoversAt entries drawings y at x =
    (entry : Entry) (d : DrawingValue) → slice_get entries at ≡ Some entry → get_or drawings at None ≡ Some d → Covers entry.region d x y

-- each owner of a line covers the cells that it owns
abbrev pub OwnersCover : List Entry → List (Option DrawingValue) → ℕ → List (Option ℕ) → Type 0
OwnersCover entries drawings y owners = (x at : ℕ) → get_or owners x None ≡ Some at → CoversAt entries drawings y at x

-- the same of all lines
abbrev pub AllCover : List Entry → List (Option DrawingValue) → List (List (Option ℕ)) → Type 0
AllCover entries drawings lines = (y : ℕ) → OwnersCover entries drawings y (get_or lines y [])

-- each line has so many owners
abbrev pub AreWide : ℕ → List (List (Option ℕ)) → Type 0
AreWide width lines = (y : ℕ) (line : List (Option ℕ)) → slice_get lines y ≡ Some line → length line ≡ width

-- the lines of a screen with these owners, by the drawings of all entries
abbrev pub drawn_lines : List Entry → List (Option DrawingValue) → List (List (Option ℕ)) → List (List CellValue)
drawn_lines entries drawings lines = map (λ y. shown_line (cell_by entries drawings y) (get_or lines y [])) (range_with_len 0 (length lines))
