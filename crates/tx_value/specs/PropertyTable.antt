-- The table of properties: what sort of values each one takes, with its initial value.
use Rattle.std.specs.Prelude.{ℕ, List}
use Rattle.tx_value.specs.Colours.{clear}
use Rattle.tx_value.specs.Tables.{displays, visibilities, layouts, docks, box_sizings, overflows, places_across, places_down}
use Rattle.tx_value.specs.declared.property.Property.{Property}
use Rattle.tx_value.specs.declared.property.Property.TheVariants as property
use Rattle.tx_value.specs.declared.theme.ThemeName.TheVariants.{Foreground}
use Rattle.tx_value.specs.declared.value.Ink.{Ink}
use Rattle.tx_value.specs.declared.value.Ink.TheVariants.{Theme}
use Rattle.tx_value.specs.declared.value.Word.{Word}
use Rattle.tx_value.specs.declared.value.Word.TheVariants as word

pub data Sort : Type 0 where
  -- one of some keywords; the initial one
  Keyword : List Word → Word → Sort
  -- a size; 100%
  Size : Sort
  -- `none`, or a size without `fr` and `auto`; `none`
  Limit : Sort
  -- a whole number from one number to another; the least one
  Whole : ℕ → ℕ → Sort
  -- `none`, or a kind with or without a colour; `none`
  Border : Sort
  -- a colour; the initial one
  Colour : Ink → Sort
  -- `none`, or one or more marks; `none`
  Marks : Sort
  -- columns from 1 to 100, and rows from 1 to 1,000 where they are given; one column
  GridSize : Sort
  -- 1 to 60 sizes without `auto`; none
  Tracks : Sort
  -- one number for both, or vertical and horizontal, to 9,999; 0
  Gutter : Sort
  -- 1 to 32 names; none
  Layers : Sort
  -- a name; none
  Layer : Sort
  -- two numbers from -9,999 to 9,999; 0 and 0
  Offset : Sort

abbrev pub sort_of : Property → Sort
sort_of property.Display = Keyword displays word.Block
sort_of property.Visibility = Keyword visibilities word.Visible
sort_of property.Layout = Keyword layouts word.Vertical
sort_of property.Dock = Keyword docks word.Nothing
sort_of property.Width = Size
sort_of property.Height = Size
sort_of property.MinWidth = Limit
sort_of property.MaxWidth = Limit
sort_of property.MinHeight = Limit
sort_of property.MaxHeight = Limit
sort_of property.BoxSizing = Keyword box_sizings word.BorderBox
sort_of property.MarginTop = Whole 0 9999
sort_of property.MarginRight = Whole 0 9999
sort_of property.MarginBottom = Whole 0 9999
sort_of property.MarginLeft = Whole 0 9999
sort_of property.PaddingTop = Whole 0 9999
sort_of property.PaddingRight = Whole 0 9999
sort_of property.PaddingBottom = Whole 0 9999
sort_of property.PaddingLeft = Whole 0 9999
sort_of property.BorderTop = Border
sort_of property.BorderRight = Border
sort_of property.BorderBottom = Border
sort_of property.BorderLeft = Border
sort_of property.Background = Colour clear
sort_of property.Color = Colour (Theme Foreground 100)
sort_of property.TextStyle = Marks
sort_of property.GridSize = GridSize
sort_of property.GridColumns = Tracks
sort_of property.GridRows = Tracks
sort_of property.GridGutter = Gutter
sort_of property.ColumnSpan = Whole 1 100
sort_of property.RowSpan = Whole 1 100
sort_of property.Layers = Layers
sort_of property.Layer = Layer
sort_of property.OverflowX = Keyword overflows word.Hidden
sort_of property.OverflowY = Keyword overflows word.Hidden
sort_of property.Offset = Offset
sort_of property.AlignHorizontal = Keyword places_across word.Left
sort_of property.AlignVertical = Keyword places_down word.Top
sort_of property.ContentAlignHorizontal = Keyword places_across word.Left
sort_of property.ContentAlignVertical = Keyword places_down word.Top
sort_of property.TextAlign = Keyword places_across word.Left
