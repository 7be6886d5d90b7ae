-- The initial values of the table of properties.
use Rattle.std.specs.Prelude.{pos, [], None}
use Rattle.tx_frac.specs.Ratio.{whole_of}
use Rattle.tx_frac.specs.declared.scalars.Scalar.{Scalar}
use Rattle.tx_frac.specs.declared.scalars.Unit.TheVariants.{Percent}
use Rattle.tx_geom.specs.Marks.{no_marks}
use Rattle.tx_value.specs.PropertyTable.{Sort, Keyword, Size, Limit, Whole, Border, Colour, Marks, GridSize, Tracks, Gutter, Layers, Layer, Offset, sort_of}
use Rattle.tx_value.specs.declared.property.Property.{Property}
use Rattle.tx_value.specs.declared.value.Value.{Value}
use Rattle.tx_value.specs.declared.value.Value.TheVariants as value
use Rattle.tx_value.specs.declared.value.Word.TheVariants.{Nothing}

-- the whole of what it is a size of
abbrev pub whole_size : Scalar
whole_size = record { value = whole_of (pos 100); unit = Percent }

abbrev pub initial_of_sort : Sort → Value
initial_of_sort (Keyword choices first) = value.Word first
initial_of_sort Size = value.Size whole_size
initial_of_sort Limit = value.Word Nothing
initial_of_sort (Whole least most) = value.Whole least
initial_of_sort Border = value.Word Nothing
initial_of_sort (Colour first) = value.Ink first
initial_of_sort Marks = value.Marks no_marks
initial_of_sort GridSize = value.GridSize 1 None
initial_of_sort Tracks = value.Sizes []
initial_of_sort Gutter = value.Pair (pos 0) (pos 0)
initial_of_sort Layers = value.Word Nothing
initial_of_sort Layer = value.Word Nothing
initial_of_sort Offset = value.Pair (pos 0) (pos 0)

unfoldable pub initial : Property → Value
initial property = initial_of_sort (sort_of property)
