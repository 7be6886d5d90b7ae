-- Styles: one value for each property.
use Rattle.std.specs.Prelude.{◌≡◌, ℕ, List, [], ◌∷◌, length, map, get_or, slice_set}
use Rattle.tx_value.specs.Initial.{initial}
use Rattle.tx_value.specs.declared.property.Property.{Property}
use Rattle.tx_value.specs.declared.property.Property.TheVariants.{Display, Visibility, Layout, Dock, Width, Height, MinWidth, MaxWidth, MinHeight, MaxHeight, BoxSizing, MarginTop, MarginRight, MarginBottom, MarginLeft, PaddingTop, PaddingRight, PaddingBottom, PaddingLeft, BorderTop, BorderRight, BorderBottom, BorderLeft, Background, Color, TextStyle, GridSize, GridColumns, GridRows, GridGutter, ColumnSpan, RowSpan, Layers, Layer, OverflowX, OverflowY, Offset, AlignHorizontal, AlignVertical, ContentAlignHorizontal, ContentAlignVertical, TextAlign}
use Rattle.tx_value.specs.declared.value.Value.{Value}
use Rattle.tx_value.specs.declared.value.Value.TheVariants.{Initial}

-- the place of a property in the order of the table
unfoldable pub number : Property → ℕ
number Display = 0
number Visibility = 1
number Layout = 2
number Dock = 3
number Width = 4
number Height = 5
number MinWidth = 6
number MaxWidth = 7
number MinHeight = 8
number MaxHeight = 9
number BoxSizing = 10
number MarginTop = 11
number MarginRight = 12
number MarginBottom = 13
number MarginLeft = 14
number PaddingTop = 15
number PaddingRight = 16
number PaddingBottom = 17
number PaddingLeft = 18
number BorderTop = 19
number BorderRight = 20
number BorderBottom = 21
number BorderLeft = 22
number Background = 23
number Color = 24
number TextStyle = 25
number GridSize = 26
number GridColumns = 27
number GridRows = 28
number GridGutter = 29
number ColumnSpan = 30
number RowSpan = 31
number Layers = 32
number Layer = 33
number OverflowX = 34
number OverflowY = 35
number Offset = 36
number AlignHorizontal = 37
number AlignVertical = 38
number ContentAlignHorizontal = 39
number ContentAlignVertical = 40
number TextAlign = 41

-- all of them in that order
abbrev pub every_property : List Property
every_property =
    Display ∷
    Visibility ∷
    Layout ∷
    Dock ∷
    Width ∷
    Height ∷
    MinWidth ∷
    MaxWidth ∷
    MinHeight ∷
    MaxHeight ∷
    BoxSizing ∷
    MarginTop ∷
    MarginRight ∷
    MarginBottom ∷
    MarginLeft ∷
    PaddingTop ∷
    PaddingRight ∷
    PaddingBottom ∷
    PaddingLeft ∷
    BorderTop ∷
    BorderRight ∷
    BorderBottom ∷
    BorderLeft ∷
    Background ∷
    Color ∷
    TextStyle ∷
    GridSize ∷
    GridColumns ∷
    GridRows ∷
    GridGutter ∷
    ColumnSpan ∷
    RowSpan ∷
    Layers ∷
    Layer ∷
    OverflowX ∷
    OverflowY ∷
    Offset ∷
    AlignHorizontal ∷
    AlignVertical ∷
    ContentAlignHorizontal ∷
    ContentAlignVertical ∷
    TextAlign ∷
    []

-- a value for each property, in that order
abbrev pub Values : Type 0
Values = List Value

abbrev pub IsStyle : List Value → Type 0
IsStyle style = length style ≡ 42

-- the value that a style has for a property
abbrev pub style_value : List Value → Property → Value
style_value style property = get_or style (number property) Initial

-- another value for one property
abbrev pub with_value : List Value → Property → Value → List Value
with_value style property value = slice_set style (number property) value

-- the initial value of each
abbrev pub initial_style : List Value
initial_style = map initial every_property

-- a style is what its values for all properties make
abbrev pub StylesAreTheirValues : Type 0
StylesAreTheirValues = (style : List Value) → IsStyle style → style ≡ map (style_value style) every_property

-- and any choice of values makes one
abbrev pub ValuesMakeStyles : Type 0
ValuesMakeStyles = (choice : Property → Value) → IsStyle (map choice every_property) × ((property : Property) → style_value (map choice every_property) property ≡ choice property)
