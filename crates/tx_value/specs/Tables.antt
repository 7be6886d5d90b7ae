-- The tables of the standard, in its own words: what a stylesheet may write, and what each word stands for.
use Rattle.std.specs.Prelude.{ℕ, List, [], ◌∷◌, Option, Some, None, true, codes}
use Rattle.tx_frac.specs.declared.scalars.Unit.{Unit}
use Rattle.tx_frac.specs.declared.scalars.Unit.TheVariants.{Cells, Percent, W, H, Vw, Vh, Fr}
use Rattle.tx_geom.specs.Marks.{no_marks}
use Rattle.tx_geom.specs.declared.choices.BorderKind.{BorderKind}
use Rattle.tx_geom.specs.declared.choices.BorderKind.TheVariants as border
use Rattle.tx_geom.specs.declared.styles.TextStyle.{TextStyle}
use Rattle.tx_value.specs.declared.property.Named.{Named}
use Rattle.tx_value.specs.declared.property.Named.TheVariants.{Longhand, Margin, Padding, Border, Overflow, Align, ContentAlign}
use Rattle.tx_value.specs.declared.property.Property.{Property}
use Rattle.tx_value.specs.declared.property.Property.TheVariants as property
use Rattle.tx_value.specs.declared.value.Word.{Word}
use Rattle.tx_value.specs.declared.value.Word.TheVariants as word

-- ---- names of declarations

abbrev pub names : List (List ℕ × Named)
names =
    (codes "display", Longhand property.Display) ∷
    (codes "visibility", Longhand property.Visibility) ∷
    (codes "layout", Longhand property.Layout) ∷
    (codes "dock", Longhand property.Dock) ∷
    (codes "width", Longhand property.Width) ∷
    (codes "height", Longhand property.Height) ∷
    (codes "min-width", Longhand property.MinWidth) ∷
    (codes "max-width", Longhand property.MaxWidth) ∷
    (codes "min-height", Longhand property.MinHeight) ∷
    (codes "max-height", Longhand property.MaxHeight) ∷
    (codes "box-sizing", Longhand property.BoxSizing) ∷
    (codes "margin", Margin) ∷
    (codes "margin-top", Longhand property.MarginTop) ∷
    (codes "margin-right", Longhand property.MarginRight) ∷
    (codes "margin-bottom", Longhand property.MarginBottom) ∷
    (codes "margin-left", Longhand property.MarginLeft) ∷
    (codes "padding", Padding) ∷
    (codes "padding-top", Longhand property.PaddingTop) ∷
    (codes "padding-right", Longhand property.PaddingRight) ∷
    (codes "padding-bottom", Longhand property.PaddingBottom) ∷
    (codes "padding-left", Longhand property.PaddingLeft) ∷
    (codes "border", Border) ∷
    (codes "border-top", Longhand property.BorderTop) ∷
    (codes "border-right", Longhand property.BorderRight) ∷
    (codes "border-bottom", Longhand property.BorderBottom) ∷
    (codes "border-left", Longhand property.BorderLeft) ∷
    (codes "background", Longhand property.Background) ∷
    (codes "color", Longhand property.Color) ∷
    (codes "text-style", Longhand property.TextStyle) ∷
    (codes "grid-size", Longhand property.GridSize) ∷
    (codes "grid-columns", Longhand property.GridColumns) ∷
    (codes "grid-rows", Longhand property.GridRows) ∷
    (codes "grid-gutter", Longhand property.GridGutter) ∷
    (codes "column-span", Longhand property.ColumnSpan) ∷
    (codes "row-span", Longhand property.RowSpan) ∷
    (codes "layers", Longhand property.Layers) ∷
    (codes "layer", Longhand property.Layer) ∷
    (codes "overflow", Overflow) ∷
    (codes "overflow-x", Longhand property.OverflowX) ∷
    (codes "overflow-y", Longhand property.OverflowY) ∷
    (codes "offset", Longhand property.Offset) ∷
    (codes "align", Align) ∷
    (codes "align-horizontal", Longhand property.AlignHorizontal) ∷
    (codes "align-vertical", Longhand property.AlignVertical) ∷
    (codes "content-align", ContentAlign) ∷
    (codes "content-align-horizontal", Longhand property.ContentAlignHorizontal) ∷
    (codes "content-align-vertical", Longhand property.ContentAlignVertical) ∷
    (codes "text-align", Longhand property.TextAlign) ∷
    []

-- the properties that a name stands for, in their order: top, right, bottom, left; or x, y; or horizontal, vertical
abbrev pub properties : Named → List Property
properties (Longhand one) = one ∷ []
properties Margin = property.MarginTop ∷ property.MarginRight ∷ property.MarginBottom ∷ property.MarginLeft ∷ []
properties Padding = property.PaddingTop ∷ property.PaddingRight ∷ property.PaddingBottom ∷ property.PaddingLeft ∷ []
properties Border = property.BorderTop ∷ property.BorderRight ∷ property.BorderBottom ∷ property.BorderLeft ∷ []
properties Overflow = property.OverflowX ∷ property.OverflowY ∷ []
properties Align = property.AlignHorizontal ∷ property.AlignVertical ∷ []
properties ContentAlign = property.ContentAlignHorizontal ∷ property.ContentAlignVertical ∷ []

-- ---- keywords

abbrev pub keywords : List (List ℕ × Word)
keywords =
    (codes "block", word.Block) ∷
    (codes "none", word.Nothing) ∷
    (codes "visible", word.Visible) ∷
    (codes "hidden", word.Hidden) ∷
    (codes "vertical", word.Vertical) ∷
    (codes "horizontal", word.Horizontal) ∷
    (codes "grid", word.Grid) ∷
    (codes "top", word.Top) ∷
    (codes "right", word.Right) ∷
    (codes "bottom", word.Bottom) ∷
    (codes "left", word.Left) ∷
    (codes "border-box", word.BorderBox) ∷
    (codes "content-box", word.ContentBox) ∷
    (codes "auto", word.Auto) ∷
    (codes "scroll", word.Scroll) ∷
    (codes "center", word.Center) ∷
    (codes "middle", word.Middle) ∷
    []

-- those of `display`
abbrev pub displays : List Word
displays = word.Block ∷ word.Nothing ∷ []

-- those of `visibility`
abbrev pub visibilities : List Word
visibilities = word.Visible ∷ word.Hidden ∷ []

-- those of `layout`
abbrev pub layouts : List Word
layouts = word.Vertical ∷ word.Horizontal ∷ word.Grid ∷ []

-- those of `dock`
abbrev pub docks : List Word
docks = word.Top ∷ word.Right ∷ word.Bottom ∷ word.Left ∷ word.Nothing ∷ []

-- those of `box-sizing`
abbrev pub box_sizings : List Word
box_sizings = word.BorderBox ∷ word.ContentBox ∷ []

-- those of `overflow-x` and `overflow-y`
abbrev pub overflows : List Word
overflows = word.Auto ∷ word.Hidden ∷ word.Scroll ∷ []

-- those of `align-horizontal`, `content-align-horizontal` and `text-align`
abbrev pub places_across : List Word
places_across = word.Left ∷ word.Center ∷ word.Right ∷ []

-- those of `align-vertical` and `content-align-vertical`
abbrev pub places_down : List Word
places_down = word.Top ∷ word.Middle ∷ word.Bottom ∷ []

-- ---- units, borders and marks

-- what stands after the number of a size
abbrev pub units : List (List ℕ × Unit)
units = (codes "", Cells) ∷ (codes "%", Percent) ∷ (codes "w", W) ∷ (codes "h", H) ∷ (codes "vw", Vw) ∷ (codes "vh", Vh) ∷ (codes "fr", Fr) ∷ []

-- the kinds of a border; `none` is none of them
abbrev pub borders : List (List ℕ × Option BorderKind)
borders =
    (codes "none", None) ∷
    (codes "blank", Some border.Blank) ∷
    (codes "ascii", Some border.Ascii) ∷
    (codes "solid", Some border.Solid) ∷
    (codes "round", Some border.Round) ∷
    (codes "double", Some border.Double) ∷
    (codes "heavy", Some border.Heavy) ∷
    []

-- the marks of a text
abbrev pub marks : List (List ℕ × TextStyle)
marks =
    (codes "bold", record no_marks { bold = true }) ∷
    (codes "dim", record no_marks { dim = true }) ∷
    (codes "italic", record no_marks { italic = true }) ∷
    (codes "underline", record no_marks { underline = true }) ∷
    (codes "reverse", record no_marks { reverse = true }) ∷
    (codes "strike", record no_marks { strike = true }) ∷
    []
