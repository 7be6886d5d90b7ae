-- What a style says of each property, by the value that it has for it.
use Rattle.std.specs.Prelude.{ℕ, ◌+◌, Bool, not, List, Option, is_some, if◌then◌else◌}
use Rattle.tx_frac.specs.declared.scalars.Scalar.{Scalar}
use Rattle.tx_geom.specs.declared.choices.AlignX.{AlignX}
use Rattle.tx_geom.specs.declared.choices.AlignY.{AlignY}
use Rattle.tx_geom.specs.declared.choices.Axis.{Axis}
use Rattle.tx_geom.specs.declared.choices.Axis.TheVariants as axis
use Rattle.tx_geom.specs.declared.choices.BoxSizing.{BoxSizing}
use Rattle.tx_geom.specs.declared.choices.Edge.{Edge}
use Rattle.tx_geom.specs.declared.choices.Edge.TheVariants as edge
use Rattle.tx_geom.specs.declared.choices.LayoutKind.{LayoutKind}
use Rattle.tx_geom.specs.declared.choices.Overflow.{Overflow}
use Rattle.tx_geom.specs.declared.places.Offset.{Offset}
use Rattle.tx_geom.specs.declared.places.Spacing.{Spacing}
use Rattle.tx_geom.specs.declared.styles.TextStyle.{TextStyle}
use Rattle.tx_value.specs.Style.{style_value}
use Rattle.tx_value.specs.ValueReads.{word_in, says, size_in, limit_in, tracks_in, cells_in, span_in, grid_size_in, grid_gutter_in, offset_in, layer_in, layers_in, background_in, color_in, border_in, marks_in}
use Rattle.tx_value.specs.WordMeanings.{layout_of, dock_of, sizing_of, overflow_of, across_of, down_of}
use Rattle.tx_value.specs.declared.property.Property.{Property}
use Rattle.tx_value.specs.declared.property.Property.TheVariants as property
use Rattle.tx_value.specs.declared.reads.values.Border.{Border}
use Rattle.tx_value.specs.declared.value.Ink.{Ink}
use Rattle.tx_value.specs.declared.value.Value.{Value}
use Rattle.tx_value.specs.declared.value.Word.{Word}
use Rattle.tx_value.specs.declared.value.Word.TheVariants as word

-- ---- keywords

-- the keyword of a property
abbrev pub word_for : Property → List Value → Word
word_for p style = word_in (style_value style p)

-- whether there is room for the row at all
abbrev pub is_displayed : List Value → Bool
is_displayed style = not (says word.Nothing (style_value style property.Display))

-- whether the row is seen
abbrev pub is_visible : List Value → Bool
is_visible style = not (says word.Hidden (style_value style property.Visibility))

abbrev pub layout : List Value → LayoutKind
layout style = layout_of (word_for property.Layout style)

abbrev pub dock : List Value → Option Edge
dock style = dock_of (word_for property.Dock style)

abbrev pub box_sizing : List Value → BoxSizing
box_sizing style = sizing_of (word_for property.BoxSizing style)

abbrev pub overflow_x : List Value → Overflow
overflow_x style = overflow_of (word_for property.OverflowX style)

abbrev pub overflow_y : List Value → Overflow
overflow_y style = overflow_of (word_for property.OverflowY style)

-- where the children stand, across and down
abbrev pub align : List Value → AlignX × AlignY
align style = (across_of (word_for property.AlignHorizontal style), down_of (word_for property.AlignVertical style))

-- where the content stands
abbrev pub content_align : List Value → AlignX × AlignY
content_align style = (across_of (word_for property.ContentAlignHorizontal style), down_of (word_for property.ContentAlignVertical style))

abbrev pub text_align : List Value → AlignX
text_align style = across_of (word_for property.TextAlign style)

-- ---- sizes

abbrev pub size : Axis → List Value → Scalar
size axis.Width style = size_in (style_value style property.Width)
size axis.Height style = size_in (style_value style property.Height)

abbrev pub least : Axis → List Value → Option Scalar
least axis.Width style = limit_in (style_value style property.MinWidth)
least axis.Height style = limit_in (style_value style property.MinHeight)

abbrev pub most : Axis → List Value → Option Scalar
most axis.Width style = limit_in (style_value style property.MaxWidth)
most axis.Height style = limit_in (style_value style property.MaxHeight)

-- ---- sides

abbrev pub margin : List Value → Spacing
margin style =
    record {
      top = cells_in (style_value style property.MarginTop);
      right = cells_in (style_value style property.MarginRight);
      bottom = cells_in (style_value style property.MarginBottom);
      left = cells_in (style_value style property.MarginLeft);
    }

abbrev pub padding : List Value → Spacing
padding style =
    record {
      top = cells_in (style_value style property.PaddingTop);
      right = cells_in (style_value style property.PaddingRight);
      bottom = cells_in (style_value style property.PaddingBottom);
      left = cells_in (style_value style property.PaddingLeft);
    }

-- the border of an edge, where it is set
abbrev pub border : Edge → List Value → Option Border
border edge.Top style = border_in (style_value style property.BorderTop)
border edge.Right style = border_in (style_value style property.BorderRight)
border edge.Bottom style = border_in (style_value style property.BorderBottom)
border edge.Left style = border_in (style_value style property.BorderLeft)

-- one cell where an edge is set
abbrev pub border_cells : Edge → List Value → ℕ
border_cells edge style = if is_some (border edge style) then 1 else 0

-- between the edges of a row and its content: the padding, and one for each border edge that is set
abbrev pub gutter : List Value → Spacing
gutter style =
    record {
      top = (padding style).top + border_cells edge.Top style;
      right = (padding style).right + border_cells edge.Right style;
      bottom = (padding style).bottom + border_cells edge.Bottom style;
      left = (padding style).left + border_cells edge.Left style;
    }

abbrev pub offset : List Value → Offset
offset style = offset_in (style_value style property.Offset)

-- ---- colours and marks

abbrev pub background : List Value → Ink
background style = background_in (style_value style property.Background)

abbrev pub color : List Value → Ink
color style = color_in (style_value style property.Color)

abbrev pub text_style : List Value → TextStyle
text_style style = marks_in (style_value style property.TextStyle)

-- ---- grids and layers

-- columns, and rows where they are given
abbrev pub grid_size : List Value → ℕ × Option ℕ
grid_size style = grid_size_in (style_value style property.GridSize)

-- the sizes of the columns; none stand for one of `1fr`
abbrev pub column_tracks : List Value → List Scalar
column_tracks style = tracks_in (style_value style property.GridColumns)

abbrev pub row_tracks : List Value → List Scalar
row_tracks style = tracks_in (style_value style property.GridRows)

-- down and across
abbrev pub grid_gutter : List Value → ℕ × ℕ
grid_gutter style = grid_gutter_in (style_value style property.GridGutter)

abbrev pub column_span : List Value → ℕ
column_span style = span_in (style_value style property.ColumnSpan)

abbrev pub row_span : List Value → ℕ
row_span style = span_in (style_value style property.RowSpan)

abbrev pub layer : List Value → Option (List ℕ)
layer style = layer_in (style_value style property.Layer)

abbrev pub layers : List Value → List (List ℕ)
layers style = layers_in (style_value style property.Layers)
