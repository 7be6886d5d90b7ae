-- `initial` says what the initial value says.
use Rattle.std.proofs.Common.{refl}
use Rattle.tx_geom.specs.declared.choices.Axis.{Axis}
use Rattle.tx_geom.specs.declared.choices.Axis.TheVariants.{Width, Height}
use Rattle.tx_geom.specs.declared.choices.Edge.{Edge}
use Rattle.tx_geom.specs.declared.choices.Edge.TheVariants.{Top, Right, Bottom, Left}
use Rattle.tx_value.specs.Initial.{initial}
use Rattle.tx_value.specs.Laws.{SaysTheSame, InitialIsTheInitialValue}
use Rattle.tx_value.specs.Style.{number}
use Rattle.tx_value.specs.StyleReads.{size, least, most, border}

size_same : (axis : Axis) → SaysTheSame (size axis)
unfolding number initial
size_same Width = refl
size_same Height = refl

least_same : (axis : Axis) → SaysTheSame (least axis)
unfolding number initial
least_same Width = refl
least_same Height = refl

most_same : (axis : Axis) → SaysTheSame (most axis)
unfolding number initial
most_same Width = refl
most_same Height = refl

border_same : (edge : Edge) → SaysTheSame (border edge)
unfolding number initial
border_same Top = refl
border_same Right = refl
border_same Bottom = refl
border_same Left = refl

pub initial_reads : InitialIsTheInitialValue
unfolding number initial
initial_reads =
    record {
      is_displayed = refl;
      is_visible = refl;
      layout = refl;
      dock = refl;
      box_sizing = refl;
      overflow_x = refl;
      overflow_y = refl;
      align = refl;
      content_align = refl;
      text_align = refl;
      size = λ axis. size_same axis;
      least = λ axis. least_same axis;
      most = λ axis. most_same axis;
      margin = refl;
      padding = refl;
      border = λ edge. border_same edge;
      offset = refl;
      background = refl;
      color = refl;
      text_style = refl;
      grid_size = refl;
      column_tracks = refl;
      row_tracks = refl;
      grid_gutter = refl;
      column_span = refl;
      row_span = refl;
      layer = refl;
      layers = refl;
    }
