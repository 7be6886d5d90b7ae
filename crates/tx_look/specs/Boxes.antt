-- What the styles of a container and of a row in it say of the row's box, and what a container's style says of its grid.
use Rattle.std.specs.Prelude.{List, [], ◌∷◌}
use Rattle.tx_geom.specs.declared.choices.Axis.TheVariants.{Width, Height}
use Rattle.tx_layout.specs.declared.styles.BoxStyle.{BoxStyle}
use Rattle.tx_layout.specs.declared.styles.GridStyle.{GridStyle}
use Rattle.tx_look.specs.Layers.{layer_number}
use Rattle.tx_value.specs.StyleReads as style
use Rattle.tx_value.specs.declared.value.Value.{Value}

-- the box of a row in a container
abbrev pub box_style : List Value → List Value → BoxStyle
box_style container own =
    record {
      width = style.size Width own;
      height = style.size Height own;
      least = style.least Width own ∷ (style.least Height own ∷ []);
      most = style.most Width own ∷ (style.most Height own ∷ []);
      margin = style.margin own;
      gutter = style.gutter own;
      sizing = style.box_sizing own;
      dock = style.dock own;
      layer = layer_number container own;
      offset = style.offset own;
      column_span = style.column_span own;
      row_span = style.row_span own;
    }

-- the grid of a container
abbrev pub grid_style : List Value → GridStyle
grid_style own =
    record {
      columns = (style.grid_size own).0;
      rows = (style.grid_size own).1;
      column_tracks = style.column_tracks own;
      row_tracks = style.row_tracks own;
      gutter_vertical = (style.grid_gutter own).0;
      gutter_horizontal = (style.grid_gutter own).1;
    }
