-- The flow of a layer by the kind of its container: the children that are not docked, in the room that is left for them.
use Rattle.std.specs.Prelude.{ℕ, Option, Some, List, Result}
use Rattle.tx_geom.specs.declared.choices.Axis.{Axis}
use Rattle.tx_geom.specs.declared.choices.Axis.TheVariants.{Width, Height}
use Rattle.tx_geom.specs.declared.choices.LayoutKind.{LayoutKind}
use Rattle.tx_geom.specs.declared.choices.LayoutKind.TheVariants.{Vertical, Horizontal, Grid}
use Rattle.tx_box.specs.declared.items.Basis.{Basis}
use Rattle.tx_layout.specs.declared.styles.Ask.{Ask}
use Rattle.tx_layout.specs.declared.styles.GridStyle.{GridStyle}
use Rattle.tx_layout.specs.declared.children.Child.{Child}
use Rattle.tx_layout.specs.Line.{Flow, line_of, line_extent}
use Rattle.tx_layout.specs.Grid.{grid_of, grid_extent}

abbrev pub flow_of : (Ask → Option ℕ) → LayoutKind → GridStyle → Basis → List Child → Result Flow Axis
flow_of meaning Vertical grid basis cs = line_of meaning (Some Height) basis cs
flow_of meaning Horizontal grid basis cs = line_of meaning (Some Width) basis cs
flow_of meaning Grid grid basis cs = grid_of meaning grid basis cs

-- how far it goes in a direction, as a measure asks
abbrev pub flow_extent : (Ask → Option ℕ) → LayoutKind → GridStyle → Axis → Basis → List Child → Result ℕ Axis
flow_extent meaning Vertical grid axis basis cs = line_extent meaning (Some Height) axis basis cs
flow_extent meaning Horizontal grid axis basis cs = line_extent meaning (Some Width) axis basis cs
flow_extent meaning Grid grid axis basis cs = grid_extent grid axis basis cs
