-- What keywords say. A keyword that a property doesn't take says what the initial one says.
use Rattle.std.specs.Prelude.{Option, Some, None}
use Rattle.tx_geom.specs.declared.choices.AlignX.{AlignX}
use Rattle.tx_geom.specs.declared.choices.AlignX.TheVariants as across
use Rattle.tx_geom.specs.declared.choices.AlignY.{AlignY}
use Rattle.tx_geom.specs.declared.choices.AlignY.TheVariants as down
use Rattle.tx_geom.specs.declared.choices.BoxSizing.{BoxSizing}
use Rattle.tx_geom.specs.declared.choices.BoxSizing.TheVariants as sizing
use Rattle.tx_geom.specs.declared.choices.Edge.{Edge}
use Rattle.tx_geom.specs.declared.choices.Edge.TheVariants as edge
use Rattle.tx_geom.specs.declared.choices.LayoutKind.{LayoutKind}
use Rattle.tx_geom.specs.declared.choices.LayoutKind.TheVariants as layout
use Rattle.tx_geom.specs.declared.choices.Overflow.{Overflow}
use Rattle.tx_geom.specs.declared.choices.Overflow.TheVariants as overflow
use Rattle.tx_value.specs.declared.value.Word.{Word}
use Rattle.tx_value.specs.declared.value.Word.TheVariants as word

abbrev pub layout_of : Word → LayoutKind
layout_of word.Horizontal = layout.Horizontal
layout_of word.Grid = layout.Grid
layout_of _ = layout.Vertical

abbrev pub dock_of : Word → Option Edge
dock_of word.Top = Some edge.Top
dock_of word.Right = Some edge.Right
dock_of word.Bottom = Some edge.Bottom
dock_of word.Left = Some edge.Left
dock_of _ = None

abbrev pub sizing_of : Word → BoxSizing
sizing_of word.ContentBox = sizing.ContentBox
sizing_of _ = sizing.BorderBox

abbrev pub overflow_of : Word → Overflow
overflow_of word.Auto = overflow.Auto
overflow_of word.Scroll = overflow.Scroll
overflow_of _ = overflow.Hidden

abbrev pub across_of : Word → AlignX
across_of word.Center = across.Center
across_of word.Right = across.Right
across_of _ = across.Left

abbrev pub down_of : Word → AlignY
down_of word.Middle = down.Middle
down_of word.Bottom = down.Bottom
down_of _ = down.Top
