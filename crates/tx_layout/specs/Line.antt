-- The flow of a layer, and a flow whose children follow each other in a direction.
use Rattle.std.specs.Prelude.{ℕ, ◌<◌, ◌^◌, Option, List, All, Result, Ok}
use Rattle.tx_read.specs.Reading.{◌>>=◌}
use Rattle.tx_geom.specs.declared.choices.Axis.{Axis}
use Rattle.tx_geom.specs.declared.choices.Axis.TheVariants.{Width, Height}
use Rattle.tx_box.specs.declared.items.Basis.{Basis}
use Rattle.tx_layout.specs.declared.styles.Ask.{Ask}
use Rattle.tx_layout.specs.declared.children.Child.{Child}
use Rattle.tx_layout.specs.declared.children.LaidFlow.{LaidFlow}
use Rattle.tx_layout.specs.Children.{IsChild}
use Rattle.tx_layout.specs.Room.{extent}
use Rattle.tx_layout.specs.Sides.{sized, sized_both}

-- the children of a flow with their cells, and how far they go to the right and down
pub record Flow : Type 0 where
  pub children : List Child
  pub wide : ℕ
  pub tall : ℕ

-- what a call has, as contracts see it
abbrev pub seen_flow : LaidFlow → Flow
seen_flow flow = record { children = flow.children.items; wide = flow.wide; tall = flow.tall }

-- the flow of so many children
pub record IsFlow (count : ℕ) (flow : LaidFlow) : Type 0 where
  pub children : All (IsChild count) flow.children.items
  pub wide : flow.wide < 2 ^ 42
  pub tall : flow.tall < 2 ^ 42

-- ---- children that follow each other

abbrev pub line_with : Option Axis → List Child → Flow
line_with main cs = record { children = cs; wide = extent main Width cs; tall = extent main Height cs }

unfoldable pub line_of : (Ask → Option ℕ) → Option Axis → Basis → List Child → Result Flow Axis
line_of meaning main basis cs = sized_both meaning main basis cs >>= (λ fs. Ok (line_with main fs))

-- the steps that a measure along a direction makes: a width needs no heights
abbrev pub sized_for : Axis → (Ask → Option ℕ) → Option Axis → Basis → List Child → Result (List Child) Axis
sized_for Width meaning main basis cs = sized meaning main basis Width cs
sized_for Height meaning main basis cs = sized_both meaning main basis cs

unfoldable pub line_extent : (Ask → Option ℕ) → Option Axis → Axis → Basis → List Child → Result ℕ Axis
line_extent meaning main axis basis cs = sized_for axis meaning main basis cs >>= (λ fs. Ok (extent main axis fs))
