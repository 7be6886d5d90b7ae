-- The size of one box in one direction.
use Rattle.std.specs.Prelude.{ℕ, ◌+◌, pos, ℤ, if◌then◌else◌, Option, Some, None}
use Rattle.std.specs.Option.{option_and_then, option_map}
use Rattle.tx_frac.specs.Ratio.{Ratio, whole_of, floor_of, add, mul, div, less}
use Rattle.tx_frac.specs.declared.scalars.Scalar.{Scalar}
use Rattle.tx_frac.specs.declared.scalars.Unit.{Unit}
use Rattle.tx_frac.specs.declared.scalars.Unit.TheVariants.{Cells, Percent, W, H, Vw, Vh, Fr, Auto}
use Rattle.tx_geom.specs.Along.{side}
use Rattle.tx_geom.specs.declared.choices.BoxSizing.{BoxSizing}
use Rattle.tx_geom.specs.declared.choices.BoxSizing.TheVariants.{BorderBox, ContentBox}
use Rattle.tx_box.specs.declared.items.Item.{Item}
use Rattle.tx_box.specs.declared.sizes.Bases.{Bases}
use Rattle.tx_box.specs.declared.parts.Limits.{Limits}

-- n cells
abbrev pub cells : ℕ → Ratio
cells n = whole_of (pos n)

-- so many hundredths of a base
abbrev pub hundredths : Ratio → ℕ → Option Ratio
hundredths x base = option_and_then (λ p. div p (cells 100)) (mul x (cells base))

-- a number with a unit, in cells
abbrev pub amount_in : Unit → Ratio → Bases → Option Ratio
amount_in Cells x b = Some x
amount_in Percent x b = hundredths x (side b.axis b.own)
amount_in W x b = hundredths x b.own.width
amount_in H x b = hundredths x b.own.height
amount_in Vw x b = hundredths x b.screen.width
amount_in Vh x b = hundredths x b.screen.height
amount_in Fr x b = Some x
amount_in Auto x b = Some x

-- a size with padding and border on top, where it is the size of the content
abbrev pub with_gutter : BoxSizing → ℕ → Ratio → Option Ratio
with_gutter BorderBox gutter x = Some x
with_gutter ContentBox gutter x = add x (cells gutter)

-- the size of the box with its padding and border
abbrev pub outer_in : Unit → Ratio → Item → Bases → Option Ratio
outer_in Auto x i b = Some (cells (i.auto + i.gutter))
outer_in Fr x i b = amount_in Fr x b
outer_in u x i b = option_and_then (with_gutter i.sizing i.gutter) (amount_in u x b)

abbrev pub outer : Scalar → Item → Bases → Option Ratio
outer s i b = outer_in s.unit s.value i b

-- a limit, where it is set
abbrev pub limit : Option Scalar → Item → Bases → Option (Option Ratio)
limit None i b = Some None
limit (Some s) i b = option_map Some (outer s i b)

-- the limits of an item
abbrev pub limits_of : Item → Bases → Option Limits
limits_of i b =
    option_and_then (λ least. option_map (λ most. record { least = least; most = most }) (limit i.most i b)) (limit i.least i b)

-- x, or a limit that is less
abbrev pub at_most : Option Ratio → Ratio → Option Ratio
at_most None x = Some x
at_most (Some limit) x = option_map (λ b. if b then limit else x) (less limit x)

-- x, or a limit that is greater
abbrev pub at_least : Option Ratio → Ratio → Option Ratio
at_least None x = Some x
at_least (Some limit) x = option_map (λ b. if b then limit else x) (less x limit)

-- the greatest size
abbrev pub greatest : ℕ
greatest = 65535

-- x within its limits: the maximum gives way to the minimum, and both to the greatest size
unfoldable pub clamp : Limits → Ratio → Option Ratio
clamp l x = option_and_then (at_most (Some (cells greatest))) (option_and_then (at_least l.least) (at_most l.most x))

-- the size of a box across, where `fr` stands for the whole base
abbrev pub across_in : Unit → Item → Bases → Option Ratio
across_in Fr i b = Some (cells (side b.axis b.own))
across_in u i b = outer i.size i b

unfoldable pub across : Item → Bases → Option Ratio
across i b = option_and_then (λ l. option_and_then (clamp l) (across_in i.size.unit i b)) (limits_of i b)

-- the same in whole cells
abbrev pub box_cells : Item → Bases → Option ℤ
box_cells i b = option_map floor_of (across i b)
