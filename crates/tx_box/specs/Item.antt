-- What the calls need of an item.
use Rattle.std.specs.Prelude.{Bool, true, false, IsTrue, pos, ◌≤ℤ◌, IfSome}
use Rattle.tx_frac.specs.Ratio.{Ratio}
use Rattle.tx_frac.specs.declared.scalars.Scalar.{Scalar}
use Rattle.tx_frac.specs.declared.scalars.Unit.{Unit}
use Rattle.tx_frac.specs.declared.scalars.Unit.TheVariants.{Fr, Auto}
use Rattle.tx_box.specs.declared.items.Item.{Item}

-- x is at least 0
abbrev pub NotNegative : Ratio → Type 0
NotNegative x = pos 0 ≤ℤ x.num

-- a unit that isn't `fr` or `auto`
abbrev pub is_fixed_unit : Unit → Bool
is_fixed_unit Fr = false
is_fixed_unit Auto = false
is_fixed_unit _ = true

-- a minimum or a maximum: of at least 0, and not in `fr` or `auto`
pub record IsLimit (s : Scalar) : Type 0 where
  pub not_negative : NotNegative s.value
  pub fixed_unit : IsTrue (is_fixed_unit s.unit)

-- the sizes of an item that a call accepts
pub record IsSized (i : Item) : Type 0 where
  pub size : NotNegative i.size.value
  pub least : IfSome i.least IsLimit
  pub most : IfSome i.most IsLimit
