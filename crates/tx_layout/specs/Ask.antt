-- What a measure means, and what a call that asks for measures gives.
use Rattle.std.specs.Prelude.{ℕ, ◌<◌, ◌≡◌, Option, Some, None, Result, Ok, Err}
use Rattle.tx_geom.specs.declared.choices.Axis.{Axis}
use Rattle.tx_box.specs.declared.items.LayoutFault.{LayoutFault}
use Rattle.tx_box.specs.declared.items.LayoutFault.TheVariants.{Fraction, NoMemory}
use Rattle.tx_layout.specs.declared.styles.Ask.{Ask}

-- what a fault tells: the direction of the refused step
abbrev pub told : LayoutFault → Option Axis
told (Fraction axis) = Some axis
told NoMemory = None

-- one answer of the caller: the number that is meant, a refusal where there is none, or no memory
abbrev pub IsAnswer : Option ℕ → Result ℕ LayoutFault → Type 0
IsAnswer means (Ok n) = means ≡ Some n
IsAnswer means (Err (Fraction axis)) = means ≡ None
IsAnswer means (Err NoMemory) = Unit {0}

-- all answers to one ask are of one meaning
abbrev pub IsMeaning : (Result ℕ LayoutFault → Type 0) → Option ℕ → Type 0
IsMeaning post means = (r : Result ℕ LayoutFault) → post r → IsAnswer means r

-- the caller's answers mean these numbers, for each of so many children
pub record Means (post : Ask → Result ℕ LayoutFault → Type 0) (count : ℕ) (meaning : Ask → Option ℕ) : Type 0 where
  pub each : (ask : Ask) → ask.child < count → IsMeaning (post ask) (meaning ask)
