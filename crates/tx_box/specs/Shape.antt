-- What the parts of a layout are between two steps.
use Rattle.std.specs.Prelude.{ℕ, ◌+◌, ◌<◌, ◌≤◌, ◌*◌, ◌^◌, pos, ◌+ℤ◌, ◌≤ℤ◌, IfSome, List, length, All}
use Rattle.tx_frac.specs.Ratio.{Ratio}
use Rattle.tx_box.specs.Item.{NotNegative}
use Rattle.tx_box.specs.declared.items.Span.{Span}
use Rattle.tx_box.specs.declared.parts.Limits.{Limits}
use Rattle.tx_box.specs.declared.parts.Part.{Part}
use Rattle.tx_box.specs.declared.parts.Part.TheVariants.{Settled, Growing}

-- limits of at least 0
pub record AreLimits (l : Limits) : Type 0 where
  pub least : IfSome l.least NotNegative
  pub most : IfSome l.most NotNegative

-- a size from 0 to 65,535
pub record IsCellCount (x : Ratio) : Type 0 where
  pub positive : 0 < x.den
  pub not_negative : NotNegative x
  pub at_most : x.num ≤ℤ pos (65535 * x.den)

-- a place from 0 to n
pub record IsUpTo (n : ℕ) (x : Ratio) : Type 0 where
  pub positive : 0 < x.den
  pub not_negative : NotNegative x
  pub at_most : x.num ≤ℤ pos (n * x.den)

-- a part with such a size, or with a share and limits of at least 0
abbrev pub IsPart : Part → Type 0
IsPart (Settled c) = IsCellCount c
IsPart (Growing s l) = NotNegative s × AreLimits l

-- a part with such a size
abbrev pub IsSettledPart : Part → Type 0
IsSettledPart (Settled c) = IsCellCount c
IsSettledPart (Growing s l) = ⊥

-- cells that end no later than n
abbrev pub EndsBy : ℕ → Span → Type 0
EndsBy n s = s.to ≤ℤ pos n

-- where gaps have at most so many cells, spans end no later than with such gaps and the greatest sizes
abbrev pub AreNear : List ℕ → List Span → Type 0
AreNear gaps spans = (most : ℕ) → All (λ gap. gap ≤ most) gaps → All (EndsBy ((65535 + most) * length spans)) spans

-- cells as an axis gives them: from 0 on, at most 65,535 of them, and none past 2^58
pub record IsSpan (s : Span) : Type 0 where
  pub not_negative : pos 0 ≤ℤ s.from
  pub forward : s.from ≤ℤ s.to
  pub at_most : s.to ≤ℤ (s.from +ℤ pos 65535)
  pub far : s.to ≤ℤ pos (2 ^ 58)
