-- Scrolls that are kept in range.
use Rattle.std.specs.Prelude.{ℕ, min}
use Rattle.tx_geom.specs.declared.choices.Overflow.{Overflow}
use Rattle.tx_geom.specs.declared.choices.Overflow.TheVariants.{Auto, Hidden, Scroll}
use Rattle.tx_geom.specs.declared.places.Size.{Size}

-- along one axis: at most as far as the children go over, and not at all where that is hidden
abbrev pub kept_along : Overflow → ℕ → ℕ → ℕ
kept_along Auto over scroll = min scroll over
kept_along Hidden over scroll = 0
kept_along Scroll over scroll = min scroll over

-- a scroll to the right and down, by how far the children go over and what the two axes do with that
abbrev pub kept_scroll : (ℕ × ℕ) → Size → Overflow → Overflow → ℕ × ℕ
kept_scroll scroll over x y = (kept_along x over.width scroll.0, kept_along y over.height scroll.1)
