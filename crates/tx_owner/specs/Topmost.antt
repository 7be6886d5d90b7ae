-- Panes in the order in which cells are given to them.
use Rattle.std.specs.Prelude.{◌≡◌, ℕ, ◌<◌, List}
use Rattle.tx_geom.specs.declared.places.Size.{Size}
use Rattle.tx_map.specs.declared.entry.Entry.{Entry}
use Rattle.tx_owner.specs.Owner.{owner}
use Rattle.tx_owner.specs.Panes.{PaneValue, first_at}
use Rattle.tx_sizes.specs.Forest.{Styles}

-- the first of some panes that covers a cell of the screen is that of its owner
abbrev pub AreTopmostFirst : Styles → List Entry → Size → List PaneValue → Type 0
AreTopmostFirst styles entries size all = (x y : ℕ) → x < size.width → y < size.height → first_at x y all ≡ owner styles entries x y
