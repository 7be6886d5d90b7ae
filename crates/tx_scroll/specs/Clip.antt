-- What a region shows inside another one.
use Rattle.std.specs.Prelude.{ℕ, ◌==◌, ◌||◌, ℤ, pos, ◌+ℤ◌, ◌-ℤ◌, if◌then◌else◌}
use Rattle.std.specs.Int.{int_max, int_min}
use Rattle.tx_geom.specs.declared.places.Region.{Region}
use Rattle.tx_geom.specs.Region.{nothing_at}
use Rattle.tx_layout.specs.Sides.{count_of}

-- how many columns, or rows, two runs of them have in common: from the later start to the earlier end
abbrev pub common : ℤ → ℕ → ℤ → ℕ → ℕ
common from n other m = count_of (int_min (from +ℤ pos n) (other +ℤ pos m) -ℤ int_max from other)

abbrev pub common_columns : Region → Region → ℕ
common_columns region by = common region.x region.width by.x by.width

abbrev pub common_rows : Region → Region → ℕ
common_rows region by = common region.y region.height by.y by.height

-- the cells that two regions have in common, where there are some
abbrev pub overlap : Region → Region → Region
overlap region by =
    record { x = int_max region.x by.x; y = int_max region.y by.y; width = common_columns region by; height = common_rows region by }

-- the cells of a region that are in another one too; where there are none, no cells at the region's place
abbrev pub clipped : Region → Region → Region
clipped region by = if (common_columns region by == 0) || (common_rows region by == 0) then nothing_at region else overlap region by
