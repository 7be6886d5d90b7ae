-- The cells of a scroll bar.
use Rattle.std.specs.Prelude.{ℕ, ◌+◌, ◌-◌, ◌*◌, ◌/◌, ◌==◌, ◌&&◌, ◌||◌, nat_le, nat_lt, max, Bool, if◌then◌else◌}
use Rattle.tx_cell.specs.Cell.{CellValue, shown}
use Rattle.tx_cell.specs.declared.pen.Pen.{Pen}
use Rattle.tx_paint.specs.Glyphs.{utf8_of}

-- how many cells the thumb of a bar of so many cells has, where what it stands for goes over by so many
abbrev pub thumb_cells : ℕ → ℕ → ℕ
thumb_cells length over = max 1 (length * length / (length + over))

-- the cell with which the thumb begins, at this scroll
abbrev pub thumb_start : ℕ → ℕ → ℕ → ℕ
thumb_start length over scroll = scroll * (length - thumb_cells length over) / over

-- whether a cell of the bar is one of the thumb: all are where nothing goes over
abbrev pub is_thumb : ℕ → ℕ → ℕ → ℕ → Bool
is_thumb length over scroll at =
    (over == 0) || (nat_le (thumb_start length over scroll) at && nat_lt at (thumb_start length over scroll + thumb_cells length over))

-- U+2588
abbrev pub thumb : Pen → CellValue
thumb pen = shown (utf8_of 0x2588) 1 pen

-- U+2591
abbrev pub track : Pen → CellValue
track pen = shown (utf8_of 0x2591) 1 pen

-- a cell of the bar
unfoldable pub bar_at : ℕ → ℕ → ℕ → Pen → ℕ → CellValue
bar_at length over scroll pen at = if is_thumb length over scroll at then thumb pen else track pen
