-- A text padded to an array of the most bytes of a cell is got back from it.
use Rattle.std.proofs.Common.{◌≡◌, ℕ, ◌-◌, List, ◌++◌, length, take, replicate, arith, take-append-drop, length-take-le}
use Rattle.tx_cell.specs.Cell.{CellValue, IsStored, most_bytes}

pub length-stored : (bytes : List ℕ) (len : ℕ) (cell : CellValue) → IsStored bytes len cell → length (take len bytes) ≡ len
length-stored bytes len cell stored = length-take-le len bytes (omega arith)

pub padded : (bytes : List ℕ) (len : ℕ) (cell : CellValue) → IsStored bytes len cell
    → take len bytes ++ replicate (most_bytes - length (take len bytes)) 0 ≡ bytes
padded bytes len cell stored = rw (length-stored bytes len cell stored, ← stored.spare) (take-append-drop len bytes)
