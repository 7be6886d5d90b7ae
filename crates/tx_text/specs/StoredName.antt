-- An array that holds a name is got back from the name.
use Rattle.std.proofs.Common.{◌≡◌, ℕ, ◌-◌, List, ◌++◌, length, take, replicate, arith, take-append-drop, length-take-le}
use Rattle.tx_text.specs.Name.{IsStored}

pub len-stored : (bytes : List ℕ) (len : ℕ) → IsStored bytes len → length (take len bytes) ≡ len
len-stored bytes len stored = length-take-le len bytes (omega arith)

pub bytes-stored : (bytes : List ℕ) (len : ℕ) → IsStored bytes len
    → take len bytes ++ replicate (64 - length (take len bytes)) 0 ≡ bytes
bytes-stored bytes len stored = rw (len-stored bytes len stored, ← stored.spare) (take-append-drop len bytes)
