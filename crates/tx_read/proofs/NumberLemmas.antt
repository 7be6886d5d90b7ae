-- The number that one more digit makes.
use Rattle.std.proofs.Common.{◌≡◌, ℕ, ◌+◌, ◌-◌, ◌*◌, ◌<◌, List, [], ◌∷◌, ◌++◌, length, take, get_or, refl, ap, ◌∙◌}
use Rattle.std.proofs.lemmas.List.{take_more}
use Rattle.tx_read.specs.Number.{value, value_behind}

value_behind-append : (n : ℕ) (bytes : List ℕ) (byte : ℕ) → value_behind n (bytes ++ byte ∷ []) ≡ value_behind n bytes * 10 + (byte - 48)
value_behind-append n [] byte = refl
value_behind-append n (b ∷ bs) byte = value_behind-append (n * 10 + (b - 48)) bs byte

pub value-take_more : (bytes : List ℕ) (i : ℕ) → i < length bytes
    → value (take (i + 1) bytes) ≡ value (take i bytes) * 10 + (get_or bytes i 0 - 48)
value-take_more bytes i h = ap value (take_more bytes i 0 h) ∙ value_behind-append 0 (take i bytes) (get_or bytes i 0)
