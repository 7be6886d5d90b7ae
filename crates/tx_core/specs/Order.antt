-- What a journal says of inputs, by their numbers.
use Rattle.std.specs.Prelude.{◌≡◌, ℕ, ◌+◌, ◌==◌, List, [], ◌∷◌, ◌++◌, if◌then◌else◌}
use Rattle.tx_core.specs.declared.entry.Entry.{Entry}
use Rattle.tx_core.specs.declared.entry.Entry.TheVariants.{Arrive}

-- the numbers under which the inputs of a sender arrived
abbrev pub arrivals : ℕ → List Entry → List ℕ
arrivals sender [] = []
arrivals sender (Arrive from number input ∷ entries) = (if sender == from then number ∷ [] else []) ++ arrivals sender entries
arrivals sender (_ ∷ entries) = arrivals sender entries

-- numbers that count on from one to another, which is the next one then
abbrev pub CountsOn : ℕ → List ℕ → ℕ → Type 0
CountsOn from [] to = from ≡ to
CountsOn from (number ∷ numbers) to = (number ≡ from) × CountsOn (from + 1) numbers to
