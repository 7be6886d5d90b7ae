-- Steps of which the first refused one counts, over a whole list.
use Rattle.std.specs.Prelude.{List, [], ◌∷◌, Result, Ok}
use Rattle.tx_read.specs.Reading.{◌>>=◌}

-- what f gives of each element, or its first refusal
abbrev pub each_of : {A B F : Type 0} → (A → Result B F) → List A → Result (List B) F
each_of f [] = Ok []
each_of f (x ∷ xs) = f x >>= (λ y. each_of f xs >>= (λ ys. Ok (y ∷ ys)))
