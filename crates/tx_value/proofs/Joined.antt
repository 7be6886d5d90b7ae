-- Items one behind another, and what there is by an answer.
use Rattle.std.proofs.Common.{◌≡◌, List, ◌++◌, Option, Some, None, Ok, ap}
use Rattle.tx_read.specs.Answer.{or_refused}

-- these items, and those behind them where there are some
abbrev pub behind_all : {A : Type 0} → List A → Option (List A) → Option (List A)
behind_all front None = None
behind_all front (Some rest) = Some (front ++ rest)

-- what isn't refused is there
pub some_of_ok : {A K : Type 0} → (kind : K) (o : Option A) (a : A) → or_refused kind o ≡ Ok a → o ≡ Some a
some_of_ok kind None a is = cc
some_of_ok kind (Some b) a is = let same : b ≡ a = cc in ap Some same
