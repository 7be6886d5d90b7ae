-- What stands behind the front is still zeros.
use Rattle.std.proofs.Common.{ℕ, List, ◌++◌, length, ap}
use Rattle.std.proofs.lemmas.List.{drop-replicate}
use Rattle.tx_text.proofs.name.padded.Goals as goal

pub returns : goal.returns
returns c =
    rw c.copy_from_slice.ensures.after
    (ap (λ (z : List ℕ). c.args.front.now ++ z) (drop-replicate (length c.args.front.now) 64 0))
