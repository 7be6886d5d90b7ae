use Rattle.std.proofs.Common.{◌≡◌, ◌++◌, length}
use Rattle.std.specs.Vec.Iter.{into_iter_items, into_iter_len}
use Rattle.tx_value.specs.Holds.{AllHold}
use Rattle.tx_parse.specs.Values.{important_pairs}
use Rattle.tx_parse.proofs.blocks.pushed.Given as goal

-- the declarations so far, and those of the pairs that are left, are all
abbrev pub invariant-loop-pair : goal.invariant-loop-pair
invariant-loop-pair l = (l.all.items ++ important_pairs l.written.important (into_iter_items l.pair-iterator) ≡ l.initial.all.items ++ important_pairs l.written.important (into_iter_items l.initial.pair-iterator))
    × AllHold (into_iter_items l.pair-iterator)
    × (into_iter_len l.pair-iterator ≡ length (into_iter_items l.pair-iterator))
