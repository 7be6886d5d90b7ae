use Rattle.std.proofs.Common.{◌≡◌, take}
use Rattle.tx_select.proofs.value.copy_of.Given as goal

abbrev pub invariant-loop-compound : goal.invariant-loop-compound
invariant-loop-compound l = l.copies.items ≡ take l.compound-index l.compounds
