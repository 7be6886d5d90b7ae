use Rattle.std.proofs.Common.{◌≡◌, take, ◌≤◌, All}
use Rattle.tx_layout.specs.Children.{layer_of}
use Rattle.tx_layout.proofs.layers.layer_len.Given as goal

abbrev pub invariant-loop-index : goal.invariant-loop-index
invariant-loop-index l = record {
  one : All (λ c. layer_of c ≡ l.first) (take l.index l.children);
  some : 1 ≤ l.index;
}
