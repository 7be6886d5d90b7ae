use Rattle.std.proofs.Common.{◌≡◌, ◌*◌, ◌++◌, replicate}
use Rattle.tx_tree_file.proofs.written_parts.push_indent.Given as goal

-- two blanks for each turn so far
abbrev pub invariant-loop : goal.invariant-loop
invariant-loop l = l.out.items ≡ l.fn.out.items ++ replicate (2 * l.counter) 32
