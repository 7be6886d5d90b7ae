use Rattle.std.proofs.Common.{◌≡◌, ◌++◌, take, drop}
use Rattle.tx_tree_file.specs.Parts.{word, past_word}
use Rattle.tx_tree_file.proofs.words.split_word.Given as goal

-- no blank so far
abbrev pub invariant-loop-i : goal.invariant-loop-i
invariant-loop-i l = record {
  front : word l.bytes ≡ take l.i l.bytes ++ word (drop l.i l.bytes);
  back : past_word l.bytes ≡ past_word (drop l.i l.bytes);
}
