use Rattle.std.proofs.Common.{◌≡◌, ◌+◌, drop, option_map}
use Rattle.tx_lex.specs.Lexing.{close_len, close_behind}
use Rattle.tx_lex.proofs.lexer.close_len.Given as goal

-- what is found from here on, counted from the first byte, is what is found in all
abbrev pub invariant-loop-i : goal.invariant-loop-i
invariant-loop-i l = option_map (λ n. n + (l.i + 1)) (close_behind l.last (drop l.i l.rest)) ≡ close_len l.bytes
