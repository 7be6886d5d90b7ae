-- What the calls tell: all tokens or the first fault.
use Rattle.std.specs.Prelude.{ℕ, List, Option, Some, None, Result, Ok, Err}
use Rattle.tx_lex.specs.Lexing.{Spot, spot_at}
use Rattle.tx_lex.specs.declared.token.Fault.{Fault}
use Rattle.tx_lex.specs.declared.token.LexKind.{LexKind}
use Rattle.tx_lex.specs.declared.token.Scanned.{Scanned}
use Rattle.tx_lex.specs.declared.token.Token.{Token}
use Rattle.tx_lex.specs.declared.token.LexFault.{LexFault}
use Rattle.tx_lex.specs.declared.token.LexFault.TheVariants.{Text, NoMemory}

-- a token, and the spot after it
abbrev pub with_spot : List ℕ → Token → Token × Spot
with_spot bytes token = (token, spot_at bytes token.to)

-- all tokens where nothing is at fault, or the place and kind of the first fault
abbrev pub all_or_first : List Token → Option Fault → Result (List Token) (ℕ × LexKind)
all_or_first tokens None = Ok tokens
all_or_first tokens (Some fault) = Err (fault.place, fault.kind)

abbrev pub all_tokens : Scanned → Result (List Token) (ℕ × LexKind)
all_tokens read = all_or_first read.tokens read.fault

-- what a fault tells: out of memory tells nothing
abbrev pub told : LexFault → Option (ℕ × LexKind)
told (Text place kind) = Some (place, kind)
told NoMemory = None
