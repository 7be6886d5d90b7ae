-- Which tokens bytes are, and which is their first fault, said by the table of tokens.
use Rattle.std.specs.Prelude.{◌≡◌, ℕ, ◌⊎◌, List, [], take, Option, None, Some}
use Rattle.tx_read.specs.Reading.{Items}
use Rattle.tx_lex.specs.Tokens.{IsLongestToken, BeginsNone}
use Rattle.tx_lex.specs.Lexing.{Spot, start_of, spot_behind, token_of, fault_of, fault_at, wrong_in, lexed}
use Rattle.tx_lex.specs.declared.token.Token.{Token}
use Rattle.tx_lex.specs.declared.token.Fault.{Fault}
use Rattle.tx_lex.specs.declared.token.Scanned.{Scanned}
use Rattle.tx_lex.specs.declared.token.Wrong.{Wrong}
use Rattle.tx_lex.specs.declared.token.TokenKind.{TokenKind}

-- a token and what is after it: the longest one of all kinds, and nothing is wrong in it
pub record IsTokenAt (spot : Spot) (token : Token) (behind : Spot) : Type 0 where
  pub n : ℕ
  pub longest : IsLongestToken spot.rest token.kind n
  pub fine : wrong_in token.kind (take n spot.rest) ≡ None
  pub places : token ≡ token_of spot token.kind n
  pub rest : behind ≡ spot_behind spot n

-- something is wrong in the longest token that begins there
pub record IsWrongToken (spot : Spot) (fault : Fault) : Type 0 where
  pub kind : TokenKind
  pub n : ℕ
  pub wrong : Wrong
  pub longest : IsLongestToken spot.rest kind n
  pub is_wrong : wrong_in kind (take n spot.rest) ≡ Some wrong
  pub place : fault ≡ fault_of spot kind n wrong

-- no token begins there
pub record IsNoToken (spot : Spot) (fault : Fault) : Type 0 where
  pub some : spot.rest ≡ [] → ⊥
  pub none : BeginsNone spot.rest
  pub place : fault ≡ fault_at spot

-- the tokens end at the last byte, or at a fault
abbrev pub EndsWith : Spot → Option Fault → Type 0
EndsWith spot None = spot.rest ≡ []
EndsWith spot (Some fault) = IsNoToken spot fault ⊎ IsWrongToken spot fault

-- tokens one after another from the first byte on, up to the last one or the first fault
pub record IsLexed (bytes : List ℕ) (read : Scanned) : Type 0 where
  pub last : Spot
  pub tokens : Items IsTokenAt (start_of bytes) read.tokens last
  pub ends : EndsWith last read.fault

-- what is read is that, and nothing else is
abbrev pub LexedIsExact : Type 0
LexedIsExact = (bytes : List ℕ) → IsLexed bytes (lexed bytes) × ((other : Scanned) → IsLexed bytes other → other ≡ lexed bytes)
