-- What holds of the reading of selectors.
use Rattle.std.specs.Prelude.{◌≡◌, false, List, [], ◌++◌, Ok, Err}
use Rattle.tx_read.specs.Reading.{IsLocal, Leaves}
use Rattle.tx_lex.specs.Lexemes.{Lexeme, first_is}
use Rattle.tx_select.specs.Lexemes.{goes_on}
use Rattle.tx_select.specs.Grammar.{AreBlank, IsSelector, IsWhole}
use Rattle.tx_select.specs.SelectorReading.{selector_at, whole_at}
use Rattle.tx_select.specs.Texts.{NoneBeginsSo}
use Rattle.tx_select.specs.declared.value.Compound.{Compound}
use Rattle.tx_select.specs.declared.fault.SelectKind.{SelectKind}

-- a selector with spaces and comments after it, and then something else
pub record StandsBefore (ts : List Lexeme) (compounds : List Compound) (rest : List Lexeme) : Type 0 where
  pub selector : List Lexeme
  pub behind : List Lexeme
  pub parts : ts ≡ selector ++ (behind ++ rest)
  pub grammar : IsSelector selector compounds
  pub blank : AreBlank behind

-- What is read among other tokens is in the grammar. What is in the grammar is read, where something stands after it with
-- which no selector goes on.
abbrev pub SelectorsAreRead : Type 0
SelectorsAreRead = (ts : List Lexeme) (compounds : List Compound) (rest : List Lexeme)
    → (selector_at ts ≡ Ok (compounds, rest) → StandsBefore ts compounds rest)
    × (StandsBefore ts compounds rest → first_is goes_on rest ≡ false → selector_at ts ≡ Ok (compounds, rest))

-- What is read looks at nothing after the token at which it stops, and what is left is an end of the tokens.
abbrev pub SelectorsAreLocal : Type 0
SelectorsAreLocal = IsLocal selector_at × Leaves selector_at

-- a list of tokens is read exactly where it is in the grammar
abbrev pub WholesAreRead : Type 0
WholesAreRead = (ts : List Lexeme) (compounds : List Compound)
    → (whole_at ts ≡ Ok (compounds, []) → IsWhole ts compounds) × (IsWhole ts compounds → whole_at ts ≡ Ok (compounds, []))

-- a fault is the first one
abbrev pub FaultsAreFirst : Type 0
FaultsAreFirst = (ts rest : List Lexeme) (kind : SelectKind) → whole_at ts ≡ Err (kind, rest) → NoneBeginsSo ts rest
