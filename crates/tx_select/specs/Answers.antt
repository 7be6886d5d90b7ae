-- What the calls answer over the tokens of a text.
use Rattle.std.specs.Prelude.{ℕ, List, Option, Some, None, Result}
use Rattle.tx_read.specs.Answer.{Gives}
use Rattle.tx_lex.specs.Lexemes.{Lexeme, lexemes_from}
use Rattle.tx_lex.specs.declared.token.Token.{Token}
use Rattle.tx_select.specs.SelectorReading.{Read}
use Rattle.tx_select.specs.declared.value.Compound.{Compound}
use Rattle.tx_select.specs.SelectorValue.{SelectorValue}
use Rattle.tx_select.specs.declared.fault.SelectKind.{SelectKind}
use Rattle.tx_select.specs.declared.fault.TokenFault.{TokenFault}
use Rattle.tx_select.specs.declared.fault.TokenFault.TheVariants.{At, NoMemory}

-- what a fault tells: its kind, and the tokens from the one on at which it is met
abbrev pub told_in : List ℕ → List Token → TokenFault → Option (SelectKind × List Lexeme)
told_in text tokens (At kind at) = Some (kind, lexemes_from text tokens at)
told_in text tokens NoMemory = None

-- what was read, and the tokens after it
abbrev pub with_rest : {A : Type 0} → List ℕ → List Token → A × ℕ → A × List Lexeme
with_rest text tokens found = (found.0, lexemes_from text tokens found.1)

-- the compounds of a selector that was read, and the tokens after it
abbrev pub compounds_with_rest : List ℕ → List Token → SelectorValue × ℕ → List Compound × List Lexeme
compounds_with_rest text tokens found = (found.0.compounds, lexemes_from text tokens found.1)

-- what a reader answers from a token on is what is read there
abbrev pub GivesAmong : {A : Type 0} → List ℕ → List Token → Result (A × ℕ) TokenFault → Read A → Type 0
GivesAmong text tokens result read = Gives (with_rest text tokens) (told_in text tokens) result read
