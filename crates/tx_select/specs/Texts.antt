-- Texts that are selectors.
use Rattle.std.specs.Prelude.{◌≡◌, ◌⊎◌, ℕ, List, [], ◌∷◌, ◌++◌, length, Option, Some, None, Result, Ok, Err}
use Rattle.tx_lex.specs.Lexing.{lexed}
use Rattle.tx_lex.specs.declared.token.Fault.{Fault}
use Rattle.tx_lex.specs.Lexemes.{Lexeme, lexemes}
use Rattle.tx_select.specs.Grammar.{IsWhole}
use Rattle.tx_select.specs.SelectorReading.{Read, whole_at}
use Rattle.tx_select.specs.declared.value.Compound.{Compound}
use Rattle.tx_select.specs.SelectorValue.{SelectorValue}
use Rattle.tx_select.specs.declared.fault.SelectFault.{SelectFault}
use Rattle.tx_select.specs.declared.fault.SelectFault.TheVariants.{Grammar, NoMemory}

-- the tokens of a text, up to the first byte that is at fault
abbrev pub tokens_of : List ℕ → List Lexeme
tokens_of text = lexemes text (lexed text).tokens

-- where the tokens end: at that fault, or after the last byte
abbrev pub end_of : List ℕ → Option Fault → ℕ
end_of text None = length text
end_of text (Some fault) = fault.place

abbrev pub place_of : ℕ → List Lexeme → ℕ
place_of end [] = end
place_of end (t ∷ ts) = t.place

-- the text is this selector
pub record IsSelectorText (text : List ℕ) (selector : SelectorValue) : Type 0 where
  pub sound : (lexed text).fault ≡ None
  pub grammar : IsWhole (tokens_of text) selector.compounds

-- nothing that begins as these tokens do, up to and with the one at fault, is in the grammar; where they end too soon, they aren't
abbrev pub NoneBeginsSo : List Lexeme → List Lexeme → Type 0
NoneBeginsSo ts [] = (compounds : List Compound) → IsWhole ts compounds → ⊥
NoneBeginsSo ts (t ∷ more) =
    (front : List Lexeme) × (ts ≡ front ++ (t ∷ more)) × ((other : List Lexeme) (compounds : List Compound) → IsWhole (front ++ (t ∷ other)) compounds → ⊥)

-- the tokens are in the grammar, and what isn't a token is met after them
pub record StopsAtByte (text : List ℕ) (place : ℕ) : Type 0 where
  pub compounds : List Compound
  pub grammar : IsWhole (tokens_of text) compounds
  pub fault : Fault
  pub met : (lexed text).fault ≡ Some fault
  pub at : place ≡ fault.place

-- the tokens from this one on, or their end, are what the grammar doesn't allow
pub record StopsAtToken (text : List ℕ) (place : ℕ) : Type 0 where
  pub rest : List Lexeme
  pub first : NoneBeginsSo (tokens_of text) rest
  pub at : place ≡ place_of (end_of text (lexed text).fault) rest

-- the selector of a text, or the place of its first fault
abbrev pub judged : List ℕ → Option Fault → Read (List Compound) → Result SelectorValue ℕ
judged text None (Ok found) = Ok (record { compounds = found.0 })
judged text (Some fault) (Ok found) = Err fault.place
judged text fault (Err wrong) = Err (place_of (end_of text fault) wrong.1)

unfoldable pub selector_of : List ℕ → Result SelectorValue ℕ
selector_of text = judged text (lexed text).fault (whole_at (tokens_of text))

-- what a fault tells: its place
abbrev pub told : SelectFault → Option ℕ
told (Grammar place) = Some place
told NoMemory = None

-- the first fault of a text
abbrev pub IsFirstFault : List ℕ → SelectFault → Type 0
IsFirstFault text (Grammar place) = StopsAtByte text place ⊎ StopsAtToken text place
IsFirstFault text NoMemory = Unit {0}
