-- What holds of the reading of sheets and of inline texts.
use Rattle.std.specs.Prelude.{◌≡◌, ℕ, List, [], ◌∷◌, ◌++◌, Ok, Err}
use Rattle.tx_lex.specs.Lexemes.{Lexeme}
use Rattle.tx_parse.specs.DefaultRules.{default_rules}
use Rattle.tx_parse.specs.declared.default.TheConstants.{DEFAULT_SHEET}
use Rattle.tx_parse.specs.Grammar.{Body, Found, IsSheet, IsBody}
use Rattle.tx_parse.specs.declared.fault.Wrong.{Wrong}
use Rattle.tx_parse.specs.SheetReading.{sheet_at, inline_at}
use Rattle.tx_parse.specs.Texts.{sheet_of, inline_of, IsSheetText, IsInlineText}

-- a list of tokens is read exactly where it is in the grammar, as what it is there
abbrev pub SheetsAreRead : Type 0
SheetsAreRead = (ts : List Lexeme) (found : Found) → (sheet_at ts ≡ Ok (found, []) → IsSheet ts found) × (IsSheet ts found → sheet_at ts ≡ Ok (found, []))

abbrev pub InlineTextsAreRead : Type 0
InlineTextsAreRead = (ts : List Lexeme) (body : Body) → (inline_at ts ≡ Ok (body, []) → IsBody [] ts body) × (IsBody [] ts body → inline_at ts ≡ Ok (body, []))

-- bytes are read exactly where they are a sheet, or an inline text, as what they are
abbrev pub TextsAreRead : Type 0
TextsAreRead = (bytes : List ℕ)
    → ((found : Found) → (sheet_of bytes ≡ Ok found → IsSheetText bytes found) × (IsSheetText bytes found → sheet_of bytes ≡ Ok found))
    × ((body : Body) → (inline_of bytes ≡ Ok body → IsInlineText bytes body) × (IsInlineText bytes body → inline_of bytes ≡ Ok body))

-- the text of the default sheet is a sheet that has the default rules
abbrev pub DefaultSheetIsRead : Type 0
DefaultSheetIsRead = (found : Found) × IsSheetText DEFAULT_SHEET.now found × (found.rules ≡ default_rules)

-- nothing that begins as these tokens do, up to and with the one at which a fault is met, is in the grammar; where they end
-- too soon, they aren't
abbrev pub NoneBeginsSo : (List Lexeme → Type 0) → List Lexeme → List Lexeme → Type 0
NoneBeginsSo IsIn ts [] = IsIn ts → ⊥
NoneBeginsSo IsIn ts (t ∷ more) = (front : List Lexeme) × (ts ≡ front ++ (t ∷ more)) × ((other : List Lexeme) → IsIn (front ++ (t ∷ other)) → ⊥)

-- a fault is met at a token with which nothing in the grammar begins
abbrev pub FaultsAreFirst : Type 0
FaultsAreFirst = (ts rest : List Lexeme) (wrong : Wrong)
    → (sheet_at ts ≡ Err (wrong, rest) → NoneBeginsSo (λ other. (found : Found) × IsSheet other found) ts rest)
    × (inline_at ts ≡ Err (wrong, rest) → NoneBeginsSo (λ other. (body : Body) × IsBody [] other body) ts rest)
