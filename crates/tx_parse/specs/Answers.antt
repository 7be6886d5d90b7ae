-- What the calls answer.
use Rattle.std.specs.Prelude.{◌≡◌, ℕ, Bool, true, false, List, Option, Some, None, Result, Ok, Err, Vec}
use Rattle.std.specs.declared.alloc.Global.{Global}
use Rattle.tx_read.specs.Answer.{Gives}
use Rattle.tx_lex.specs.Lexemes.{Lexeme, lexemes, lexemes_from}
use Rattle.tx_lex.specs.declared.token.Fault.{Fault}
use Rattle.tx_lex.specs.declared.token.Token.{Token}
use Rattle.tx_parse.specs.SheetReading.{Read, ends_body, past_end}
use Rattle.tx_parse.specs.Texts.{judged, located}
use Rattle.tx_parse.specs.declared.fault.SheetFault.{SheetFault}
use Rattle.tx_parse.specs.declared.fault.SheetFault.TheVariants.{NoMemory as no_memory}
use Rattle.tx_parse.specs.declared.fault.Stop.{Stop}
use Rattle.tx_parse.specs.declared.fault.Stop.TheVariants.{At, NoMemory}
use Rattle.tx_parse.specs.declared.fault.Wrong.{Wrong}

-- ---- over the tokens of a text

-- what a stop tells: what is wrong, and the tokens from the one on at which it is met
abbrev pub told_in : List ℕ → List Token → Stop → Option (Wrong × List Lexeme)
told_in text tokens (At wrong at) = Some (wrong, lexemes_from text tokens at)
told_in text tokens NoMemory = None

-- what a reader answers from a token on is what is read there, seen so, and the tokens after it
abbrev pub GivesAs : {A B : Type 0} → (A → B) → List ℕ → List Token → Result (A × ℕ) Stop → Read B → Type 0
GivesAs view text tokens result read = Gives (λ found. (view found.0, lexemes_from text tokens found.1)) (told_in text tokens) result read

-- gathered tokens
abbrev pub gathered_in : List ℕ → Vec Token Global → List Lexeme
gathered_in text tokens = lexemes text tokens.items

-- the number after the end of a body, where one ends there
abbrev pub EndsBody : List ℕ → List Token → Bool → List Lexeme → Option ℕ → Type 0
EndsBody text tokens inline ts (Some behind) = (ends_body inline ts ≡ true) × (lexemes_from text tokens behind ≡ past_end inline ts)
EndsBody text tokens inline ts None = ends_body inline ts ≡ false

-- ---- of whole texts

-- the answer of a whole text, by what the reader of its tokens answered
abbrev pub judged_answer : {A : Type 0} → List ℕ → List Token → Option Fault → Result (A × ℕ) Stop → Result A SheetFault
judged_answer bytes tokens fault (Ok found) = located (λ a. a) bytes (judged bytes fault (Ok (found.0, lexemes_from bytes tokens found.1)))
judged_answer bytes tokens fault (Err (At wrong at)) = located (λ a. a) bytes (judged bytes fault (Err (wrong, lexemes_from bytes tokens at)))
judged_answer bytes tokens fault (Err NoMemory) = Err no_memory
