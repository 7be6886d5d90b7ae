-- What the parts that the readers keep stand for, over the text that they are read of.
use Rattle.std.specs.Prelude.{ℕ, List, map, Vec}
use Rattle.std.specs.declared.alloc.Global.{Global}
use Rattle.tx_lex.specs.Lexemes.{Lexeme, lexeme, lexemes}
use Rattle.tx_lex.specs.declared.token.Token.{Token}
use Rattle.tx_select.specs.SelectorValue.{SelectorValue}
use Rattle.tx_parse.specs.Grammar.{Body, Found}
use Rattle.tx_parse.specs.SheetReading.{Spelled}
use Rattle.tx_parse.specs.Values.{DeclarationValue, important_pairs}
use Rattle.tx_parse.specs.Variables.{Defined}
use Rattle.tx_parse.specs.declared.sheets.Gathered.{Gathered}
use Rattle.tx_parse.specs.declared.blocks.Block.{Block}
use Rattle.tx_parse.specs.declared.declarations.Spelling.{Spelling}
use Rattle.tx_parse.specs.declared.declarations.Written.{Written}

abbrev pub definition_in : List ℕ → List ℕ × List Token → List ℕ × List Lexeme
definition_in text entry = (entry.0, lexemes text entry.1)

-- variables with the tokens that they stand for
unfoldable pub defined_in : List ℕ → List (List ℕ × List Token) → Defined
defined_in text entries = map (definition_in text) entries

-- what stands before the end of a declaration
abbrev pub spelled_in : List ℕ → Spelling → Spelled
spelled_in text s = record { name = lexeme text s.name; first = s.first; stand = lexemes text s.stand.items; important = s.important }

abbrev pub declarations_in : Written → List DeclarationValue
declarations_in written = important_pairs written.important written.pairs.items

abbrev pub body_of : Block → Body
body_of block = record { declarations = block.declarations.items; written = block.written }

abbrev pub selectors_in : Vec SelectorValue Global → List SelectorValue
selectors_in selectors = selectors.items

abbrev pub found_in : List ℕ → Gathered → Found
found_in text g = record { defined = defined_in text g.variables; rules = g.rules.items; variables = g.defined; written = g.written }
