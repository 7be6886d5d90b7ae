-- How sheets and inline texts are read from the left.
use Rattle.std.specs.Prelude.{ℕ, zero, suc, ◌+◌, Bool, true, false, not, ◌&&◌, ◌||◌, nat_lt, List, [], ◌∷◌, ◌++◌, length, drop, Option, Some, None, Result, Ok, Err, if◌then◌else◌, codes}
use Rattle.std.specs.Str.{bytes_eq}
use Rattle.tx_read.specs.Reading.{Reader, ◌>>=◌, in_turn}
use Rattle.tx_lex.specs.Blanks.{past_blanks}
use Rattle.tx_lex.specs.Lexemes.{Lexeme, is_blank, is_name_token, is_variable, is_mark, first_is}
use Rattle.tx_text.specs.Name.{is_name}
use Rattle.tx_select.specs.Lexemes.{begins_compound}
use Rattle.tx_select.specs.SelectorReading.{selector_at}
use Rattle.tx_select.specs.declared.fault.SelectKind.{SelectKind}
use Rattle.tx_select.specs.declared.fault.SelectKind.TheVariants as select
use Rattle.tx_select.specs.declared.value.Compound.{Compound}
use Rattle.tx_select.specs.SelectorValue.{SelectorValue}
use Rattle.tx_value.specs.Declarations.{Pair, declaration}
use Rattle.tx_value.specs.Names.{is_known}
use Rattle.tx_value.specs.declared.fault.ValueFault.{ValueFault}
use Rattle.tx_parse.specs.Values.{DeclarationValue, RuleValue, important_pairs}
use Rattle.tx_parse.specs.Variables.{Defined, is_value, stands_for}
use Rattle.tx_parse.specs.Grammar.{Body, nothing, counted, Found, nothing_found, with_variable, with_rule}
use Rattle.tx_parse.specs.declared.fault.SheetKind.{SheetKind}
use Rattle.tx_parse.specs.declared.fault.Wrong.{Wrong}
use Rattle.tx_parse.specs.declared.fault.SheetKind.TheVariants.{Expected, UndefinedVariable, ValueTooLong, UnknownProperty, UnknownPseudo, BadValue, TooManyRules}

-- a fault is what is wrong, and what stands from the token on at which it is met
abbrev pub Reads : Type 0 → Type 0
Reads A = Reader (List Lexeme) (Wrong × List Lexeme) A

abbrev pub Read : Type 0 → Type 0
Read A = Result (A × List Lexeme) (Wrong × List Lexeme)

abbrev pub met : {A : Type 0} → SheetKind → List Lexeme → Read A
met kind ts = Err (record { kind = kind; place = None }, ts)

abbrev pub expected : {A : Type 0} → List Lexeme → Read A
expected ts = met Expected ts

-- this, without reading on
abbrev pub give : {A : Type 0} → A → Reads A
give a ts = Ok (a, ts)

-- ---- single tokens

abbrev pub token_at : (Lexeme → Bool) → Reads Lexeme
token_at test [] = expected []
token_at test (t ∷ ts) = if test t then Ok (t, ts) else expected (t ∷ ts)

-- this mark, with spaces and comments before it
unfoldable pub mark_at : ℕ → List Lexeme → Read Lexeme
mark_at byte ts = token_at (λ t. is_mark byte t.kind) (past_blanks ts)

-- ---- values

-- what a token of values adds to those before it
abbrev pub added : List Lexeme → Lexeme → List Lexeme → Option (List Lexeme) → Read (List Lexeme)
added found t ts None = met UndefinedVariable (t ∷ ts)
added found t ts (Some stand) = if nat_lt 64 (length found + length stand) then met ValueTooLong (t ∷ ts) else Ok (found ++ stand, ts)

-- values with those found before: as far as tokens of values go on
unfoldable pub values_from : Defined → List Lexeme → List Lexeme → Read (List Lexeme)
values_from defined found [] = Ok (found, [])
values_from defined found (t ∷ ts) =
    if is_blank t.kind then values_from defined found ts
    else if is_value t.kind then added found t ts (stands_for defined t) >>= (λ more. values_from defined more.0 ts)
    else Ok (found, t ∷ ts)

abbrev pub at_least_one : List Lexeme → Reads (List Lexeme)
at_least_one [] ts = expected ts
at_least_one (value ∷ values) ts = Ok (value ∷ values, ts)

-- what the values stand for
unfoldable pub values_at : Defined → List Lexeme → Read (List Lexeme)
values_at defined ts = in_turn (values_from defined []) at_least_one ts

-- ---- declarations

-- the place of the first value
abbrev pub place_of : List Lexeme → ℕ
place_of [] = 0
place_of (t ∷ ts) = t.place

unfoldable pub first_value_at : List Lexeme → Read ℕ
first_value_at ts = Ok (place_of (past_blanks ts), past_blanks ts)

abbrev pub is_important : Lexeme → Bool
is_important t = is_name_token t.kind && bytes_eq t.bytes (codes "important")

-- the word after `!`, and the spaces and comments after it
abbrev pub important_word_at : List Lexeme → Read Bool
important_word_at ts = in_turn (λ rest. token_at is_important (past_blanks rest)) (λ word rest. Ok (true, past_blanks rest)) ts

-- whether `!` and `important` come, with the spaces and comments after them
unfoldable pub importance_at : List Lexeme → Read Bool
importance_at [] = Ok (false, [])
importance_at (t ∷ ts) = if is_mark 33 t.kind then important_word_at ts else Ok (false, t ∷ ts)

-- what stands before the end of a declaration: its name, the place of its first value, and what its values stand for
pub record Spelled : Type 0 where
  pub name : Lexeme
  pub first : ℕ
  pub stand : List Lexeme
  pub important : Bool

abbrev pub spelled : Lexeme → ℕ → List Lexeme → Bool → Spelled
spelled name first stand important = record { name = name; first = first; stand = stand; important = important }

-- after the name of a property
unfoldable pub spelled_at : Defined → Lexeme → List Lexeme → Read Spelled
spelled_at defined name ts =
    in_turn (mark_at 58) (λ colon. in_turn first_value_at (λ first. in_turn (values_at defined) (λ stand. in_turn importance_at (λ important. give (spelled name first stand important))))) ts

-- whether a body ends there: a block before its `}`, and an inline text at its end
abbrev pub ends_body : Bool → List Lexeme → Bool
ends_body inline [] = inline
ends_body inline (t ∷ ts) = not inline && is_mark 125 t.kind

-- whether a declaration ends there: before a `;` and where the body ends
abbrev pub is_end : Bool → List Lexeme → Bool
is_end inline ts = first_is (is_mark 59) ts || ends_body inline ts

-- the declarations that it stands for; else the fault is met at its end and told of its first value
abbrev pub told : Spelled → Result (List Pair) ValueFault → Reads (List DeclarationValue)
told s (Ok pairs) ts = Ok (important_pairs s.important pairs, ts)
told s (Err fault) ts = Err (record { kind = BadValue; place = Some s.first }, ts)

abbrev pub ended : Bool → Spelled → Reads (List DeclarationValue)
ended inline s ts = if is_end inline ts then told s (declaration s.name.bytes s.stand) ts else expected ts

unfoldable pub declaration_at : Bool → Defined → List Lexeme → Read (List DeclarationValue)
declaration_at inline defined [] = expected []
declaration_at inline defined (t ∷ ts) =
    if is_name_token t.kind then (if is_known t.bytes then in_turn (spelled_at defined t) (ended inline) ts else met UnknownProperty (t ∷ ts))
    else expected (t ∷ ts)

-- ---- bodies

abbrev pub with_declarations : List DeclarationValue → Body → Body
with_declarations declarations body = record { declarations = body.declarations ++ declarations; written = counted body.written 1 }

-- a `;` or a declaration, after what was found before
unfoldable pub item_at : Bool → Defined → Body → List Lexeme → Read Body
item_at inline defined found [] = expected []
item_at inline defined found (t ∷ ts) =
    if is_mark 59 t.kind then Ok (found, ts)
    else in_turn (declaration_at inline defined) (λ declarations. give (with_declarations declarations found)) (t ∷ ts)

-- past the `}` of a block
abbrev pub past_end : Bool → List Lexeme → List Lexeme
past_end true ts = ts
past_end false ts = drop 1 ts

-- after spaces and comments: the end, or one item and more
abbrev pub next_in_body : (Body → Reads Body) → Bool → Defined → Body → Reads Body
next_in_body more inline defined found ts = if ends_body inline ts then Ok (found, past_end inline ts) else in_turn (item_at inline defined found) more ts

-- Declarations and `;` after those found before, up to the end. There are at most so many.
unfoldable pub body_from : ℕ → Bool → Defined → Body → List Lexeme → Read Body
body_from zero inline defined found ts = expected ts
body_from (suc most) inline defined found ts = next_in_body (body_from most inline defined) inline defined found (past_blanks ts)

unfoldable pub body_at : Bool → Defined → List Lexeme → Read Body
body_at inline defined ts = body_from (suc (length ts)) inline defined nothing ts

-- ---- rules

abbrev pub kind_of : SelectKind → SheetKind
kind_of select.Expected = Expected
kind_of select.UnknownPseudo = UnknownPseudo

abbrev pub as_selector : Result (List Compound × List Lexeme) (SelectKind × List Lexeme) → Read SelectorValue
as_selector (Ok found) = Ok (record { compounds = found.0 }, found.1)
as_selector (Err fault) = met (kind_of fault.0) fault.1

-- a selector, with spaces and comments round it
unfoldable pub spaced_selector_at : List Lexeme → Read SelectorValue
spaced_selector_at ts = as_selector (selector_at (past_blanks ts))

-- after a selector: whether further ones come, after a comma, or none, after a `{`
unfoldable pub goes_on_at : List Lexeme → Read Bool
goes_on_at [] = expected []
goes_on_at (t ∷ ts) =
    if is_mark 44 t.kind then Ok (true, ts)
    else if is_mark 123 t.kind then Ok (false, ts)
    else expected (t ∷ ts)

abbrev pub then_selectors : (List SelectorValue → Reads (List SelectorValue)) → List SelectorValue → Bool → Reads (List SelectorValue)
then_selectors more found true = more found
then_selectors more found false = give found

-- Selectors after those found before, at most so many, with a comma between two, and the `{` after them.
unfoldable pub selectors_from : ℕ → List SelectorValue → List Lexeme → Read (List SelectorValue)
selectors_from zero found ts = expected (past_blanks ts)
selectors_from (suc most) found ts =
    in_turn spaced_selector_at (λ selector. in_turn goes_on_at (then_selectors (selectors_from most) (found ++ (selector ∷ [])))) ts

unfoldable pub selectors_at : List Lexeme → Read (List SelectorValue)
selectors_at ts = selectors_from 64 [] ts

-- the rule, and how many declarations were written in it
abbrev pub rule_of : List SelectorValue → Body → RuleValue × ℕ
rule_of selectors body = (record { selectors = selectors; declarations = body.declarations }, body.written)

unfoldable pub rule_at : Defined → List Lexeme → Read (RuleValue × ℕ)
rule_at defined ts = in_turn selectors_at (λ selectors. in_turn (body_at false defined) (λ body. give (rule_of selectors body))) ts

-- ---- variables

-- after the name of a variable
unfoldable pub definition_at : Defined → List Lexeme → Read (List Lexeme)
definition_at defined ts = in_turn (mark_at 58) (λ colon. in_turn (values_at defined) (λ stand. in_turn (mark_at 59) (λ end. give stand))) ts

-- ---- sheets

-- a variable, whose name has at most 64 bytes
unfoldable pub variable_in_sheet : Found → List Lexeme → Read Found
variable_in_sheet found [] = expected []
variable_in_sheet found (t ∷ ts) =
    if is_name (drop 1 t.bytes) then in_turn (definition_at found.defined) (λ stand. give (with_variable (drop 1 t.bytes) stand found)) ts
    else expected (t ∷ ts)

-- a rule, where fewer than 10,000 stand before it
unfoldable pub rule_in_sheet : Found → List Lexeme → Read Found
rule_in_sheet found ts =
    if nat_lt (length found.rules) 10000 then in_turn (rule_at found.defined) (λ rule. give (with_rule rule.0 rule.1 found)) ts
    else met TooManyRules ts

-- a variable or a rule, after what was found before
unfoldable pub part_at : Found → List Lexeme → Read Found
part_at found [] = expected []
part_at found (t ∷ ts) =
    if is_variable t.kind then variable_in_sheet found (t ∷ ts)
    else if begins_compound t.kind then rule_in_sheet found (t ∷ ts)
    else expected (t ∷ ts)

-- after spaces and comments: the end, or one part and more
abbrev pub next_in_sheet : (Found → Reads Found) → Found → Reads Found
next_in_sheet more found [] = Ok (found, [])
next_in_sheet more found (t ∷ ts) = in_turn (part_at found) more (t ∷ ts)

-- Variables and rules after what was found before, up to the end. There are at most so many.
unfoldable pub sheet_from : ℕ → Found → List Lexeme → Read Found
sheet_from zero found ts = expected ts
sheet_from (suc most) found ts = next_in_sheet (sheet_from most) found (past_blanks ts)

unfoldable pub sheet_at : List Lexeme → Read Found
sheet_at ts = sheet_from (suc (length ts)) nothing_found ts

-- an inline text, in which only the variables of the theme are defined
unfoldable pub inline_at : List Lexeme → Read Body
inline_at ts = body_at true [] ts
