-- A selector has no more parts than there are tokens.
use Rattle.std.proofs.Common.{◌≡◌, ◌<◌, ◌≤◌, ◌+◌, ◌^◌, ℕ, Bool, List, [], ◌∷◌, ◌++◌, length, drop, Ok, ap, ◌∙◌, arith, length-append}
use Rattle.std.specs.List.{count_by, sum_by}
use Rattle.std.proofs.lemmas.List.Sums.{sum_by-cons, count_by-le-length}
use Rattle.std.proofs.lemmas.List.{length-map, length-drop}
use Rattle.tx_lex.specs.declared.token.Token.{Token}
use Rattle.tx_lex.specs.Lexemes.{Lexeme, lexeme, lexemes, lexemes_from}
use Rattle.tx_select.specs.Grammar.{AreParts, IsCompound, AreCompounds, IsWhole}
use Rattle.tx_select.specs.SelectorValue.{IsSmall, parts_of}
use Rattle.tx_select.specs.SelectorReading.{selector_at, whole_at}
use Rattle.tx_select.specs.Laws.{StandsBefore}
use Rattle.tx_select.specs.Specificity.{is_id, is_class, has_kind, ids, classes, types}
use Rattle.tx_select.specs.declared.value.Part.{Part}
use Rattle.tx_select.specs.declared.value.Compound.{Compound}
use Rattle.tx_select.proofs.Found.{part-some}
use Rattle.tx_select.proofs.FoundWhole.{whole-found}
use Rattle.tx_select.proofs.lemmas.SelectorLaws.{selectors-read}

split : (ts a b : List Lexeme) → ts ≡ a ++ b → length ts ≡ length a + length b
split ts a b is = ap length is ∙ length-append a b

parts-few : (ts : List Lexeme) (parts : List Part) → AreParts ts parts → length parts ≤ length ts
parts-few ts [] is = omega arith
parts-few ts (part ∷ parts) is = omega (arith, split ts is.0 is.1 is.2, part-some is.0 part is.3, parts-few is.1 parts is.4)

compound-few : (ts : List Lexeme) (compound : Compound) → IsCompound ts compound → length compound.parts ≤ length ts
compound-few ts compound is = omega (arith, split ts is.0 is.1 is.2, parts-few is.1 compound.parts is.4)

first_parts : (compound : Compound) (compounds : List Compound) → parts_of (compound ∷ compounds) ≡ length compound.parts + parts_of compounds
first_parts compound compounds = sum_by-cons (λ (c : Compound). length c.parts) compound compounds

compounds-few : (ts : List Lexeme) (compounds : List Compound) → AreCompounds ts compounds → parts_of compounds ≤ length ts
compounds-few ts [] is = absurd is
compounds-few ts (compound ∷ []) is = omega (arith, first_parts compound [], compound-few ts compound is)
compounds-few ts (compound ∷ next ∷ compounds) is =
    omega (arith, first_parts compound (next ∷ compounds), split ts is.0 (is.1 ++ is.2) is.3, length-append is.1 is.2, compound-few is.0 compound is.4, compounds-few is.2 (next ∷ compounds) is.6)

stands-few : (ts rest : List Lexeme) (compounds : List Compound) → StandsBefore ts compounds rest → parts_of compounds ≤ length ts
stands-few ts rest compounds is =
    omega (arith, split ts is.selector (is.behind ++ rest) is.parts, compounds-few is.selector compounds is.grammar.joined)

whole-few : (ts : List Lexeme) (compounds : List Compound) → IsWhole ts compounds → parts_of compounds ≤ length ts
whole-few ts compounds is =
    omega (arith, split ts is.before (is.middle ++ is.behind) is.parts, length-append is.middle is.behind, compounds-few is.middle compounds is.selector.joined)

-- a selector that stands among tokens
pub read-small : (text : List ℕ) (tokens : List Token) (at : ℕ) (compounds : List Compound) (rest : List Lexeme) → selector_at (lexemes_from text tokens at) ≡ Ok (compounds, rest) → length tokens < 2 ^ 32 → IsSmall compounds
read-small text tokens at compounds rest is few =
    let stands : StandsBefore (lexemes_from text tokens at) compounds rest = (selectors-read (lexemes_from text tokens at) compounds rest).0 is in
    record {
      few = stands.grammar.few;
      few_parts = omega (arith, few, length-map (drop at tokens) (lexeme text), length-drop at tokens, stands-few (lexemes_from text tokens at) rest compounds stands);
    }

-- a whole text
pub whole-small : (text : List ℕ) (tokens : List Token) (compounds : List Compound) (rest : List Lexeme) → whole_at (lexemes text tokens) ≡ Ok (compounds, rest) → length tokens < 2 ^ 32 → IsSmall compounds
whole-small text tokens compounds rest is few =
    let grammar : IsWhole (lexemes text tokens) compounds = whole-found (lexemes text tokens) rest compounds is in
    record {
      few = grammar.selector.few;
      few_parts = omega (arith, few, length-map tokens (lexeme text), whole-few (lexemes text tokens) compounds grammar);
    }

-- the compounds have no more ids, and no more classes, than parts
few-by : (test : Part → Bool) (compounds : List Compound) → sum_by (λ compound. count_by test compound.parts) compounds ≤ parts_of compounds
few-by test [] = omega arith
few-by test (compound ∷ compounds) =
    omega (arith, sum_by-cons (λ (c : Compound). count_by test c.parts) compound compounds, first_parts compound compounds, count_by-le-length test compound.parts, few-by test compounds)

pub ids-few : (compounds : List Compound) → IsSmall compounds → ids compounds < 2 ^ 32
ids-few compounds small = omega (arith, small.few_parts, few-by is_id compounds)

pub classes-few : (compounds : List Compound) → IsSmall compounds → classes compounds < 2 ^ 32
classes-few compounds small = omega (arith, small.few_parts, few-by is_class compounds)

pub types-few : (compounds : List Compound) → IsSmall compounds → types compounds < 2 ^ 32
types-few compounds small = omega (arith, small.few, count_by-le-length has_kind compounds)
