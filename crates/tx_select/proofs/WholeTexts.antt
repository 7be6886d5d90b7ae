-- The selector that a text is, and its first fault.
use Rattle.std.proofs.Common.{◌≡◌, ◌⊎◌, inl, inr, ℕ, List, [], Option, Some, None, Result, Ok, Err, refl, ap, sym, ◌∙◌, subst, IfOk, IfErr}
use Rattle.tx_read.specs.Answer.{Gives}
use Rattle.tx_lex.specs.Lexing.{lexed}
use Rattle.tx_lex.specs.declared.token.Fault.{Fault}
use Rattle.tx_lex.specs.Lexemes.{Lexeme}
use Rattle.tx_select.specs.Grammar.{IsWhole}
use Rattle.tx_select.specs.SelectorReading.{Read, whole_at}
use Rattle.tx_select.specs.Texts.{tokens_of, end_of, place_of, IsSelectorText, StopsAtByte, StopsAtToken, judged, selector_of, told, IsFirstFault}
use Rattle.tx_select.specs.declared.value.Compound.{Compound}
use Rattle.tx_select.specs.SelectorValue.{SelectorValue}
use Rattle.tx_select.specs.declared.fault.SelectKind.{SelectKind}
use Rattle.tx_select.specs.declared.fault.SelectFault.{SelectFault}
use Rattle.tx_select.specs.declared.fault.SelectFault.TheVariants.{Grammar, NoMemory}
use Rattle.tx_select.proofs.FoundWhole.{whole-found}
use Rattle.tx_select.proofs.AgainWhole.{whole-again}
use Rattle.tx_select.proofs.Local.{faults-first}

abbrev IsJudged : Result SelectorValue ℕ → SelectorValue → Type 0
IsJudged found selector = found ≡ Ok selector

judged-some : (one other : SelectorValue) → IsJudged (Ok one) other → one ≡ other
judged-some one other is = cc

judged-none : (place : ℕ) (selector : SelectorValue) → IsJudged (Err place) selector → ⊥
judged-none place selector is = cc

abbrev IsRefused : Result SelectorValue ℕ → ℕ → Type 0
IsRefused found place = found ≡ Err place

refused-at : (one other : ℕ) → IsRefused (Err one) other → one ≡ other
refused-at one other is = cc

not-refused : (selector : SelectorValue) (place : ℕ) → IsRefused (Ok selector) place → ⊥
not-refused selector place is = cc

pub found-text : (text : List ℕ) (selector : SelectorValue) (fault : Option Fault) (read : Read (List Compound)) → (lexed text).fault ≡ fault → whole_at (tokens_of text) ≡ read
    → IsJudged (judged text fault read) selector → IsSelectorText text selector
found-text text selector None (Ok found) sound is judges =
    let same : found.0 ≡ selector.compounds = ap (λ (s : SelectorValue). s.compounds) (judged-some (record { compounds = found.0 }) selector judges) in
    record { sound = sound; grammar = subst (IsWhole (tokens_of text)) same (whole-found (tokens_of text) found.1 found.0 is) }
found-text text selector (Some fault) (Ok found) sound is judges = absurd (judged-none fault.place selector judges)
found-text text selector None (Err wrong) sound is judges = absurd (judged-none (place_of (end_of text None) wrong.1) selector judges)
found-text text selector (Some fault) (Err wrong) sound is judges = absurd (judged-none (place_of (end_of text (Some fault)) wrong.1) selector judges)

pub text-again : (text : List ℕ) (selector : SelectorValue) → IsSelectorText text selector → selector_of text ≡ Ok selector
unfolding selector_of
text-again text selector is =
    ap (judged text (lexed text).fault) (whole-again (tokens_of text) selector.compounds is.grammar)
    ∙ ap (λ fault. judged text fault (Ok (selector.compounds, []))) is.sound

stops-token : (text : List ℕ) (place : ℕ) (kind : SelectKind) (rest : List Lexeme) (fault : Option Fault) → (lexed text).fault ≡ fault → whole_at (tokens_of text) ≡ Err (kind, rest)
    → place_of (end_of text fault) rest ≡ place → StopsAtToken text place
stops-token text place kind rest fault sound is at = record {
  rest = rest;
  first = faults-first (tokens_of text) rest kind is;
  at = sym at ∙ ap (λ f. place_of (end_of text f) rest) (sym sound);
}

fault-text : (text : List ℕ) (place : ℕ) (fault : Option Fault) (read : Read (List Compound)) → (lexed text).fault ≡ fault → whole_at (tokens_of text) ≡ read
    → IsRefused (judged text fault read) place → StopsAtByte text place ⊎ StopsAtToken text place
fault-text text place None (Ok found) sound is judges = absurd (not-refused (record { compounds = found.0 }) place judges)
fault-text text place (Some fault) (Ok found) sound is judges = inl (record {
  compounds = found.0;
  grammar = whole-found (tokens_of text) found.1 found.0 is;
  fault = fault;
  met = sound;
  at = sym (refused-at fault.place place judges);
})
fault-text text place None (Err wrong) sound is judges = inr (stops-token text place wrong.0 wrong.1 None sound is (refused-at (place_of (end_of text None) wrong.1) place judges))
fault-text text place (Some fault) (Err wrong) sound is judges = inr (stops-token text place wrong.0 wrong.1 (Some fault) sound is (refused-at (place_of (end_of text (Some fault)) wrong.1) place judges))

-- the selector of a text, or the place of its first fault
abbrev pub GivesSelector : Result SelectorValue SelectFault → Result SelectorValue ℕ → Type 0
GivesSelector = Gives {R = SelectorValue} {A = SelectorValue} (λ selector. selector) told

pub clause-found : (text : List ℕ) (result : Result SelectorValue SelectFault) → GivesSelector result (selector_of text) → IfOk result (λ selector. IsSelectorText text selector)
unfolding selector_of
clause-found text (Ok selector) gives = found-text text selector (lexed text).fault (whole_at (tokens_of text)) refl refl gives
clause-found text (Err (Grammar place)) gives = tt
clause-found text (Err NoMemory) gives = tt

pub clause-only : (text : List ℕ) (result : Result SelectorValue SelectFault) → GivesSelector result (selector_of text) → (selector : SelectorValue) → IsSelectorText text selector → GivesSelector result (Ok selector)
clause-only text result gives selector is = subst (GivesSelector result) (text-again text selector is) gives

pub clause-fault : (text : List ℕ) (result : Result SelectorValue SelectFault) → GivesSelector result (selector_of text) → IfErr result (λ fault. IsFirstFault text fault)
unfolding selector_of
clause-fault text (Ok selector) gives = tt
clause-fault text (Err (Grammar place)) gives = fault-text text place (lexed text).fault (whole_at (tokens_of text)) refl refl gives
clause-fault text (Err NoMemory) gives = tt
