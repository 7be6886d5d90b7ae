-- One reader behind another, where the first one's answer is known.
use Rattle.std.specs.Result.{IsErrAnd}
use Rattle.std.proofs.Common.{◌≡◌, ℕ, Bool, List, Option, Some, None, Result, Ok, Err, ap, sym, ◌∙◌, subst}
use Rattle.tx_read.specs.Answer.{Tells}
use Rattle.tx_read.specs.Reading.{◌>>=◌, in_turn}
use Rattle.tx_lex.specs.Lexemes.{Lexeme}
use Rattle.tx_lex.specs.declared.token.Token.{Token}
use Rattle.tx_parse.specs.Answers.{told_in, GivesAs}
use Rattle.tx_parse.specs.declared.fault.Stop.{Stop}
use Rattle.tx_lex.specs.Blanks.{past_blanks}
use Rattle.tx_parse.specs.SheetReading.{Read, Reads, place_of, mark_at, first_value_at, values_at, importance_at, Spelled, spelled, spelled_at, give}
use Rattle.tx_parse.specs.Variables.{Defined}
use Rattle.tx_parse.specs.declared.fault.Wrong.{Wrong}

pub turn_ok : {A B : Type 0} (first : Reads A) (second : A → Reads B) (s t : List Lexeme) (a : A) → first s ≡ Ok (a, t) → in_turn first second s ≡ second a t
turn_ok first second s t a is = ap (λ r. r >>= (λ found. second found.0 found.1)) is

-- what the first one tells is told
pub turn_told : {A B : Type 0} (told : Option (Wrong × List Lexeme)) (first : Reads A) (second : A → Reads B) (s : List Lexeme) → Tells told (first s) → Tells told (in_turn first second s)
turn_told None first second s is = tt
turn_told (Some fault) first second s is = ap (λ r. r >>= (λ found. second found.0 found.1)) is

-- the same is told of the same reading
pub told_same : {A : Type 0} (told : Option (Wrong × List Lexeme)) (one other : Read A) → one ≡ other → Tells told other → Tells told one
told_same told one other same is = subst (λ read. Tells told read) (sym same) is

-- a stop that is passed on tells the same
pub passed_on : {A B : Type 0} (view : A → B) (text : List ℕ) (tokens : List Token) (result : Result (A × ℕ) Stop) (stop : Stop) (read : Read B)
    → IsErrAnd result (λ other. other ≡ stop) → Tells (told_in text tokens stop) read → GivesAs view text tokens result read
passed_on view text tokens (Ok found) stop read is tells = absurd is
passed_on view text tokens (Err other) stop read is tells = subst (λ one. Tells (told_in text tokens one) read) (sym is) tells

-- ---- what stands behind the name of a property

abbrev behind_values : Lexeme → ℕ → List Lexeme → Reads Spelled
behind_values name first stand = in_turn importance_at (λ important. give (spelled name first stand important))

abbrev behind_first : Defined → Lexeme → ℕ → Reads Spelled
behind_first defined name first = in_turn (values_at defined) (behind_values name first)

abbrev behind_colon : Defined → Lexeme → Lexeme → Reads Spelled
behind_colon defined name colon = in_turn first_value_at (behind_first defined name)

to_values : (defined : Defined) (name colon : Lexeme) (ts behind here : List Lexeme) → mark_at 58 ts ≡ Ok (colon, behind) → here ≡ past_blanks behind
    → spelled_at defined name ts ≡ behind_first defined name (place_of here) here
unfolding spelled_at first_value_at
to_values defined name colon ts behind here is at =
    turn_ok (mark_at 58) (behind_colon defined name) ts behind colon is ∙ ap (λ h. behind_first defined name (place_of h) h) (sym at)

to_importance : (defined : Defined) (name colon : Lexeme) (ts behind here stand rest : List Lexeme) → mark_at 58 ts ≡ Ok (colon, behind) → here ≡ past_blanks behind
    → values_at defined here ≡ Ok (stand, rest) → spelled_at defined name ts ≡ behind_values name (place_of here) stand rest
to_importance defined name colon ts behind here stand rest is at values =
    to_values defined name colon ts behind here is at ∙ turn_ok (values_at defined) (behind_values name (place_of here)) here rest stand values

pub spelled_ok : (defined : Defined) (name colon : Lexeme) (ts behind here stand rest last : List Lexeme) (first : ℕ) (important : Bool) → mark_at 58 ts ≡ Ok (colon, behind) → here ≡ past_blanks behind
    → first ≡ place_of here → values_at defined here ≡ Ok (stand, rest) → importance_at rest ≡ Ok (important, last)
    → spelled_at defined name ts ≡ Ok (spelled name first stand important, last)
spelled_ok defined name colon ts behind here stand rest last first important is at place values importance =
    to_importance defined name colon ts behind here stand rest is at values
    ∙ turn_ok importance_at (λ important. give (spelled name (place_of here) stand important)) rest last important importance
    ∙ ap (λ n. Ok (spelled name n stand important, last)) (sym place)

pub spelled_bad_values : (told : Option (Wrong × List Lexeme)) (defined : Defined) (name colon : Lexeme) (ts behind here : List Lexeme) → mark_at 58 ts ≡ Ok (colon, behind) → here ≡ past_blanks behind
    → Tells told (values_at defined here) → Tells told (spelled_at defined name ts)
spelled_bad_values told defined name colon ts behind here is past values =
    told_same told (spelled_at defined name ts) (behind_first defined name (place_of here) here) (to_values defined name colon ts behind here is past)
    (turn_told told (values_at defined) (behind_values name (place_of here)) here values)

pub spelled_bad_importance : (told : Option (Wrong × List Lexeme)) (defined : Defined) (name colon : Lexeme) (ts behind here stand rest : List Lexeme) → mark_at 58 ts ≡ Ok (colon, behind) → here ≡ past_blanks behind
    → values_at defined here ≡ Ok (stand, rest) → Tells told (importance_at rest) → Tells told (spelled_at defined name ts)
spelled_bad_importance told defined name colon ts behind here stand rest is past values importance =
    told_same told (spelled_at defined name ts) (behind_values name (place_of here) stand rest) (to_importance defined name colon ts behind here stand rest is past values)
    (turn_told told importance_at (λ important. give (spelled name (place_of here) stand important)) rest importance)
