-- What is read of a declaration depends on nothing behind the token at which it stops or meets a fault.
use Rattle.std.proofs.Common.{◌≡◌, ℕ, ◌+◌, Bool, true, false, cond, not, ◌&&◌, ◌||◌, List, [], ◌∷◌, ◌++◌, length, nat_lt, Option, Some, None, Result, Ok, Err, refl}
use Rattle.tx_read.specs.Reading.{◌>>=◌, in_turn}
use Rattle.tx_read.proofs.lemmas.LocalReaders.{Plain, turn, same, Step, Take, Leave, Refuse, stepped, at_end, by_first, first-plain, give-plain}
use Rattle.tx_lex.specs.Lexemes.{Lexeme, is_blank, is_name_token, is_mark}
use Rattle.tx_value.specs.Declarations.{Pair, declaration}
use Rattle.tx_value.specs.Names.{is_known}
use Rattle.tx_value.specs.declared.fault.ValueFault.{ValueFault}
use Rattle.tx_lex.specs.Blanks.{past_blanks}
use Rattle.tx_parse.specs.SheetReading.{Reads, met, expected, give, token_at, mark_at, added, values_from, at_least_one, values_at, place_of, first_value_at, is_important, important_word_at, importance_at, Spelled, spelled, spelled_at, is_end, told, ended, declaration_at}
use Rattle.tx_parse.specs.Values.{DeclarationValue, important_pairs}
use Rattle.tx_parse.specs.Variables.{Defined, is_value, stands_for}
use Rattle.tx_parse.specs.declared.fault.SheetKind.{SheetKind}
use Rattle.tx_parse.specs.declared.fault.SheetKind.TheVariants.{Expected, UndefinedVariable, ValueTooLong, UnknownProperty, BadValue}
use Rattle.tx_parse.specs.declared.fault.Wrong.{Wrong}
use Rattle.tx_parse.proofs.Scans.{Go, On, Off, Bad, gone, scanned, scanned-plain}

abbrev pub wrong_of : SheetKind → Wrong
wrong_of kind = record { kind = kind; place = None }

pub met-plain : {A : Type 0} (kind : SheetKind) → Plain {A = A} (met kind)
met-plain {A = A} kind = same (met kind) (by_first {A = A} (Err (wrong_of kind)) (λ t. Refuse (wrong_of kind))) of (first-plain (Err (wrong_of kind)) (λ t. Refuse (wrong_of kind)))
  where
    of : (ts : List Lexeme) → met {A = A} kind ts ≡ by_first {A = A} (Err (wrong_of kind)) (λ t. Refuse (wrong_of kind)) ts
    of [] = refl
    of (t ∷ ts) = refl

pub expected-plain : {A : Type 0} → Plain {A = A} expected
expected-plain = met-plain Expected

-- ---- spaces and comments

abbrev pub blanks : Reads Bool
blanks ts = Ok (true, past_blanks ts)

blank_step : Bool → Lexeme → Go Bool Wrong
blank_step s t = cond (is_blank t.kind) (On s) Off

pub blanks-plain : Plain blanks
unfolding blank_step
blanks-plain = same blanks (scanned blank_step true) of (scanned-plain blank_step true)
  where
    chosen : (t : Lexeme) (ts : List Lexeme) (blank : Bool) → blanks ts ≡ scanned blank_step true ts
        → Ok (true, cond blank (past_blanks ts) (t ∷ ts)) ≡ gone (λ next. scanned blank_step next ts) true t ts (cond blank (On true) Off)
    chosen t ts true more = more
    chosen t ts false more = refl

    of : (ts : List Lexeme) → blanks ts ≡ scanned blank_step true ts
    of [] = refl
    of (t ∷ ts) = chosen t ts (is_blank t.kind) (of ts)

-- a reader behind spaces and comments
pub spaced-plain : {A : Type 0} (reader : Reads A) → Plain reader → Plain (λ ts. reader (past_blanks ts))
spaced-plain reader plain = turn blanks (λ b. reader) blanks-plain (λ b. plain)

-- ---- single tokens

pub token-plain : (test : Lexeme → Bool) → Plain (token_at test)
token-plain test = same (token_at test) (by_first (Err (wrong_of Expected)) (step test)) of (first-plain (Err (wrong_of Expected)) (step test))
  where
    step : (Lexeme → Bool) → Lexeme → Step Wrong Lexeme
    step test t = cond (test t) (Take t) (Refuse (wrong_of Expected))

    chosen : (t : Lexeme) (ts : List Lexeme) (b : Bool) → cond b (Ok (t, ts)) (expected (t ∷ ts)) ≡ stepped t ts (cond b (Take t) (Refuse (wrong_of Expected)))
    chosen t ts true = refl
    chosen t ts false = refl

    of : (ts : List Lexeme) → token_at test ts ≡ by_first (Err (wrong_of Expected)) (step test) ts
    of [] = refl
    of (t ∷ ts) = chosen t ts (test t)

pub mark-plain : (byte : ℕ) → Plain (mark_at byte)
unfolding mark_at
mark-plain byte = spaced-plain (token_at (λ t. is_mark byte t.kind)) (token-plain (λ t. is_mark byte t.kind))

-- ---- values

abbrev added_step : List Lexeme → Option (List Lexeme) → Go (List Lexeme) Wrong
added_step found None = Bad (wrong_of UndefinedVariable)
added_step found (Some stand) = cond (nat_lt 64 (length found + length stand)) (Bad (wrong_of ValueTooLong)) (On (found ++ stand))

value_step : Defined → List Lexeme → Lexeme → Go (List Lexeme) Wrong
value_step defined found t = cond (is_blank t.kind) (On found) (cond (is_value t.kind) (added_step found (stands_for defined t)) Off)

pub values_from-plain : (defined : Defined) (found : List Lexeme) → Plain (values_from defined found)
unfolding values_from value_step
values_from-plain defined found = same (values_from defined found) (scanned (value_step defined) found) (of found) (scanned-plain (value_step defined) found)
  where
    added_by : (found : List Lexeme) (t : Lexeme) (ts stand : List Lexeme) (many : Bool) → values_from defined (found ++ stand) ts ≡ scanned (value_step defined) (found ++ stand) ts
        → (cond many (met ValueTooLong (t ∷ ts)) (Ok (found ++ stand, ts)) >>= (λ more. values_from defined more.0 ts))
        ≡ gone (λ next. scanned (value_step defined) next ts) found t ts (cond many (Bad (wrong_of ValueTooLong)) (On (found ++ stand)))
    added_by found t ts stand true more = refl
    added_by found t ts stand false more = more

    chosen : (found : List Lexeme) (t : Lexeme) (ts : List Lexeme) (blank value : Bool) (stand : Option (List Lexeme)) → ((found : List Lexeme) → values_from defined found ts ≡ scanned (value_step defined) found ts)
        → cond blank (values_from defined found ts) (cond value (added found t ts stand >>= (λ more. values_from defined more.0 ts)) (Ok (found, t ∷ ts)))
        ≡ gone (λ next. scanned (value_step defined) next ts) found t ts (cond blank (On found) (cond value (added_step found stand) Off))
    chosen found t ts true value stand more = more found
    chosen found t ts false true None more = refl
    chosen found t ts false true (Some stand) more = added_by found t ts stand (nat_lt 64 (length found + length stand)) (more (found ++ stand))
    chosen found t ts false false stand more = refl

    of : (found ts : List Lexeme) → values_from defined found ts ≡ scanned (value_step defined) found ts
    of found [] = refl
    of found (t ∷ ts) = chosen found t ts (is_blank t.kind) (is_value t.kind) (stands_for defined t) (λ found. of found ts)

least-plain : (found : List Lexeme) → Plain (at_least_one found)
least-plain [] = expected-plain
least-plain (value ∷ values) = give-plain (value ∷ values)

pub values-plain : (defined : Defined) → Plain (values_at defined)
unfolding values_at
values-plain defined = turn (values_from defined []) at_least_one (values_from-plain defined []) least-plain

-- ---- declarations

abbrev place_at : Reads ℕ
place_at ts = Ok (place_of ts, ts)

place-plain : Plain place_at
place-plain = same place_at (by_first (Ok 0) (λ t. Leave t.place)) of (first-plain (Ok 0) (λ t. Leave t.place))
  where
    of : (ts : List Lexeme) → place_at ts ≡ by_first (Ok 0) (λ t. Leave t.place) ts
    of [] = refl
    of (t ∷ ts) = refl

pub first_value-plain : Plain first_value_at
unfolding first_value_at
first_value-plain = spaced-plain place_at place-plain

word-plain : Plain important_word_at
word-plain = turn (λ rest. token_at is_important (past_blanks rest)) (λ word rest. Ok (true, past_blanks rest)) (spaced-plain (token_at is_important) (token-plain is_important)) (λ word. blanks-plain)

importance_step : Lexeme → Step Wrong Bool
importance_step t = cond (is_mark 33 t.kind) (Take true) (Leave false)

abbrev importance_rest : Bool → Reads Bool
importance_rest true = important_word_at
importance_rest false = give false

pub importance-plain : Plain importance_at
unfolding importance_at importance_step
importance-plain = same importance_at (in_turn (by_first (Ok false) importance_step) importance_rest) of (turn (by_first (Ok false) importance_step) importance_rest (first-plain (Ok false) importance_step) rest-plain)
  where
    rest-plain : (b : Bool) → Plain (importance_rest b)
    rest-plain true = word-plain
    rest-plain false = give-plain false

    chosen : (t : Lexeme) (ts : List Lexeme) (b : Bool) → cond b (important_word_at ts) (Ok (false, t ∷ ts)) ≡ in_turn (λ xs. stepped t ts (cond b (Take true) (Leave false))) importance_rest (t ∷ ts)
    chosen t ts true = refl
    chosen t ts false = refl

    of : (ts : List Lexeme) → importance_at ts ≡ in_turn (by_first (Ok false) importance_step) importance_rest ts
    of [] = refl
    of (t ∷ ts) = chosen t ts (is_mark 33 t.kind)

pub spelled-plain : (defined : Defined) (name : Lexeme) → Plain (spelled_at defined name)
unfolding spelled_at
spelled-plain defined name =
    turn (mark_at 58) (λ colon. in_turn first_value_at (λ first. in_turn (values_at defined) (λ stand. in_turn importance_at (λ important. give (spelled name first stand important))))) (mark-plain 58)
    (λ colon. turn first_value_at (λ first. in_turn (values_at defined) (λ stand. in_turn importance_at (λ important. give (spelled name first stand important)))) first_value-plain
    (λ first. turn (values_at defined) (λ stand. in_turn importance_at (λ important. give (spelled name first stand important))) (values-plain defined)
    (λ stand. turn importance_at (λ important. give (spelled name first stand important)) importance-plain (λ important. give-plain (spelled name first stand important)))))

abbrev judged_end : Spelled → Result (List Pair) ValueFault → Result (List DeclarationValue) Wrong
judged_end s (Ok pairs) = Ok (important_pairs s.important pairs)
judged_end s (Err fault) = Err (record { kind = BadValue; place = Some s.first })

abbrev judged_step : Spelled → Result (List Pair) ValueFault → Step Wrong (List DeclarationValue)
judged_step s (Ok pairs) = Leave (important_pairs s.important pairs)
judged_step s (Err fault) = Refuse (record { kind = BadValue; place = Some s.first })

abbrev end_by : Spelled → Result (List Pair) ValueFault → Bool → Result (List DeclarationValue) Wrong
end_by s pairs inline = cond inline (judged_end s pairs) (Err (wrong_of Expected))

end_step : Bool → Spelled → Result (List Pair) ValueFault → Lexeme → Step Wrong (List DeclarationValue)
end_step inline s pairs t = cond (is_mark 59 t.kind || (not inline && is_mark 125 t.kind)) (judged_step s pairs) (Refuse (wrong_of Expected))

pub ended-plain : (inline : Bool) (s : Spelled) → Plain (ended inline s)
unfolding end_step
ended-plain inline s = of_pairs (declaration s.name.bytes s.stand)
  where
    chosen : (t : Lexeme) (ts : List Lexeme) (b : Bool) (pairs : Result (List Pair) ValueFault) → cond b (told s pairs (t ∷ ts)) (expected (t ∷ ts)) ≡ stepped t ts (cond b (judged_step s pairs) (Refuse (wrong_of Expected)))
    chosen t ts true (Ok pairs) = refl
    chosen t ts true (Err fault) = refl
    chosen t ts false pairs = refl

    of_end : (b : Bool) (pairs : Result (List Pair) ValueFault) → cond b (told s pairs []) (expected []) ≡ at_end (end_by s pairs b)
    of_end true (Ok pairs) = refl
    of_end true (Err fault) = refl
    of_end false pairs = refl

    of : (pairs : Result (List Pair) ValueFault) (ts : List Lexeme) → cond (is_end inline ts) (told s pairs ts) (expected ts) ≡ by_first (end_by s pairs inline) (end_step inline s pairs) ts
    of pairs [] = of_end inline pairs
    of pairs (t ∷ ts) = chosen t ts (is_mark 59 t.kind || (not inline && is_mark 125 t.kind)) pairs

    of_pairs : (pairs : Result (List Pair) ValueFault) → Plain (λ ts. cond (is_end inline ts) (told s pairs ts) (expected ts))
    of_pairs pairs = same (λ ts. cond (is_end inline ts) (told s pairs ts) (expected ts)) (by_first (end_by s pairs inline) (end_step inline s pairs)) (of pairs) (first-plain (end_by s pairs inline) (end_step inline s pairs))

name_step : Lexeme → Step Wrong Lexeme
name_step t = cond (is_name_token t.kind) (cond (is_known t.bytes) (Take t) (Refuse (wrong_of UnknownProperty))) (Refuse (wrong_of Expected))

abbrev pub behind_name : Bool → Defined → Lexeme → Reads (List DeclarationValue)
behind_name inline defined t = in_turn (spelled_at defined t) (ended inline)

pub behind_name-plain : (inline : Bool) (defined : Defined) (t : Lexeme) → Plain (behind_name inline defined t)
behind_name-plain inline defined t = turn (spelled_at defined t) (ended inline) (spelled-plain defined t) (ended-plain inline)

pub declaration-plain : (inline : Bool) (defined : Defined) → Plain (declaration_at inline defined)
unfolding declaration_at name_step
declaration-plain inline defined = same (declaration_at inline defined) (in_turn (by_first (Err (wrong_of Expected)) name_step) (behind_name inline defined)) of
    (turn (by_first (Err (wrong_of Expected)) name_step) (behind_name inline defined) (first-plain (Err (wrong_of Expected)) name_step) (behind_name-plain inline defined))
  where
    chosen : (t : Lexeme) (ts : List Lexeme) (name known : Bool)
        → cond name (cond known (behind_name inline defined t ts) (met UnknownProperty (t ∷ ts))) (expected (t ∷ ts))
        ≡ in_turn (λ xs. stepped t ts (cond name (cond known (Take t) (Refuse (wrong_of UnknownProperty))) (Refuse (wrong_of Expected)))) (behind_name inline defined) (t ∷ ts)
    chosen t ts true true = refl
    chosen t ts true false = refl
    chosen t ts false known = refl

    of : (ts : List Lexeme) → declaration_at inline defined ts ≡ in_turn (by_first (Err (wrong_of Expected)) name_step) (behind_name inline defined) ts
    of [] = refl
    of (t ∷ ts) = chosen t ts (is_name_token t.kind) (is_known t.bytes)
