-- The same of declarations one behind another. Each one takes something, so that they come to an end.
use Rattle.std.proofs.Common.{◌≡◌, ℕ, zero, suc, ◌+◌, ◌≤◌, ◌<◌, Bool, true, false, cond, List, [], ◌∷◌, ◌++◌, length, Result, Ok, Err, refl, ap, ◌∙◌, subst, arith}
use Rattle.tx_read.specs.Reading.{◌>>=◌, in_turn}
use Rattle.tx_read.proofs.lemmas.LocalReaders.{Plain, turn, same, Step, Take, Leave, stepped, by_first, first-plain, give-plain}
use Rattle.tx_lex.specs.Lexemes.{Lexeme, is_name_token, is_mark}
use Rattle.tx_value.specs.Names.{is_known}
use Rattle.tx_parse.specs.Grammar.{Body, nothing}
use Rattle.tx_lex.specs.Blanks.{past_blanks}
use Rattle.tx_parse.specs.SheetReading.{Read, Reads, met, expected, give, ends_body, declaration_at, with_declarations, item_at, past_end, next_in_body, body_from, body_at, inline_at}
use Rattle.tx_parse.specs.Values.{DeclarationValue}
use Rattle.tx_parse.specs.Variables.{Defined}
use Rattle.tx_parse.specs.declared.fault.SheetKind.TheVariants.{Expected, UnknownProperty}
use Rattle.tx_parse.specs.declared.fault.Wrong.{Wrong}
use Rattle.tx_read.proofs.lemmas.Cases.{given, refused, both}
use Rattle.tx_parse.proofs.Local.{wrong_of, expected-plain, blanks-plain, spaced-plain, declaration-plain, behind_name, behind_name-plain}
use Rattle.tx_parse.proofs.Scans.{plain_shorter}

-- ---- as much as is needed is enough

-- what is read behind something is the same where it is the same behind what was read
pub turn_same : {A B : Type 0} (first : Reads A) (second third : A → Reads B) (s : List Lexeme) → ((a : A) (rest : List Lexeme) → first s ≡ Ok (a, rest) → second a rest ≡ third a rest) → in_turn first second s ≡ in_turn first third s
turn_same {A = A} {B = B} first second third s agree = of (first s) refl
  where
    of : (read : Read A) → first s ≡ read → (read >>= (λ found. second found.0 found.1)) ≡ (read >>= (λ found. third found.0 found.1))
    of (Ok found) was = agree found.0 found.1 was
    of (Err fault) was = refl

abbrev pub IsEnough : {A : Type 0} → (ℕ → Reads A) → Type 0
IsEnough reader = (n m : ℕ) (ts : List Lexeme) → length ts < n → length ts < m → reader n ts ≡ reader m ts

pub fuelled-plain : {A : Type 0} (reader : ℕ → Reads A) → ((n : ℕ) → Plain (reader n)) → IsEnough reader → Plain (λ ts. reader (suc (length ts)) ts)
fuelled-plain {A = A} reader plain enough = record {
  local = record {
    value = λ front more other t a is. kept (front ++ (t ∷ more)) (front ++ (t ∷ other)) (Ok (a, t ∷ more)) (Ok (a, t ∷ other)) (λ n was. (plain n).local.value front more other t a was) is;
    fault = λ front more other t kind is. kept (front ++ (t ∷ more)) (front ++ (t ∷ other)) (Err (kind, t ∷ more)) (Err (kind, t ∷ other)) (λ n was. (plain n).local.fault front more other t kind was) is;
  };
  leaves = record {
    value = λ xs rest a is. (plain (suc (length xs))).leaves.value xs rest a is;
    fault = λ xs rest kind is. (plain (suc (length xs))).leaves.fault xs rest kind is;
  };
}
  where
    kept : (xs ys : List Lexeme) (one two : Read A) → ((n : ℕ) → reader n xs ≡ one → reader n ys ≡ two) → reader (suc (length xs)) xs ≡ one → reader (suc (length ys)) ys ≡ two
    kept xs ys one two stays is =
        enough (suc (length ys)) (suc (length xs + length ys)) ys (omega arith) (omega arith)
        ∙ stays (suc (length xs + length ys)) (enough (suc (length xs + length ys)) (suc (length xs)) xs (omega arith) (omega arith) ∙ is)

-- ---- items

abbrev as_item : Bool → Defined → Body → Bool → Reads Body
as_item inline defined found true = give found
as_item inline defined found false = in_turn (declaration_at inline defined) (λ declarations. give (with_declarations declarations found))

item_step : Lexeme → Step Wrong Bool
item_step t = cond (is_mark 59 t.kind) (Take true) (Leave false)

pub item-plain : (inline : Bool) (defined : Defined) (found : Body) → Plain (item_at inline defined found)
unfolding item_at item_step
item-plain inline defined found = same (item_at inline defined found) (in_turn (by_first (Err (wrong_of Expected)) item_step) (as_item inline defined found)) of
    (turn (by_first (Err (wrong_of Expected)) item_step) (as_item inline defined found) (first-plain (Err (wrong_of Expected)) item_step) as-plain)
  where
    as-plain : (b : Bool) → Plain (as_item inline defined found b)
    as-plain true = give-plain found
    as-plain false = turn (declaration_at inline defined) (λ declarations. give (with_declarations declarations found)) (declaration-plain inline defined) (λ declarations. give-plain (with_declarations declarations found))

    chosen : (t : Lexeme) (ts : List Lexeme) (b : Bool)
        → cond b (Ok (found, ts)) (in_turn (declaration_at inline defined) (λ declarations. give (with_declarations declarations found)) (t ∷ ts))
        ≡ in_turn (λ xs. stepped t ts (cond b (Take true) (Leave false))) (as_item inline defined found) (t ∷ ts)
    chosen t ts true = refl
    chosen t ts false = refl

    of : (ts : List Lexeme) → item_at inline defined found ts ≡ in_turn (by_first (Err (wrong_of Expected)) item_step) (as_item inline defined found) ts
    of [] = refl
    of (t ∷ ts) = chosen t ts (is_mark 59 t.kind)

-- a declaration takes its name at least
declaration_shorter : (inline : Bool) (defined : Defined) (ts rest : List Lexeme) (declarations : List DeclarationValue) → declaration_at inline defined ts ≡ Ok (declarations, rest) → length rest < length ts
unfolding declaration_at
declaration_shorter inline defined [] rest declarations is = absurd (refused (wrong_of Expected, []) declarations rest is)
declaration_shorter inline defined (t ∷ ts) rest declarations is = of (is_name_token t.kind) (is_known t.bytes) is
  where
    of : (name known : Bool) → cond name (cond known (behind_name inline defined t ts) (met UnknownProperty (t ∷ ts))) (expected (t ∷ ts)) ≡ Ok (declarations, rest) → length rest < length (t ∷ ts)
    of true true is = let shorter : length rest ≤ length ts = plain_shorter (behind_name inline defined t) (behind_name-plain inline defined t) ts rest declarations is in omega (arith, shorter)
    of true false is = absurd (refused (wrong_of UnknownProperty, t ∷ ts) declarations rest is)
    of false known is = absurd (refused (wrong_of Expected, t ∷ ts) declarations rest is)

pub item_shorter : (inline : Bool) (defined : Defined) (found more : Body) (ts rest : List Lexeme) → item_at inline defined found ts ≡ Ok (more, rest) → length rest < length ts
unfolding item_at
item_shorter inline defined found more [] rest is = absurd (refused (wrong_of Expected, []) more rest is)
item_shorter inline defined found more (t ∷ ts) rest is = of (is_mark 59 t.kind) is
  where
    then : List DeclarationValue × List Lexeme → Read Body
    then declarations = Ok (with_declarations declarations.0 found, declarations.1)

    of : (b : Bool) → cond b (Ok (found, ts)) (in_turn (declaration_at inline defined) (λ declarations. give (with_declarations declarations found)) (t ∷ ts)) ≡ Ok (more, rest) → length rest < length (t ∷ ts)
    of true is = let same : ts ≡ rest = (given found more ts rest is).1 in let sized : length ts ≡ length rest = ap length same in omega (arith, sized)
    of false is =
        let first : (d : List DeclarationValue × List Lexeme) × (declaration_at inline defined (t ∷ ts) ≡ Ok d) × (Ok (with_declarations d.0 found, d.1) ≡ Ok (more, rest)) =
        both (declaration_at inline defined (t ∷ ts)) (λ d. Ok (with_declarations d.0 found, d.1)) more rest is in
        let same : first.0.1 ≡ rest = (given (with_declarations first.0.0 found) more first.0.1 rest first.2).1 in
        let shorter : length first.0.1 < length (t ∷ ts) = declaration_shorter inline defined (t ∷ ts) first.0.1 first.0.0 first.1 in
        subst (λ r. length r < length (t ∷ ts)) same shorter

-- ---- bodies

pub past_shorter : (ts : List Lexeme) → length (past_blanks ts) ≤ length ts
past_shorter ts = plain_shorter (λ ts. Ok (true, past_blanks ts)) blanks-plain ts (past_blanks ts) true refl

abbrev as_next : (Body → Reads Body) → Bool → Defined → Body → Bool → Reads Body
as_next more inline defined found true = give found
as_next more inline defined found false = in_turn (item_at inline defined found) more

abbrev next_end : Bool → Result Bool Wrong
next_end true = Ok true
next_end false = Err (wrong_of Expected)

abbrev next_step : Bool → Lexeme → Step Wrong Bool
next_step true t = Leave false
next_step false t = cond (is_mark 125 t.kind) (Take true) (Leave false)

no_item : (defined : Defined) (found : Body) (more : Body → Reads Body) → in_turn (item_at false defined found) more [] ≡ Err (wrong_of Expected, [])
unfolding item_at
no_item defined found more = refl

next-plain : (more : Body → Reads Body) → ((found : Body) → Plain (more found)) → (inline : Bool) (defined : Defined) (found : Body) → Plain (next_in_body more inline defined found)
next-plain more plain inline defined found = same (next_in_body more inline defined found) (in_turn (by_first (next_end inline) (next_step inline)) (as_next more inline defined found)) (of inline)
    (turn (by_first (next_end inline) (next_step inline)) (as_next more inline defined found) (first-plain (next_end inline) (next_step inline)) as-plain)
  where
    as-plain : (b : Bool) → Plain (as_next more inline defined found b)
    as-plain true = give-plain found
    as-plain false = turn (item_at inline defined found) more (item-plain inline defined found) plain

    chosen : (t : Lexeme) (ts : List Lexeme) (b : Bool)
        → cond b (Ok (found, ts)) (in_turn (item_at false defined found) more (t ∷ ts))
        ≡ in_turn (λ xs. stepped t ts (cond b (Take true) (Leave false))) (as_next more false defined found) (t ∷ ts)
    chosen t ts true = refl
    chosen t ts false = refl

    of : (inline : Bool) (ts : List Lexeme) → next_in_body more inline defined found ts ≡ in_turn (by_first (next_end inline) (next_step inline)) (as_next more inline defined found) ts
    of true [] = refl
    of true (t ∷ ts) = refl
    of false [] = no_item defined found more
    of false (t ∷ ts) = chosen t ts (is_mark 125 t.kind)

body_from-plain : (n : ℕ) (inline : Bool) (defined : Defined) (found : Body) → Plain (body_from n inline defined found)
unfolding body_from
body_from-plain zero inline defined found = expected-plain
body_from-plain (suc n) inline defined found =
    spaced-plain (next_in_body (body_from n inline defined) inline defined found) (next-plain (body_from n inline defined) (body_from-plain n inline defined) inline defined found)

pub body_enough : (inline : Bool) (defined : Defined) (found : Body) → IsEnough (λ n. body_from n inline defined found)
unfolding body_from
body_enough inline defined found zero m ts less lower = absurd (omega (arith, less))
body_enough inline defined found (suc n) zero ts less lower = absurd (omega (arith, lower))
body_enough inline defined found (suc n) (suc m) ts less lower =
    ap (λ r. cond (ends_body inline (past_blanks ts)) (Ok (found, past_end inline (past_blanks ts))) r)
    (turn_same (item_at inline defined found) (body_from n inline defined) (body_from m inline defined) (past_blanks ts) (λ more rest is.
    let short : length rest < length (past_blanks ts) = item_shorter inline defined found more (past_blanks ts) rest is in
    let past : length (past_blanks ts) ≤ length ts = past_shorter ts in
    body_enough inline defined more n m rest (omega (arith, short, past, less)) (omega (arith, short, past, lower))))

pub body-plain : (inline : Bool) (defined : Defined) → Plain (body_at inline defined)
unfolding body_at
body-plain inline defined = fuelled-plain (λ n. body_from n inline defined nothing) (λ n. body_from-plain n inline defined nothing) (body_enough inline defined nothing)

pub inline-plain : Plain inline_at
unfolding inline_at
inline-plain = body-plain true []
