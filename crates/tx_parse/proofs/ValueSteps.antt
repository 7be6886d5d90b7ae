-- The steps of reading values.
use Rattle.std.proofs.Common.{◌≡◌, ◌+◌, Bool, true, false, cond, List, [], ◌∷◌, ◌++◌, length, nat_lt, Option, Some, None, Ok, refl, ap, sym, ◌∙◌}
use Rattle.tx_lex.specs.Lexemes.{Lexeme, is_blank, first_is}
use Rattle.tx_read.specs.Answer.{Tells}
use Rattle.tx_read.specs.Reading.{◌>>=◌}
use Rattle.tx_lex.specs.Blanks.{past_blanks}
use Rattle.tx_parse.specs.SheetReading.{Read, added, values_from, met}
use Rattle.tx_parse.specs.Variables.{Defined, is_value, stands_for}
use Rattle.tx_parse.specs.declared.fault.Wrong.{Wrong}
use Rattle.tx_parse.specs.declared.fault.SheetKind.TheVariants.{ValueTooLong}
use Rattle.tx_read.proofs.lemmas.Cases.{given}
use Rattle.tx_parse.proofs.Turns.{told_same}

-- no blank stands behind blanks
pub past_first : (ts : List Lexeme) → first_is is_blank (past_blanks ts) ≡ false
past_first [] = refl
past_first (t ∷ ts) = of (is_blank t.kind) refl (past_first ts)
  where
    of : (blank : Bool) → is_blank t.kind ≡ blank → first_is is_blank (past_blanks ts) ≡ false → first_is is_blank (cond blank (past_blanks ts) (t ∷ ts)) ≡ false
    of true is rest = rest
    of false is rest = is

pub values_past : (defined : Defined) (found ts : List Lexeme) → values_from defined found (past_blanks ts) ≡ values_from defined found ts
unfolding values_from
values_past defined found [] = refl
values_past defined found (t ∷ ts) = of (is_blank t.kind) refl (values_past defined found ts)
  where
    others : Read (List Lexeme)
    others = cond (is_value t.kind) (added found t ts (stands_for defined t) >>= (λ more. values_from defined more.0 ts)) (Ok (found, t ∷ ts))

    of : (blank : Bool) → is_blank t.kind ≡ blank → values_from defined found (past_blanks ts) ≡ values_from defined found ts
        → values_from defined found (cond blank (past_blanks ts) (t ∷ ts)) ≡ cond blank (values_from defined found ts) others
    of true is rest = rest
    of false is rest = ap (λ b. cond b (values_from defined found ts) others) is

-- a token of values
pub values_value : (defined : Defined) (found : List Lexeme) (t : Lexeme) (ts : List Lexeme) → is_blank t.kind ≡ false → is_value t.kind ≡ true
    → values_from defined found (t ∷ ts) ≡ added found t ts (stands_for defined t) >>= (λ more. values_from defined more.0 ts)
unfolding values_from
values_value defined found t ts blank value =
    ap (λ b. cond b (values_from defined found ts) (cond (is_value t.kind) (added found t ts (stands_for defined t) >>= (λ more. values_from defined more.0 ts)) (Ok (found, t ∷ ts)))) blank
    ∙ ap (λ b. cond b (added found t ts (stands_for defined t) >>= (λ more. values_from defined more.0 ts)) (Ok (found, t ∷ ts))) value

pub values_other : (defined : Defined) (found : List Lexeme) (t : Lexeme) (ts : List Lexeme) → is_blank t.kind ≡ false → is_value t.kind ≡ false
    → values_from defined found (t ∷ ts) ≡ Ok (found, t ∷ ts)
unfolding values_from
values_other defined found t ts blank value =
    ap (λ b. cond b (values_from defined found ts) (cond (is_value t.kind) (added found t ts (stands_for defined t) >>= (λ more. values_from defined more.0 ts)) (Ok (found, t ∷ ts)))) blank
    ∙ ap (λ b. cond b (added found t ts (stands_for defined t) >>= (λ more. values_from defined more.0 ts)) (Ok (found, t ∷ ts))) value

pub values_none : (defined : Defined) (found : List Lexeme) → values_from defined found [] ≡ Ok (found, [])
unfolding values_from
values_none defined found = refl

-- what is read goes on behind the token
pub added_rest : (found : List Lexeme) (t : Lexeme) (ts : List Lexeme) (stand : Option (List Lexeme)) (all rest : List Lexeme) → added found t ts stand ≡ Ok (all, rest) → rest ≡ ts
added_rest found t ts None all rest is = absurd (let clash : added found t ts None ≡ Ok (all, rest) = is in cc)
added_rest found t ts (Some stand) all rest is = of (nat_lt 64 (length found + length stand)) is
  where
    of : (many : Bool) → cond many (met ValueTooLong (t ∷ ts)) (Ok (found ++ stand, ts)) ≡ Ok (all, rest) → rest ≡ ts
    of true is = absurd (let clash : met ValueTooLong (t ∷ ts) ≡ Ok (all, rest) = is in cc)
    of false is = sym (given (found ++ stand) all ts rest is).1

pub values_step : (defined : Defined) (found : List Lexeme) (t : Lexeme) (ts all rest : List Lexeme) → is_blank t.kind ≡ false → is_value t.kind ≡ true
    → added found t ts (stands_for defined t) ≡ Ok (all, rest) → values_from defined found (t ∷ ts) ≡ values_from defined all rest
values_step defined found t ts all rest blank value is =
    values_value defined found t ts blank value
    ∙ ap (λ r. r >>= (λ more. values_from defined more.0 ts)) is
    ∙ ap (values_from defined all) (sym (added_rest found t ts (stands_for defined t) all rest is))

pub values_fault : (told : Option (Wrong × List Lexeme)) (defined : Defined) (found : List Lexeme) (t : Lexeme) (ts : List Lexeme) → is_blank t.kind ≡ false → is_value t.kind ≡ true
    → Tells told (added found t ts (stands_for defined t)) → Tells told (values_from defined found (t ∷ ts))
values_fault None defined found t ts blank value is = tt
values_fault (Some fault) defined found t ts blank value is =
    values_value defined found t ts blank value ∙ ap (λ r. r >>= (λ more. values_from defined more.0 ts)) is

-- ---- the loop: no blank stands here, and the values so far and those from here on are the values in all

pub record SoFar (defined : Defined) (found here start : List Lexeme) : Type 0 where
  pub same : values_from defined found here ≡ values_from defined [] start
  pub first : first_is is_blank here ≡ false

pub values_init : (defined : Defined) (found here start : List Lexeme) → found ≡ [] → here ≡ past_blanks start → SoFar defined found here start
values_init defined found here start none is = record {
  same = ap (λ f. values_from defined f here) none ∙ ap (values_from defined []) is ∙ values_past defined [] start;
  first = ap (first_is is_blank) is ∙ past_first start;
}

pub values_next : (defined : Defined) (found here start : List Lexeme) (t : Lexeme) (ts all rest next : List Lexeme) → SoFar defined found here start → here ≡ t ∷ ts → is_value t.kind ≡ true
    → added found t ts (stands_for defined t) ≡ Ok (all, rest) → next ≡ past_blanks rest → SoFar defined all next start
values_next defined found here start t ts all rest next so_far is value adds behind = record {
  same = ap (values_from defined all) behind ∙ values_past defined all rest
      ∙ sym (values_step defined found t ts all rest (sym (ap (first_is is_blank) is) ∙ so_far.first) value adds)
      ∙ sym (ap (values_from defined found) is) ∙ so_far.same;
  first = ap (first_is is_blank) behind ∙ past_first rest;
}

pub values_last : (defined : Defined) (found here start : List Lexeme) (t : Lexeme) (ts : List Lexeme) → SoFar defined found here start → here ≡ t ∷ ts → is_value t.kind ≡ false
    → values_from defined [] start ≡ Ok (found, here)
values_last defined found here start t ts so_far is value =
    sym so_far.same ∙ ap (values_from defined found) is ∙ values_other defined found t ts (sym (ap (first_is is_blank) is) ∙ so_far.first) value ∙ ap (λ r. Ok (found, r)) (sym is)

pub values_end : (defined : Defined) (found here start : List Lexeme) → SoFar defined found here start → here ≡ [] → values_from defined [] start ≡ Ok (found, here)
values_end defined found here start so_far is =
    sym so_far.same ∙ ap (values_from defined found) is ∙ values_none defined found ∙ ap (λ r. Ok (found, r)) (sym is)

pub values_err : (told : Option (Wrong × List Lexeme)) (defined : Defined) (found here start : List Lexeme) (t : Lexeme) (ts : List Lexeme) → SoFar defined found here start → here ≡ t ∷ ts
    → is_value t.kind ≡ true → Tells told (added found t ts (stands_for defined t)) → Tells told (values_from defined [] start)
values_err told defined found here start t ts so_far is value fault =
    told_same told (values_from defined [] start) (values_from defined found (t ∷ ts)) (sym so_far.same ∙ ap (values_from defined found) is)
    (values_fault told defined found t ts (sym (ap (first_is is_blank) is) ∙ so_far.first) value fault)
