-- The bodies that are in the grammar are read.
use Rattle.std.proofs.Common.{◌≡◌, inl, inr, ℕ, zero, suc, ◌+◌, ◌≤◌, ◌<◌, Bool, true, false, cond, not, ◌&&◌, ◌||◌, List, [], ◌∷◌, ◌++◌, length, Ok, refl, ap, sym, ◌∙◌, subst, arith, append_assoc, length-append}
use Rattle.std.proofs.lemmas.List.{append-nil}
use Rattle.tx_read.specs.Reading.{in_turn, Items}
use Rattle.tx_lex.specs.Lexemes.{Lexeme, is_blank, is_mark, first_is}
use Rattle.tx_lex.specs.declared.token.TokenKind.TheVariants.{Name, Mark}
use Rattle.tx_select.specs.Grammar.{AreBlank}
use Rattle.tx_parse.specs.Grammar.{Body, nothing, joined, IsDeclaration, IsPiece, IsEnded, IsBody}
use Rattle.tx_parse.specs.SheetReading.{Read, give, ends_body, past_end, is_end, declaration_at, with_declarations, item_at, next_in_body, body_from, body_at, inline_at}
use Rattle.tx_parse.specs.Values.{DeclarationValue}
use Rattle.tx_parse.specs.Variables.{Defined}
use Rattle.tx_parse.proofs.AgainValues.{past_again, is_kind, declaration_again, ends_of}
use Rattle.tx_parse.proofs.Counts.{counted_small, with_body, with_nothing, nothing_with, with_more, one_alone, joined_small}
use Rattle.tx_parse.proofs.Turns.{turn_ok}

module _ (inline : Bool) (defined : Defined) where
  -- one step, behind blanks
  step : (n : ℕ) (found : Body) (blank here : List Lexeme) → AreBlank blank → first_is is_blank here ≡ false
      → body_from (suc n) inline defined found (blank ++ here) ≡ next_in_body (body_from n inline defined) inline defined found here
  unfolding body_from
  step n found blank here all none = ap (next_in_body (body_from n inline defined) inline defined found) (past_again blank here all none)

  abbrev next_by : ℕ → Body → List Lexeme → Bool → Read Body
  next_by n found here ends = cond ends (Ok (found, past_end inline here)) (in_turn (item_at inline defined found) (body_from n inline defined) here)

  not_close : (t : Lexeme) (ts : List Lexeme) → t.kind ≡ Mark 59 → ends_body inline (t ∷ ts) ≡ false
  not_close t ts is = ap (λ k. not inline && is_mark 125 k) is ∙ never inline
    where
      never : (b : Bool) → (not b && false) ≡ false
      never true = refl
      never false = refl

  not_close_name : (t : Lexeme) (ts : List Lexeme) → t.kind ≡ Name → ends_body inline (t ∷ ts) ≡ false
  not_close_name t ts is = ap (λ k. not inline && is_mark 125 k) is ∙ never inline
    where
      never : (b : Bool) → (not b && false) ≡ false
      never true = refl
      never false = refl

  -- a `;`
  step_mark : (n : ℕ) (found : Body) (blank ts : List Lexeme) (t : Lexeme) → AreBlank blank → t.kind ≡ Mark 59 → body_from (suc n) inline defined found (blank ++ (t ∷ ts)) ≡ body_from n inline defined found ts
  unfolding item_at
  step_mark n found blank ts t all is =
      step n found blank (t ∷ ts) all (ap is_blank is)
      ∙ ap (next_by n found (t ∷ ts)) (not_close t ts is)
      ∙ turn_ok (item_at inline defined found) (body_from n inline defined) (t ∷ ts) ts found
      (ap (λ b. cond b (Ok (found, ts)) (in_turn (declaration_at inline defined) (λ declarations. give (with_declarations declarations found)) (t ∷ ts))) (is_kind 59 t.kind is))

  -- the end
  step_end : (n : ℕ) (found : Body) (blank tail : List Lexeme) → AreBlank blank → ends_body inline tail ≡ true → is_end inline tail ≡ true → body_from (suc n) inline defined found (blank ++ tail) ≡ Ok (found, past_end inline tail)
  step_end n found blank tail all ends end = step n found blank tail all (ends_of inline tail end).blank ∙ ap (next_by n found tail) ends

  declared_item : (found : Body) (name : Lexeme) (ts rest : List Lexeme) (declarations : List DeclarationValue) → name.kind ≡ Name → declaration_at inline defined (name ∷ ts) ≡ Ok (declarations, rest)
      → item_at inline defined found (name ∷ ts) ≡ Ok (with_declarations declarations found, rest)
  unfolding item_at
  declared_item found name ts rest declarations is reads =
      ap (λ b. cond b (Ok (found, ts)) (in_turn (declaration_at inline defined) (λ declarations. give (with_declarations declarations found)) (name ∷ ts))) (ap (is_mark 59) is)
      ∙ turn_ok (declaration_at inline defined) (λ declarations. give (with_declarations declarations found)) (name ∷ ts) rest declarations reads

  -- a declaration
  step_declaration : (n : ℕ) (found : Body) (blank piece rest : List Lexeme) (declarations : List DeclarationValue) → AreBlank blank → IsDeclaration defined piece declarations → is_end inline rest ≡ true
      → body_from (suc n) inline defined found ((blank ++ piece) ++ rest) ≡ body_from n inline defined (with_declarations declarations found) rest
  step_declaration n found blank piece rest declarations all is end =
      let ts : List Lexeme = (is.gap ++ (is.colon ∷ (is.values ++ is.ending))) ++ rest in
      let split : piece ++ rest ≡ is.name ∷ ts = ap (λ xs. xs ++ rest) is.parts in
      ap (body_from (suc n) inline defined found) (append_assoc blank piece rest ∙ ap (λ xs. blank ++ xs) split)
      ∙ step n found blank (is.name ∷ ts) all (ap is_blank is.is_name)
      ∙ ap (next_by n found (is.name ∷ ts)) (not_close_name is.name ts is.is_name)
      ∙ turn_ok (item_at inline defined found) (body_from n inline defined) (is.name ∷ ts) rest (with_declarations declarations found)
      (declared_item found is.name ts rest declarations is.is_name (sym (ap (declaration_at inline defined) split) ∙ declaration_again inline defined piece rest declarations is end))

  mark_ends : (t : Lexeme) (ts : List Lexeme) → t.kind ≡ Mark 59 → is_end inline (t ∷ ts) ≡ true
  mark_ends t ts is = ap (λ k. is_mark 59 k || (not inline && is_mark 125 k)) is

  -- how much is left
  length_behind : (piece ts tail : List Lexeme) (t : Lexeme) → length (ts ++ tail) < length ((piece ++ (t ∷ ts)) ++ tail)
  length_behind piece ts tail t =
      let whole : length ((piece ++ (t ∷ ts)) ++ tail) ≡ length piece + length ((t ∷ ts) ++ tail) = ap length (append_assoc piece (t ∷ ts) tail) ∙ length-append piece ((t ∷ ts) ++ tail) in
      omega (arith, whole)

  declared_length : (blank piece ts tail : List Lexeme) (t : Lexeme) (declarations : List DeclarationValue) → IsDeclaration defined piece declarations → suc (length (ts ++ tail)) < length (((blank ++ piece) ++ (t ∷ ts)) ++ tail)
  declared_length blank piece ts tail t declarations is =
      let more : List Lexeme = is.gap ++ (is.colon ∷ (is.values ++ is.ending)) in
      let whole : length (((blank ++ piece) ++ (t ∷ ts)) ++ tail) ≡ length (blank ++ piece) + length ((t ∷ ts) ++ tail) = ap length (append_assoc (blank ++ piece) (t ∷ ts) tail) ∙ length-append (blank ++ piece) ((t ∷ ts) ++ tail) in
      let two : length (blank ++ piece) ≡ length blank + length piece = length-append blank piece in
      let name : length piece ≡ suc (length more) = ap length is.parts in
      omega (arith, whole, two, name)

  abbrev BodyAgain : List Body → List Lexeme → List Lexeme → Body → List Lexeme → Type 0
  BodyAgain ended ts last final tail = (n : ℕ) (found : Body) → found.written ≤ 4294967295 → length (ts ++ tail) < n
      → body_from n inline defined found (ts ++ tail) ≡ Ok (with_body found (joined (ended ++ (final ∷ []))), past_end inline tail)

  -- the last piece
  last_again : (last tail : List Lexeme) (final : Body) → IsPiece defined last final → ends_body inline tail ≡ true → is_end inline tail ≡ true → BodyAgain [] last last final tail
  last_again last tail final piece ends end zero found small less = absurd (omega (arith, less))
  last_again last tail final (inl is) ends end (suc n) found small less =
      step_end n found last tail is.0 ends end
      ∙ ap (λ f. Ok (f, past_end inline tail)) (sym (with_nothing found small) ∙ ap (λ b. with_body found (joined (b ∷ []))) (sym is.1))
  last_again last tail final (inr is) ends end (suc zero) found small less =
      absurd (too_short last is.0 is.1 tail is.2 is.3 is.5 less)
    where
      too_short : (last before piece tail : List Lexeme) (declarations : List DeclarationValue) → last ≡ before ++ piece → IsDeclaration defined piece declarations → length (last ++ tail) < 1 → ⊥
      too_short last before piece tail declarations parts is less =
          let one : length (last ++ tail) ≡ length last + length tail = length-append last tail in
          let two : length last ≡ length before + length piece = ap length parts ∙ length-append before piece in
          let three : length piece ≡ suc (length (is.gap ++ (is.colon ∷ (is.values ++ is.ending)))) = ap length is.parts in
          omega (arith, less, one, two, three)
  last_again last tail final (inr is) ends end (suc (suc n)) found small less =
      ap (λ xs. body_from (suc (suc n)) inline defined found (xs ++ tail)) is.3
      ∙ step_declaration (suc n) found is.0 is.1 tail is.2 is.4 is.5 end
      ∙ step_end n (with_declarations is.2 found) [] tail refl ends end
      ∙ ap (λ b. Ok (with_body found b, past_end inline tail)) (one_alone is.2 ∙ ap (λ b. joined (b ∷ [])) (sym is.6))

  -- a piece before others
  piece_again : (piece ts last tail : List Lexeme) (t : Lexeme) (body final : Body) (ended : List Body) → t.kind ≡ Mark 59 → IsPiece defined piece body
      → BodyAgain ended ts last final tail → BodyAgain (body ∷ ended) (piece ++ (t ∷ ts)) last final tail
  piece_again piece ts last tail t body final ended mark is again zero found small less = absurd (omega (arith, less))
  piece_again piece ts last tail t body final ended mark (inl is) again (suc n) found small less =
      let shorter : length (ts ++ tail) < length ((piece ++ (t ∷ ts)) ++ tail) = length_behind piece ts tail t in
      let sum : Body = joined (ended ++ (final ∷ [])) in
      ap (body_from (suc n) inline defined found) (append_assoc piece (t ∷ ts) tail)
      ∙ step_mark n found piece (ts ++ tail) t is.0 mark
      ∙ again n found small (omega (arith, shorter, less))
      ∙ ap (λ b. Ok (with_body found b, past_end inline tail)) (sym (nothing_with sum (joined_small (ended ++ (final ∷ [])))) ∙ ap (λ b. with_body b sum) (sym is.1))
  piece_again piece ts last tail t body final ended mark (inr is) again (suc n) found small less = of n (subst (λ xs. length ((xs ++ (t ∷ ts)) ++ tail) < suc n) is.3 less)
    where
      sum : Body
      sum = joined (ended ++ (final ∷ []))

      of : (n : ℕ) → length (((is.0 ++ is.1) ++ (t ∷ ts)) ++ tail) < suc n → body_from (suc n) inline defined found ((piece ++ (t ∷ ts)) ++ tail) ≡ Ok (with_body found (joined ((body ∷ ended) ++ (final ∷ []))), past_end inline tail)
      of zero less = absurd (let longer : suc (length (ts ++ tail)) < length (((is.0 ++ is.1) ++ (t ∷ ts)) ++ tail) = declared_length is.0 is.1 ts tail t is.2 is.5 in omega (arith, less, longer))
      of (suc n) less =
          let longer : suc (length (ts ++ tail)) < length (((is.0 ++ is.1) ++ (t ∷ ts)) ++ tail) = declared_length is.0 is.1 ts tail t is.2 is.5 in
          ap (λ xs. body_from (suc (suc n)) inline defined found ((xs ++ (t ∷ ts)) ++ tail)) is.3
          ∙ ap (body_from (suc (suc n)) inline defined found) (append_assoc (is.0 ++ is.1) (t ∷ ts) tail)
          ∙ step_declaration (suc n) found is.0 is.1 (t ∷ (ts ++ tail)) is.2 is.4 is.5 (mark_ends t (ts ++ tail) mark)
          ∙ step_mark n (with_declarations is.2 found) [] (ts ++ tail) t refl mark
          ∙ again n (with_declarations is.2 found) (counted_small found.written 1) (omega (arith, longer, less))
          ∙ ap (λ b. Ok (b, past_end inline tail)) (with_more found sum is.2 ∙ ap (λ b. with_body found (with_body b sum)) (sym is.6))

  items_again : (ended : List Body) (ts last tail : List Lexeme) (final : Body) → Items (IsEnded defined) ts ended last → IsPiece defined last final → ends_body inline tail ≡ true → is_end inline tail ≡ true → BodyAgain ended ts last final tail
  items_again [] ts last tail final same piece ends end = subst (λ xs. BodyAgain [] xs last final tail) (sym same) (last_again last tail final piece ends end)
  items_again (body ∷ ended) ts last tail final items piece ends end =
      let first : IsEnded defined ts body items.0 = items.1.0 in
      subst (λ xs. BodyAgain (body ∷ ended) xs last final tail) (sym first.2)
      (piece_again first.0 items.0 last tail first.1 body final ended first.3 first.4 (items_again ended items.0 last tail final items.1.1 piece ends end))

  pub body_again : (ts tail : List Lexeme) (body : Body) → IsBody defined ts body → ends_body inline tail ≡ true → is_end inline tail ≡ true → body_at inline defined (ts ++ tail) ≡ Ok (body, past_end inline tail)
  unfolding body_at
  body_again ts tail body is ends end =
      items_again is.ended ts is.last tail is.final is.items is.piece ends end (suc (length (ts ++ tail))) nothing (omega arith) (omega arith)
      ∙ ap (λ b. Ok (b, past_end inline tail)) (nothing_with (joined (is.ended ++ (is.final ∷ []))) (joined_small (is.ended ++ (is.final ∷ []))) ∙ sym is.sum)

pub inline_again : (ts : List Lexeme) (body : Body) → IsBody [] ts body → inline_at ts ≡ Ok (body, [])
unfolding inline_at
inline_again ts body is = ap (body_at true []) (sym (append-nil ts)) ∙ body_again true [] ts [] body is refl refl
