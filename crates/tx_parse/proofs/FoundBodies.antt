-- The bodies that are read are in the grammar.
use Rattle.std.proofs.Common.{◌≡◌, ◌⊎◌, inl, inr, ℕ, zero, suc, ◌≤◌, ◌<◌, Bool, true, false, cond, not, ◌&&◌, ◌||◌, List, [], ◌∷◌, ◌++◌, length, Ok, refl, ap, sym, ◌∙◌, subst, arith, append_assoc}
use Rattle.std.proofs.lemmas.List.{append-nil}
use Rattle.tx_read.specs.Reading.{in_turn}
use Rattle.tx_lex.specs.Lexemes.{Lexeme, is_blank, is_mark}
use Rattle.tx_lex.specs.declared.token.TokenKind.TheVariants.{Mark}
use Rattle.tx_lex.proofs.lemmas.TokenKinds.{mark-kind}
use Rattle.tx_select.specs.Grammar.{AreBlank}
use Rattle.tx_parse.specs.Grammar.{Body, nothing, one, IsDeclaration, IsBody}
use Rattle.tx_lex.specs.Blanks.{past_blanks}
use Rattle.tx_parse.specs.SheetReading.{give, ends_body, past_end, is_end, declaration_at, with_declarations, item_at, next_in_body, body_from, body_at}
use Rattle.tx_parse.specs.Values.{DeclarationValue}
use Rattle.tx_parse.specs.Variables.{Defined}
use Rattle.tx_parse.specs.declared.fault.SheetKind.TheVariants.{Expected}
use Rattle.tx_parse.specs.declared.fault.Wrong.{Wrong}
use Rattle.tx_read.proofs.lemmas.Cases.{Gave, given, refused, both as parts_of}
use Rattle.std.proofs.lemmas.Bool.{and_parts, or_cases}
use Rattle.tx_parse.proofs.Counts.{with_body, with_nothing, nothing_with, with_more, one_alone, joined_small, counted_small}
use Rattle.tx_parse.proofs.FoundValues.{Takes, past_found, DeclarationFound, declaration_found}
use Rattle.tx_parse.proofs.Local.{wrong_of}
use Rattle.tx_parse.proofs.Turns.{turn_ok}

-- ---- bodies that are put together

pub body_blank : (defined : Defined) (ts : List Lexeme) → AreBlank ts → IsBody defined ts nothing
body_blank defined ts blank = record { ended = []; last = ts; final = nothing; items = refl; piece = inl (blank, refl); sum = refl }

pub body_last : (defined : Defined) (blank piece : List Lexeme) (declarations : List DeclarationValue) → AreBlank blank → IsDeclaration defined piece declarations → IsBody defined (blank ++ piece) (one declarations)
body_last defined blank piece declarations is_blank is = record {
  ended = [];
  last = blank ++ piece;
  final = one declarations;
  items = refl;
  piece = inr (blank, piece, declarations, refl, is_blank, is, refl);
  sum = one_alone declarations;
}

is_small : (defined : Defined) (ts : List Lexeme) (body : Body) → IsBody defined ts body → body.written ≤ 4294967295
is_small defined ts body is = subst (λ (b : Body). b.written ≤ 4294967295) (sym is.sum) (joined_small (is.ended ++ (is.final ∷ [])))

pub body_after : (defined : Defined) (blank block : List Lexeme) (t : Lexeme) (body : Body) → AreBlank blank → t.kind ≡ Mark 59 → IsBody defined block body → IsBody defined (blank ++ (t ∷ block)) body
body_after defined blank block t body all is_mark is = record {
  ended = nothing ∷ is.ended;
  last = is.last;
  final = is.final;
  items = (block, ((blank, t, refl, is_mark, inl (all, refl)), is.items));
  piece = is.piece;
  sum = sym (nothing_with body (is_small defined block body is)) ∙ ap (with_body nothing) is.sum;
}

pub body_behind : (defined : Defined) (blank piece block : List Lexeme) (t : Lexeme) (declarations : List DeclarationValue) (body : Body) → AreBlank blank → IsDeclaration defined piece declarations → t.kind ≡ Mark 59
    → IsBody defined block body → IsBody defined ((blank ++ piece) ++ (t ∷ block)) (with_body (one declarations) body)
body_behind defined blank piece block t declarations body all declared is_mark is = record {
  ended = one declarations ∷ is.ended;
  last = is.last;
  final = is.final;
  items = (block, ((blank ++ piece, t, refl, is_mark, inr (blank, piece, declarations, refl, all, declared, refl)), is.items));
  piece = is.piece;
  sum = ap (with_body (one declarations)) is.sum;
}

-- ---- what is read

-- a block ends with a `}`, and an inline text at its end
abbrev pub EndsSo : Bool → List Lexeme → List Lexeme → List Lexeme → Type 0
EndsSo true ts block rest = (ts ≡ block) × (rest ≡ [])
EndsSo false ts block rest = (closing : Lexeme) × (ts ≡ block ++ (closing ∷ rest)) × (closing.kind ≡ Mark 125)

pub record BodyFound (inline : Bool) (defined : Defined) (found : Body) (ts : List Lexeme) (body : Body) (rest : List Lexeme) : Type 0 where
  pub block : List Lexeme
  pub more : Body
  pub grammar : IsBody defined block more
  pub ends : EndsSo inline ts block rest
  pub sum : body ≡ with_body found more

ends_behind : (inline : Bool) (ts front here block rest : List Lexeme) → ts ≡ front ++ here → EndsSo inline here block rest → EndsSo inline ts (front ++ block) rest
ends_behind true ts front here block rest parts ends = (parts ∙ ap (λ xs. front ++ xs) ends.0, ends.1)
ends_behind false ts front here block rest parts ends = (ends.0, parts ∙ ap (λ xs. front ++ xs) ends.1 ∙ sym (append_assoc front block (ends.0 ∷ rest)), ends.2)

ends_here : (inline : Bool) (here rest : List Lexeme) → ends_body inline here ≡ true → past_end inline here ≡ rest → EndsSo inline here [] rest
ends_here true [] rest is past = (refl, sym past)
ends_here true (t ∷ ts) rest is past = absurd (let clash : false ≡ true = is in cc)
ends_here false [] rest is past = absurd (let clash : false ≡ true = is in cc)
ends_here false (t ∷ ts) rest is past = (t, ap (λ xs. t ∷ xs) past, mark-kind 125 t.kind is)

marks_stay : (byte : ℕ) (t : Lexeme) (ts : List Lexeme) → t.kind ≡ Mark byte → past_blanks (t ∷ ts) ≡ t ∷ ts
marks_stay byte t ts is = ap (λ k. cond (is_blank k) (past_blanks ts) (t ∷ ts)) is

-- where a declaration ends, no blank stands
pub end_stays : (inline : Bool) (ts : List Lexeme) → is_end inline ts ≡ true → past_blanks ts ≡ ts
end_stays inline [] is = refl
end_stays inline (t ∷ ts) is = of (or_cases (is_mark 59 t.kind) (not inline && is_mark 125 t.kind) is)
  where
    of : (is_mark 59 t.kind ≡ true) ⊎ ((not inline && is_mark 125 t.kind) ≡ true) → past_blanks (t ∷ ts) ≡ t ∷ ts
    of (inl mark) = marks_stay 59 t ts (mark-kind 59 t.kind mark)
    of (inr mark) = marks_stay 125 t ts (mark-kind 125 t.kind (and_parts (not inline) (is_mark 125 t.kind) mark).1)

abbrev BodyFounds : Bool → Defined → ℕ → Type 0
BodyFounds inline defined n = (found body : Body) (ts rest : List Lexeme) → found.written ≤ 4294967295 → body_from n inline defined found ts ≡ Ok (body, rest) → BodyFound inline defined found ts body rest

module _ (inline : Bool) (defined : Defined) where
  -- a body that ends behind a front of blanks
  at_end : (found body : Body) (ts here rest : List Lexeme) → found.written ≤ 4294967295 → Takes AreBlank ts here → ends_body inline here ≡ true → Gave {F = Wrong} (Ok (found, past_end inline here)) body rest → BodyFound inline defined found ts body rest
  at_end found body ts here rest small blank ends is =
      let same : (found ≡ body) × (past_end inline here ≡ rest) = given found body (past_end inline here) rest is in
      record {
        block = blank.0 ++ [];
        more = nothing;
        grammar = subst (λ b. IsBody defined b nothing) (sym (append-nil blank.0)) (body_blank defined blank.0 blank.2);
        ends = ends_behind inline ts blank.0 here [] rest blank.1 (ends_here inline here rest ends same.1);
        sum = sym same.0 ∙ sym (with_nothing found small);
      }

  -- behind a `;`
  after_mark : (found body : Body) (ts rest behind : List Lexeme) (t : Lexeme) → Takes AreBlank ts (t ∷ behind) → is_mark 59 t.kind ≡ true → BodyFound inline defined found behind body rest → BodyFound inline defined found ts body rest
  after_mark found body ts rest behind t blank mark more = record {
    block = blank.0 ++ (t ∷ more.block);
    more = more.more;
    grammar = body_after defined blank.0 more.block t more.more blank.2 (mark-kind 59 t.kind mark) more.grammar;
    ends = ends_behind inline ts blank.0 (t ∷ behind) (t ∷ more.block) rest blank.1 (ends_behind inline (t ∷ behind) (t ∷ []) behind more.block rest refl more.ends);
    sum = more.sum;
  }

  -- a declaration, and then the end
  last_declared : (found body : Body) (ts here mid rest : List Lexeme) (declarations : List DeclarationValue) → Takes AreBlank ts here → DeclarationFound inline defined here declarations mid
      → ends_body inline mid ≡ true → Gave {F = Wrong} (Ok (with_declarations declarations found, past_end inline mid)) body rest → BodyFound inline defined found ts body rest
  last_declared found body ts here mid rest declarations blank declared ends is =
      let same : (with_declarations declarations found ≡ body) × (past_end inline mid ≡ rest) = given (with_declarations declarations found) body (past_end inline mid) rest is in
      record {
        block = (blank.0 ++ declared.piece) ++ [];
        more = one declarations;
        grammar = subst (λ b. IsBody defined b (one declarations)) (sym (append-nil (blank.0 ++ declared.piece))) (body_last defined blank.0 declared.piece declarations blank.2 declared.grammar);
        ends = ends_behind inline ts (blank.0 ++ declared.piece) mid [] rest (blank.1 ∙ ap (λ xs. blank.0 ++ xs) declared.parts ∙ sym (append_assoc blank.0 declared.piece mid)) (ends_here inline mid rest ends same.1);
        sum = sym same.0;
      }

  -- a declaration, then a `;`, and more
  declared_mark : (found body : Body) (ts here behind rest : List Lexeme) (t : Lexeme) (declarations : List DeclarationValue) → Takes AreBlank ts here → DeclarationFound inline defined here declarations (t ∷ behind) → is_mark 59 t.kind ≡ true
      → BodyFound inline defined (with_declarations declarations found) behind body rest → BodyFound inline defined found ts body rest
  declared_mark found body ts here behind rest t declarations blank declared mark more = record {
    block = (blank.0 ++ declared.piece) ++ (t ∷ more.block);
    more = with_body (one declarations) more.more;
    grammar = body_behind defined blank.0 declared.piece more.block t declarations more.more blank.2 declared.grammar (mark-kind 59 t.kind mark) more.grammar;
    ends = ends_behind inline ts (blank.0 ++ declared.piece) (t ∷ behind) (t ∷ more.block) rest
        (blank.1 ∙ ap (λ xs. blank.0 ++ xs) declared.parts ∙ sym (append_assoc blank.0 declared.piece (t ∷ behind)))
        (ends_behind inline (t ∷ behind) (t ∷ []) behind more.block rest refl more.ends);
    sum = more.sum ∙ with_more found more.more declarations;
  }

  -- a `;` is an item that changes nothing
  mark_item : (found : Body) (t : Lexeme) (ts : List Lexeme) → is_mark 59 t.kind ≡ true → item_at inline defined found (t ∷ ts) ≡ Ok (found, ts)
  unfolding item_at
  mark_item found t ts mark = ap (λ b. cond b (Ok (found, ts)) (in_turn (declaration_at inline defined) (λ declarations. give (with_declarations declarations found)) (t ∷ ts))) mark

  first_mark : (t : Lexeme) (ts : List Lexeme) → (is_mark 59 t.kind || ends_body inline (t ∷ ts)) ≡ true → ends_body inline (t ∷ ts) ≡ false → is_mark 59 t.kind ≡ true
  first_mark t ts ends none = of (or_cases (is_mark 59 t.kind) (ends_body inline (t ∷ ts)) ends)
    where
      of : (is_mark 59 t.kind ≡ true) ⊎ (ends_body inline (t ∷ ts) ≡ true) → is_mark 59 t.kind ≡ true
      of (inl mark) = mark
      of (inr end) = absurd (let clash : true ≡ false = sym end ∙ none in cc)

  -- a declaration behind which the body doesn't end
  mark_behind : (m : ℕ) → BodyFounds inline defined m → (found body : Body) (ts here mid rest : List Lexeme) (declarations : List DeclarationValue) → Takes AreBlank ts here → DeclarationFound inline defined here declarations mid
      → ends_body inline mid ≡ false → in_turn (item_at inline defined (with_declarations declarations found)) (body_from m inline defined) mid ≡ Ok (body, rest) → BodyFound inline defined found ts body rest
  mark_behind m again found body ts here [] rest declarations blank declared none is = absurd (let clash : true ≡ false = sym declared.ends ∙ none in cc)
  mark_behind m again found body ts here (t ∷ behind) rest declarations blank declared none is =
      let mark : is_mark 59 t.kind ≡ true = first_mark t behind declared.ends none in
      declared_mark found body ts here behind rest t declarations blank declared mark
      (again (with_declarations declarations found) body behind rest (counted_small found.written 1)
      (sym (turn_ok (item_at inline defined (with_declarations declarations found)) (body_from m inline defined) (t ∷ behind) behind (with_declarations declarations found) (mark_item (with_declarations declarations found) t behind mark)) ∙ is))

  -- behind a declaration: its end, and more
  behind_declared : (n : ℕ) → ((m : ℕ) → m < n → BodyFounds inline defined m) → (found body : Body) (ts here mid rest : List Lexeme) (declarations : List DeclarationValue) → Takes AreBlank ts here → DeclarationFound inline defined here declarations mid
      → body_from n inline defined (with_declarations declarations found) mid ≡ Ok (body, rest) → BodyFound inline defined found ts body rest
  unfolding body_from
  behind_declared zero again found body ts here mid rest declarations blank declared is = absurd (refused (wrong_of Expected, mid) body rest is)
  behind_declared (suc m) again found body ts here mid rest declarations blank declared is =
      by_end (ends_body inline mid) refl (again m (omega arith)) (sym (ap (next_in_body (body_from m inline defined) inline defined (with_declarations declarations found)) (end_stays inline mid declared.ends)) ∙ is)
    where
      by_end : (b : Bool) → ends_body inline mid ≡ b → BodyFounds inline defined m
          → cond b (Ok (with_declarations declarations found, past_end inline mid)) (in_turn (item_at inline defined (with_declarations declarations found)) (body_from m inline defined) mid) ≡ Ok (body, rest) → BodyFound inline defined found ts body rest
      by_end true ends more is = last_declared found body ts here mid rest declarations blank declared ends is
      by_end false ends more is = mark_behind m more found body ts here mid rest declarations blank declared ends is

  -- one item, and more
  item_more : (n : ℕ) → ((m : ℕ) → m < suc n → BodyFounds inline defined m) → (found next body : Body) (ts here mid rest : List Lexeme) → found.written ≤ 4294967295 → Takes AreBlank ts here
      → item_at inline defined found here ≡ Ok (next, mid) → body_from n inline defined next mid ≡ Ok (body, rest) → BodyFound inline defined found ts body rest
  unfolding item_at
  item_more n again found next body ts [] mid rest small blank item is = absurd (refused (wrong_of Expected, []) next mid item)
  item_more n again found next body ts (t ∷ behind) mid rest small blank item is = of (is_mark 59 t.kind) refl item (again n (omega arith)) (λ m less. again m (omega (arith, less)))
    where
      of : (b : Bool) → is_mark 59 t.kind ≡ b → cond b (Ok (found, behind)) (in_turn (declaration_at inline defined) (λ declarations. give (with_declarations declarations found)) (t ∷ behind)) ≡ Ok (next, mid)
          → BodyFounds inline defined n → ((m : ℕ) → m < n → BodyFounds inline defined m) → BodyFound inline defined found ts body rest
      of true mark item more lower =
          let same : (found ≡ next) × (behind ≡ mid) = given found next behind mid item in
          after_mark found body ts rest behind t blank mark (more found body behind rest small (ap (λ f. body_from n inline defined f behind) same.0 ∙ ap (body_from n inline defined next) same.1 ∙ is))
      of false mark item more lower =
          let first : (d : List DeclarationValue × List Lexeme) × (declaration_at inline defined (t ∷ behind) ≡ Ok d) × (Ok (with_declarations d.0 found, d.1) ≡ Ok (next, mid)) =
          parts_of (declaration_at inline defined (t ∷ behind)) (λ d. Ok (with_declarations d.0 found, d.1)) next mid item in
          let same : (with_declarations first.0.0 found ≡ next) × (first.0.1 ≡ mid) = given (with_declarations first.0.0 found) next first.0.1 mid first.2 in
          behind_declared n lower found body ts (t ∷ behind) first.0.1 rest first.0.0 blank (declaration_found inline defined (t ∷ behind) first.0.1 first.0.0 first.1)
          (ap (λ f. body_from n inline defined f first.0.1) same.0 ∙ ap (body_from n inline defined next) same.1 ∙ is)

  one_step : (n : ℕ) → ((m : ℕ) → m < suc n → BodyFounds inline defined m) → BodyFounds inline defined (suc n)
  unfolding body_from
  one_step n again found body ts rest small is = of (ends_body inline (past_blanks ts)) refl is
    where
      of : (b : Bool) → ends_body inline (past_blanks ts) ≡ b
          → cond b (Ok (found, past_end inline (past_blanks ts))) (in_turn (item_at inline defined found) (body_from n inline defined) (past_blanks ts)) ≡ Ok (body, rest) → BodyFound inline defined found ts body rest
      of true ends is = at_end found body ts (past_blanks ts) rest small (past_found ts) ends is
      of false ends is =
          let first : (i : Body × List Lexeme) × (item_at inline defined found (past_blanks ts) ≡ Ok i) × (body_from n inline defined i.0 i.1 ≡ Ok (body, rest)) =
          parts_of (item_at inline defined found (past_blanks ts)) (λ i. body_from n inline defined i.0 i.1) body rest is in
          item_more n again found first.0.0 body ts (past_blanks ts) first.0.1 rest small (past_found ts) first.1 first.2

  all_below : (k n : ℕ) → n < k → BodyFounds inline defined n
  unfolding body_from
  all_below zero n less found body ts rest small is = absurd (omega (arith, less))
  all_below (suc k) zero less found body ts rest small is = absurd (refused (wrong_of Expected, ts) body rest is)
  all_below (suc k) (suc n) less found body ts rest small is = one_step n (λ m lower. all_below k m (omega (arith, less, lower))) found body ts rest small is

  pub body_found : (ts rest : List Lexeme) (body : Body) → body_at inline defined ts ≡ Ok (body, rest) → BodyFound inline defined nothing ts body rest
  unfolding body_at
  body_found ts rest body is = all_below (suc (suc (length ts))) (suc (length ts)) (omega arith) nothing body ts rest (omega arith) is

-- the body itself
pub body_itself : (inline : Bool) (defined : Defined) (ts rest : List Lexeme) (body : Body) → (found : BodyFound inline defined nothing ts body rest) → IsBody defined found.block body
body_itself inline defined ts rest body found = subst (IsBody defined found.block) (sym (found.sum ∙ nothing_with found.more (is_small defined found.block found.more found.grammar))) found.grammar
