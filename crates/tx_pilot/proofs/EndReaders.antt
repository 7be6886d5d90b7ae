-- The readers of what stands at the end of a line give exactly what is in their grammars.
use Rattle.std.proofs.lemmas.Bool.{false≢true}
use Rattle.std.proofs.Common.{◌≡◌, ◌⊎◌, inl, inr, ℕ, Bool, true, false, cond, List, ◌∷◌, Option, Some, Result, Ok, Err, option_and_then, codes, bytes_eq, refl, ap, sym, subst, ◌∙◌}
use Rattle.std.specs.List.{list_all}
use Rattle.std.specs.Str.{is_utf8}
use Rattle.tx_read.specs.Answer.{or_refused}
use Rattle.tx_read.specs.Pieces.{behind}
use Rattle.tx_read.specs.Reading.{◌>>=◌}
use Rattle.tx_tree.specs.Spelled.{no_line_feed}
use Rattle.tx_tree.specs.declared.row.NewRow.{NewRow}
use Rattle.tx_tree_file.specs.Parts.{before_brace}
use Rattle.tx_tree_file.specs.TreeReading.{row_of}
use Rattle.tx_tree_file.proofs.lemmas.WordCuts.{same_bytes, front_of, before_brace-found, brace-again}
use Rattle.tx_tree_file.proofs.lemmas.Words.{row-read, row-spelled}
use Rattle.tx_parse.specs.Grammar.{Body}
use Rattle.tx_parse.specs.Texts.{Report, inline_of, IsInlineText}
use Rattle.tx_parse.proofs.lemmas.TextLaws.{inline_text, text_inline}
use Rattle.tx_pilot.specs.declared.fault.LineKind.{LineKind}
use Rattle.tx_pilot.specs.declared.fault.LineKind.TheVariants.{Expected, BadInline}
use Rattle.tx_pilot.specs.LineReading.{spaced, is_body, are_declarations, inline_or, last_inline, row_or, last_row, last_theme}
use Rattle.tx_pilot.specs.Lines.{InlineFault, RowFault}
use Rattle.tx_pilot.specs.Words.{AreDeclarations, in_braces, IsInline, IsRow}
use Rattle.tx_pilot.proofs.Describe.{DescribesLast, Blank, Whole}
use Rattle.tx_pilot.proofs.Steps.{ok-same, err-same, ok-err, err-ok, bind-ok, bind-err, refused-ok, refused-err}
use Rattle.tx_pilot.proofs.WordReaders.{and-then, spaced-ok, spaced-err}

-- ---- declarations

body-found : (bytes : List ℕ) (r : Result Body Report) → inline_of bytes ≡ r → is_body r ≡ true → (body : Body) × IsInlineText bytes body
body-found bytes (Ok body) e h = (body, inline_text bytes body e)
body-found bytes (Err report) e h = absurd (false≢true h)

declarations-found : (text : List ℕ) → are_declarations text ≡ true → AreDeclarations text
declarations-found text h = by (is_utf8 text) refl h
  where
    by : (b : Bool) → is_utf8 text ≡ b → cond b (is_body (inline_of text)) false ≡ true → AreDeclarations text
    by true e g = (e, body-found text (inline_of text) refl g)
    by false e g = absurd (false≢true g)

declarations-again : (text : List ℕ) → AreDeclarations text → are_declarations text ≡ true
declarations-again text (utf8, (body, is)) =
    ap (λ (b : Bool). cond b (is_body (inline_of text)) false) utf8 ∙ ap is_body (text_inline text body is)

none-declared : (text : List ℕ) → are_declarations text ≡ false → AreDeclarations text → ⊥
none-declared text h is = false≢true (sym h ∙ declarations-again text is)

not-declared : (text : List ℕ) → (AreDeclarations text → ⊥) → are_declarations text ≡ false
not-declared text h = by (are_declarations text) refl
  where
    by : (b : Bool) → are_declarations text ≡ b → are_declarations text ≡ false
    by true e = absurd (h (declarations-found text e))
    by false e = e

-- what is judged by its declarations
abbrev judged : {A : Type 0} → Bool → A → Result A LineKind
judged good a = cond good (Ok a) (Err BadInline)

judged-ok : {A : Type 0} (text : List ℕ) (a b : A) → judged (are_declarations text) a ≡ Ok b → AreDeclarations text × (a ≡ b)
judged-ok text a b h = by (are_declarations text) refl h
  where
    by : (g : Bool) → are_declarations text ≡ g → judged g a ≡ Ok b → AreDeclarations text × (a ≡ b)
    by true e i = (declarations-found text e, ok-same i)
    by false e i = err-ok i

judged-err : {A : Type 0} (text : List ℕ) (a : A) (kind : LineKind) → judged (are_declarations text) a ≡ Err kind → (AreDeclarations text → ⊥) × (kind ≡ BadInline)
judged-err text a kind h = by (are_declarations text) refl h
  where
    by : (g : Bool) → are_declarations text ≡ g → judged g a ≡ Err kind → (AreDeclarations text → ⊥) × (kind ≡ BadInline)
    by true e i = ok-err i
    by false e i = (none-declared text e, sym (err-same i))

-- ---- inline texts

braced-found : (bytes text : List ℕ) → option_and_then before_brace (behind (codes " {") bytes) ≡ Some text → bytes ≡ 32 ∷ in_braces text
braced-found bytes text h =
    let (rest, stands, is) = and-then before_brace (behind (codes " {") bytes) text h in
    front_of (codes " {") bytes rest stands ∙ ap (λ (z : List ℕ). 32 ∷ 123 ∷ z) (before_brace-found rest text is)

inline-reads : (word text : List ℕ) → word ≡ in_braces text → (or_refused Expected (option_and_then before_brace (behind (codes " {") (32 ∷ word))) >>= inline_or) ≡ inline_or text
inline-reads word text is =
    ap (λ (z : List ℕ). or_refused Expected (option_and_then before_brace (behind (codes " {") (32 ∷ z))) >>= inline_or) is
    ∙ ap (λ (o : Option (List ℕ)). or_refused Expected o >>= inline_or) (brace-again text)

pub inline-describes : DescribesLast last_inline IsInline InlineFault
unfolding last_inline
inline-describes = record {
  found = λ bytes text whole h.
      let (t, is, more) = bind-ok (or_refused Expected (option_and_then before_brace (behind (codes " {") bytes))) inline_or text h in
      let stands = braced-found bytes t (refused-ok Expected (option_and_then before_brace (behind (codes " {") bytes)) t is) in
      let (good, same) = judged-ok t t text more in
      (in_braces t, stands, record { is = ap in_braces same; declarations = subst AreDeclarations same good });
  again = λ word text is. inline-reads word text is.is ∙ ap (λ (b : Bool). judged b text) (declarations-again text is.declarations);
  met = λ bytes kind whole h. either bytes kind (bind-err (or_refused Expected (option_and_then before_brace (behind (codes " {") bytes))) inline_or kind h);
  meets = meets;
  blank = blank;
}
  where
    either : (bytes : List ℕ) (kind : LineKind)
        → (or_refused Expected (option_and_then before_brace (behind (codes " {") bytes)) ≡ Err kind) ⊎ ((t : List ℕ) × (or_refused Expected (option_and_then before_brace (behind (codes " {") bytes)) ≡ Ok t) × (inline_or t ≡ Err kind))
        → (kind ≡ Expected) ⊎ InlineFault kind bytes
    either bytes kind (inl e) = inl (refused-err Expected kind (option_and_then before_brace (behind (codes " {") bytes)) e).1
    either bytes kind (inr (t, is, e)) =
        let (none, same) = judged-err t t kind e in
        let stands = braced-found bytes t (refused-ok Expected (option_and_then before_brace (behind (codes " {") bytes)) t is) in
        inr (subst (λ (k : LineKind). InlineFault k bytes) (sym same) (in_braces t, stands, record { text = t; stands = refl; none = none }))

    meets : (bytes : List ℕ) (kind : LineKind) → InlineFault kind bytes → (or_refused Expected (option_and_then before_brace (behind (codes " {") bytes)) >>= inline_or) ≡ Err kind
    meets bytes BadInline (all, text, bad) =
        ap (λ (z : List ℕ). or_refused Expected (option_and_then before_brace (behind (codes " {") z)) >>= inline_or) text
        ∙ inline-reads all bad.text bad.stands
        ∙ ap (λ (b : Bool). judged b bad.text) (not-declared bad.text bad.none)
    meets bytes kind bad = absurd bad

    blank : (bytes : List ℕ) (kind : LineKind) → InlineFault kind bytes → Blank bytes
    blank bytes BadInline (all, text, bad) = (all, text)
    blank bytes kind bad = absurd bad

-- ---- rows

abbrev read_row : List ℕ → Result NewRow LineKind
read_row rest = or_refused Expected (row_of rest)

behind_blank : (bytes rest : List ℕ) → bytes ≡ 32 ∷ rest → Whole bytes → Whole rest
behind_blank bytes rest text h = ap (list_all no_line_feed) (sym text) ∙ h

pub row-describes : DescribesLast last_row IsRow RowFault
unfolding last_row
row-describes = record {
  found = λ bytes row whole h.
      let (new, is, more) = bind-ok (spaced bytes >>= read_row) row_or row h in
      let (rest, blank, read) = bind-ok (spaced bytes) read_row new is in
      let (good, same) = judged-ok new.inline new row more in (
        rest,
        spaced-ok bytes rest blank,
        subst (IsRow rest) same (record { spelled = row-read rest new (behind_blank bytes rest (spaced-ok bytes rest blank) whole) (refused-ok Expected (row_of rest) new read); declarations = good }),
      );
  again = λ word row is.
      ap (λ (o : Option NewRow). or_refused Expected o >>= row_or) (row-spelled word row is.spelled) ∙ ap (λ (b : Bool). judged b row) (declarations-again row.inline is.declarations);
  met = λ bytes kind whole h. either bytes kind whole (bind-err (spaced bytes >>= read_row) row_or kind h);
  meets = meets;
  blank = blank;
}
  where
    refusing : (bytes : List ℕ) (kind : LineKind) → (spaced bytes ≡ Err kind) ⊎ ((rest : List ℕ) × (spaced bytes ≡ Ok rest) × (read_row rest ≡ Err kind)) → kind ≡ Expected
    refusing bytes kind (inl e) = spaced-err bytes kind e
    refusing bytes kind (inr (rest, is, e)) = (refused-err Expected kind (row_of rest) e).1

    either : (bytes : List ℕ) (kind : LineKind) → Whole bytes → ((spaced bytes >>= read_row) ≡ Err kind) ⊎ ((new : NewRow) × ((spaced bytes >>= read_row) ≡ Ok new) × (row_or new ≡ Err kind)) → (kind ≡ Expected) ⊎ RowFault kind bytes
    either bytes kind whole (inl e) = inl (refusing bytes kind (bind-err (spaced bytes) read_row kind e))
    either bytes kind whole (inr (new, is, e)) =
        let (rest, blank, read) = bind-ok (spaced bytes) read_row new is in
        let (none, same) = judged-err new.inline new kind e in
        let text = spaced-ok bytes rest blank in
        inr (subst (λ (k : LineKind). RowFault k bytes) (sym same) (
          rest,
          text,
          record { row = new; stands = row-read rest new (behind_blank bytes rest text whole) (refused-ok Expected (row_of rest) new read); none = none },
        ))

    meets : (bytes : List ℕ) (kind : LineKind) → RowFault kind bytes → (spaced bytes >>= read_row >>= row_or) ≡ Err kind
    meets bytes BadInline (all, text, bad) =
        ap (λ (z : List ℕ). spaced z >>= read_row >>= row_or) text
        ∙ ap (λ (o : Option NewRow). or_refused Expected o >>= row_or) (row-spelled all bad.row bad.stands)
        ∙ ap (λ (b : Bool). judged b bad.row) (not-declared bad.row.inline bad.none)
    meets bytes kind bad = absurd bad

    blank : (bytes : List ℕ) (kind : LineKind) → RowFault kind bytes → Blank bytes
    blank bytes BadInline (all, text, bad) = (all, text)
    blank bytes kind bad = absurd bad

-- ---- the theme

pub theme-found : (bytes : List ℕ) (dark : Bool) → last_theme bytes ≡ Ok dark → bytes ≡ cond dark (codes " dark") (codes " light")
theme-found bytes dark h = by (bytes_eq bytes (codes " dark")) (bytes_eq bytes (codes " light")) refl refl h
  where
    by : (a b : Bool) → bytes_eq bytes (codes " dark") ≡ a → bytes_eq bytes (codes " light") ≡ b → ◌≡◌ {A = Result Bool LineKind} (cond a (Ok true) (cond b (Ok false) (Err Expected))) (Ok dark) → bytes ≡ cond dark (codes " dark") (codes " light")
    by true b e f g = subst (λ (d : Bool). bytes ≡ cond d (codes " dark") (codes " light")) (ok-same g) (same_bytes bytes (codes " dark") e)
    by false true e f g = subst (λ (d : Bool). bytes ≡ cond d (codes " dark") (codes " light")) (ok-same g) (same_bytes bytes (codes " light") f)
    by false false e f g = err-ok g

pub theme-err : (bytes : List ℕ) (kind : LineKind) → last_theme bytes ≡ Err kind → kind ≡ Expected
theme-err bytes kind h = by (bytes_eq bytes (codes " dark")) (bytes_eq bytes (codes " light")) h
  where
    by : (a b : Bool) → ◌≡◌ {A = Result Bool LineKind} (cond a (Ok true) (cond b (Ok false) (Err Expected))) (Err kind) → kind ≡ Expected
    by true b g = ok-err g
    by false true g = ok-err g
    by false false g = sym (err-same g)
