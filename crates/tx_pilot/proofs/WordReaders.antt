-- The readers of single words give exactly the words of their grammars.
use Rattle.std.proofs.lemmas.Bool.{and_parts, and_from, false≢true, le-leb, leb-true}
use Rattle.std.proofs.Common.{◌≡◌, ◌≢◌, ◌⊎◌, inl, inr, ℕ, ◌≤◌, ◌==◌, ◌&&◌, Bool, true, false, cond, not, nat_le, List, [], ◌∷◌, ◌++◌, length, Option, Some, None, Result, Ok, Err, option_and_then, codes, refl, ap, ap₂, sym, subst, ◌∙◌, length-append, arith}
use Rattle.std.specs.List.{list_all}
use Rattle.std.specs.Str.{is_utf8}
use Rattle.tx_read.specs.Answer.{or_refused}
use Rattle.tx_read.specs.Number.{is_number, value}
use Rattle.tx_read.specs.Pieces.{behind}
use Rattle.tx_read.specs.Reading.{◌>>=◌, in_turn}
use Rattle.tx_tree_file.specs.Parts.{word, past_word, quoted, key_of}
use Rattle.tx_tree_file.specs.TreeReading.{is_empty}
use Rattle.tx_tree_file.specs.Words.{no_blank, Stops, IsKeyName, in_quotes, IsQuoted}
use Rattle.tx_tree_file.proofs.lemmas.WordCuts.{some-same, none-some, same-byte, front_of, word_split, word-again, digits-no_blank}
use Rattle.tx_tree_file.proofs.lemmas.Words.{key-read, key-spelled, key-one_word, key-some, quoted-read, quoted-spelled, quoted-short}
use Rattle.tx_select.specs.SelectorValue.{SelectorValue}
use Rattle.tx_select.specs.Texts.{selector_of, IsSelectorText}
use Rattle.tx_select.proofs.lemmas.TextLaws.{selector_text, text_selector}
use Rattle.tx_pilot.specs.declared.fault.LineKind.{LineKind}
use Rattle.tx_pilot.specs.declared.fault.LineKind.TheVariants.{Expected, BadKey, BadNumber, BadSelector}
use Rattle.tx_pilot.specs.LineReading.{spaced, some_word, word_at, with_rest, key_at, at_least, number_in, number_at, utf8_of, string_of, string_at, selector_or, target_at}
use Rattle.tx_pilot.specs.Lines.{Next, KeyFault, NumberFault, TargetFault, NoFault}
use Rattle.tx_pilot.specs.Words.{IsNumber, IsString, IsTarget, IsWord, NoWord}
use Rattle.tx_pilot.proofs.Describe.{Describes, Blank}
use Rattle.tx_pilot.proofs.Steps.{ok-same, err-same, ok-err, err-ok, bind-ok, bind-err, refused-ok, refused-err}

-- ---- a blank

pub spaced-ok : (bytes rest : List ℕ) → spaced bytes ≡ Ok rest → bytes ≡ 32 ∷ rest
spaced-ok bytes rest h = front_of (codes " ") bytes rest (refused-ok Expected (behind (codes " ") bytes) rest h)

pub spaced-err : (bytes : List ℕ) (kind : LineKind) → spaced bytes ≡ Err kind → kind ≡ Expected
spaced-err bytes kind h = (refused-err Expected kind (behind (codes " ") bytes) h).1

-- ---- a word

word-whole : (bytes : List ℕ) → list_all no_blank (word bytes) ≡ true
word-whole [] = refl
word-whole (byte ∷ bytes) = by (byte == 32) refl (word-whole bytes)
  where
    by : (b : Bool) → (byte == 32) ≡ b → list_all no_blank (word bytes) ≡ true → list_all no_blank (cond b [] (byte ∷ word bytes)) ≡ true
    by true e h = refl
    by false e h = and_from (no_blank byte) (list_all no_blank (word bytes)) (ap not e) h

past-stops : (bytes : List ℕ) → Stops (past_word bytes)
past-stops [] = tt
past-stops (byte ∷ bytes) = by (byte == 32) refl (past-stops bytes)
  where
    by : (b : Bool) → (byte == 32) ≡ b → Stops (past_word bytes) → Stops (cond b (byte ∷ bytes) (past_word bytes))
    by true e h = same-byte byte 32 e
    by false e h = h

filled : (xs : List ℕ) → is_empty xs ≡ false → xs ≢ []
filled xs h e = absurd (false≢true (sym h ∙ ap is_empty e))

pub not-empty : (xs : List ℕ) → xs ≢ [] → is_empty xs ≡ false
not-empty [] h = absurd (h refl)
not-empty (x ∷ xs) h = refl

-- a word was read
word-found : (bytes name rest : List ℕ) → word_at bytes ≡ Ok (name, rest) → (all : List ℕ) × (bytes ≡ 32 ∷ all) × IsWord all name rest
word-found bytes name rest h =
    let (all, is, more) = bind-ok (spaced bytes) some_word (name, rest) h in
    (all, spaced-ok bytes all is, by all (is_empty (word all)) refl more)
  where
    by : (all : List ℕ) (b : Bool) → is_empty (word all) ≡ b → ◌≡◌ {A = Result (List ℕ × List ℕ) LineKind} (cond b (Err Expected) (Ok (word all, past_word all))) (Ok (name, rest)) → IsWord all name rest
    by all true e g = err-ok g
    by all false e g =
        let same : ◌≡◌ {A = List ℕ × List ℕ} (word all, past_word all) (name, rest) = ok-same g in
        subst (λ (p : List ℕ × List ℕ). IsWord all p.0 p.1) same (record { text = word_split all; some = filled (word all) e; whole = word-whole all; ends = past-stops all })

word-spelled : (all name rest : List ℕ) → IsWord all name rest → word_at (32 ∷ all) ≡ Ok (name, rest)
word-spelled all name rest is =
    let w = word-again name rest is.whole is.ends in
    ap some_word is.text
    ∙ ap₂ (λ (x y : List ℕ). cond (is_empty x) (Err Expected) (Ok (x, y))) w.0 w.1
    ∙ ap (λ (b : Bool). cond b (Err Expected) (Ok (name, rest))) (not-empty name is.some)

word-err : (bytes : List ℕ) (kind : LineKind) → word_at bytes ≡ Err kind → kind ≡ Expected
word-err bytes kind h = either (bind-err (spaced bytes) some_word kind h)
  where
    by : (all : List ℕ) (b : Bool) → ◌≡◌ {A = Result (List ℕ × List ℕ) LineKind} (cond b (Err Expected) (Ok (word all, past_word all))) (Err kind) → kind ≡ Expected
    by all true g = sym (err-same g)
    by all false g = ok-err g

    either : (spaced bytes ≡ Err kind) ⊎ ((all : List ℕ) × (spaced bytes ≡ Ok all) × (some_word all ≡ Err kind)) → kind ≡ Expected
    either (inl e) = spaced-err bytes kind e
    either (inr (all, is, e)) = by all (is_empty (word all)) e

-- what stands behind a word is no longer than what was given
pub past_short : (bytes : List ℕ) → length (past_word bytes) ≤ length bytes
past_short bytes = let all = ap length (word_split bytes) ∙ length-append (word bytes) (past_word bytes) in omega (arith, all)

-- ---- words that are read as a whole

-- what reads a word, in a sort of words without blanks
record Sorts {A : Type 0} (read : List ℕ → Option A) (Is : List ℕ → A → Type 0) : Type 0 where
  found : (name : List ℕ) (a : A) → read name ≡ Some a → Is name a
  again : (name : List ℕ) (a : A) → Is name a → read name ≡ Some a
  some : (name : List ℕ) (a : A) → Is name a → name ≢ []
  whole : (name : List ℕ) (a : A) → Is name a → list_all no_blank name ≡ true

abbrev reader_of : {A : Type 0} → LineKind → (List ℕ → Option A) → List ℕ → Result (A × List ℕ) LineKind
reader_of kind read bytes = in_turn word_at (λ name. with_rest kind (read name)) bytes

rest-ok : {A : Type 0} (kind : LineKind) (o : Option A) (rest more : List ℕ) (a : A) → with_rest kind o rest ≡ Ok (a, more) → (o ≡ Some a) × (rest ≡ more)
rest-ok {A = A} kind o rest more a h =
    let (b, is, e) = bind-ok (or_refused kind o) (λ (b : A). Ok (b, rest)) (a, more) h in
    let same : ◌≡◌ {A = A × List ℕ} (b, rest) (a, more) = ok-same e in
    (refused-ok kind o b is ∙ ap (λ (p : A × List ℕ). Some p.0) same, ap (λ (p : A × List ℕ). p.1) same)

rest-err : {A : Type 0} (kind k : LineKind) (o : Option A) (rest : List ℕ) → with_rest kind o rest ≡ Err k → (o ≡ None) × (k ≡ kind)
rest-err kind k (Some a) rest h = ok-err h
rest-err kind k None rest h = (refl, sym (err-same h))

sorted-found : {A : Type 0} (kind : LineKind) (read : List ℕ → Option A) (Is : List ℕ → A → Type 0) → Sorts read Is → (bytes rest : List ℕ) (a : A) → reader_of kind read bytes ≡ Ok (a, rest)
    → (name : List ℕ) × (bytes ≡ 32 ∷ (name ++ rest)) × Is name a
sorted-found {A = A} kind read Is s bytes rest a h =
    let (f, is, more) = bind-ok (word_at bytes) (λ (f : List ℕ × List ℕ). with_rest kind (read f.0) f.1) (a, rest) h in
    let (all, text, stands) = word-found bytes f.0 f.1 is in
    let (good, same) = rest-ok kind (read f.0) f.1 rest a more in
    (f.0, text ∙ ap (λ (z : List ℕ). 32 ∷ z) (stands.text ∙ ap (λ (z : List ℕ). f.0 ++ z) same), s.found f.0 a good)

sorted-again : {A : Type 0} (kind : LineKind) (read : List ℕ → Option A) (Is : List ℕ → A → Type 0) → Sorts read Is → (name rest : List ℕ) (a : A) → Is name a → Stops rest
    → reader_of kind read (32 ∷ (name ++ rest)) ≡ Ok (a, rest)
sorted-again {A = A} kind read Is s name rest a is stops =
    ap (λ (r : Result (List ℕ × List ℕ) LineKind). r >>= (λ f. with_rest kind (read f.0) f.1))
    (word-spelled (name ++ rest) name rest (record { text = refl; some = s.some name a is; whole = s.whole name a is; ends = stops }))
    ∙ ap (λ (o : Option A). with_rest kind o rest) (s.again name a is)

sorted-met : {A : Type 0} (kind : LineKind) (read : List ℕ → Option A) (Is : List ℕ → A → Type 0) → Sorts read Is → (bytes : List ℕ) (k : LineKind) → reader_of kind read bytes ≡ Err k
    → (k ≡ Expected) ⊎ ((k ≡ kind) × Next (NoWord Is) bytes)
sorted-met {A = A} kind read Is s bytes k h = either (bind-err (word_at bytes) (λ (f : List ℕ × List ℕ). with_rest kind (read f.0) f.1) k h)
  where
    either : (word_at bytes ≡ Err k) ⊎ ((f : List ℕ × List ℕ) × (word_at bytes ≡ Ok f) × (with_rest kind (read f.0) f.1 ≡ Err k)) → (k ≡ Expected) ⊎ ((k ≡ kind) × Next (NoWord Is) bytes)
    either (inl e) = inl (word-err bytes k e)
    either (inr (f, is, e)) =
        let (all, text, stands) = word-found bytes f.0 f.1 is in
        let (none, same) = rest-err kind k (read f.0) f.1 e in
        inr (same, (all, text, record { word = f.0; rest = f.1; stands = stands; none = λ a good. none-some (sym none ∙ s.again f.0 a good) }))

no-some : {A : Type 0} (o : Option A) → ((a : A) → o ≡ Some a → ⊥) → o ≡ None
no-some None h = refl
no-some (Some a) h = absurd (h a refl)

sorted-meets : {A : Type 0} (kind : LineKind) (read : List ℕ → Option A) (Is : List ℕ → A → Type 0) → Sorts read Is → (bytes : List ℕ) → Next (NoWord Is) bytes → reader_of kind read bytes ≡ Err kind
sorted-meets {A = A} kind read Is s bytes (all, text, bad) =
    ap (reader_of kind read) text
    ∙ ap (λ (r : Result (List ℕ × List ℕ) LineKind). r >>= (λ f. with_rest kind (read f.0) f.1)) (word-spelled all bad.word bad.rest bad.stands)
    ∙ ap (λ (o : Option A). with_rest kind o bad.rest) (no-some (read bad.word) (λ a e. bad.none a (s.found bad.word a e)))

-- ---- keys

keys : Sorts key_of IsKeyName
keys = record { found = key-read; again = key-spelled; some = key-some; whole = key-one_word }

pub key-describes : Describes key_at IsKeyName KeyFault
unfolding key_at
key-describes = record {
  found = sorted-found BadKey key_of IsKeyName keys;
  again = sorted-again BadKey key_of IsKeyName keys;
  met = λ bytes kind h. put bytes kind (sorted-met BadKey key_of IsKeyName keys bytes kind h);
  meets = meets;
  blank = blank;
}
  where
    put : (bytes : List ℕ) (kind : LineKind) → (kind ≡ Expected) ⊎ ((kind ≡ BadKey) × Next (NoWord IsKeyName) bytes) → (kind ≡ Expected) ⊎ KeyFault kind bytes
    put bytes kind (inl e) = inl e
    put bytes kind (inr (e, bad)) = inr (subst (λ (k : LineKind). KeyFault k bytes) (sym e) bad)

    meets : (bytes : List ℕ) (kind : LineKind) → KeyFault kind bytes → reader_of BadKey key_of bytes ≡ Err kind
    meets bytes BadKey bad = sorted-meets BadKey key_of IsKeyName keys bytes bad
    meets bytes kind bad = absurd bad

    blank : (bytes : List ℕ) (kind : LineKind) → KeyFault kind bytes → Blank bytes
    blank bytes BadKey (all, text, bad) = (all, text)
    blank bytes kind bad = absurd bad

-- ---- numbers

number-found : (least most : ℕ) (digits : List ℕ) (n : ℕ) → number_in least most digits ≡ Some n → IsNumber least most digits n
number-found least most digits n h = by (is_number digits && nat_le (value digits) most) refl h
  where
    at : (b : Bool) → nat_le least (value digits) ≡ b → (is_number digits && nat_le (value digits) most) ≡ true → cond b (Some (value digits)) None ≡ Some n → IsNumber least most digits n
    at true e good g = subst (IsNumber least most digits) (some-same g) (record {
      plain = (and_parts _ _ good).0;
      is = refl;
      above = leb-true least (value digits) e;
      below = leb-true (value digits) most (and_parts (is_number digits) _ good).1;
    })
    at false e good g = none-some g

    by : (b : Bool) → (is_number digits && nat_le (value digits) most) ≡ b → option_and_then (at_least least) (cond b (Some (value digits)) None) ≡ Some n → IsNumber least most digits n
    by true e g = at (nat_le least (value digits)) refl e g
    by false e g = none-some g

number-spelled : (least most : ℕ) (digits : List ℕ) (n : ℕ) → IsNumber least most digits n → number_in least most digits ≡ Some n
number-spelled least most digits n is =
    let at_most : nat_le (value digits) most ≡ true = le-leb (value digits) most (omega (arith, is.is, is.below)) in
    let at : nat_le least (value digits) ≡ true = le-leb least (value digits) (omega (arith, is.is, is.above)) in
    ap (λ (b : Bool). option_and_then (at_least least) (cond b (Some (value digits)) None)) (and_from _ _ is.plain at_most)
    ∙ ap (λ (b : Bool). cond b (Some (value digits)) None) at
    ∙ ap Some is.is

pub digits-some : (digits : List ℕ) → is_number digits ≡ true → digits ≢ []
digits-some digits h e = absurd (false≢true (ap is_number (sym e) ∙ h))

numbers : (least most : ℕ) → Sorts (number_in least most) (IsNumber least most)
numbers least most = record {
  found = number-found least most;
  again = number-spelled least most;
  some = λ name n is. digits-some name is.plain;
  whole = λ name n is. digits-no_blank name (and_parts _ _ is.plain).1;
}

pub number-describes : (least most : ℕ) → Describes (number_at least most) (IsNumber least most) (NumberFault least most)
unfolding number_at
number-describes least most = record {
  found = sorted-found BadNumber (number_in least most) (IsNumber least most) (numbers least most);
  again = sorted-again BadNumber (number_in least most) (IsNumber least most) (numbers least most);
  met = λ bytes kind h. put bytes kind (sorted-met BadNumber (number_in least most) (IsNumber least most) (numbers least most) bytes kind h);
  meets = meets;
  blank = blank;
}
  where
    put : (bytes : List ℕ) (kind : LineKind) → (kind ≡ Expected) ⊎ ((kind ≡ BadNumber) × Next (NoWord (IsNumber least most)) bytes) → (kind ≡ Expected) ⊎ NumberFault least most kind bytes
    put bytes kind (inl e) = inl e
    put bytes kind (inr (e, bad)) = inr (subst (λ (k : LineKind). NumberFault least most k bytes) (sym e) bad)

    meets : (bytes : List ℕ) (kind : LineKind) → NumberFault least most kind bytes → reader_of BadNumber (number_in least most) bytes ≡ Err kind
    meets bytes BadNumber bad = sorted-meets BadNumber (number_in least most) (IsNumber least most) (numbers least most) bytes bad
    meets bytes kind bad = absurd bad

    blank : (bytes : List ℕ) (kind : LineKind) → NumberFault least most kind bytes → Blank bytes
    blank bytes BadNumber (all, text, bad) = (all, text)
    blank bytes kind bad = absurd bad

-- ---- texts in quotes

utf8-found : (found pair : List ℕ × List ℕ) → utf8_of found ≡ Some pair → (is_utf8 found.0 ≡ true) × (found ≡ pair)
utf8-found found pair h = by (is_utf8 found.0) refl h
  where
    by : (b : Bool) → is_utf8 found.0 ≡ b → cond b (Some found) None ≡ Some pair → (is_utf8 found.0 ≡ true) × (found ≡ pair)
    by true e g = (e, some-same g)
    by false e g = none-some g

pub and-then : {A B : Type 0} (f : A → Option B) (o : Option A) (b : B) → option_and_then f o ≡ Some b → (a : A) × (o ≡ Some a) × (f a ≡ Some b)
and-then f None b h = none-some h
and-then f (Some a) b h = (a, refl, h)

pub string-found : (bytes text rest : List ℕ) → string_at bytes ≡ Ok (text, rest) → (bytes ≡ 32 ∷ (in_quotes text ++ rest)) × IsString (in_quotes text) text
unfolding string_at
string-found bytes text rest h =
    let some = refused-ok Expected (string_of (behind (codes " \"") bytes)) (text, rest) h in
    let (found, is, good) = and-then utf8_of (option_and_then (quoted false) (behind (codes " \"") bytes)) (text, rest) some in
    let (all, stands, read) = and-then (quoted false) (behind (codes " \"") bytes) found is in
    let (utf8, same) = utf8-found found (text, rest) good in
    let (spelled, quotes) = quoted-read all text rest (read ∙ ap Some same) in (
      front_of (codes " \"") bytes all stands ∙ ap (λ (z : List ℕ). 32 ∷ z) spelled,
      record { quoted = quotes; utf8 = subst (λ (p : List ℕ × List ℕ). is_utf8 p.0 ≡ true) same utf8 },
    )

-- a text in quotes begins with one
opened : (word text : List ℕ) → IsQuoted word text → (more : List ℕ) × (word ≡ 34 ∷ more) × IsQuoted (34 ∷ more) text
opened [] text is = absurd (let e = is.is in cc)
opened (byte ∷ more) text is =
    let first : byte ≡ 34 = (let e = is.is in cc) in
    (more, ap (λ (z : ℕ). z ∷ more) first, subst (λ (z : ℕ). IsQuoted (z ∷ more) text) first is)

pub string-spelled : (word text rest : List ℕ) → IsString word text → string_at (32 ∷ (word ++ rest)) ≡ Ok (text, rest)
unfolding string_at
string-spelled word text rest is =
    let (more, text_is, quotes) = opened word text is.quoted in
    ap (λ (z : List ℕ). or_refused Expected (string_of (behind (codes " \"") (32 ∷ (z ++ rest))))) text_is
    ∙ ap (λ (o : Option (List ℕ × List ℕ)). or_refused Expected (option_and_then utf8_of o)) (quoted-spelled more text rest quotes)
    ∙ ap (λ (b : Bool). or_refused Expected (cond b (Some (text, rest)) None)) is.utf8

pub string-err : (bytes : List ℕ) (kind : LineKind) → string_at bytes ≡ Err kind → kind ≡ Expected
unfolding string_at
string-err bytes kind h = (refused-err Expected kind (string_of (behind (codes " \"") bytes)) h).1

-- no longer than what was given
pub string_short : (bytes text rest : List ℕ) → string_at bytes ≡ Ok (text, rest) → (length text ≤ length bytes) × (length rest ≤ length bytes)
unfolding string_at
string_short bytes text rest h =
    let some = refused-ok Expected (string_of (behind (codes " \"") bytes)) (text, rest) h in
    let (found, is, good) = and-then utf8_of (option_and_then (quoted false) (behind (codes " \"") bytes)) (text, rest) some in
    let (all, stands, read) = and-then (quoted false) (behind (codes " \"") bytes) found is in
    let (utf8, same) = utf8-found found (text, rest) good in
    let short = quoted-short all text rest (read ∙ ap Some same) in
    let size = ap length (front_of (codes " \"") bytes all stands) in
    (omega (arith, short.0, size), omega (arith, short.1, size))

-- ---- targets

abbrev read_target : List ℕ → List ℕ → Result (SelectorValue × List ℕ) LineKind
read_target text rest = selector_or (selector_of text) >>= (λ selector. Ok (selector, rest))

abbrev target_reader : List ℕ → Result (SelectorValue × List ℕ) LineKind
target_reader bytes = in_turn string_at read_target bytes

chosen : (r : Result SelectorValue ℕ) (selector : SelectorValue) → selector_or r ≡ Ok selector → r ≡ Ok selector
chosen (Ok s) selector h = ap Ok (ok-same h)
chosen (Err place) selector h = err-ok h

refused : (r : Result SelectorValue ℕ) (kind : LineKind) → selector_or r ≡ Err kind → ((selector : SelectorValue) → r ≡ Ok selector → ⊥) × (kind ≡ BadSelector)
refused (Ok s) kind h = ok-err h
refused (Err place) kind h = (λ selector e. err-ok e, sym (err-same h))

not-chosen : (r : Result SelectorValue ℕ) → ((selector : SelectorValue) → r ≡ Ok selector → ⊥) → selector_or r ≡ Err BadSelector
not-chosen (Ok s) h = absurd (h s refl)
not-chosen (Err place) h = refl

pub target-describes : Describes target_at IsTarget TargetFault
unfolding target_at
target-describes = record {
  found = λ bytes rest selector h.
      let (f, is, more) = bind-ok (string_at bytes) (λ (f : List ℕ × List ℕ). read_target f.0 f.1) (selector, rest) h in
      let (text, string) = string-found bytes f.0 f.1 is in
      let (s, good, same) = bind-ok (selector_or (selector_of f.0)) (λ (s : SelectorValue). Ok (s, f.1)) (selector, rest) more in
      let pair : ◌≡◌ {A = SelectorValue × List ℕ} (s, f.1) (selector, rest) = ok-same same in (
        in_quotes f.0,
        text ∙ ap (λ (p : SelectorValue × List ℕ). 32 ∷ (in_quotes f.0 ++ p.1)) pair,
        record { text = f.0; string = string; selector = subst (λ (p : SelectorValue × List ℕ). IsSelectorText f.0 p.0) pair (selector_text f.0 s (chosen (selector_of f.0) s good)) },
      );
  again = λ word rest selector is stops.
      ap (λ (r : Result (List ℕ × List ℕ) LineKind). r >>= (λ f. read_target f.0 f.1)) (string-spelled word is.text rest is.string)
      ∙ ap (λ (r : Result SelectorValue ℕ). selector_or r >>= (λ s. Ok (s, rest))) (text_selector is.text selector is.selector);
  met = λ bytes kind h. either bytes kind (bind-err (string_at bytes) (λ (f : List ℕ × List ℕ). read_target f.0 f.1) kind h);
  meets = meets;
  blank = blank;
}
  where
    after : (bytes : List ℕ) (kind : LineKind) (f : List ℕ × List ℕ) → string_at bytes ≡ Ok f → (selector_or (selector_of f.0) ≡ Err kind) ⊎ ((s : SelectorValue) × (selector_or (selector_of f.0) ≡ Ok s) × ◌≡◌ {A = Result (SelectorValue × List ℕ) LineKind} (Ok (s, f.1)) (Err kind)) → TargetFault kind bytes
    after bytes kind f is (inl e) =
        let (none, same) = refused (selector_of f.0) kind e in
        let (text, string) = string-found bytes f.0 f.1 is in
        subst (λ (k : LineKind). TargetFault k bytes) (sym same) (
          in_quotes f.0 ++ f.1,
          text,
          record { string = in_quotes f.0; text = f.0; rest = f.1; stands = refl; spelled = string; none = λ selector good. none selector (text_selector f.0 selector good) },
        )
    after bytes kind f is (inr (s, good, e)) = ok-err e

    either : (bytes : List ℕ) (kind : LineKind) → (string_at bytes ≡ Err kind) ⊎ ((f : List ℕ × List ℕ) × (string_at bytes ≡ Ok f) × (read_target f.0 f.1 ≡ Err kind)) → (kind ≡ Expected) ⊎ TargetFault kind bytes
    either bytes kind (inl e) = inl (string-err bytes kind e)
    either bytes kind (inr (f, is, e)) = inr (after bytes kind f is (bind-err (selector_or (selector_of f.0)) (λ (s : SelectorValue). Ok (s, f.1)) kind e))

    meets : (bytes : List ℕ) (kind : LineKind) → TargetFault kind bytes → target_reader bytes ≡ Err kind
    meets bytes BadSelector (all, text, bad) =
        ap target_reader (text ∙ ap (λ (z : List ℕ). 32 ∷ z) bad.stands)
        ∙ ap (λ (r : Result (List ℕ × List ℕ) LineKind). r >>= (λ f. read_target f.0 f.1)) (string-spelled bad.string bad.text bad.rest bad.spelled)
        ∙ ap (λ (r : Result SelectorValue LineKind). r >>= (λ s. Ok (s, bad.rest))) (not-chosen (selector_of bad.text) (λ selector e. bad.none selector (selector_text bad.text selector e)))
    meets bytes kind bad = absurd bad

    blank : (bytes : List ℕ) (kind : LineKind) → TargetFault kind bytes → Blank bytes
    blank bytes BadSelector (all, text, bad) = (all, text)
    blank bytes kind bad = absurd bad

-- ---- texts, which have no fault of their own

pub string-describes : Describes string_at IsString NoFault
string-describes = record {
  found = λ bytes rest text h. let (is, string) = string-found bytes text rest h in (in_quotes text, is, string);
  again = λ word rest text is stops. string-spelled word text rest is;
  met = λ bytes kind h. inl (string-err bytes kind h);
  meets = λ bytes kind bad. absurd bad;
  blank = λ bytes kind bad. absurd bad;
}
