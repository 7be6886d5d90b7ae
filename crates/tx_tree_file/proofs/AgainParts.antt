-- What is spelled is read again, part by part.
use Rattle.std.proofs.lemmas.Bool.{and_parts, and_from}
use Rattle.std.proofs.Common.{◌≡◌, ℕ, zero, suc, ◌+◌, ◌-◌, ◌*◌, ◌%◌, ◌<◌, ◌≤◌, ◌==◌, ◌&&◌, ◌^◌, Bool, true, false, cond, not, nat_le, nat_lt, List, [], ◌∷◌, ◌++◌, length, take, drop, flat_map, Option, Some, None, is_some, option_map, option_and_then, refl, ap, ap₂, sym, ◌∙◌, arith, append_assoc, length-append, codes, decimal, bytes_eq, drop_at, take_at}
use Rattle.std.specs.Char.{is_ascii_digit}
use Rattle.std.specs.List.{list_all}
use Rattle.std.specs.Str.{is_utf8}
use Rattle.std.proofs.lemmas.Bool.{false≢true, ne_eqb, le-leb, leb-true, lt-ltb}
use Rattle.std.proofs.lemmas.Bool.Decides.{nat_tests}
use Rattle.std.proofs.lemmas.Fmt.{decimal_by_steps, decimal_nonempty}
use Rattle.std.proofs.lemmas.Slice.Eq.{bytes_eq-Decides}
use Rattle.std.proofs.lemmas.Str.{is_utf8-from_IsUtf8}
use Rattle.tx_read.specs.Number.{number_at_most, value, value_behind}
use Rattle.tx_read.specs.Pieces.{behind}
use Rattle.tx_tree.proofs.lemmas.Kinds.{of_kinds}
use Rattle.tx_tree.specs.Kind.{kind_name, kind_named, first_state, private_at, is_alike}
use Rattle.tx_text.specs.Name.{is_name, begins_name, continues_name}
use Rattle.tx_tree.specs.Spelled.{begins_capital, no_repeats, byte_is_spelled, kind_is_spelled, private_is_spelled, total_is_spelled}
use Rattle.tx_tree.specs.declared.kind.Kind.{Kind}
use Rattle.tx_tree.specs.declared.kind.Kind.TheVariants.{Handed}
use Rattle.tx_tree.specs.declared.kind.Private.{Private}
use Rattle.tx_tree.specs.declared.kind.Private.TheVariants.{Plain, Cursor, On, Chosen, Bar}
use Rattle.tx_tree_file.proofs.Fronts.{same-byte}
use Rattle.tx_tree_file.proofs.Utf8Lemmas.{name_utf8}
use Rattle.tx_tree_file.specs.Parts.{word, past_word, name_of, flag, flag_by, or_handed, kind_of, id_of, id_by, classes_within, class_by, classes_of, is_total, total_of, bar_by, box_by, private_by, private_of, is_plain, put_front, quoted, some_text, text_by, text_of, before_brace, inline_of}
use Rattle.tx_tree_file.specs.Spelling.{id_part, class_part, class_parts, disabled_part, private_part, escaped, text_part, inline_part}
use Rattle.tx_tree_file.specs.TreeFile.{id_is_typed, kind_is_typed, kept}
use Rattle.tx_tree_file.specs.Words.{no_blank, Stops}

-- ---- what may stand behind a part

-- the place of a part in a row, by its first byte behind the blank
abbrev pub order : ℕ → ℕ
order c = cond (c == 35) 1 (cond (c == 46) 2 (cond (c == 100) 3 (cond (c == 111) 4 (cond (c == 116) 4 (cond (c == 34) 5 (cond (c == 123) 6 0))))))

-- nothing, or a part that comes as late
abbrev pub Later : ℕ → List ℕ → Type 0
Later k [] = Unit {0}
Later k (b ∷ []) = ⊥
Later k (b ∷ c ∷ bytes) = (b ≡ 32) × (k ≤ order c)

pub weaken : (j k : ℕ) (bytes : List ℕ) → j ≤ k → Later k bytes → Later j bytes
weaken j k [] h l = tt
weaken j k (b ∷ []) h l = absurd l
weaken j k (b ∷ c ∷ bytes) h l = let m = l.1 in (l.0, omega (arith, h, m))

-- an earlier part doesn't come
not_next : (d : ℕ) (part : List ℕ) (k : ℕ) (bytes : List ℕ) → order d < k → Later k bytes → behind (32 ∷ d ∷ part) bytes ≡ None
not_next d part k [] h l = refl
not_next d part k (b ∷ []) h l = absurd l
not_next d part k (b ∷ c ∷ bytes) h l =
    let m = l.1 in
    let other : (c == d) ≡ false = ne_eqb c d (λ same. let e = ap order same in absurd (omega (arith, h, m, e))) in
    ap (λ (x : ℕ). cond (x == 32) (cond (c == d) (behind part bytes) None) None) l.0 ∙ ap (λ (x : Bool). cond x (behind part bytes) None) other

-- ---- words

pub later-stops : (k : ℕ) (bytes : List ℕ) → Later k bytes → Stops bytes
later-stops k [] l = tt
later-stops k (b ∷ []) l = absurd l
later-stops k (b ∷ c ∷ bytes) l = l.0

pub word-again : (name bytes : List ℕ) → list_all no_blank name ≡ true → Stops bytes → (word (name ++ bytes) ≡ name) × (past_word (name ++ bytes) ≡ bytes)
word-again [] [] h s = (refl, refl)
word-again [] (b ∷ bytes) h s = (ap (λ (x : ℕ). cond (x == 32) [] (b ∷ word bytes)) s, ap (λ (x : ℕ). cond (x == 32) (b ∷ bytes) (past_word bytes)) s)
word-again (c ∷ name) bytes h s =
    let other : (c == 32) ≡ false = not_false' (c == 32) (and_parts (no_blank c) _ h).0 in
    let more = word-again name bytes (and_parts (no_blank c) _ h).1 s in (
      ap (λ (x : Bool). cond x [] (c ∷ word (name ++ bytes))) other ∙ ap (λ (z : List ℕ). c ∷ z) more.0,
      ap (λ (x : Bool). cond x (c ∷ (name ++ bytes)) (past_word (name ++ bytes))) other ∙ more.1,
    )
  where
    not_false' : (b : Bool) → not b ≡ true → b ≡ false
    not_false' true h = absurd (false≢true h)
    not_false' false h = refl

begins-no_blank : (byte : ℕ) → begins_name byte ≡ true → no_blank byte ≡ true
begins-no_blank byte h = grind (arith, nat_tests)

continues-no_blank : (byte : ℕ) → continues_name byte ≡ true → no_blank byte ≡ true
continues-no_blank byte h = grind (arith, nat_tests)

all_continue-no_blank : (bytes : List ℕ) → list_all continues_name bytes ≡ true → list_all no_blank bytes ≡ true
all_continue-no_blank [] h = refl
all_continue-no_blank (b ∷ bytes) h = and_from (no_blank b) (list_all no_blank bytes) (continues-no_blank b (and_parts _ _ h).0) (all_continue-no_blank bytes (and_parts (continues_name b) _ h).1)

pub name-no_blank : (name : List ℕ) → is_name name ≡ true → list_all no_blank name ≡ true
name-no_blank [] h = refl
name-no_blank (b ∷ bytes) h = and_from (no_blank b) (list_all no_blank bytes) (begins-no_blank b (and_parts _ _ h).0) (all_continue-no_blank bytes (and_parts _ _ (and_parts (begins_name b) _ h).1).1)

pub named : (name : List ℕ) → is_name name ≡ true → name_of name ≡ Some name
named name h = rw h refl

-- ---- id and classes

pub id-later : (id : Option (List ℕ)) (bytes : List ℕ) → Later 2 bytes → Later 1 (id_part id ++ bytes)
id-later None bytes l = weaken 1 2 bytes (omega arith) l
id-later (Some id) bytes l = (refl, omega arith)

pub id-again : (id : Option (List ℕ)) (bytes : List ℕ) → id_is_typed id ≡ true → Later 2 bytes → id_of (id_part id ++ bytes) ≡ Some (id, bytes)
id-again None bytes h l = ap (λ (o : Option (List ℕ)). id_by o bytes) (not_next 35 [] 2 bytes (omega arith) l)
id-again (Some id) bytes h l =
    let w = word-again id bytes (name-no_blank id h) (later-stops 2 bytes l) in
    ap₂ (λ (x y : List ℕ). option_map (λ (name : List ℕ). (Some name, y)) (name_of x)) w.0 w.1 ∙ ap (option_map (λ (name : List ℕ). (Some name, bytes))) (named id h)

pub classes-later : (names : List (List ℕ)) (bytes : List ℕ) → Later 3 bytes → Later 2 (class_parts names ++ bytes)
classes-later [] bytes l = weaken 2 3 bytes (omega arith) l
classes-later (name ∷ names) bytes l = (refl, omega arith)

classes-again : (n : ℕ) (names : List (List ℕ)) (bytes : List ℕ) → length names ≤ n → list_all is_name names ≡ true → Later 3 bytes → classes_within n (class_parts names ++ bytes) ≡ Some (names, bytes)
classes-again zero [] bytes few h l = refl
classes-again (suc n) [] bytes few h l = ap (λ (o : Option (List ℕ)). class_by o bytes (classes_within n)) (not_next 46 [] 3 bytes (omega arith) l)
classes-again zero (name ∷ names) bytes few h l = absurd (omega (arith, few))
classes-again (suc n) (name ∷ names) bytes few h l =
    let is = (and_parts (is_name name) _ h).0 in
    let rest = class_parts names ++ bytes in
    let w = word-again name rest (name-no_blank name is) (later-stops 2 rest (classes-later names bytes l)) in
    let more = classes-again n names bytes (omega (arith, few)) (and_parts (is_name name) _ h).1 l in
    let f = λ (x : List ℕ) (y : List ℕ). cond (is_name x) (option_map (λ (found : List (List ℕ) × List ℕ). (x ∷ found.0, found.1)) (classes_within n y)) None in
    ap (classes_within (suc n)) (append_assoc (class_part name) (class_parts names) bytes)
    ∙ ap₂ f w.0 w.1
    ∙ ap (λ (b : Bool). cond b (option_map (λ (found : List (List ℕ) × List ℕ). (name ∷ found.0, found.1)) (classes_within n rest)) None) is
    ∙ ap (option_map (λ (found : List (List ℕ) × List ℕ). (name ∷ found.0, found.1))) more

classes-long : (names : List (List ℕ)) → length names ≤ length (class_parts names)
classes-long [] = omega arith
classes-long (name ∷ names) = let a = classes-long names in let b = length-append (class_part name) (class_parts names) in omega (arith, a, b)

pub class_list-again : (names : List (List ℕ)) (bytes : List ℕ) → list_all is_name names ≡ true → no_repeats names ≡ true → Later 3 bytes → classes_of (class_parts names ++ bytes) ≡ Some (names, bytes)
class_list-again names bytes h once l =
    let a = classes-long names in
    let b = length-append (class_parts names) bytes in
    ap (option_and_then (λ (found : List (List ℕ) × List ℕ). cond (no_repeats found.0) (Some found) None)) (classes-again (length (class_parts names ++ bytes)) names bytes (omega (arith, a, b)) h l)
    ∙ ap (λ (x : Bool). cond x (Some (names, bytes)) None) once

-- ---- disabled and the private state

pub disabled-later : (b : Bool) (bytes : List ℕ) → Later 4 bytes → Later 3 (disabled_part b ++ bytes)
disabled-later true bytes l = (refl, omega arith)
disabled-later false bytes l = weaken 3 4 bytes (omega arith) l

pub disabled-again : (b : Bool) (bytes : List ℕ) → Later 4 bytes → flag (codes " disabled") (disabled_part b ++ bytes) ≡ (b, bytes)
disabled-again true bytes l = refl
disabled-again false bytes l = ap (λ (o : Option (List ℕ)). flag_by o bytes) (not_next 100 (codes "isabled") 4 bytes (omega arith) l)

total-later : (b : Bool) (digits bytes : List ℕ) → Later 5 bytes → Later 4 (cond b [] (codes " total " ++ digits) ++ bytes)
total-later true digits bytes l = weaken 4 5 bytes (omega arith) l
total-later false digits bytes l = (refl, omega arith)

pub private-later : (private : Private) (bytes : List ℕ) → Later 5 bytes → Later 4 (private_part private ++ bytes)
private-later (On true) bytes l = (refl, omega arith)
private-later (On false) bytes l = weaken 4 5 bytes (omega arith) l
private-later (Bar done total) bytes l = total-later (total == 100) (decimal total) bytes l
private-later Plain bytes l = weaken 4 5 bytes (omega arith) l
private-later (Cursor place) bytes l = weaken 4 5 bytes (omega arith) l
private-later (Chosen line) bytes l = weaken 4 5 bytes (omega arith) l

-- the state that is read, of which the same is kept
pub record IsStateAgain (kind : Kind) (private : Private) (bytes : List ℕ) : Type 0 where
  pub state : Private
  pub read : private_of kind (private_part private ++ bytes) ≡ Some (state, bytes)
  pub same : (size : ℕ) → kept kind size state ≡ kept kind size private

quiet : (kind : Kind) (private : Private) (bytes : List ℕ) → private_part private ≡ [] → private_of kind bytes ≡ Some (Plain, bytes) → ((size : ℕ) → kept kind size Plain ≡ kept kind size private) → IsStateAgain kind private bytes
quiet kind private bytes none read same = record { state = Plain; read = ap (λ (z : List ℕ). private_of kind (z ++ bytes)) none ∙ read; same = same }

-- digits
digits-snoc : (ds : List ℕ) (d : ℕ) → list_all is_ascii_digit ds ≡ true → is_ascii_digit d ≡ true → list_all is_ascii_digit (ds ++ d ∷ []) ≡ true
digits-snoc [] d h e = and_from _ true e refl
digits-snoc (x ∷ ds) d h e = and_from (is_ascii_digit x) (list_all is_ascii_digit (ds ++ d ∷ [])) (and_parts _ _ h).0 (digits-snoc ds d (and_parts (is_ascii_digit x) _ h).1 e)

value-snoc : (n : ℕ) (ds : List ℕ) (d : ℕ) → value_behind n (ds ++ d ∷ []) ≡ value_behind n ds * 10 + (d - 48)
value-snoc n [] d = refl
value-snoc n (x ∷ ds) d = value-snoc (n * 10 + (x - 48)) ds d

a_digit : (n : ℕ) → n < 10 → is_ascii_digit (48 + n) ≡ true
a_digit n h = and_from _ _ (le-leb 48 (48 + n) (omega arith)) (le-leb (48 + n) 57 (omega (arith, h)))

abbrev AreDigits : ℕ → List ℕ → Type 0
AreDigits n ds = (list_all is_ascii_digit ds ≡ true) × (value ds ≡ n)

pub decimal-digits : (n : ℕ) → n < 2 ^ 64 → AreDigits n (decimal n)
decimal-digits n h = decimal_by_steps AreDigits
    (λ n h. (and_from _ true (a_digit n h) refl, omega arith))
    (λ n ds h m.
    let below : n % 10 < 10 = omega arith in
    let last = m.1 in
    let sum = value-snoc 0 ds (48 + n % 10) in
    (digits-snoc ds (48 + n % 10) m.0 (a_digit (n % 10) below), omega (arith, last, sum)))
    n h

pub number-again : (limit n : ℕ) → n < 2 ^ 64 → nat_le n limit ≡ true → number_at_most limit (decimal n) ≡ Some n
number-again limit n h e =
    let ds = decimal-digits n h in
    let some : nat_lt 0 (length (decimal n)) ≡ true = lt-ltb 0 (length (decimal n)) (decimal_nonempty n h) in
    rw (some, ds.0, ds.1, e) refl

digit-no_blank : (d : ℕ) → is_ascii_digit d ≡ true → no_blank d ≡ true
digit-no_blank d h = grind (arith, nat_tests)

pub digits-no_blank : (ds : List ℕ) → list_all is_ascii_digit ds ≡ true → list_all no_blank ds ≡ true
digits-no_blank [] h = refl
digits-no_blank (d ∷ ds) h = and_from (no_blank d) (list_all no_blank ds) (digit-no_blank d (and_parts _ _ h).0) (digits-no_blank ds (and_parts (is_ascii_digit d) _ h).1)

pub decimal-no_blank : (n : ℕ) → n < 2 ^ 64 → list_all no_blank (decimal n) ≡ true
decimal-no_blank n h = digits-no_blank (decimal n) (decimal-digits n h).0

pub same-bytes : (xs : List ℕ) → bytes_eq xs xs ≡ true
same-bytes xs = (bytes_eq-Decides xs xs).1 refl

total-again : (n : ℕ) → nat_le 1 n ≡ true → nat_le n 1000000 ≡ true → (n == 100) ≡ false → total_of (decimal n) ≡ Some n
total-again n least most other =
    let m = leb-true n 1000000 most in
    let few : n < 2 ^ 64 = omega (arith, m) in
    ap (option_and_then (λ (z : ℕ). cond (is_total (decimal n) z) (Some z) None)) (number-again 1000000 n few most)
    ∙ ap (λ (b : Bool). cond b (Some n) None) (and_from _ _ (same-bytes (decimal n)) (and_from _ _ least (ap not other)))

-- what is read behind a state of a kind that begins with this one
reads-by : (kind : Kind) (first : Private) → first_state kind ≡ first → (bytes : List ℕ) (read : Option (Private × List ℕ)) → private_by (private_at 0 first) bytes ≡ read → private_of kind bytes ≡ read
reads-by kind first e bytes read h = ap (λ (z : Private). private_by (private_at 0 z) bytes) e ∙ h

bar-again : (kind : Kind) (from end done total : ℕ) → first_state kind ≡ Bar from end → (bytes : List ℕ) → total_is_spelled (Bar done total) ≡ true → Later 5 bytes → IsStateAgain kind (Bar done total) bytes
bar-again kind from end done total first bytes h l = by (total == 100) refl
  where
    most : total ≤ 1000000
    most = leb-true total 1000000 (and_parts (nat_le 1 total) _ h).1

    by : (b : Bool) → (total == 100) ≡ b → IsStateAgain kind (Bar done total) bytes
    by true e = record {
      state = Bar 0 100;
      read = reads-by kind (Bar from end) first _ _ (ap (λ (b : Bool). bar_by (behind (codes " total ") (cond b [] (codes " total " ++ decimal total) ++ bytes)) (cond b [] (codes " total " ++ decimal total) ++ bytes)) e
          ∙ ap (λ (o : Option (List ℕ)). bar_by o bytes) (not_next 116 (codes "otal ") 5 bytes (omega arith) l));
      same = λ size. ap (Bar 0) (sym (same-byte total 100 e));
    }
    by false e =
        let w = word-again (decimal total) bytes (decimal-no_blank total (omega (arith, most))) (later-stops 5 bytes l) in record {
          state = Bar 0 total;
          read = reads-by kind (Bar from end) first _ _ (ap (λ (b : Bool). bar_by (behind (codes " total ") (cond b [] (codes " total " ++ decimal total) ++ bytes)) (cond b [] (codes " total " ++ decimal total) ++ bytes)) e
              ∙ ap₂ (λ (x y : List ℕ). option_map (λ (t : ℕ). (Bar 0 t, y)) (total_of x)) w.0 w.1
              ∙ ap (option_map (λ (t : ℕ). (Bar 0 t, bytes))) (total-again total (and_parts _ _ h).0 (and_parts (nat_le 1 total) _ h).1 e));
          same = λ size. refl;
        }

box-again : (kind : Kind) (on b : Bool) → first_state kind ≡ On on → (bytes : List ℕ) → Later 5 bytes → IsStateAgain kind (On b) bytes
box-again kind on true first bytes l = record { state = On true; read = reads-by kind (On on) first _ _ refl; same = λ size. refl }
box-again kind on false first bytes l =
    record { state = On false; read = reads-by kind (On on) first _ _ (ap (λ (o : Option (List ℕ)). box_by (flag_by o bytes)) (not_next 111 (codes "n") 5 bytes (omega arith) l)); same = λ size. refl }

again-by : (kind : Kind) (first private : Private) → first_state kind ≡ first → (bytes : List ℕ) → (is_alike first private && total_is_spelled private) ≡ true → Later 5 bytes → IsStateAgain kind private bytes
again-by kind (On on) (On b) e bytes h l = box-again kind on b e bytes l
again-by kind (Bar from end) (Bar done total) e bytes h l = bar-again kind from end done total e bytes h l
again-by kind Plain Plain e bytes h l = quiet kind Plain bytes refl (reads-by kind Plain e _ _ refl) (λ size. refl)
again-by kind (Cursor from) (Cursor place) e bytes h l = quiet kind (Cursor place) bytes refl (reads-by kind (Cursor from) e _ _ refl) (λ size. refl)
again-by kind (Chosen from) (Chosen line) e bytes h l = quiet kind (Chosen line) bytes refl (reads-by kind (Chosen from) e _ _ refl) (λ size. refl)
again-by kind Plain (Cursor place) e bytes h l = absurd (false≢true h)
again-by kind Plain (On b) e bytes h l = absurd (false≢true h)
again-by kind Plain (Chosen line) e bytes h l = absurd (false≢true h)
again-by kind Plain (Bar done total) e bytes h l = absurd (false≢true h)
again-by kind (Cursor from) Plain e bytes h l = absurd (false≢true h)
again-by kind (Cursor from) (On b) e bytes h l = absurd (false≢true h)
again-by kind (Cursor from) (Chosen line) e bytes h l = absurd (false≢true h)
again-by kind (Cursor from) (Bar done total) e bytes h l = absurd (false≢true h)
again-by kind (On on) Plain e bytes h l = absurd (false≢true h)
again-by kind (On on) (Cursor place) e bytes h l = absurd (false≢true h)
again-by kind (On on) (Chosen line) e bytes h l = absurd (false≢true h)
again-by kind (On on) (Bar done total) e bytes h l = absurd (false≢true h)
again-by kind (Chosen from) Plain e bytes h l = absurd (false≢true h)
again-by kind (Chosen from) (Cursor place) e bytes h l = absurd (false≢true h)
again-by kind (Chosen from) (On b) e bytes h l = absurd (false≢true h)
again-by kind (Chosen from) (Bar done total) e bytes h l = absurd (false≢true h)
again-by kind (Bar from end) Plain e bytes h l = absurd (false≢true h)
again-by kind (Bar from end) (Cursor place) e bytes h l = absurd (false≢true h)
again-by kind (Bar from end) (On b) e bytes h l = absurd (false≢true h)
again-by kind (Bar from end) (Chosen line) e bytes h l = absurd (false≢true h)

pub private-again : (kind : Kind) (private : Private) (bytes : List ℕ) → private_is_spelled kind private ≡ true → Later 5 bytes → IsStateAgain kind private bytes
private-again kind private bytes h l = again-by kind (first_state kind) private refl bytes h l

-- ---- texts

pub tail_later : (byte : ℕ) (bytes more : List ℕ) → Later 6 more → Later 5 (text_part (byte ∷ bytes) ++ more)
tail_later byte bytes more l = (refl, omega arith)

pub text-later : (text bytes : List ℕ) → Later 6 bytes → Later 5 (text_part text ++ bytes)
text-later [] bytes l = weaken 5 6 bytes (omega arith) l
text-later (byte ∷ text) bytes l = tail_later byte text bytes l

pub inline-later : (inline : List ℕ) → Later 6 (inline_part inline)
inline-later [] = tt
inline-later (byte ∷ bytes) = (refl, omega arith)

pub quoted-again : (text bytes : List ℕ) → list_all byte_is_spelled text ≡ true → quoted false (flat_map escaped text ++ (34 ∷ bytes)) ≡ Some (text, bytes)
quoted-again [] bytes h = refl
quoted-again (byte ∷ text) bytes h = ap (quoted false) (append_assoc (escaped byte) (flat_map escaped text) (34 ∷ bytes)) ∙ by (byte == 34) (byte == 92) (byte == 10) refl refl refl (quoted-again text bytes (and_parts (byte_is_spelled byte) _ h).1)
  where
    rest : List ℕ
    rest = flat_map escaped text ++ (34 ∷ bytes)

    by : (a b c : Bool) → (byte == 34) ≡ a → (byte == 92) ≡ b → (byte == 10) ≡ c → quoted false rest ≡ Some (text, bytes)
        → quoted false (cond a (codes "\\\"") (cond b (codes "\\\\") (cond c (codes "\\n") (byte ∷ []))) ++ rest) ≡ Some (byte ∷ text, bytes)
    by true b c e f g more = ap (put_front (Some 34)) more ∙ ap (λ (z : ℕ). Some (z ∷ text, bytes)) (sym (same-byte byte 34 e))
    by false true c e f g more = ap (put_front (Some 92)) more ∙ ap (λ (z : ℕ). Some (z ∷ text, bytes)) (sym (same-byte byte 92 f))
    by false false true e f g more = ap (put_front (Some 10)) more ∙ ap (λ (z : ℕ). Some (z ∷ text, bytes)) (sym (same-byte byte 10 g))
    by false false false e f g more =
        let good : is_plain byte ≡ true = and_from (byte_is_spelled byte) (not (byte == 10)) (and_parts _ _ h).0 (ap not g) in
        ap (λ (x : Bool). cond x (Some ([], rest)) (cond (byte == 92) (quoted true rest) (cond (is_plain byte) (put_front (Some byte) (quoted false rest)) None))) e
        ∙ ap (λ (x : Bool). cond x (quoted true rest) (cond (is_plain byte) (put_front (Some byte) (quoted false rest)) None)) f
        ∙ ap (λ (x : Bool). cond x (put_front (Some byte) (quoted false rest)) None) good
        ∙ ap (put_front (Some byte)) more

some-again : (byte : ℕ) (text : List ℕ) → is_utf8 (byte ∷ text) ≡ true → some_text (byte ∷ text) ≡ Some (byte ∷ text)
some-again byte text h =
    let filled : (length (byte ∷ text) == 0) ≡ false = ne_eqb (length (byte ∷ text)) 0 (λ same. absurd (omega (arith, same))) in
    ap (λ (b : Bool). cond b (Some (byte ∷ text)) None) (and_from _ _ h (ap not filled))

pub text-again : (text bytes : List ℕ) → list_all byte_is_spelled text ≡ true → is_utf8 text ≡ true → Later 6 bytes → text_of (text_part text ++ bytes) ≡ Some (text, bytes)
text-again [] bytes h u l = ap (λ (o : Option (List ℕ)). text_by o bytes) (not_next 34 [] 6 bytes (omega arith) l)
text-again (byte ∷ text) bytes h u l =
    let all = byte ∷ text in
    let f = λ (found : List ℕ × List ℕ). option_map (λ (t : List ℕ). (t, found.1)) (some_text found.0) in
    ap text_of (append_assoc (codes " \"" ++ flat_map escaped all) (codes "\"") bytes ∙ append_assoc (codes " \"") (flat_map escaped all) (codes "\"" ++ bytes))
    ∙ ap (option_and_then f) (quoted-again all bytes h)
    ∙ ap (option_map (λ (t : List ℕ). (t, bytes))) (some-again byte text u)

pub brace-again : (text : List ℕ) → before_brace (text ++ codes "}") ≡ Some text
brace-again text =
    let size : length (text ++ codes "}") - 1 ≡ length text = (let a = length-append text (codes "}") in omega (arith, a)) in
    ap (λ (n : ℕ). cond (bytes_eq (drop n (text ++ codes "}")) (codes "}")) (Some (take n (text ++ codes "}"))) None) size
    ∙ ap₂ (λ (x y : List ℕ). cond (bytes_eq x (codes "}")) (Some y) None) (drop_at text (codes "}") (length text) refl) (take_at text (codes "}") (length text) refl)

pub inline-again : (inline : List ℕ) → is_utf8 inline ≡ true → inline_of (inline_part inline) ≡ Some inline
inline-again [] u = refl
inline-again (byte ∷ bytes) u =
    ap inline_of (append_assoc (codes " {") (byte ∷ bytes) (codes "}"))
    ∙ ap (option_and_then some_text) (brace-again (byte ∷ bytes))
    ∙ some-again byte bytes u

-- ---- kinds

pub name-is_utf8 : (name : List ℕ) → is_name name ≡ true → is_utf8 name ≡ true
name-is_utf8 name h = is_utf8-from_IsUtf8 name (name_utf8 name h)

built-again : (name : List ℕ) (o : Option Kind) (kind : Kind) → is_name name ≡ true → kind_named name ≡ o → or_handed name o ≡ Some kind → kind_of name ≡ Some kind
built-again name o kind h e g = ap (λ (b : Bool). cond b (or_handed name (kind_named name)) None) (name-is_utf8 name h) ∙ ap (or_handed name) e ∙ g

pub not_inv : (b : Bool) → not b ≡ true → b ≡ false
not_inv true h = absurd (false≢true h)
not_inv false h = refl

pub kind-again : (kind : Kind) → kind_is_spelled kind ≡ true → kind_is_typed kind ≡ true → kind_of (kind_name kind) ≡ Some kind
kind-again = of_kinds (λ kind. kind_is_spelled kind ≡ true → kind_is_typed kind ≡ true → kind_of (kind_name kind) ≡ Some kind)
    (λ kind. is_name (kind_name kind)) refl
    (λ kind found e h t. built-again (kind_name kind) (Some kind) kind e found refl)
    (λ name h t. built-again name None (Handed name) t (none_of (kind_named name) (not_inv _ (and_parts _ _ h).1)) (ap (λ (b : Bool). cond b (Some (Handed name)) None) (and_from _ _ t (and_parts (begins_capital name) _ h).0)))
  where
    none_of : (o : Option Kind) → is_some o ≡ false → o ≡ None
    none_of None h = refl
    none_of (Some k) h = absurd (false≢true (sym h))
