-- What is read of a part is spelled so.
use Rattle.std.proofs.lemmas.Bool.{and_parts, and_from}
use Rattle.std.proofs.Common.{◌≡◌, ℕ, zero, suc, ◌-◌, ◌==◌, ◌&&◌, Bool, true, false, cond, not, nat_le, List, [], ◌∷◌, ◌++◌, length, take, drop, flat_map, Option, Some, None, option_map, option_and_then, refl, ap, ap₂, sym, subst, ◌∙◌, arith, append_assoc, take-append-drop, codes, decimal, bytes_eq}
use Rattle.std.specs.List.{list_all}
use Rattle.std.specs.Str.{is_utf8}
use Rattle.std.proofs.lemmas.Slice.Eq.{bytes_eq-Decides}
use Rattle.std.proofs.lemmas.Str.{is_utf8-from_IsUtf8, IsUtf8-nil}
use Rattle.tx_read.specs.Number.{number_at_most}
use Rattle.tx_read.specs.Pieces.{behind}
use Rattle.tx_text.specs.Name.{is_name}
use Rattle.tx_tree.specs.Kind.{first_state, private_at, is_alike}
use Rattle.tx_tree.specs.Spelled.{no_repeats, byte_is_spelled, private_is_spelled, total_is_spelled}
use Rattle.tx_tree.specs.declared.kind.Kind.{Kind}
use Rattle.tx_tree.specs.declared.kind.Private.{Private}
use Rattle.tx_tree.specs.declared.kind.Private.TheVariants.{Plain, Cursor, On, Chosen, Bar}
use Rattle.tx_tree_file.proofs.Fronts.{some-same, none-some, same-byte, front_of}
use Rattle.tx_tree_file.specs.Parts.{word, past_word, name_of, flag, flag_by, id_of, id_by, classes_within, class_by, classes_of, is_total, total_of, bar_by, box_by, private_by, private_of, unescaped, is_plain, put_front, quoted, some_text, text_by, text_of, before_brace, inline_by, inline_of}
use Rattle.tx_tree_file.specs.Spelling.{id_part, class_parts, private_part, escaped, text_part, inline_part}
use Rattle.tx_tree_file.specs.TreeFile.{id_is_typed, kept}

-- ---- answers taken apart

pub map-inv : {A B : Type 0} (f : A → B) (o : Option A) (y : B) → option_map f o ≡ Some y → (x : A) × (o ≡ Some x) × (f x ≡ y)
map-inv f None y h = none-some h
map-inv f (Some x) y h = (x, refl, some-same h)

pub then-inv : {A B : Type 0} (f : A → Option B) (o : Option A) (y : B) → option_and_then f o ≡ Some y → (x : A) × (o ≡ Some x) × (f x ≡ Some y)
then-inv f None y h = none-some h
then-inv f (Some x) y h = (x, refl, h)

pub if-inv : {A : Type 0} (b : Bool) (o : Option A) (y : A) → cond b o None ≡ Some y → (b ≡ true) × (o ≡ Some y)
if-inv true o y h = (refl, h)
if-inv false o y h = none-some h

pub same_bytes : (xs ys : List ℕ) → bytes_eq xs ys ≡ true → xs ≡ ys
same_bytes xs ys h = (bytes_eq-Decides xs ys).0 h

-- ---- words

pub word_split : (bytes : List ℕ) → bytes ≡ word bytes ++ past_word bytes
word_split [] = refl
word_split (byte ∷ bytes) = by (byte == 32) (word_split bytes)
  where
    by : (b : Bool) → bytes ≡ word bytes ++ past_word bytes → byte ∷ bytes ≡ cond b [] (byte ∷ word bytes) ++ cond b (byte ∷ bytes) (past_word bytes)
    by true h = refl
    by false h = ap (λ (z : List ℕ). byte ∷ z) h

pub name-found : (bytes name : List ℕ) → name_of bytes ≡ Some name → (bytes ≡ name) × (is_name name ≡ true)
name-found bytes name h =
    let (is, same) = if-inv (is_name bytes) (Some bytes) name h in
    (some-same same, subst (λ z. is_name z ≡ true) (some-same same) is)

-- a name behind a prefix
worded : (prefix bytes rest name : List ℕ) → behind prefix bytes ≡ Some rest → name ≡ word rest → bytes ≡ (prefix ++ name) ++ past_word rest
worded prefix bytes rest name h e =
    front_of prefix bytes rest h ∙ ap (λ (z : List ℕ). prefix ++ z) (word_split rest) ∙ sym (append_assoc prefix (word rest) (past_word rest))
    ∙ ap (λ (z : List ℕ). (prefix ++ z) ++ past_word rest) (sym e)

pub flag-found : (part bytes : List ℕ) → bytes ≡ cond (flag part bytes).0 part [] ++ (flag part bytes).1
flag-found part bytes = by (behind part bytes) refl
  where
    by : (o : Option (List ℕ)) → behind part bytes ≡ o → bytes ≡ cond (flag_by o bytes).0 part [] ++ (flag_by o bytes).1
    by None e = refl
    by (Some rest) e = front_of part bytes rest e

-- ---- the parts of a row

pub id-found : (bytes : List ℕ) (found : Option (List ℕ) × List ℕ) → id_of bytes ≡ Some found → (bytes ≡ id_part found.0 ++ found.1) × (id_is_typed found.0 ≡ true)
id-found bytes found h = by (behind (codes " #") bytes) refl h
  where
    Is : Option (List ℕ) × List ℕ → Type 0
    Is f = (bytes ≡ id_part f.0 ++ f.1) × (id_is_typed f.0 ≡ true)

    by : (o : Option (List ℕ)) → behind (codes " #") bytes ≡ o → id_by o bytes ≡ Some found → Is found
    by None e g = subst Is (some-same g) (refl, refl)
    by (Some rest) e g =
        let (name, is, same) = map-inv (λ (name : List ℕ). (Some name, past_word rest)) (name_of (word rest)) found g in
        let (spelled, typed) = name-found (word rest) name is in
        subst Is same (worded (codes " #") bytes rest name e (sym spelled), typed)

pub classes-found : (n : ℕ) (bytes : List ℕ) (found : List (List ℕ) × List ℕ) → classes_within n bytes ≡ Some found
    → (bytes ≡ class_parts found.0 ++ found.1) × (list_all is_name found.0 ≡ true)
classes-found zero bytes found h = subst (λ (f : List (List ℕ) × List ℕ). (bytes ≡ class_parts f.0 ++ f.1) × (list_all is_name f.0 ≡ true)) (some-same h) (refl, refl)
classes-found (suc n) bytes found h = by (behind (codes " .") bytes) refl (λ rest f g. classes-found n rest f g) h
  where
    Is : List ℕ → List (List ℕ) × List ℕ → Type 0
    Is all f = (all ≡ class_parts f.0 ++ f.1) × (list_all is_name f.0 ≡ true)

    by : (o : Option (List ℕ)) → behind (codes " .") bytes ≡ o → ((rest : List ℕ) (f : List (List ℕ) × List ℕ) → classes_within n rest ≡ Some f → Is rest f)
        → class_by o bytes (classes_within n) ≡ Some found → Is bytes found
    by None e more g = subst (Is bytes) (some-same g) (refl, refl)
    by (Some rest) e more g =
        let (named, inner) = if-inv (is_name (word rest)) (option_map (λ (f : List (List ℕ) × List ℕ). (word rest ∷ f.0, f.1)) (classes_within n (past_word rest))) found g in
        let (f, is, same) = map-inv (λ (f : List (List ℕ) × List ℕ). (word rest ∷ f.0, f.1)) (classes_within n (past_word rest)) found inner in
        let (spelled, typed) = more (past_word rest) f is in
        subst (Is bytes) same (
          worded (codes " .") bytes rest (word rest) e refl ∙ ap (λ (z : List ℕ). (codes " ." ++ word rest) ++ z) spelled ∙ sym (append_assoc (codes " ." ++ word rest) (class_parts f.0) f.1),
          and_from (is_name (word rest)) (list_all is_name f.0) named typed,
        )

pub class_list-found : (bytes : List ℕ) (found : List (List ℕ) × List ℕ) → classes_of bytes ≡ Some found
    → (bytes ≡ class_parts found.0 ++ found.1) × (list_all is_name found.0 ≡ true) × (no_repeats found.0 ≡ true)
class_list-found bytes found h =
    let (f, is, checked) = then-inv (λ (f : List (List ℕ) × List ℕ). cond (no_repeats f.0) (Some f) None) (classes_within (length bytes) bytes) found h in
    let (once, same) = if-inv (no_repeats f.0) (Some f) found checked in
    let (spelled, typed) = classes-found (length bytes) bytes f is in
    subst (λ (f : List (List ℕ) × List ℕ). (bytes ≡ class_parts f.0 ++ f.1) × (list_all is_name f.0 ≡ true) × (no_repeats f.0 ≡ true)) (some-same same) (spelled, typed, once)

-- what is kept of a state that was read
pub record IsState (kind : Kind) (state : Private) : Type 0 where
  pub part : (size : ℕ) → private_part (kept kind size state) ≡ private_part state
  pub spelled : (size : ℕ) → private_is_spelled kind (kept kind size state) ≡ true
  pub again : (size : ℕ) → kept kind size (kept kind size state) ≡ kept kind size state

on_part : (b : Bool) → cond b (codes " on") [] ≡ private_part (On b)
on_part true = refl
on_part false = refl

pub number-found : (limit n : ℕ) (digits : List ℕ) → number_at_most limit digits ≡ Some n → nat_le n limit ≡ true
number-found limit n digits h =
    let (fits, same) = if-inv _ _ n h in
    subst (λ (z : ℕ). nat_le z limit ≡ true) (some-same same) (and_parts _ _ fits).1

pub total-found : (digits : List ℕ) (n : ℕ) → total_of digits ≡ Some n → (digits ≡ decimal n) × (nat_le 1 n ≡ true) × (nat_le n 1000000 ≡ true) × (not (n == 100) ≡ true)
total-found digits n h =
    let (m, is, checked) = then-inv (λ (n : ℕ). cond (is_total digits n) (Some n) None) (number_at_most 1000000 digits) n h in
    let (good, same) = if-inv (is_total digits m) (Some m) n checked in
    subst (λ (z : ℕ). (digits ≡ decimal z) × (nat_le 1 z ≡ true) × (nat_le z 1000000 ≡ true) × (not (z == 100) ≡ true)) (some-same same) (
      sym (same_bytes (decimal m) digits (and_parts _ _ good).0),
      (and_parts _ _ (and_parts _ _ good).1).0,
      number-found 1000000 m digits is,
      (and_parts _ _ (and_parts _ _ good).1).1,
    )

other_total : (n : ℕ) → not (n == 100) ≡ true → private_part (Bar 0 n) ≡ codes " total " ++ decimal n
other_total n h = by (n == 100) h
  where
    by : (b : Bool) → not b ≡ true → cond b [] (codes " total " ++ decimal n) ≡ codes " total " ++ decimal n
    by true h = absurd cc
    by false h = refl

-- what was read behind such a state
abbrev IsFound : Kind → List ℕ → Private × List ℕ → Type 0
IsFound kind bytes f = (bytes ≡ private_part f.0 ++ f.1) × IsState kind f.0

-- the state of a kind that begins with this one is spelled, where it is of the same form
spelled-by : (kind : Kind) (first state : Private) → first_state kind ≡ first → (is_alike first state && total_is_spelled state) ≡ true → private_is_spelled kind state ≡ true
spelled-by kind first state e h = ap (λ (z : Private). is_alike z state && total_is_spelled state) e ∙ h

bar-found : (kind : Kind) (done total : ℕ) → first_state kind ≡ Bar done total → (bytes : List ℕ) (found : Private × List ℕ) → bar_by (behind (codes " total ") bytes) bytes ≡ Some found → IsFound kind bytes found
bar-found kind done total first bytes found h = by (behind (codes " total ") bytes) refl h
  where
    by : (o : Option (List ℕ)) → behind (codes " total ") bytes ≡ o → bar_by o bytes ≡ Some found → IsFound kind bytes found
    by None e g = subst (IsFound kind bytes) (some-same g) (refl, record { part = λ size. refl; spelled = λ size. spelled-by kind (Bar done total) (Bar 0 100) first refl; again = λ size. refl })
    by (Some rest) e g =
        let (n, is, same) = map-inv (λ (total : ℕ). (Bar 0 total, past_word rest)) (total_of (word rest)) found g in
        let (digits, least, most, other) = total-found (word rest) n is in
        subst (IsFound kind bytes) same (
          worded (codes " total ") bytes rest (decimal n) e (sym digits) ∙ ap (λ (z : List ℕ). z ++ past_word rest) (sym (other_total n other)),
          record { part = λ size. refl; spelled = λ size. spelled-by kind (Bar done total) (Bar 0 n) first (and_from _ _ least most); again = λ size. refl },
        )

box-found : (kind : Kind) (on : Bool) → first_state kind ≡ On on → (bytes : List ℕ) (found : Private × List ℕ) → box_by (flag (codes " on") bytes) ≡ Some found → IsFound kind bytes found
box-found kind on first bytes found h =
    subst (IsFound kind bytes) (some-same h) (
      flag-found (codes " on") bytes ∙ ap (λ (z : List ℕ). z ++ (flag (codes " on") bytes).1) (on_part (flag (codes " on") bytes).0),
      record { part = λ size. refl; spelled = λ size. spelled-by kind (On on) (On (flag (codes " on") bytes).0) first refl; again = λ size. refl },
    )

found-by : (kind : Kind) (first : Private) → first_state kind ≡ first → (bytes : List ℕ) (found : Private × List ℕ) → private_by (private_at 0 first) bytes ≡ Some found → IsFound kind bytes found
found-by kind (On on) e bytes found h = box-found kind on e bytes found h
found-by kind (Bar done total) e bytes found h = bar-found kind done total e bytes found h
found-by kind Plain e bytes found h = subst (IsFound kind bytes) (some-same h) (
  refl,
  record {
    part = λ size. ap (λ (z : Private). private_part (private_at size z)) e;
    spelled = λ size. ap (λ (z : Private). is_alike z (private_at size z) && total_is_spelled (private_at size z)) e;
    again = λ size. ap (λ (z : Private). kept kind size (private_at size z)) e;
  },
)
found-by kind (Cursor place) e bytes found h = subst (IsFound kind bytes) (some-same h) (
  refl,
  record {
    part = λ size. ap (λ (z : Private). private_part (private_at size z)) e;
    spelled = λ size. ap (λ (z : Private). is_alike z (private_at size z) && total_is_spelled (private_at size z)) e;
    again = λ size. ap (λ (z : Private). kept kind size (private_at size z)) e;
  },
)
found-by kind (Chosen line) e bytes found h = subst (IsFound kind bytes) (some-same h) (
  refl,
  record {
    part = λ size. ap (λ (z : Private). private_part (private_at size z)) e;
    spelled = λ size. ap (λ (z : Private). is_alike z (private_at size z) && total_is_spelled (private_at size z)) e;
    again = λ size. ap (λ (z : Private). kept kind size (private_at size z)) e;
  },
)

pub private-found : (kind : Kind) (bytes : List ℕ) (found : Private × List ℕ) → private_of kind bytes ≡ Some found
    → (bytes ≡ private_part found.0 ++ found.1) × IsState kind found.0
private-found kind bytes found h = found-by kind (first_state kind) refl bytes found h

-- ---- texts

unescaped-found : (byte meant : ℕ) → unescaped byte ≡ Some meant → (escaped meant ≡ 92 ∷ byte ∷ []) × (byte_is_spelled meant ≡ true)
unescaped-found byte meant h = by (byte == 34) (byte == 92) (byte == 110) refl refl refl h
  where
    by : (a b c : Bool) → (byte == 34) ≡ a → (byte == 92) ≡ b → (byte == 110) ≡ c → cond a (Some 34) (cond b (Some 92) (cond c (Some 10) None)) ≡ Some meant
        → (escaped meant ≡ 92 ∷ byte ∷ []) × (byte_is_spelled meant ≡ true)
    by true b c e f g h = subst (λ (m : ℕ). (escaped m ≡ 92 ∷ byte ∷ []) × (byte_is_spelled m ≡ true)) (some-same h) (ap (λ (z : ℕ). 92 ∷ z ∷ []) (sym (same-byte byte 34 e)), refl)
    by false true c e f g h = subst (λ (m : ℕ). (escaped m ≡ 92 ∷ byte ∷ []) × (byte_is_spelled m ≡ true)) (some-same h) (ap (λ (z : ℕ). 92 ∷ z ∷ []) (sym (same-byte byte 92 f)), refl)
    by false false true e f g h = subst (λ (m : ℕ). (escaped m ≡ 92 ∷ byte ∷ []) × (byte_is_spelled m ≡ true)) (some-same h) (ap (λ (z : ℕ). 92 ∷ z ∷ []) (sym (same-byte byte 110 g)), refl)
    by false false false e f g h = none-some h

put-inv : (o : Option ℕ) (rest : Option (List ℕ × List ℕ)) (found : List ℕ × List ℕ) → put_front o rest ≡ Some found
    → (byte : ℕ) × (f : List ℕ × List ℕ) × (o ≡ Some byte) × (rest ≡ Some f) × ((byte ∷ f.0, f.1) ≡ found)
put-inv None rest found h = none-some h
put-inv (Some byte) rest found h =
    let (f, is, same) = map-inv (λ (f : List ℕ × List ℕ). (byte ∷ f.0, f.1)) rest found h in
    (byte, f, refl, is, same)

itself : (byte : ℕ) → (byte == 34) ≡ false → (byte == 92) ≡ false → is_plain byte ≡ true → escaped byte ≡ byte ∷ []
itself byte a b p = by (byte == 34) (byte == 92) (byte == 10) a b (and_parts _ _ p).1
  where
    by : (x y z : Bool) → x ≡ false → y ≡ false → not z ≡ true → cond x (codes "\\\"") (cond y (codes "\\\\") (cond z (codes "\\n") (byte ∷ []))) ≡ byte ∷ []
    by true y z a b c = absurd cc
    by false true z a b c = absurd cc
    by false false true a b c = absurd cc
    by false false false a b c = refl

-- the text so far, the closing quote, and what stands behind
abbrev IsQuoted : Bool → List ℕ → List ℕ × List ℕ → Type 0
IsQuoted escape bytes f = (cond escape (92 ∷ bytes) bytes ≡ flat_map escaped f.0 ++ (34 ∷ f.1)) × (list_all byte_is_spelled f.0 ≡ true)

one_more : (byte : ℕ) (front bytes : List ℕ) (f : List ℕ × List ℕ) → escaped byte ≡ front → byte_is_spelled byte ≡ true → IsQuoted false bytes f
    → IsQuoted false (front ++ bytes) (byte ∷ f.0, f.1)
one_more byte front bytes f e p h = (
  ap (λ (z : List ℕ). front ++ z) h.0 ∙ sym (append_assoc front (flat_map escaped f.0) (34 ∷ f.1)) ∙ ap (λ (z : List ℕ). (z ++ flat_map escaped f.0) ++ (34 ∷ f.1)) (sym e),
  and_from (byte_is_spelled byte) (list_all byte_is_spelled f.0) p h.1,
)

pub quoted-found : (escape : Bool) (bytes : List ℕ) (found : List ℕ × List ℕ) → quoted escape bytes ≡ Some found → IsQuoted escape bytes found
quoted-found true [] found h = none-some h
quoted-found false [] found h = none-some h
quoted-found true (byte ∷ bytes) found h =
    let (meant, f, is, rest, same) = put-inv (unescaped byte) (quoted false bytes) found h in
    let (spelled, good) = unescaped-found byte meant is in
    subst (IsQuoted true (byte ∷ bytes)) same (one_more meant (92 ∷ byte ∷ []) bytes f spelled good (quoted-found false bytes f rest))
quoted-found false (byte ∷ bytes) found h = by (byte == 34) (byte == 92) (is_plain byte) refl refl refl (λ f g. quoted-found true bytes f g) (λ f g. quoted-found false bytes f g) h
  where
    by : (a b c : Bool) → (byte == 34) ≡ a → (byte == 92) ≡ b → is_plain byte ≡ c
        → ((f : List ℕ × List ℕ) → quoted true bytes ≡ Some f → IsQuoted true bytes f)
        → ((f : List ℕ × List ℕ) → quoted false bytes ≡ Some f → IsQuoted false bytes f)
        → cond a (Some ([], bytes)) (cond b (quoted true bytes) (cond c (put_front (Some byte) (quoted false bytes)) None)) ≡ Some found
        → IsQuoted false (byte ∷ bytes) found
    by true b c e f g m n h = subst (IsQuoted false (byte ∷ bytes)) (some-same h) (ap (λ (z : ℕ). z ∷ bytes) (same-byte byte 34 e), refl)
    by false true c e f g m n h = let (is, good) = m found h in (ap (λ (z : ℕ). z ∷ bytes) (same-byte byte 92 f) ∙ is, good)
    by false false true e f g m n h =
        let (b, q, is, rest, same) = put-inv (Some byte) (quoted false bytes) found h in
        let this : byte ≡ b = some-same is in
        subst (IsQuoted false (byte ∷ bytes)) (ap (λ (z : ℕ). (z ∷ q.0, q.1)) this ∙ same) (one_more byte (byte ∷ []) bytes q (itself byte e f g) (and_parts _ _ g).0 (n q rest))
    by false false false e f g m n h = none-some h

filled : (text : List ℕ) → not (length text == 0) ≡ true → (byte : ℕ) × (bytes : List ℕ) × (text ≡ byte ∷ bytes)
filled [] h = absurd cc
filled (byte ∷ bytes) h = (byte, bytes, refl)

pub some_text-found : (bytes text : List ℕ) → some_text bytes ≡ Some text → (bytes ≡ text) × (is_utf8 text ≡ true) × (not (length text == 0) ≡ true)
some_text-found bytes text h =
    let (good, same) = if-inv (is_utf8 bytes && not (length bytes == 0)) (Some bytes) text h in
    let e : bytes ≡ text = some-same same in
    (e, subst (λ (z : List ℕ). is_utf8 z ≡ true) e (and_parts _ _ good).0, subst (λ (z : List ℕ). not (length z == 0) ≡ true) e (and_parts _ _ good).1)

nil_utf8 : is_utf8 [] ≡ true
nil_utf8 = is_utf8-from_IsUtf8 [] IsUtf8-nil

text_part-filled : (text : List ℕ) → not (length text == 0) ≡ true → text_part text ≡ codes " \"" ++ flat_map escaped text ++ codes "\""
text_part-filled [] h = absurd cc
text_part-filled (byte ∷ bytes) h = refl

inline_part-filled : (text : List ℕ) → not (length text == 0) ≡ true → inline_part text ≡ codes " {" ++ text ++ codes "}"
inline_part-filled [] h = absurd cc
inline_part-filled (byte ∷ bytes) h = refl

abbrev IsText : List ℕ → List ℕ × List ℕ → Type 0
IsText bytes f = (bytes ≡ text_part f.0 ++ f.1) × (list_all byte_is_spelled f.0 ≡ true) × (is_utf8 f.0 ≡ true)

pub text-found : (bytes : List ℕ) (found : List ℕ × List ℕ) → text_of bytes ≡ Some found → IsText bytes found
text-found bytes found h = by (behind (codes " \"") bytes) refl h
  where
    by : (o : Option (List ℕ)) → behind (codes " \"") bytes ≡ o → text_by o bytes ≡ Some found → IsText bytes found
    by None e g = subst (IsText bytes) (some-same g) (refl, refl, nil_utf8)
    by (Some rest) e g =
        let (f, is, more) = then-inv (λ (f : List ℕ × List ℕ). option_map (λ (text : List ℕ). (text, f.1)) (some_text f.0)) (quoted false rest) found g in
        let (text, some, same) = map-inv (λ (text : List ℕ). (text, f.1)) (some_text f.0) found more in
        let (e2, utf8, full) = some_text-found f.0 text some in
        let (spelled, good) = quoted-found false rest f is in
        let front : bytes ≡ (codes " \"" ++ flat_map escaped text ++ codes "\"") ++ f.1 =
        front_of (codes " \"") bytes rest e ∙ ap (λ (z : List ℕ). codes " \"" ++ z) spelled ∙ ap (λ (z : List ℕ). codes " \"" ++ (flat_map escaped z ++ (34 ∷ f.1))) e2
        ∙ sym (append_assoc (codes " \"") (flat_map escaped text) (codes "\"" ++ f.1))
        ∙ sym (append_assoc (codes " \"" ++ flat_map escaped text) (codes "\"") f.1) in
        subst (IsText bytes) same (
          front ∙ ap (λ (z : List ℕ). z ++ f.1) (sym (text_part-filled text full)),
          subst (λ (z : List ℕ). list_all byte_is_spelled z ≡ true) e2 good,
          utf8,
        )

pub before_brace-found : (bytes text : List ℕ) → before_brace bytes ≡ Some text → bytes ≡ text ++ codes "}"
before_brace-found bytes text h =
    let (is, same) = if-inv (bytes_eq (drop (length bytes - 1) bytes) (codes "}")) (Some (take (length bytes - 1) bytes)) text h in
    sym (take-append-drop (length bytes - 1) bytes) ∙ ap₂ (λ (x y : List ℕ). x ++ y) (some-same same) (same_bytes _ _ is)

nothing : (bytes : List ℕ) → (length bytes == 0) ≡ true → bytes ≡ []
nothing [] h = refl
nothing (byte ∷ bytes) h = let none = same-byte _ 0 h in absurd (omega (arith, none))

pub inline-found : (bytes inline : List ℕ) → inline_of bytes ≡ Some inline → (bytes ≡ inline_part inline) × (is_utf8 inline ≡ true)
inline-found bytes inline h = by (behind (codes " {") bytes) refl h
  where
    by : (o : Option (List ℕ)) → behind (codes " {") bytes ≡ o → inline_by o bytes ≡ Some inline → (bytes ≡ inline_part inline) × (is_utf8 inline ≡ true)
    by None e g =
        let (none, same) = if-inv (length bytes == 0) (Some []) inline g in
        subst (λ (z : List ℕ). (bytes ≡ inline_part z) × (is_utf8 z ≡ true)) (some-same same) (nothing bytes none, nil_utf8)
    by (Some rest) e g =
        let (text, is, more) = then-inv some_text (before_brace rest) inline g in
        let (e2, utf8, full) = some_text-found text inline more in (
          front_of (codes " {") bytes rest e ∙ ap (λ (z : List ℕ). codes " {" ++ z) (before_brace-found rest text is) ∙ ap (λ (z : List ℕ). codes " {" ++ (z ++ codes "}")) e2
              ∙ sym (append_assoc (codes " {") inline (codes "}")) ∙ sym (inline_part-filled inline full),
          utf8,
        )
