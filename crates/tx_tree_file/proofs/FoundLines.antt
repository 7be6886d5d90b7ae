-- What is read of a line is spelled so.
use Rattle.std.proofs.lemmas.Bool.{and_parts, and_from}
use Rattle.std.proofs.Common.{◌≡◌, ℕ, ◌≤◌, ◌==◌, ◌&&◌, Bool, true, false, cond, not, nat_le, List, [], ◌∷◌, ◌++◌, length, flat_map, find, Option, Some, None, is_some, option_map, refl, ap, ap₂, sym, subst, ◌∙◌, arith, append-nil, length-append, codes, decimal, chars, bytes_eq, encode_utf8, encode_utf8_all}
use Rattle.std.specs.List.{list_all}
use Rattle.std.specs.Str.{is_utf8, all_scalars}
use Rattle.std.proofs.lemmas.Str.{IsUtf8-from_is_utf8, encodes-chars, scalars-chars}
use Rattle.tx_read.specs.Number.{number_at_most}
use Rattle.tx_read.specs.Pieces.{behind}
use Rattle.tx_tree.proofs.lemmas.Kinds.{find_passes}
use Rattle.tx_tree.specs.Kind.{kind_name, built_in, kind_named}
use Rattle.tx_text.specs.Name.{is_name}
use Rattle.tx_tree.specs.Row.{placed}
use Rattle.tx_tree.specs.Spelled.{begins_capital, no_line_feed, key_is_spelled, kind_is_spelled, is_built_in, is_spelled}
use Rattle.tx_tree.specs.declared.bind.Action.{Action}
use Rattle.tx_tree.specs.declared.bind.Action.TheVariants.{ToggleClass}
use Rattle.tx_tree.specs.declared.bind.Bind.{Bind}
use Rattle.tx_tree.specs.declared.bind.Key.{Key}
use Rattle.tx_tree.specs.declared.bind.Key.TheVariants.{Char, Function, Ctrl}
use Rattle.tx_tree.specs.declared.kind.Kind.{Kind}
use Rattle.tx_tree.specs.declared.kind.Kind.TheVariants.{Handed}
use Rattle.tx_tree.specs.declared.kind.Private.{Private}
use Rattle.tx_tree.specs.declared.row.NewRow.{NewRow}
use Rattle.tx_tree_file.proofs.FoundParts.{map-inv, then-inv, if-inv, same_bytes, word_split, name-found, flag-found, id-found, class_list-found, private-found, number-found, text-found, inline-found}
use Rattle.tx_tree_file.proofs.Fronts.{some-same, none-some, front_of}
use Rattle.tx_tree_file.specs.Parts.{word, past_word, name_of, flag, or_handed, kind_of, id_of, classes_of, private_of, text_of, inline_of, named_keys, function_by, function_of, control_of, or_key, long_key, only_char, char_key, key_by, key_of, named_actions, or_toggle, action_of}
use Rattle.tx_tree_file.specs.Spelling.{id_part, class_parts, disabled_part, private_part, escaped, text_part, inline_part, row_text, key_name, action_name, priority_part, bind_text}
use Rattle.tx_tree_file.specs.TreeFile.{kind_is_typed, key_is_typed, action_is_typed, bind_is_typed, is_typed, kept}
use Rattle.tx_tree_file.specs.TreeReading.{◌>>=◌, row_of, bind_of}

pub bind-inv : {A B : Type 0} (f : A → Option B) (o : Option A) (y : B) → (o >>= f) ≡ Some y → (x : A) × (o ≡ Some x) × (f x ≡ Some y)
bind-inv f None y h = none-some h
bind-inv f (Some x) y h = (x, refl, h)

-- ---- what is found in a list

pub find-found : {A : Type 0} (name : List ℕ) (f : A → List ℕ) (xs : List A) (y : A) → find (λ x. bytes_eq name (f x)) xs ≡ Some y → name ≡ f y
find-found name f [] y h = none-some h
find-found name f (x ∷ xs) y h = by (bytes_eq name (f x)) refl (find-found name f xs y) h
  where
    by : (b : Bool) → bytes_eq name (f x) ≡ b → (find (λ x. bytes_eq name (f x)) xs ≡ Some y → name ≡ f y) → cond b (Some x) (find (λ x. bytes_eq name (f x)) xs) ≡ Some y → name ≡ f y
    by true e more g = same_bytes name (f x) e ∙ ap f (some-same g)
    by false e more g = more g

-- ---- kinds

pub record IsKind (name : List ℕ) (kind : Kind) : Type 0 where
  pub text : name ≡ kind_name kind
  pub spelled : kind_is_spelled kind ≡ true
  pub typed : kind_is_typed kind ≡ true

pub kind-found : (name : List ℕ) (kind : Kind) → kind_of name ≡ Some kind → IsKind name kind
unfolding kind_named
kind-found name kind h =
    let (utf8, inner) = if-inv (is_utf8 name) (or_handed name (kind_named name)) kind h in
    by (kind_named name) refl inner
  where
    by : (o : Option Kind) → kind_named name ≡ o → or_handed name o ≡ Some kind → IsKind name kind
    by (Some k) e g = subst (IsKind name) (some-same g) (record {
      text = find-found name kind_name built_in k e;
      spelled = find_passes (λ kind. bytes_eq name (kind_name kind)) kind_is_spelled built_in k refl e;
      typed = find_passes (λ kind. bytes_eq name (kind_name kind)) kind_is_typed built_in k refl e;
    })
    by None e g =
        let (good, same) = if-inv (is_name name && begins_capital name) (Some (Handed name)) kind g in
        subst (IsKind name) (some-same same) (record {
          text = refl;
          spelled = and_from (begins_capital name) (not (is_built_in name)) (and_parts _ _ good).1 (ap (λ (o : Option Kind). not (is_some o)) e);
          typed = (and_parts _ _ good).0;
        })

-- ---- rows

disabled-part : (b : Bool) → cond b (codes " disabled") [] ≡ disabled_part b
disabled-part true = refl
disabled-part false = refl

pub record IsRowText (bytes : List ℕ) (new : NewRow) : Type 0 where
  pub text : bytes ≡ row_text (placed new 0 0)
  pub typed : is_typed (placed new 0 0) ≡ true
  pub spelled : list_all no_line_feed bytes ≡ true → is_spelled (placed new 0 0) ≡ true
  pub alone : new.binds ≡ []
  pub again : new.private ≡ kept new.kind (length new.text) new.private

pub all-behind : {A : Type 0} (p : A → Bool) (xs ys : List A) → list_all p (xs ++ ys) ≡ true → list_all p ys ≡ true
all-behind p [] ys h = h
all-behind p (x ∷ xs) ys h = all-behind p xs ys (and_parts (p x) _ h).1

all-before : {A : Type 0} (p : A → Bool) (xs ys : List A) → list_all p (xs ++ ys) ≡ true → list_all p xs ≡ true
all-before p [] ys h = refl
all-before p (x ∷ xs) ys h = and_from (p x) (list_all p xs) (and_parts _ _ h).0 (all-before p xs ys (and_parts (p x) _ h).1)

no_feed_inside : (inline : List ℕ) → list_all no_line_feed (inline_part inline) ≡ true → list_all no_line_feed inline ≡ true
no_feed_inside [] h = refl
no_feed_inside (byte ∷ bytes) h = all-before no_line_feed (byte ∷ bytes) (codes "}") (and_parts true _ (and_parts true _ h).1).1

pub row-found : (bytes : List ℕ) (new : NewRow) → row_of bytes ≡ Some new → IsRowText bytes new
row-found bytes new h0 =
    let (kind, k, h1) = bind-inv _ (kind_of (word bytes)) new h0 in
    let (id, i, h2) = bind-inv _ (id_of (past_word bytes)) new h1 in
    let (classes, c, h3) = bind-inv _ (classes_of id.1) new h2 in
    let (private, p, h4) = bind-inv _ (private_of kind (flag (codes " disabled") classes.1).1) new h3 in
    let (text, t, h5) = bind-inv _ (text_of private.1) new h4 in
    let (inline, n, h6) = bind-inv _ (inline_of text.1) new h5 in
    let is_kind = kind-found (word bytes) kind k in
    let is_id = id-found (past_word bytes) id i in
    let are_classes = class_list-found id.1 classes c in
    let is_private = private-found kind (flag (codes " disabled") classes.1).1 private p in
    let is_text = text-found private.1 text t in
    let is_inline = inline-found text.1 inline n in
    let b = (flag (codes " disabled") classes.1).0 in
    let e7 : text.1 ≡ inline_part inline = is_inline.0 in
    let e6 : private.1 ≡ text_part text.0 ++ inline_part inline = is_text.0 ∙ ap (λ (z : List ℕ). text_part text.0 ++ z) e7 in
    let e5 : (flag (codes " disabled") classes.1).1 ≡ private_part (kept kind (length text.0) private.0) ++ (text_part text.0 ++ inline_part inline) =
    is_private.0 ∙ ap₂ (λ (x y : List ℕ). x ++ y) (sym (is_private.1.part (length text.0))) e6 in
    let e4 : classes.1 ≡ disabled_part b ++ (private_part (kept kind (length text.0) private.0) ++ (text_part text.0 ++ inline_part inline)) =
    flag-found (codes " disabled") classes.1 ∙ ap₂ (λ (x y : List ℕ). x ++ y) (disabled-part b) e5 in
    let e3 = are_classes.0 ∙ ap (λ (z : List ℕ). class_parts classes.0 ++ z) e4 in
    let e2 = is_id.0 ∙ ap (λ (z : List ℕ). id_part id.0 ++ z) e3 in
    let e1 = word_split bytes ∙ ap₂ (λ (x y : List ℕ). x ++ y) is_kind.text e2 in
    subst (IsRowText bytes) (some-same h6) (record {
      text = e1;
      typed = and_from _ _ is_kind.typed (and_from _ _ is_id.1 (and_from _ _ are_classes.1 (and_from _ _ is_text.2 (and_from _ _ is_inline.1 refl))));
      spelled = λ whole. and_from _ _ are_classes.2 (and_from _ _ is_kind.spelled (and_from _ _ is_text.1 (and_from _ _ (no_feed_inside inline
          (all-behind no_line_feed (text_part text.0) (inline_part inline) (all-behind no_line_feed (private_part (kept kind (length text.0) private.0)) _ (all-behind no_line_feed (disabled_part b) _
          (all-behind no_line_feed (class_parts classes.0) _ (all-behind no_line_feed (id_part id.0) _ (all-behind no_line_feed (kind_name kind) _ (ap (list_all no_line_feed) (sym e1) ∙ whole))))))))
          (and_from _ _ refl (is_private.1.spelled (length text.0))))));
      alone = refl;
      again = sym (is_private.1.again (length text.0));
    })

-- ---- the text of a row is shorter than its line

pub suffix-short : (all part rest : List ℕ) → all ≡ part ++ rest → length rest ≤ length all
suffix-short all part rest e = let a = ap length e ∙ length-append part rest in omega (arith, a)

escaped-long : (byte : ℕ) → 1 ≤ length (escaped byte)
escaped-long byte = by (byte == 34) (byte == 92) (byte == 10)
  where
    by : (x y z : Bool) → 1 ≤ length (cond x (codes "\\\"") (cond y (codes "\\\\") (cond z (codes "\\n") (byte ∷ []))))
    by true y z = omega arith
    by false true z = omega arith
    by false false true = omega arith
    by false false false = omega arith

pub all_escaped-long : (text : List ℕ) → length text ≤ length (flat_map escaped text)
all_escaped-long [] = omega arith
all_escaped-long (byte ∷ text) =
    let a = all_escaped-long text in
    let b = escaped-long byte in
    let d = length-append (escaped byte) (flat_map escaped text) in
    omega (arith, a, b, d)

text_part-long : (text : List ℕ) → length text ≤ length (text_part text)
text_part-long [] = omega arith
text_part-long (byte ∷ bytes) =
    let a = all_escaped-long (byte ∷ bytes) in
    let b = length-append (codes " \"") (flat_map escaped (byte ∷ bytes)) in
    let d = length-append (codes " \"" ++ flat_map escaped (byte ∷ bytes)) (codes "\"") in
    omega (arith, a, b, d)

pub short_text : (kind : Kind) (bytes behind_word : List ℕ) (id : Option (List ℕ) × List ℕ) (classes : List (List ℕ) × List ℕ) (after : List ℕ) (private : Private × List ℕ) (text : List ℕ × List ℕ)
    → behind_word ≡ past_word bytes → id_of behind_word ≡ Some id → classes_of id.1 ≡ Some classes → after ≡ (flag (codes " disabled") classes.1).1
    → private_of kind after ≡ Some private → text_of private.1 ≡ Some text → length text.0 ≤ length bytes
short_text kind bytes behind_word id classes after private text w i c f p t =
    let a = suffix-short bytes (word bytes) behind_word (word_split bytes ∙ ap (λ (z : List ℕ). word bytes ++ z) (sym w)) in
    let b = suffix-short behind_word (id_part id.0) id.1 (id-found behind_word id i).0 in
    let d = suffix-short id.1 (class_parts classes.0) classes.1 (class_list-found id.1 classes c).0 in
    let e = suffix-short classes.1 _ after (flag-found (codes " disabled") classes.1 ∙ ap (λ (z : List ℕ). cond (flag (codes " disabled") classes.1).0 (codes " disabled") [] ++ z) (sym f)) in
    let g = suffix-short after (private_part private.0) private.1 (private-found kind after private p).0 in
    let h = ap length (text-found private.1 text t).0 ∙ length-append (text_part text.0) text.1 in
    let j = text_part-long text.0 in
    omega (arith, a, b, d, e, g, h, j)

-- ---- bindings

pub record IsKey (name : List ℕ) (key : Key) : Type 0 where
  pub text : name ≡ key_name key
  pub spelled : key_is_spelled key ≡ true
  pub typed : key_is_typed key ≡ true

only-found : (cs : List ℕ) (c : ℕ) → only_char cs ≡ Some c → cs ≡ c ∷ []
only-found [] c h = none-some h
only-found (d ∷ []) c h = ap (λ (z : ℕ). z ∷ []) (some-same h)
only-found (d ∷ e ∷ cs) c h = none-some h

not-blank : (c : ℕ) → not (c == 32) ≡ true → encode_utf8 c ≡ key_name (Char c)
not-blank c h = by (c == 32) h
  where
    by : (b : Bool) → not b ≡ true → encode_utf8 c ≡ cond b (codes "space") (encode_utf8 c)
    by true h = absurd cc
    by false h = refl

char-found : (name : List ℕ) (c : ℕ) (key : Key) → is_utf8 name ≡ true → only_char (chars name) ≡ Some c → char_key c ≡ Some key → IsKey name key
char-found name c key utf8 only h =
    let (good, same) = if-inv (key_is_spelled (Char c) && not (c == 32)) (Some (Char c)) key h in
    let one = only-found (chars name) c only in
    subst (IsKey name) (some-same same) (record {
      text = sym (encodes-chars name (IsUtf8-from_is_utf8 name utf8)) ∙ ap encode_utf8_all one ∙ append-nil (encode_utf8 c) ∙ not-blank c (and_parts _ _ good).1;
      spelled = (and_parts _ _ good).0;
      typed = ap all_scalars (sym one) ∙ scalars-chars name (IsUtf8-from_is_utf8 name utf8);
    })

function-found : (name : List ℕ) (key : Key) → function_of (behind (codes "f") name) ≡ Some key → IsKey name key
function-found name key h = by (behind (codes "f") name) refl h
  where
    by : (o : Option (List ℕ)) → behind (codes "f") name ≡ o → function_of o ≡ Some key → IsKey name key
    by None e g = none-some g
    by (Some digits) e g =
        let (n, is, more) = then-inv (function_by digits) (number_at_most 12 digits) key g in
        let (good, same) = if-inv (bytes_eq (decimal n) digits && nat_le 1 n) (Some (Function n)) key more in
        subst (IsKey name) (some-same same) (record {
          text = front_of (codes "f") name digits e ∙ ap (λ (z : List ℕ). codes "f" ++ z) (sym (same_bytes _ _ (and_parts _ _ good).0));
          spelled = and_from _ _ (and_parts _ _ good).1 (number-found 12 n digits is);
          typed = refl;
        })

control-found : (name : List ℕ) (key : Key) → control_of (behind (codes "ctrl+") name) ≡ Some key → IsKey name key
control-found name key h = by (behind (codes "ctrl+") name) refl h
  where
    by : (o : Option (List ℕ)) → behind (codes "ctrl+") name ≡ o → control_of o ≡ Some key → IsKey name key
    by None e g = none-some g
    by (Some []) e g = none-some g
    by (Some (letter ∷ [])) e g =
        let (good, same) = if-inv (nat_le 97 letter && nat_le letter 122) (Some (Ctrl letter)) key g in
        subst (IsKey name) (some-same same) (record { text = front_of (codes "ctrl+") name (letter ∷ []) e; spelled = good; typed = refl })
    by (Some (letter ∷ next ∷ letters)) e g = none-some g

or_key-found : (name : List ℕ) (key : Key) (o p : Option Key) → ((k : Key) → o ≡ Some k → IsKey name k) → ((k : Key) → p ≡ Some k → IsKey name k) → or_key o p ≡ Some key → IsKey name key
or_key-found name key None p f g h = g key h
or_key-found name key (Some k) p f g h = f key h

long-found : (name : List ℕ) (key : Key) → long_key name ≡ Some key → IsKey name key
long-found name key h =
    or_key-found name key _ _
    (λ k e. record {
      text = find-found name key_name named_keys k e;
      spelled = find_passes (λ key. bytes_eq name (key_name key)) key_is_spelled named_keys k refl e;
      typed = find_passes (λ key. bytes_eq name (key_name key)) key_is_typed named_keys k refl e;
    })
    (λ k e. or_key-found name k _ _ (function-found name) (control-found name) e) h

pub key-found : (name : List ℕ) (key : Key) → key_of name ≡ Some key → IsKey name key
key-found name key h =
    let (utf8, inner) = if-inv (is_utf8 name) (key_by name (only_char (chars name))) key h in
    by (only_char (chars name)) refl utf8 inner
  where
    by : (o : Option ℕ) → only_char (chars name) ≡ o → is_utf8 name ≡ true → key_by name o ≡ Some key → IsKey name key
    by None e u g = long-found name key g
    by (Some c) e u g = char-found name c key u e g

pub action-found : (name : List ℕ) (action : Action) → action_of name ≡ Some action → (name ≡ action_name action) × (action_is_typed action ≡ true)
action-found name action h =
    let (utf8, inner) = if-inv (is_utf8 name) (or_toggle name (find (λ action. bytes_eq name (action_name action)) named_actions)) action h in
    by (find (λ action. bytes_eq name (action_name action)) named_actions) refl inner
  where
    by : (o : Option Action) → find (λ action. bytes_eq name (action_name action)) named_actions ≡ o → or_toggle name o ≡ Some action → (name ≡ action_name action) × (action_is_typed action ≡ true)
    by (Some a) e g = subst (λ (z : Action). (name ≡ action_name z) × (action_is_typed z ≡ true)) (some-same g)
        (find-found name action_name named_actions a e, find_passes (λ action. bytes_eq name (action_name action)) action_is_typed named_actions a refl e)
    by None e g =
        let (class, is, more) = then-inv (λ (class : List ℕ). option_map ToggleClass (name_of class)) (behind (codes "toggle_class ") name) action g in
        let (named, found, same) = map-inv ToggleClass (name_of class) action more in
        let (spelled, typed) = name-found class named found in
        subst (λ (z : Action). (name ≡ action_name z) × (action_is_typed z ≡ true)) same (front_of (codes "toggle_class ") name class is ∙ ap (λ (z : List ℕ). codes "toggle_class " ++ z) spelled, typed)

pub record IsBindText (bytes : List ℕ) (bind : Bind) : Type 0 where
  pub text : bytes ≡ bind_text bind
  pub spelled : key_is_spelled bind.key ≡ true
  pub typed : bind_is_typed bind ≡ true

priority-part : (b : Bool) → cond b (codes "priority ") [] ≡ priority_part b
priority-part true = refl
priority-part false = refl

pub bind-found : (bytes : List ℕ) (bind : Bind) → bind_of bytes ≡ Some bind → IsBindText bytes bind
bind-found bytes bind h0 =
    let (rest, front, h1) = bind-inv _ (behind (codes "bind ") bytes) bind h0 in
    let (key, k, h2) = bind-inv _ (key_of (word (flag (codes "priority ") rest).1)) bind h1 in
    let (more, m, h3) = bind-inv _ (behind (codes " ") (past_word (flag (codes "priority ") rest).1)) bind h2 in
    let (action, a, h4) = bind-inv _ (action_of more) bind h3 in
    let is_key = key-found (word (flag (codes "priority ") rest).1) key k in
    let is_action = action-found more action a in
    let e4 = front_of (codes " ") (past_word (flag (codes "priority ") rest).1) more m ∙ ap (λ (z : List ℕ). codes " " ++ z) is_action.0 in
    let e3 = word_split (flag (codes "priority ") rest).1 ∙ ap₂ (λ (x y : List ℕ). x ++ y) is_key.text e4 in
    let e2 = flag-found (codes "priority ") rest ∙ ap₂ (λ (x y : List ℕ). x ++ y) (priority-part (flag (codes "priority ") rest).0) e3 in
    let e1 = front_of (codes "bind ") bytes rest front ∙ ap (λ (z : List ℕ). codes "bind " ++ z) e2 in
    subst (IsBindText bytes) (some-same h4) (record { text = e1; spelled = is_key.spelled; typed = and_from _ _ is_key.typed is_action.1 })
