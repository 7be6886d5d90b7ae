-- What is spelled is read again, line by line.
use Rattle.std.proofs.lemmas.Bool.{and_parts, and_from}
use Rattle.std.proofs.Common.{◌≡◌, ℕ, zero, suc, ◌+◌, ◌*◌, ◌/◌, ◌%◌, ◌<◌, ◌≤◌, ◌==◌, ◌&&◌, ◌^◌, Bool, true, false, cond, not, nat_le, nat_lt, List, [], ◌∷◌, ◌++◌, length, drop, flat_map, find, Option, Some, None, option_map, option_and_then, refl, ap, ap₂, sym, subst, ◌∙◌, arith, append-nil, codes, decimal, chars, bytes_eq, encode_utf8, encode_utf8_all, IsUtf8, lit<}
use Rattle.std.specs.Char.{is_ascii_digit, encode_utf8 as encode}
use Rattle.std.specs.List.{list_all}
use Rattle.std.specs.Str.{is_utf8, all_scalars}
use Rattle.std.proofs.lemmas.Bool.{false≢true, ne_eqb, le-leb, leb-true, lt-ltb, ltb-true, ltb-false}
use Rattle.std.proofs.lemmas.Bool.Decides.{nat_tests, Decides-eqb}
use Rattle.std.proofs.lemmas.Fmt.{decimal_nonempty}
use Rattle.std.proofs.lemmas.Grind.{flat_map-append}
use Rattle.std.proofs.lemmas.Str.{IsUtf8-from_is_utf8, is_utf8-from_IsUtf8, IsUtf8-from_ascii, IsUtf8-append, IsUtf8-nil, IsUtf8-encode, encode_ascii, chars_from_encodes, chars-IsAscii}
use Rattle.tx_read.specs.Pieces.{behind}
use Rattle.tx_tree.proofs.lemmas.Kinds.{of_kinds}
use Rattle.tx_tree.specs.Kind.{kind_name, has_form}
use Rattle.tx_text.specs.Name.{is_name}
use Rattle.tx_tree.specs.Spelled.{begins_capital, no_repeats, byte_is_spelled, key_is_spelled, kind_is_spelled, private_is_spelled}
use Rattle.tx_tree.specs.declared.bind.Action.{Action}
use Rattle.tx_tree.specs.declared.bind.Action.TheVariants.{FocusNext, FocusPrevious, ToggleDark, ToggleClass, Scroll}
use Rattle.tx_tree.specs.declared.bind.Jump.TheVariants.{Up as JumpUp, Down as JumpDown, Home as JumpHome, End as JumpEnd, PageUp as JumpPageUp, PageDown as JumpPageDown}
use Rattle.tx_tree.specs.declared.bind.Key.{Key}
use Rattle.tx_tree.specs.declared.bind.Key.TheVariants.{Char, Enter, Escape, Tab, ShiftTab, Backspace, Delete, Up, Down, Left, Right, Home, End, PageUp, PageDown, Function, Ctrl}
use Rattle.tx_tree.specs.declared.kind.Kind.{Kind}
use Rattle.tx_tree.specs.declared.kind.Private.{Private}
use Rattle.tx_tree.specs.declared.kind.Private.TheVariants.{Plain, Cursor, On, Chosen, Bar}
use Rattle.tx_tree_file.proofs.AgainParts.{word-again, name-no_blank, named, later-stops, id-later, id-again, classes-later, class_list-again, disabled-later, disabled-again, private-later, private-again, number-again, decimal-no_blank, decimal-digits, same-bytes, text-later, inline-later, text-again, inline-again, kind-again}
use Rattle.tx_tree_file.proofs.Fronts.{none-some, same-byte, self-byte}
use Rattle.tx_tree_file.proofs.Utf8Lemmas.{name_utf8}
use Rattle.tx_tree_file.specs.Parts.{word, flag, flag_by, kind_of, id_of, classes_of, private_of, text_of, inline_of, function_by, or_key, long_key, only_char, key_by, key_of, named_actions, or_toggle, action_of}
use Rattle.tx_tree_file.specs.Spelling.{id_part, class_part, class_parts, disabled_part, private_part, escaped, text_part, inline_part, key_name, action_name}
use Rattle.tx_tree_file.specs.TreeFile.{id_is_typed, kind_is_typed, key_is_typed, action_is_typed, kept}
use Rattle.std.specs.Char.{is_ascii_uppercase}
use Rattle.tx_tree.specs.Kind.{is_screen}
use Rattle.tx_tree.specs.Spelled.{is_spelled, no_line_feed}
use Rattle.tx_tree.specs.declared.bind.Bind.{Bind}
use Rattle.tx_tree.specs.declared.fault.TreeKind.TheVariants.{BadByte, BadIndent, TooDeep, Expected}
use Rattle.tx_tree.specs.declared.row.NewRow.{NewRow}
use Rattle.tx_tree.specs.declared.row.Row.{Row}
use Rattle.std.proofs.Common.{IsAscii, replicate, Ok, Err, add-one}
use Rattle.tx_tree_file.proofs.Fronts.{front_of}
use Rattle.tx_tree_file.specs.Indent.{blanks, past_blanks, starts_bind, ends_word, is_bind_line, may_stand}
use Rattle.tx_tree_file.specs.Spelling.{indent, row_text, bind_text, priority_part}
use Rattle.tx_tree_file.specs.TreeFile.{is_typed, bind_is_typed}
use Rattle.tx_tree_file.specs.TreeReading.{◌>>=◌, row_of, bind_by, bind_of, item_of, binding, widget, row_item, bind_item}
use Rattle.tx_tree_file.specs.Words.{no_blank}
use Rattle.tx_tree_file.specs.declared.line.Item.TheVariants.{Binding, Widget}

-- ---- ASCII

abbrev pub is_low : ℕ → Bool
is_low byte = nat_lt byte 128

pub ascii : (bytes : List ℕ) → list_all is_low bytes ≡ true → IsAscii bytes
ascii [] h i = lit< tt
ascii (b ∷ bytes) h zero = ltb-true b 128 (and_parts _ _ h).0
ascii (b ∷ bytes) h (suc i) = ascii bytes (and_parts (is_low b) _ h).1 i

pub low-utf8 : (bytes : List ℕ) → list_all is_low bytes ≡ true → IsUtf8 bytes
low-utf8 bytes h = IsUtf8-from_ascii bytes (ascii bytes h)

digit-low : (d : ℕ) → is_ascii_digit d ≡ true → is_low d ≡ true
digit-low d h = grind (arith, nat_tests)

digits-low : (ds : List ℕ) → list_all is_ascii_digit ds ≡ true → list_all is_low ds ≡ true
digits-low [] h = refl
digits-low (d ∷ ds) h = and_from (is_low d) (list_all is_low ds) (digit-low d (and_parts _ _ h).0) (digits-low ds (and_parts (is_ascii_digit d) _ h).1)

high_byte : (p : ℕ → Bool) (b : ℕ) (bytes : List ℕ) → ((b : ℕ) → 128 ≤ b → p b ≡ true) → 128 ≤ b → list_all p bytes ≡ true → list_all p (b ∷ bytes) ≡ true
high_byte p b bytes high h more = and_from (p b) (list_all p bytes) (high b h) more

-- a test that all bytes of a character pass
pub encode-all : (p : ℕ → Bool) (c : ℕ) → (c < 128 → p c ≡ true) → ((b : ℕ) → 128 ≤ b → p b ≡ true) → list_all p (encode c) ≡ true
unfolding encode
encode-all p c low high = by (nat_lt c 128) (nat_lt c 2048) (nat_lt c 65536) refl
  where
    by : (x y z : Bool) → nat_lt c 128 ≡ x
        → list_all p (cond x (c ∷ []) (cond y ((192 + c / 64) ∷ (128 + c % 64) ∷ []) (cond z ((224 + c / 4096) ∷ (128 + c / 64 % 64) ∷ (128 + c % 64) ∷ []) ((240 + c / 262144) ∷ (128 + c / 4096 % 64) ∷ (128 + c / 64 % 64) ∷ (128 + c % 64) ∷ [])))) ≡ true
    by true y z e = and_from (p c) true (low (ltb-true c 128 e)) refl
    by false true z e = high_byte p (192 + c / 64) ((128 + c % 64) ∷ []) high (omega arith) (high_byte p (128 + c % 64) [] high (omega arith) refl)
    by false false true e = high_byte p (224 + c / 4096) ((128 + c / 64 % 64) ∷ (128 + c % 64) ∷ []) high (omega arith) (high_byte p (128 + c / 64 % 64) ((128 + c % 64) ∷ []) high (omega arith) (high_byte p (128 + c % 64) [] high (omega arith) refl))
    by false false false e = high_byte p (240 + c / 262144) ((128 + c / 4096 % 64) ∷ (128 + c / 64 % 64) ∷ (128 + c % 64) ∷ []) high (omega arith)
        (high_byte p (128 + c / 4096 % 64) ((128 + c / 64 % 64) ∷ (128 + c % 64) ∷ []) high (omega arith) (high_byte p (128 + c / 64 % 64) ((128 + c % 64) ∷ []) high (omega arith) (high_byte p (128 + c % 64) [] high (omega arith) refl)))

-- ---- keys

long-again : (name : List ℕ) (key : Key) → list_all is_low name ≡ true → only_char name ≡ None → long_key name ≡ Some key → key_of name ≡ Some key
long-again name key h one long =
    ap (λ (b : Bool). cond b (key_by name (only_char (chars name))) None) (is_utf8-from_IsUtf8 name (low-utf8 name h))
    ∙ ap (λ (cs : List ℕ). key_by name (only_char cs)) (chars-IsAscii name (ascii name h))
    ∙ ap (key_by name) one ∙ long

char-again : (c : ℕ) → key_is_spelled (Char c) ≡ true → all_scalars (c ∷ []) ≡ true → (c == 32) ≡ false → key_of (encode_utf8 c) ≡ Some (Char c)
char-again c h s other =
    let utf8 = IsUtf8-encode c (and_parts _ _ s).0 in
    ap (λ (b : Bool). cond b (key_by (encode_utf8 c) (only_char (chars (encode_utf8 c)))) None) (is_utf8-from_IsUtf8 (encode_utf8 c) utf8)
    ∙ ap (λ (cs : List ℕ). key_by (encode_utf8 c) (only_char cs)) (sym (chars_from_encodes (c ∷ []) (encode_utf8 c) utf8 (append-nil (encode_utf8 c))))
    ∙ ap (λ (b : Bool). cond b (Some (Char c)) None) (and_from (key_is_spelled (Char c)) (not (c == 32)) h (ap not other))

filled_digits : (digits : List ℕ) → 0 < length digits → only_char (102 ∷ digits) ≡ None
filled_digits [] h = absurd (omega (arith, h))
filled_digits (d ∷ digits) h = refl

function-again : (n : ℕ) → key_is_spelled (Function n) ≡ true → key_of (key_name (Function n)) ≡ Some (Function n)
function-again n h =
    let most = leb-true n 12 (and_parts (nat_le 1 n) _ h).1 in
    let few : n < 2 ^ 64 = omega (arith, most) in
    long-again (102 ∷ decimal n) (Function n) (digits-low (decimal n) (decimal-digits n few).0) (filled_digits (decimal n) (decimal_nonempty n few))
    (ap (λ (o : Option ℕ). or_key (option_and_then (function_by (decimal n)) o) None) (number-again 12 n few (and_parts (nat_le 1 n) _ h).1)
    ∙ ap (λ (b : Bool). or_key (cond b (Some (Function n)) None) None) (and_from (bytes_eq (decimal n) (decimal n)) (nat_le 1 n) (same-bytes (decimal n)) (and_parts _ _ h).0))

letter-low : (b : ℕ) → (nat_le 97 b && nat_le b 122) ≡ true → is_low b ≡ true
letter-low b h = grind (arith, nat_tests)

letter-no_blank : (b : ℕ) → (nat_le 97 b && nat_le b 122) ≡ true → no_blank b ≡ true
letter-no_blank b h = grind (arith, nat_tests)

control-again : (b : ℕ) → key_is_spelled (Ctrl b) ≡ true → key_of (key_name (Ctrl b)) ≡ Some (Ctrl b)
control-again b h =
    long-again (codes "ctrl+" ++ b ∷ []) (Ctrl b) (and_from (is_low b) true (letter-low b h) refl) refl
    (ap (λ (x : Bool). cond x (Some (Ctrl b)) None) h)

pub key-again : (key : Key) → key_is_spelled key ≡ true → key_is_typed key ≡ true → key_of (key_name key) ≡ Some key
key-again (Char c) h s = by (c == 32) refl
  where
    by : (b : Bool) → (c == 32) ≡ b → key_of (cond b (codes "space") (encode_utf8 c)) ≡ Some (Char c)
    by true e = long-again (codes "space") (Char 32) refl refl refl ∙ ap (λ (z : ℕ). Some (Char z)) (sym (same-byte c 32 e))
    by false e = char-again c h s e
key-again (Function n) h s = function-again n h
key-again (Ctrl b) h s = control-again b h
key-again Enter h s = long-again (codes "enter") Enter refl refl refl
key-again Escape h s = long-again (codes "escape") Escape refl refl refl
key-again Tab h s = long-again (codes "tab") Tab refl refl refl
key-again ShiftTab h s = long-again (codes "shift+tab") ShiftTab refl refl refl
key-again Backspace h s = long-again (codes "backspace") Backspace refl refl refl
key-again Delete h s = long-again (codes "delete") Delete refl refl refl
key-again Up h s = long-again (codes "up") Up refl refl refl
key-again Down h s = long-again (codes "down") Down refl refl refl
key-again Left h s = long-again (codes "left") Left refl refl refl
key-again Right h s = long-again (codes "right") Right refl refl refl
key-again Home h s = long-again (codes "home") Home refl refl refl
key-again End h s = long-again (codes "end") End refl refl refl
key-again PageUp h s = long-again (codes "pageup") PageUp refl refl refl
key-again PageDown h s = long-again (codes "pagedown") PageDown refl refl refl

char-no_blank : (c : ℕ) → (c == 32) ≡ false → list_all no_blank (encode_utf8 c) ≡ true
char-no_blank c e = encode-all no_blank c (λ h. ap not e) (λ b h. ap not (ne_eqb b 32 (λ same. absurd (omega (arith, h, same)))))

pub key-no_blank : (key : Key) → key_is_spelled key ≡ true → list_all no_blank (key_name key) ≡ true
key-no_blank (Char c) h = by (c == 32) refl
  where
    by : (b : Bool) → (c == 32) ≡ b → list_all no_blank (cond b (codes "space") (encode_utf8 c)) ≡ true
    by true e = refl
    by false e = char-no_blank c e
key-no_blank (Function n) h = let most = leb-true n 12 (and_parts (nat_le 1 n) _ h).1 in decimal-no_blank n (omega (arith, most))
key-no_blank (Ctrl b) h = and_from (no_blank b) true (letter-no_blank b h) refl
key-no_blank Enter h = refl
key-no_blank Escape h = refl
key-no_blank Tab h = refl
key-no_blank ShiftTab h = refl
key-no_blank Backspace h = refl
key-no_blank Delete h = refl
key-no_blank Up h = refl
key-no_blank Down h = refl
key-no_blank Left h = refl
key-no_blank Right h = refl
key-no_blank Home h = refl
key-no_blank End h = refl
key-no_blank PageUp h = refl
key-no_blank PageDown h = refl

pub key-utf8 : (key : Key) → key_is_spelled key ≡ true → key_is_typed key ≡ true → IsUtf8 (key_name key)
key-utf8 (Char c) h s = by (c == 32)
  where
    by : (b : Bool) → IsUtf8 (cond b (codes "space") (encode_utf8 c))
    by true = low-utf8 (codes "space") refl
    by false = IsUtf8-encode c (and_parts _ _ s).0
key-utf8 (Function n) h s = let most = leb-true n 12 (and_parts (nat_le 1 n) _ h).1 in low-utf8 (102 ∷ decimal n) (digits-low (decimal n) (decimal-digits n (omega (arith, most))).0)
key-utf8 (Ctrl b) h s = low-utf8 (codes "ctrl+" ++ b ∷ []) (and_from (is_low b) true (letter-low b h) refl)
key-utf8 Enter h s = low-utf8 (codes "enter") refl
key-utf8 Escape h s = low-utf8 (codes "escape") refl
key-utf8 Tab h s = low-utf8 (codes "tab") refl
key-utf8 ShiftTab h s = low-utf8 (codes "shift+tab") refl
key-utf8 Backspace h s = low-utf8 (codes "backspace") refl
key-utf8 Delete h s = low-utf8 (codes "delete") refl
key-utf8 Up h s = low-utf8 (codes "up") refl
key-utf8 Down h s = low-utf8 (codes "down") refl
key-utf8 Left h s = low-utf8 (codes "left") refl
key-utf8 Right h s = low-utf8 (codes "right") refl
key-utf8 Home h s = low-utf8 (codes "home") refl
key-utf8 End h s = low-utf8 (codes "end") refl
key-utf8 PageUp h s = low-utf8 (codes "pageup") refl
key-utf8 PageDown h s = low-utf8 (codes "pagedown") refl

-- ---- actions

pub action-utf8 : (action : Action) → action_is_typed action ≡ true → IsUtf8 (action_name action)
action-utf8 (ToggleClass name) h = IsUtf8-append (codes "toggle_class ") name (low-utf8 (codes "toggle_class ") refl) (name_utf8 name h)
action-utf8 FocusNext h = low-utf8 (codes "focus_next") refl
action-utf8 FocusPrevious h = low-utf8 (codes "focus_previous") refl
action-utf8 ToggleDark h = low-utf8 (codes "toggle_dark") refl
action-utf8 (Scroll JumpUp) h = low-utf8 (codes "scroll_up") refl
action-utf8 (Scroll JumpDown) h = low-utf8 (codes "scroll_down") refl
action-utf8 (Scroll JumpHome) h = low-utf8 (codes "scroll_home") refl
action-utf8 (Scroll JumpEnd) h = low-utf8 (codes "scroll_end") refl
action-utf8 (Scroll JumpPageUp) h = low-utf8 (codes "page_up") refl
action-utf8 (Scroll JumpPageDown) h = low-utf8 (codes "page_down") refl

toggle-again : (o : Option Action) (name : List ℕ) (action : Action) → IsUtf8 name → find (λ a. bytes_eq name (action_name a)) named_actions ≡ o → or_toggle name o ≡ Some action → action_of name ≡ Some action
toggle-again o name action u e g = ap (λ (b : Bool). cond b (or_toggle name (find (λ a. bytes_eq name (action_name a)) named_actions)) None) (is_utf8-from_IsUtf8 name u) ∙ ap (or_toggle name) e ∙ g

pub action-again : (action : Action) → action_is_typed action ≡ true → action_of (action_name action) ≡ Some action
action-again (ToggleClass name) h = toggle-again None (codes "toggle_class " ++ name) (ToggleClass name) (action-utf8 (ToggleClass name) h) refl (ap (option_map ToggleClass) (named name h))
action-again FocusNext h = toggle-again (Some FocusNext) (codes "focus_next") FocusNext (low-utf8 (codes "focus_next") refl) refl refl
action-again FocusPrevious h = toggle-again (Some FocusPrevious) (codes "focus_previous") FocusPrevious (low-utf8 (codes "focus_previous") refl) refl refl
action-again ToggleDark h = toggle-again (Some ToggleDark) (codes "toggle_dark") ToggleDark (low-utf8 (codes "toggle_dark") refl) refl refl
action-again (Scroll JumpUp) h = toggle-again (Some (Scroll JumpUp)) (codes "scroll_up") (Scroll JumpUp) (low-utf8 (codes "scroll_up") refl) refl refl
action-again (Scroll JumpDown) h = toggle-again (Some (Scroll JumpDown)) (codes "scroll_down") (Scroll JumpDown) (low-utf8 (codes "scroll_down") refl) refl refl
action-again (Scroll JumpHome) h = toggle-again (Some (Scroll JumpHome)) (codes "scroll_home") (Scroll JumpHome) (low-utf8 (codes "scroll_home") refl) refl refl
action-again (Scroll JumpEnd) h = toggle-again (Some (Scroll JumpEnd)) (codes "scroll_end") (Scroll JumpEnd) (low-utf8 (codes "scroll_end") refl) refl refl
action-again (Scroll JumpPageUp) h = toggle-again (Some (Scroll JumpPageUp)) (codes "page_up") (Scroll JumpPageUp) (low-utf8 (codes "page_up") refl) refl refl
action-again (Scroll JumpPageDown) h = toggle-again (Some (Scroll JumpPageDown)) (codes "page_down") (Scroll JumpPageDown) (low-utf8 (codes "page_down") refl) refl refl

-- ---- bindings

same_word : (a b x y : List ℕ) → list_all no_blank a ≡ true → list_all no_blank b ≡ true → a ++ (32 ∷ x) ≡ b ++ (32 ∷ y) → a ≡ b
same_word a b x y h g e = sym (word-again a (32 ∷ x) h refl).0 ∙ ap word e ∙ (word-again b (32 ∷ y) g refl).0

no_priority : (key : Key) (rest : List ℕ) → key_is_spelled key ≡ true → key_is_typed key ≡ true → behind (codes "priority ") (key_name key ++ (32 ∷ rest)) ≡ None
no_priority key rest h s = by (behind (codes "priority ") (key_name key ++ (32 ∷ rest))) refl
  where
    none : key_of (codes "priority") ≡ None
    none =
        ap (λ (b : Bool). cond b (key_by (codes "priority") (only_char (chars (codes "priority")))) None) (is_utf8-from_IsUtf8 (codes "priority") (low-utf8 (codes "priority") refl))
        ∙ ap (λ (cs : List ℕ). key_by (codes "priority") (only_char cs)) (chars-IsAscii (codes "priority") (ascii (codes "priority") refl))

    by : (o : Option (List ℕ)) → behind (codes "priority ") (key_name key ++ (32 ∷ rest)) ≡ o → o ≡ None
    by None e = refl
    by (Some more) e =
        let same : key_name key ≡ codes "priority" = same_word (key_name key) (codes "priority") rest more (key-no_blank key h) refl (front_of (codes "priority ") (key_name key ++ (32 ∷ rest)) more e) in
        none-some (sym none ∙ ap key_of (sym same) ∙ key-again key h s)

pub bind-again : (bind : Bind) → key_is_spelled bind.key ≡ true → bind_is_typed bind ≡ true → bind_of (bind_text bind) ≡ Some bind
bind-again bind h t = by bind.priority refl
  where
    rest : List ℕ
    rest = key_name bind.key ++ (32 ∷ action_name bind.action)

    read : (b : Bool) → b ≡ bind.priority → bind_by (b, rest) ≡ Some bind
    read b e =
        let w = word-again (key_name bind.key) (32 ∷ action_name bind.action) (key-no_blank bind.key h) refl in
        ap₂ (λ (x y : List ℕ). key_of x >>= (λ key. behind (codes " ") y >>= (λ more. action_of more >>= (λ action. Some (record { key = key; action = action; priority = b }))))) w.0 w.1
        ∙ ap (λ (o : Option Key). o >>= (λ key. action_of (action_name bind.action) >>= (λ action. Some (record { key = key; action = action; priority = b })))) (key-again bind.key h (and_parts _ _ t).0)
        ∙ ap (λ (o : Option Action). o >>= (λ action. Some (record { key = bind.key; action = action; priority = b }))) (action-again bind.action (and_parts (key_is_typed bind.key) _ t).1)
        ∙ ap (λ (p : Bool). Some (record { key = bind.key; action = bind.action; priority = p })) e

    by : (b : Bool) → b ≡ bind.priority → bind_by (flag (codes "priority ") (priority_part bind.priority ++ rest)) ≡ Some bind
    by true e = ap (λ (p : Bool). bind_by (flag (codes "priority ") (priority_part p ++ rest))) (sym e) ∙ read true e
    by false e = ap (λ (p : Bool). bind_by (flag (codes "priority ") (priority_part p ++ rest))) (sym e)
        ∙ ap (λ (o : Option (List ℕ)). bind_by (flag_by o rest)) (no_priority bind.key (action_name bind.action) h (and_parts _ _ t).0) ∙ read false e

priority-utf8 : (b : Bool) → IsUtf8 (priority_part b)
priority-utf8 true = low-utf8 (codes "priority ") refl
priority-utf8 false = IsUtf8-nil

pub bind-utf8 : (bind : Bind) → key_is_spelled bind.key ≡ true → bind_is_typed bind ≡ true → IsUtf8 (bind_text bind)
bind-utf8 bind h t =
    IsUtf8-append _ _ (low-utf8 (codes "bind ") refl) (IsUtf8-append _ _ (priority-utf8 bind.priority) (IsUtf8-append _ _ (key-utf8 bind.key h (and_parts _ _ t).0)
    (IsUtf8-append _ _ (low-utf8 (codes " ") refl) (action-utf8 bind.action (and_parts (key_is_typed bind.key) _ t).1))))

-- ---- texts as UTF-8

high : (bytes : List ℕ) → list_all (λ b. nat_le 128 b) bytes ≡ true → flat_map escaped bytes ≡ bytes
high [] h = refl
high (b ∷ bytes) h =
    let big = leb-true 128 b (and_parts _ _ h).0 in
    let a : (b == 34) ≡ false = ne_eqb b 34 (λ same. absurd (omega (arith, big, same))) in
    let d : (b == 92) ≡ false = ne_eqb b 92 (λ same. absurd (omega (arith, big, same))) in
    let f : (b == 10) ≡ false = ne_eqb b 10 (λ same. absurd (omega (arith, big, same))) in
    ap (λ (x : Bool). cond x (codes "\\\"") (cond (b == 92) (codes "\\\\") (cond (b == 10) (codes "\\n") (b ∷ []))) ++ flat_map escaped bytes) a
    ∙ ap (λ (x : Bool). cond x (codes "\\\\") (cond (b == 10) (codes "\\n") (b ∷ [])) ++ flat_map escaped bytes) d
    ∙ ap (λ (x : Bool). cond x (codes "\\n") (b ∷ []) ++ flat_map escaped bytes) f
    ∙ ap (λ (z : List ℕ). b ∷ z) (high bytes (and_parts (nat_le 128 b) _ h).1)

escaped-low : (b : ℕ) → b < 128 → list_all is_low (escaped b) ≡ true
escaped-low b h = by (b == 34) (b == 92) (b == 10)
  where
    by : (x y z : Bool) → list_all is_low (cond x (codes "\\\"") (cond y (codes "\\\\") (cond z (codes "\\n") (b ∷ [])))) ≡ true
    by true y z = refl
    by false true z = refl
    by false false true = refl
    by false false false = and_from (is_low b) true (lt-ltb b 128 h) refl

char_escaped-utf8 : (c : ℕ) → all_scalars (c ∷ []) ≡ true → IsUtf8 (flat_map escaped (encode c))
char_escaped-utf8 c s = by (nat_lt c 128) refl
  where
    by : (b : Bool) → nat_lt c 128 ≡ b → IsUtf8 (flat_map escaped (encode c))
    by true e =
        let small = ltb-true c 128 e in
        subst IsUtf8 (sym (ap (flat_map escaped) (encode_ascii c small) ∙ append-nil (escaped c))) (low-utf8 (escaped c) (escaped-low c small))
    by false e =
        let big = ltb-false c 128 e in
        subst IsUtf8 (sym (high (encode c) (encode-all (λ b. nat_le 128 b) c (λ h. absurd (omega (arith, h, big))) (λ b h. le-leb 128 b h)))) (IsUtf8-encode c (and_parts _ _ s).0)

escaped-utf8 : (cs : List ℕ) → all_scalars cs ≡ true → IsUtf8 (flat_map escaped (encode_utf8_all cs))
escaped-utf8 [] s = IsUtf8-nil
escaped-utf8 (c ∷ cs) s =
    subst IsUtf8 (sym (flat_map-append escaped (encode c) (encode_utf8_all cs))) (IsUtf8-append _ _ (char_escaped-utf8 c (and_from _ true (and_parts _ _ s).0 refl)) (escaped-utf8 cs (and_parts _ (all_scalars cs) s).1))

text-utf8 : (text : List ℕ) → is_utf8 text ≡ true → IsUtf8 (text_part text)
text-utf8 [] u = IsUtf8-nil
text-utf8 (byte ∷ text) u =
    let known = IsUtf8-from_is_utf8 (byte ∷ text) u in
    IsUtf8-append (codes " \"" ++ flat_map escaped (byte ∷ text)) (codes "\"") (IsUtf8-append (codes " \"") (flat_map escaped (byte ∷ text)) (low-utf8 (codes " \"") refl)
    (subst (λ (z : List ℕ). IsUtf8 (flat_map escaped z)) known.1.1 (escaped-utf8 known.0 known.1.0))) (low-utf8 (codes "\"") refl)

inline-utf8 : (inline : List ℕ) → is_utf8 inline ≡ true → IsUtf8 (inline_part inline)
inline-utf8 [] u = IsUtf8-nil
inline-utf8 (byte ∷ bytes) u =
    IsUtf8-append (codes " {" ++ (byte ∷ bytes)) (codes "}") (IsUtf8-append (codes " {") (byte ∷ bytes) (low-utf8 (codes " {") refl) (IsUtf8-from_is_utf8 (byte ∷ bytes) u)) (low-utf8 (codes "}") refl)

-- ---- rows

id-utf8 : (id : Option (List ℕ)) → id_is_typed id ≡ true → IsUtf8 (id_part id)
id-utf8 None h = IsUtf8-nil
id-utf8 (Some id) h = IsUtf8-append (codes " #") id (low-utf8 (codes " #") refl) (name_utf8 id h)

classes-utf8 : (names : List (List ℕ)) → list_all is_name names ≡ true → IsUtf8 (class_parts names)
classes-utf8 [] h = IsUtf8-nil
classes-utf8 (name ∷ names) h =
    IsUtf8-append (class_part name) (class_parts names) (IsUtf8-append (codes " .") name (low-utf8 (codes " .") refl) (name_utf8 name (and_parts _ _ h).0)) (classes-utf8 names (and_parts (is_name name) _ h).1)

disabled-utf8 : (b : Bool) → IsUtf8 (disabled_part b)
disabled-utf8 true = low-utf8 (codes " disabled") refl
disabled-utf8 false = IsUtf8-nil

total-utf8 : (b : Bool) (total : ℕ) → total ≤ 1000000 → IsUtf8 (cond b [] (codes " total " ++ decimal total))
total-utf8 true total h = IsUtf8-nil
total-utf8 false total h = IsUtf8-append (codes " total ") (decimal total) (low-utf8 (codes " total ") refl) (low-utf8 (decimal total) (digits-low (decimal total) (decimal-digits total (omega (arith, h))).0))

private-utf8 : (kind : Kind) (private : Private) → private_is_spelled kind private ≡ true → IsUtf8 (private_part private)
private-utf8 kind (On true) h = low-utf8 (codes " on") refl
private-utf8 kind (On false) h = IsUtf8-nil
private-utf8 kind Plain h = IsUtf8-nil
private-utf8 kind (Cursor place) h = IsUtf8-nil
private-utf8 kind (Chosen line) h = IsUtf8-nil
private-utf8 kind (Bar done total) h =
    let range = (and_parts (has_form kind (Bar done total)) _ h).1 in
    total-utf8 (total == 100) total (leb-true total 1000000 (and_parts (nat_le 1 total) _ range).1)

-- the name of a kind begins with a capital letter
pub capital : (kind : Kind) → kind_is_spelled kind ≡ true → begins_capital (kind_name kind) ≡ true
capital = of_kinds (λ kind. kind_is_spelled kind ≡ true → begins_capital (kind_name kind) ≡ true) (λ kind. begins_capital (kind_name kind)) refl
    (λ kind found e h. e) (λ name h. (and_parts (begins_capital name) _ h).0)

kind-no_blank : (kind : Kind) → kind_is_typed kind ≡ true → list_all no_blank (kind_name kind) ≡ true
kind-no_blank = of_kinds (λ kind. kind_is_typed kind ≡ true → list_all no_blank (kind_name kind) ≡ true) (λ kind. list_all no_blank (kind_name kind)) refl
    (λ kind found e h. e) name-no_blank

kind-utf8 : (kind : Kind) → kind_is_typed kind ≡ true → IsUtf8 (kind_name kind)
kind-utf8 = of_kinds (λ kind. kind_is_typed kind ≡ true → IsUtf8 (kind_name kind)) (λ kind. list_all is_low (kind_name kind)) refl
    (λ kind found e h. low-utf8 (kind_name kind) e) name_utf8

-- what holds of each part of a row
pub record HasParts (row : Row) : Type 0 where
  pub kind_typed : kind_is_typed row.kind ≡ true
  pub id_typed : id_is_typed row.id ≡ true
  pub classes_typed : list_all is_name row.classes.names ≡ true
  pub text_utf8 : is_utf8 row.text ≡ true
  pub inline_utf8 : is_utf8 row.inline ≡ true
  pub binds_typed : list_all bind_is_typed row.binds ≡ true
  pub once : no_repeats row.classes.names ≡ true
  pub kind_spelled : kind_is_spelled row.kind ≡ true
  pub text_spelled : list_all byte_is_spelled row.text ≡ true
  pub inline_spelled : list_all no_line_feed row.inline ≡ true
  pub binds_spelled : list_all (λ bind. key_is_spelled bind.key) row.binds ≡ true
  pub private_spelled : private_is_spelled row.kind row.private ≡ true

pub has-parts : (row : Row) → is_typed row ≡ true → is_spelled row ≡ true → HasParts row
has-parts row t s =
    let t1 = (and_parts (kind_is_typed row.kind) _ t).1 in
    let t2 = (and_parts (id_is_typed row.id) _ t1).1 in
    let t3 = (and_parts (list_all is_name row.classes.names) _ t2).1 in
    let t4 = (and_parts (is_utf8 row.text) _ t3).1 in
    let s1 = (and_parts (no_repeats row.classes.names) _ s).1 in
    let s2 = (and_parts (kind_is_spelled row.kind) _ s1).1 in
    let s3 = (and_parts (list_all byte_is_spelled row.text) _ s2).1 in
    let s4 = (and_parts (list_all no_line_feed row.inline) _ s3).1 in
    record {
      kind_typed = (and_parts (kind_is_typed row.kind) _ t).0;
      id_typed = (and_parts (id_is_typed row.id) _ t1).0;
      classes_typed = (and_parts (list_all is_name row.classes.names) _ t2).0;
      text_utf8 = (and_parts (is_utf8 row.text) _ t3).0;
      inline_utf8 = (and_parts (is_utf8 row.inline) _ t4).0;
      binds_typed = (and_parts (is_utf8 row.inline) _ t4).1;
      once = (and_parts (no_repeats row.classes.names) _ s).0;
      kind_spelled = (and_parts (kind_is_spelled row.kind) _ s1).0;
      text_spelled = (and_parts (list_all byte_is_spelled row.text) _ s2).0;
      inline_spelled = (and_parts (list_all no_line_feed row.inline) _ s3).0;
      binds_spelled = (and_parts (list_all (λ bind. key_is_spelled bind.key) row.binds) _ s4).0;
      private_spelled = (and_parts (list_all (λ bind. key_is_spelled bind.key) row.binds) _ s4).1;
    }

pub row-utf8 : (row : Row) → HasParts row → IsUtf8 (row_text row)
row-utf8 row h =
    IsUtf8-append _ _ (kind-utf8 row.kind h.kind_typed) (IsUtf8-append _ _ (id-utf8 row.id h.id_typed) (IsUtf8-append _ _ (classes-utf8 row.classes.names h.classes_typed)
    (IsUtf8-append _ _ (disabled-utf8 row.disabled) (IsUtf8-append _ _ (private-utf8 row.kind row.private h.private_spelled) (IsUtf8-append _ _ (text-utf8 row.text h.text_utf8) (inline-utf8 row.inline h.inline_utf8))))))

-- the row that is read of its line
abbrev pub new_of : Row → NewRow
new_of row = record {
  kind = row.kind;
  id = row.id;
  classes = row.classes.names;
  disabled = row.disabled;
  text = row.text;
  inline = row.inline;
  binds = [];
  private = kept row.kind (length row.text) row.private;
}

pub row-again : (row : Row) → HasParts row → row_of (row_text row) ≡ Some (new_of row)
row-again row h =
    let r6 = inline_part row.inline in
    let l6 = inline-later row.inline in
    let r5 = text_part row.text ++ r6 in
    let l5 = text-later row.text r6 l6 in
    let r4 = private_part row.private ++ r5 in
    let l4 = private-later row.private r5 l5 in
    let r3 = disabled_part row.disabled ++ r4 in
    let l3 = disabled-later row.disabled r4 l4 in
    let r2 = class_parts row.classes.names ++ r3 in
    let l2 = classes-later row.classes.names r3 l3 in
    let r1 = id_part row.id ++ r2 in
    let l1 = id-later row.id r2 l2 in
    let state = private-again row.kind row.private r5 h.private_spelled l5 in
    let w = word-again (kind_name row.kind) r1 (kind-no_blank row.kind h.kind_typed) (later-stops 1 r1 l1) in
    let end : Kind → Option (List ℕ) → List (List ℕ) → Bool → Private → List ℕ → List ℕ → Option NewRow = λ kind id classes disabled p text inline.
    Some (record { kind = kind; id = id; classes = classes; disabled = disabled; text = text; inline = inline; binds = []; private = kept kind (length text) p }) in
    ap₂ (λ (x y : List ℕ).
    kind_of x >>= (λ kind. id_of y >>= (λ id. classes_of id.1 >>= (λ classes. private_of kind (flag (codes " disabled") classes.1).1 >>= (λ private. text_of private.1 >>= (λ text. inline_of text.1 >>= (λ inline.
    end kind id.0 classes.0 (flag (codes " disabled") classes.1).0 private.0 text.0 inline))))))) w.0 w.1
    ∙ ap (λ (o : Option Kind). o >>= (λ kind. id_of r1 >>= (λ id. classes_of id.1 >>= (λ classes. private_of kind (flag (codes " disabled") classes.1).1 >>= (λ private. text_of private.1 >>= (λ text. inline_of text.1 >>= (λ inline.
    end kind id.0 classes.0 (flag (codes " disabled") classes.1).0 private.0 text.0 inline))))))) (kind-again row.kind h.kind_spelled h.kind_typed)
    ∙ ap (λ (o : Option (Option (List ℕ) × List ℕ)). o >>= (λ id. classes_of id.1 >>= (λ classes. private_of row.kind (flag (codes " disabled") classes.1).1 >>= (λ private. text_of private.1 >>= (λ text. inline_of text.1 >>= (λ inline.
    end row.kind id.0 classes.0 (flag (codes " disabled") classes.1).0 private.0 text.0 inline)))))) (id-again row.id r2 h.id_typed l2)
    ∙ ap (λ (o : Option (List (List ℕ) × List ℕ)). o >>= (λ classes. private_of row.kind (flag (codes " disabled") classes.1).1 >>= (λ private. text_of private.1 >>= (λ text. inline_of text.1 >>= (λ inline.
    end row.kind row.id classes.0 (flag (codes " disabled") classes.1).0 private.0 text.0 inline))))) (class_list-again row.classes.names r3 h.classes_typed h.once l3)
    ∙ ap (λ (f : Bool × List ℕ). private_of row.kind f.1 >>= (λ private. text_of private.1 >>= (λ text. inline_of text.1 >>= (λ inline.
    end row.kind row.id row.classes.names f.0 private.0 text.0 inline)))) (disabled-again row.disabled r4 l4)
    ∙ ap (λ (o : Option (Private × List ℕ)). o >>= (λ private. text_of private.1 >>= (λ text. inline_of text.1 >>= (λ inline.
    end row.kind row.id row.classes.names row.disabled private.0 text.0 inline)))) state.read
    ∙ ap (λ (o : Option (List ℕ × List ℕ)). o >>= (λ text. inline_of text.1 >>= (λ inline.
    end row.kind row.id row.classes.names row.disabled state.state text.0 inline))) (text-again row.text r6 h.text_spelled h.text_utf8 l6)
    ∙ ap (λ (o : Option (List ℕ)). o >>= (λ inline.
    end row.kind row.id row.classes.names row.disabled state.state row.text inline)) (inline-again row.inline h.inline_utf8)
    ∙ ap {A = Private} {B = Option NewRow} (λ (p : Private). Some (record { kind = row.kind; id = row.id; classes = row.classes.names; disabled = row.disabled; text = row.text; inline = row.inline; binds = []; private = p })) (state.same (length row.text))

-- ---- lines with their indent

abbrev pub BeginsOther : List ℕ → Type 0
BeginsOther [] = ⊥
BeginsOther (b ∷ bytes) = (b == 32) ≡ false

pub blanks-again : (n : ℕ) (text : List ℕ) → BeginsOther text → (blanks (replicate n 32 ++ text) ≡ n) × (past_blanks (replicate n 32 ++ text) ≡ text)
blanks-again zero [] h = absurd h
blanks-again zero (b ∷ bytes) h = (ap (λ (x : Bool). cond x (blanks bytes + 1) 0) h, ap (λ (x : Bool). drop (cond x (blanks bytes + 1) 0) (b ∷ bytes)) h)
blanks-again (suc n) text h =
    let more = blanks-again n text h in (
      ap (λ (k : ℕ). k + 1) more.0 ∙ add-one n,
      ap (λ (k : ℕ). drop k (32 ∷ (replicate n 32 ++ text))) (add-one (blanks (replicate n 32 ++ text))) ∙ more.1,
    )

all-blanks : (n : ℕ) → list_all is_low (replicate n 32) ≡ true
all-blanks zero = refl
all-blanks (suc n) = all-blanks n

pub indent-utf8 : (n : ℕ) → IsUtf8 (replicate n 32)
indent-utf8 n = low-utf8 (replicate n 32) (all-blanks n)

pub row-begins : (row : Row) → kind_is_spelled row.kind ≡ true → BeginsOther (row_text row) × (starts_bind (row_text row) ≡ false)
row-begins row h = by (kind_name row.kind) (capital row.kind h)
  where
    rest : List ℕ
    rest = id_part row.id ++ (class_parts row.classes.names ++ (disabled_part row.disabled ++ (private_part row.private ++ (text_part row.text ++ inline_part row.inline))))

    not_blank : (b : ℕ) → is_ascii_uppercase b ≡ true → (b == 32) ≡ false
    not_blank b h = grind (arith, nat_tests)

    not_b : (b : ℕ) → is_ascii_uppercase b ≡ true → (b == 98) ≡ false
    not_b b h = grind (arith, nat_tests)

    by : (name : List ℕ) → begins_capital name ≡ true → BeginsOther (name ++ rest) × (starts_bind (name ++ rest) ≡ false)
    by [] g = absurd (false≢true g)
    by (b ∷ name) g = (not_blank b g, ap (λ (x : Bool). ends_word (cond x (behind (codes "ind") (name ++ rest)) None)) (not_b b g))

-- a row's line, behind a row at least so deep that it may stand there
pub row_line-again : (depth d : ℕ) (row : Row) → HasParts row → is_screen row.kind ≡ false → 1 ≤ d → d ≤ 63 → d ≤ depth + 1
    → item_of depth (indent d ++ row_text row) true ≡ Ok (Widget d (new_of row))
row_line-again depth d row h other below shallow step =
    let line = indent d ++ row_text row in
    let (begins, no_bind) = row-begins row h.kind_spelled in
    let (count, past) = blanks-again (2 * d) (row_text row) begins in
    let utf8 = is_utf8-from_IsUtf8 line (IsUtf8-append _ _ (indent-utf8 (2 * d)) (row-utf8 row h)) in
    let is_row : is_bind_line line ≡ false = ap starts_bind past ∙ no_bind in
    let stands : may_stand depth false (2 * d) ≡ true = and_from _ _ ((Decides-eqb (2 * d % 2) 0).1 (omega arith)) (and_from _ _ (le-leb 2 (2 * d) (omega (arith, below))) (le-leb (2 * d) (2 * (depth + 1)) (omega (arith, step)))) in
    let few : (2 * d == 128) ≡ false = ne_eqb (2 * d) 128 (λ same. absurd (omega (arith, same, shallow))) in
    let half : 2 * d / 2 ≡ d = omega arith in
    ap (λ (b : Bool). cond (not b) (Err BadByte) (cond (not (may_stand depth (is_bind_line line) (blanks line))) (Err BadIndent) (cond (is_bind_line line) (bind_item (past_blanks line) true) (row_item (blanks line) (past_blanks line) true)))) utf8
    ∙ ap (λ (b : Bool). cond (not (may_stand depth b (blanks line))) (Err BadIndent) (cond b (bind_item (past_blanks line) true) (row_item (blanks line) (past_blanks line) true))) is_row
    ∙ ap₂ (λ (n : ℕ) (text : List ℕ). cond (not (may_stand depth false n)) (Err BadIndent) (row_item n text true)) count past
    ∙ ap (λ (b : Bool). cond (not b) (Err BadIndent) (row_item (2 * d) (row_text row) true)) stands
    ∙ ap (λ (b : Bool). cond b (Err TooDeep) (widget (2 * d / 2) (row_of (row_text row)))) few
    ∙ ap₂ (λ (n : ℕ) (o : Option NewRow). widget n o) half (row-again row h)
    ∙ ap (λ (b : Bool). cond b (Err Expected) (Ok (Widget d (new_of row)))) other

-- a binding's line
pub bind_line-again : (depth : ℕ) (bind : Bind) → key_is_spelled bind.key ≡ true → bind_is_typed bind ≡ true → item_of depth (indent (depth + 1) ++ bind_text bind) true ≡ Ok (Binding bind)
bind_line-again depth bind h t =
    let line = indent (depth + 1) ++ bind_text bind in
    let (count, past) = blanks-again (2 * (depth + 1)) (bind_text bind) refl in
    let utf8 = is_utf8-from_IsUtf8 line (IsUtf8-append _ _ (indent-utf8 (2 * (depth + 1))) (bind-utf8 bind h t)) in
    let is_bind : is_bind_line line ≡ true = ap starts_bind past in
    ap (λ (b : Bool). cond (not b) (Err BadByte) (cond (not (may_stand depth (is_bind_line line) (blanks line))) (Err BadIndent) (cond (is_bind_line line) (bind_item (past_blanks line) true) (row_item (blanks line) (past_blanks line) true)))) utf8
    ∙ ap (λ (b : Bool). cond (not (may_stand depth b (blanks line))) (Err BadIndent) (cond b (bind_item (past_blanks line) true) (row_item (blanks line) (past_blanks line) true))) is_bind
    ∙ ap₂ (λ (n : ℕ) (text : List ℕ). cond (not (may_stand depth true n)) (Err BadIndent) (bind_item text true)) count past
    ∙ ap (λ (b : Bool). cond (not b) (Err BadIndent) (bind_item (bind_text bind) true)) (self-byte (2 * (depth + 1)))
    ∙ ap binding (bind-again bind h t)
