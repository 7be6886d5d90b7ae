-- Words are read exactly where they are spelled.
use Rattle.std.proofs.Common.{◌≡◌, ◌≢◌, ℕ, ◌≤◌, Bool, true, false, cond, List, [], ◌∷◌, ◌++◌, length, flat_map, None, Some, chars, refl, ap, ap₂, sym, ◌∙◌, append_assoc, length-append, arith, codes}
use Rattle.std.specs.List.{list_all}
use Rattle.std.proofs.lemmas.Str.{is_utf8-from_IsUtf8, chars-IsAscii, IsUtf8-nil}
use Rattle.tx_tree.specs.Kind.{kind_name}
use Rattle.tx_tree.specs.Row.{placed}
use Rattle.tx_tree.specs.Spelled.{no_line_feed}
use Rattle.tx_tree.specs.declared.bind.Key.{Key}
use Rattle.tx_tree.specs.declared.kind.Private.{Private}
use Rattle.tx_tree.specs.declared.bind.Bind.{Bind}
use Rattle.tx_tree.specs.declared.row.NewRow.{NewRow}
use Rattle.tx_tree_file.proofs.AgainLines.{ascii, key-again, key-no_blank, row-again, has-parts}
use Rattle.tx_tree_file.proofs.AgainParts.{quoted-again}
use Rattle.tx_tree_file.proofs.FoundLines.{key-found, row-found, all_escaped-long, suffix-short}
use Rattle.tx_tree_file.proofs.FoundParts.{quoted-found}
use Rattle.tx_tree_file.proofs.Fronts.{none-some}
use Rattle.tx_tree_file.specs.Parts.{only_char, key_by, key_of, quoted}
use Rattle.tx_tree_file.specs.Spelling.{id_part, class_parts, disabled_part, private_part, escaped, text_part, inline_part, row_text}
use Rattle.tx_tree_file.specs.TreeReading.{row_of}
use Rattle.tx_tree_file.specs.Words.{no_blank, IsKeyName, in_quotes, IsQuoted, IsNewRow, WordsAreRead}

-- ---- keys

pub key-read : (name : List ℕ) (key : Key) → key_of name ≡ Some key → IsKeyName name key
key-read name key h = let is = key-found name key h in record { text = is.text; spelled = is.spelled; typed = is.typed }

pub key-spelled : (name : List ℕ) (key : Key) → IsKeyName name key → key_of name ≡ Some key
key-spelled name key is = ap key_of is.text ∙ key-again key is.spelled is.typed

-- the name of a key is one word
pub key-one_word : (name : List ℕ) (key : Key) → IsKeyName name key → list_all no_blank name ≡ true
key-one_word name key is = ap (list_all no_blank) is.text ∙ key-no_blank key is.spelled

no_key : key_of [] ≡ None
no_key =
    ap (λ (b : Bool). cond b (key_by [] (only_char (chars []))) None) (is_utf8-from_IsUtf8 [] IsUtf8-nil)
    ∙ ap (λ (cs : List ℕ). key_by [] (only_char cs)) (chars-IsAscii [] (ascii [] refl))

-- it has a byte
pub key-some : (name : List ℕ) (key : Key) → IsKeyName name key → name ≢ []
key-some name key is e = none-some (sym no_key ∙ ap key_of (sym e) ∙ key-spelled name key is)

-- ---- texts in quotes

-- what was read, between the quotes, and what is left behind them
pub quoted-read : (bytes text rest : List ℕ) → quoted false bytes ≡ Some (text, rest) → (34 ∷ bytes ≡ in_quotes text ++ rest) × IsQuoted (in_quotes text) text
quoted-read bytes text rest h =
    let found = quoted-found false bytes (text, rest) h in (
      ap (λ (z : List ℕ). 34 ∷ z) (found.0 ∙ sym (append_assoc (flat_map escaped text) (codes "\"") rest)),
      record { is = refl; spelled = found.1 },
    )

-- what was read and what is left are no longer than what was given
pub quoted-short : (bytes text rest : List ℕ) → quoted false bytes ≡ Some (text, rest) → (length text ≤ length bytes) × (length rest ≤ length bytes)
quoted-short bytes text rest h =
    let found = quoted-found false bytes (text, rest) h in
    let size = ap length found.0 ∙ length-append (flat_map escaped text) (34 ∷ rest) in
    let long = all_escaped-long text in
    (omega (arith, size, long), omega (arith, size))

behind_first : (x : ℕ) (xs ys : List ℕ) → x ∷ xs ≡ x ∷ ys → xs ≡ ys
behind_first x xs ys h = cc

pub quoted-spelled : (bytes text rest : List ℕ) → IsQuoted (34 ∷ bytes) text → quoted false (bytes ++ rest) ≡ Some (text, rest)
quoted-spelled bytes text rest is =
    ap (λ (z : List ℕ). quoted false (z ++ rest)) (behind_first 34 bytes (flat_map escaped text ++ codes "\"") is.is)
    ∙ ap (quoted false) (append_assoc (flat_map escaped text) (codes "\"") rest)
    ∙ quoted-again text rest is.spelled

-- ---- rows

pub row-read : (bytes : List ℕ) (new : NewRow) → list_all no_line_feed bytes ≡ true → row_of bytes ≡ Some new → IsNewRow bytes new
row-read bytes new whole h =
    let found = row-found bytes new h in
    record { text = found.text; typed = found.typed; spelled = found.spelled whole; alone = found.alone; state = found.again }

pub row-spelled : (bytes : List ℕ) (new : NewRow) → IsNewRow bytes new → row_of bytes ≡ Some new
row-spelled bytes new is =
    let row = placed new 0 0 in
    ap row_of is.text ∙ row-again row (has-parts row is.typed is.spelled)
    ∙ ap₂ (λ (binds : List Bind) (private : Private). Some (record new { binds = binds; private = private })) (sym is.alone) (sym is.state)

inline-long : (inline : List ℕ) → length inline ≤ length (inline_part inline)
inline-long [] = omega arith
inline-long (byte ∷ bytes) =
    let front = length-append (codes " {") (byte ∷ bytes) in
    let all = length-append (codes " {" ++ (byte ∷ bytes)) (codes "}") in
    omega (arith, front, all)

-- the inline text of a row is no longer than its line
pub row_short : (bytes : List ℕ) (new : NewRow) → row_of bytes ≡ Some new → length new.inline ≤ length bytes
row_short bytes new h =
    let row = placed new 0 0 in
    let i = inline_part row.inline in
    let t = text_part row.text ++ i in
    let p = private_part row.private ++ t in
    let d = disabled_part row.disabled ++ p in
    let c = class_parts row.classes.names ++ d in
    let n = id_part row.id ++ c in
    let a = ap length (row-found bytes new h).text in
    let b = suffix-short (row_text row) (kind_name row.kind) n refl in
    let e = suffix-short n (id_part row.id) c refl in
    let f = suffix-short c (class_parts row.classes.names) d refl in
    let g = suffix-short d (disabled_part row.disabled) p refl in
    let j = suffix-short p (private_part row.private) t refl in
    let k = suffix-short t (text_part row.text) i refl in
    let l = inline-long row.inline in
    omega (arith, a, b, e, f, g, j, k, l)

-- ---- all of them

pub words-read : WordsAreRead
words-read = (
  λ name key. (key-read name key, key-spelled name key),
  λ bytes text rest. (λ h. let read = quoted-read bytes text rest h in (in_quotes text, read.0, read.1), quoted-spelled bytes text rest),
  λ bytes new. (row-read bytes new, row-spelled bytes new),
)
