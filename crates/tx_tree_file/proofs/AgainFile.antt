-- What is spelled is read again, the whole file.
use Rattle.std.proofs.lemmas.Bool.{and_parts, and_from}
use Rattle.std.proofs.Common.{fold, ◌≡◌, ℕ, zero, suc, ◌+◌, ◌*◌, ◌≤◌, ◌==◌, ◌&&◌, ◌||◌, Bool, true, false, cond, not, nat_le, List, [], ◌∷◌, ◌++◌, length, replicate, flat_map, Option, Some, None, Result, Ok, Err, refl, ap, ap₂, sym, subst, ◌∙◌, arith, append_assoc, append-nil, length-append, codes}
use Rattle.std.specs.List.{list_all}
use Rattle.std.specs.Option.{option_map_or}
use Rattle.std.proofs.lemmas.Bool.{false≢true, ne_eqb}
use Rattle.tx_read.specs.Pieces.{pieces, onto}
use Rattle.tx_tree.proofs.lemmas.Kinds.{of_kinds}
use Rattle.tx_tree.specs.Kind.{is_screen, holds_children, first_state, private_at, is_alike, has_form}
use Rattle.tx_tree.specs.Mount.{is_taken}
use Rattle.tx_tree.specs.Row.{placed}
use Rattle.tx_tree.specs.Rows.{last_above}
use Rattle.tx_text.specs.Name.{is_name}
use Rattle.tx_tree.specs.Spelled.{is_spelled, key_is_spelled, no_line_feed, private_is_spelled, total_is_spelled}
use Rattle.tx_tree.specs.WellFormed.{MayFollow, MayAllFollow, IsPreorder}
use Rattle.tx_tree.specs.TreeValue.{TreeValue}
use Rattle.tx_tree.specs.declared.bind.Bind.{Bind}
use Rattle.tx_tree.specs.declared.fault.TreeFault.{TreeFault}
use Rattle.tx_tree.specs.declared.fault.TreeFault.TheVariants.{Grammar, NoNode, DuplicateId as DuplicateId', TooMany as TooMany', TooDeep as TooDeep', Root, Leaf as Leaf', NotSiblings, NoMemory}
use Rattle.tx_tree.specs.declared.fault.TreeKind.{TreeKind}
use Rattle.tx_tree.specs.declared.fault.TreeKind.TheVariants.{BadByte, BadIndent, Expected}
use Rattle.tx_tree.specs.declared.row.NewRow.{NewRow}
use Rattle.tx_tree.specs.declared.row.Row.{Row}
use Rattle.tx_tree_file.proofs.LastRows.{ok-same}
use Rattle.tx_tree_file.specs.FirstFault.{line_count, ids_differ, is_held, IsBegun}
use Rattle.tx_tree_file.proofs.AgainLines.{encode-all, row-utf8, HasParts, has-parts, row-begins, blanks-again, row-again, row_line-again, bind_line-again, new_of}
use Rattle.tx_tree_file.proofs.Whole.{first-read}
use Rattle.tx_tree_file.specs.Indent.{blanks, is_bind_line, starts_bind}
use Rattle.tx_tree_file.specs.Spelling.{indent, row_text, row_line, bind_text, bind_line, row_lines, spelling}
use Rattle.tx_tree_file.specs.TreeFile.{is_typed, bind_is_typed, kind_is_typed, id_is_typed, kept, read_row, read_again, IsReading}
use Rattle.tx_tree_file.specs.TreeReading.{rows_so_far, Begun, LineFault, screen, first_item, row_of, with_bind, with_new, or_fault, rows_behind, tree_of, Reads, GivesRows}
use Rattle.std.specs.Char.{is_ascii_digit}
use Rattle.std.specs.List.{list_any}
use Rattle.std.specs.Option.{option_eq}
use Rattle.std.proofs.Common.{decimal, bytes_eq, map, option_and_then, encode_utf8}
use Rattle.std.proofs.lemmas.Bool.{leb-true, leb-false, ltb-true, ltb-false}
use Rattle.std.proofs.Common.{◌<◌, ◌≢◌, nat_lt}
use Rattle.tx_tree_file.proofs.Fronts.{same-byte}
use Rattle.std.proofs.lemmas.Bool.Decides.{nat_tests, Decides-eqb}
use Rattle.std.proofs.lemmas.Str.{is_utf8-from_IsUtf8}
use Rattle.tx_tree.proofs.lemmas.NumbersAndIds.{count_of-append, row_at-skip, id_from_test}
use Rattle.tx_tree.specs.Kind.{kind_name}
use Rattle.tx_text.specs.Name.{begins_name, continues_name}
use Rattle.tx_tree.specs.Rows.{row_at, count_of, has_id}
use Rattle.tx_tree.specs.Row.{has_number}
use Rattle.tx_tree.specs.WellFormed.{IsTree, id_of}
use Rattle.tx_tree.specs.declared.bind.Action.{Action}
use Rattle.tx_tree.specs.declared.bind.Action.TheVariants.{FocusNext, FocusPrevious, ToggleDark, ToggleClass, Scroll}
use Rattle.tx_tree.specs.declared.bind.Jump.TheVariants.{Up as JumpUp, Down as JumpDown, Home as JumpHome, End as JumpEnd, PageUp as JumpPageUp, PageDown as JumpPageDown}
use Rattle.tx_tree.specs.declared.bind.Key.{Key}
use Rattle.tx_tree.specs.declared.bind.Key.TheVariants.{Char, Enter, Escape, Tab, ShiftTab, Backspace, Delete, Up, Down, Left, Right, Home, End, PageUp, PageDown, Function, Ctrl}
use Rattle.tx_tree.specs.declared.kind.Kind.{Kind}
use Rattle.tx_tree.specs.declared.kind.Private.{Private}
use Rattle.tx_tree.specs.declared.kind.Private.TheVariants.{Plain, Cursor, On, Chosen, Bar}
use Rattle.tx_tree_file.proofs.AgainParts.{decimal-digits, not_inv}
use Rattle.tx_tree_file.proofs.Faults.{ok-err, preorder-some}
use Rattle.tx_tree_file.proofs.LastRows.{bind_line_read, row_line_read}
use Rattle.tx_tree_file.specs.Sections.{with_binds}
use Rattle.tx_tree_file.specs.Spelling.{id_part, class_part, class_parts, disabled_part, private_part, escaped, text_part, inline_part, key_name, action_name, priority_part}
use Rattle.tx_tree_file.specs.TreeFile.{action_is_typed, key_is_typed}

-- ---- no line feed in a line

abbrev Free : List ℕ → Type 0
Free bytes = list_all no_line_feed bytes ≡ true

and-free : (xs ys : List ℕ) → Free xs → Free ys → Free (xs ++ ys)
and-free [] ys h g = g
and-free (b ∷ xs) ys h g = and_from (no_line_feed b) (list_all no_line_feed (xs ++ ys)) (and_parts _ _ h).0 (and-free xs ys (and_parts (no_line_feed b) _ h).1 g)

begins-free : (b : ℕ) → begins_name b ≡ true → no_line_feed b ≡ true
begins-free b h = grind (arith, nat_tests)

continues-free : (b : ℕ) → continues_name b ≡ true → no_line_feed b ≡ true
continues-free b h = grind (arith, nat_tests)

rest-free : (bytes : List ℕ) → list_all continues_name bytes ≡ true → Free bytes
rest-free [] h = refl
rest-free (b ∷ bytes) h = and_from (no_line_feed b) (list_all no_line_feed bytes) (continues-free b (and_parts _ _ h).0) (rest-free bytes (and_parts (continues_name b) _ h).1)

name-free : (name : List ℕ) → is_name name ≡ true → Free name
name-free [] h = refl
name-free (b ∷ bytes) h = and_from (no_line_feed b) (list_all no_line_feed bytes) (begins-free b (and_parts _ _ h).0) (rest-free bytes (and_parts _ _ (and_parts (begins_name b) _ h).1).1)

digit-free : (d : ℕ) → is_ascii_digit d ≡ true → no_line_feed d ≡ true
digit-free d h = grind (arith, nat_tests)

digits-free : (ds : List ℕ) → list_all is_ascii_digit ds ≡ true → Free ds
digits-free [] h = refl
digits-free (d ∷ ds) h = and_from (no_line_feed d) (list_all no_line_feed ds) (digit-free d (and_parts _ _ h).0) (digits-free ds (and_parts (is_ascii_digit d) _ h).1)

blanks-free : (n : ℕ) → Free (replicate n 32)
blanks-free zero = refl
blanks-free (suc n) = blanks-free n

kind-free : (kind : Kind) → kind_is_typed kind ≡ true → Free (kind_name kind)
kind-free = of_kinds (λ kind. kind_is_typed kind ≡ true → Free (kind_name kind)) (λ kind. list_all no_line_feed (kind_name kind)) refl
    (λ kind found e h. e) name-free

id-free : (id : Option (List ℕ)) → id_is_typed id ≡ true → Free (id_part id)
id-free None h = refl
id-free (Some id) h = name-free id h

classes-free : (names : List (List ℕ)) → list_all is_name names ≡ true → Free (class_parts names)
classes-free [] h = refl
classes-free (name ∷ names) h = and-free (class_part name) (class_parts names) (name-free name (and_parts _ _ h).0) (classes-free names (and_parts (is_name name) _ h).1)

disabled-free : (b : Bool) → Free (disabled_part b)
disabled-free true = refl
disabled-free false = refl

total-free : (b : Bool) (total : ℕ) → total ≤ 1000000 → Free (cond b [] (codes " total " ++ decimal total))
total-free true total h = refl
total-free false total h = digits-free (decimal total) (decimal-digits total (omega (arith, h))).0

private-free : (kind : Kind) (private : Private) → private_is_spelled kind private ≡ true → Free (private_part private)
private-free kind (On true) h = refl
private-free kind (On false) h = refl
private-free kind Plain h = refl
private-free kind (Cursor place) h = refl
private-free kind (Chosen line) h = refl
private-free kind (Bar done total) h =
    let range = (and_parts (has_form kind (Bar done total)) _ h).1 in
    total-free (total == 100) total (leb-true total 1000000 (and_parts (nat_le 1 total) _ range).1)

escaped-free : (b : ℕ) → Free (escaped b)
escaped-free b = by (b == 34) (b == 92) (b == 10) refl
  where
    by : (x y z : Bool) → (b == 10) ≡ z → Free (cond x (codes "\\\"") (cond y (codes "\\\\") (cond z (codes "\\n") (b ∷ []))))
    by true y z e = refl
    by false true z e = refl
    by false false true e = refl
    by false false false e = and_from (no_line_feed b) true (ap not e) refl

all_escaped-free : (text : List ℕ) → Free (flat_map escaped text)
all_escaped-free [] = refl
all_escaped-free (b ∷ text) = and-free (escaped b) (flat_map escaped text) (escaped-free b) (all_escaped-free text)

text-free : (text : List ℕ) → Free (text_part text)
text-free [] = refl
text-free (b ∷ text) = and-free (codes " \"" ++ flat_map escaped (b ∷ text)) (codes "\"") (all_escaped-free (b ∷ text)) refl

inline-free : (inline : List ℕ) → Free inline → Free (inline_part inline)
inline-free [] h = refl
inline-free (b ∷ bytes) h = and-free (codes " {" ++ (b ∷ bytes)) (codes "}") h refl

row-free : (row : Row) → HasParts row → Free (indent row.depth ++ row_text row)
row-free row h =
    and-free (indent row.depth) (row_text row) (blanks-free (2 * row.depth)) (and-free (kind_name row.kind) _ (kind-free row.kind h.kind_typed) (and-free (id_part row.id) _ (id-free row.id h.id_typed)
    (and-free (class_parts row.classes.names) _ (classes-free row.classes.names h.classes_typed) (and-free (disabled_part row.disabled) _ (disabled-free row.disabled) (and-free (private_part row.private) _ (private-free row.kind row.private h.private_spelled)
    (and-free (text_part row.text) (inline_part row.inline) (text-free row.text) (inline-free row.inline h.inline_spelled)))))))

letter-free : (b : ℕ) → (nat_le 97 b && nat_le b 122) ≡ true → no_line_feed b ≡ true
letter-free b h = grind (arith, nat_tests)

char-free : (c : ℕ) → nat_le 32 c ≡ true → Free (encode_utf8 c)
char-free c h =
    let big = leb-true 32 c h in
    encode-all no_line_feed c (λ g. ap not (ne_eqb c 10 (λ same. absurd (omega (arith, big, same))))) (λ b g. ap not (ne_eqb b 10 (λ same. absurd (omega (arith, g, same)))))

key-free : (key : Key) → key_is_spelled key ≡ true → Free (key_name key)
key-free (Char c) h = by (c == 32)
  where
    by : (b : Bool) → Free (cond b (codes "space") (encode_utf8 c))
    by true = refl
    by false = char-free c (and_parts (nat_le 32 c) _ h).0
key-free (Function n) h = let most = leb-true n 12 (and_parts (nat_le 1 n) _ h).1 in digits-free (decimal n) (decimal-digits n (omega (arith, most))).0
key-free (Ctrl b) h = and_from (no_line_feed b) true (letter-free b h) refl
key-free Enter h = refl
key-free Escape h = refl
key-free Tab h = refl
key-free ShiftTab h = refl
key-free Backspace h = refl
key-free Delete h = refl
key-free Up h = refl
key-free Down h = refl
key-free Left h = refl
key-free Right h = refl
key-free Home h = refl
key-free End h = refl
key-free PageUp h = refl
key-free PageDown h = refl

action-free : (action : Action) → action_is_typed action ≡ true → Free (action_name action)
action-free (ToggleClass name) h = name-free name h
action-free FocusNext h = refl
action-free FocusPrevious h = refl
action-free ToggleDark h = refl
action-free (Scroll JumpUp) h = refl
action-free (Scroll JumpDown) h = refl
action-free (Scroll JumpHome) h = refl
action-free (Scroll JumpEnd) h = refl
action-free (Scroll JumpPageUp) h = refl
action-free (Scroll JumpPageDown) h = refl

priority-free : (b : Bool) → Free (priority_part b)
priority-free true = refl
priority-free false = refl

bind-free : (depth : ℕ) (bind : Bind) → key_is_spelled bind.key ≡ true → bind_is_typed bind ≡ true → Free (indent (depth + 1) ++ bind_text bind)
bind-free depth bind h t =
    and-free (indent (depth + 1)) (bind_text bind) (blanks-free (2 * (depth + 1))) (and-free (priority_part bind.priority) _ (priority-free bind.priority)
    (and-free (key_name bind.key) _ (key-free bind.key h) (action-free bind.action (and_parts (key_is_typed bind.key) _ t).1)))

-- ---- a line is cut off at its line feed

pub cut-again : (line rest : List ℕ) → Free line → pieces 10 (line ++ (10 ∷ rest)) ≡ line ∷ pieces 10 rest
cut-again [] rest h = refl
cut-again (b ∷ line) rest h =
    let other : (b == 10) ≡ false = by (b == 10) (and_parts (no_line_feed b) _ h).0 in
    ap (λ (x : Bool). cond x ([] ∷ pieces 10 (line ++ (10 ∷ rest))) (onto b (pieces 10 (line ++ (10 ∷ rest))))) other ∙ ap (onto b) (cut-again line rest (and_parts (no_line_feed b) _ h).1)
  where
    by : (x : Bool) → not x ≡ true → x ≡ false
    by true g = absurd (false≢true g)
    by false g = refl

-- ---- bindings

no_binds : (last : Row) → with_binds [] last ≡ last
no_binds last = ap (λ (z : List Bind). record last { binds = z }) (append-nil last.binds)

more_binds : (bind : Bind) (binds : List Bind) (last : Row) → with_binds binds (with_bind bind last) ≡ with_binds (bind ∷ binds) last
more_binds bind binds last = ap (λ (z : List Bind). record last { binds = z }) (append_assoc last.binds (bind ∷ []) binds)

binds-again : (binds : List Bind) (rest : List ℕ) (done : ℕ) (before : List Row) (last : Row) → list_all (λ bind. key_is_spelled bind.key) binds ≡ true → list_all bind_is_typed binds ≡ true
    → rows_behind (pieces 10 (flat_map (bind_line last.depth) binds ++ rest)) done (record { before = before; last = last }) ≡ rows_behind (pieces 10 rest) (done + length binds) (record { before = before; last = with_binds binds last })
binds-again [] rest done before last h t =
    ap₂ (λ (n : ℕ) (z : Row). rows_behind (pieces 10 rest) n (record { before = before; last = z })) (omega arith) (sym (no_binds last))
binds-again (bind ∷ binds) rest done before last h t =
    let spelled = (and_parts (key_is_spelled bind.key) _ h).0 in
    let typed = (and_parts (bind_is_typed bind) _ t).0 in
    let line = indent (last.depth + 1) ++ bind_text bind in
    let more = flat_map (bind_line last.depth) binds ++ rest in
    let text : (bind_line last.depth bind ++ flat_map (bind_line last.depth) binds) ++ rest ≡ line ++ (10 ∷ more) =
    append_assoc (bind_line last.depth bind) (flat_map (bind_line last.depth) binds) rest
    ∙ ap (λ (z : List ℕ). z ++ more) (sym (append_assoc (indent (last.depth + 1)) (bind_text bind) (codes "\n")))
    ∙ append_assoc line (codes "\n") more in
    let number : done + 1 + length binds ≡ done + length (bind ∷ binds) = omega arith in
    ap (λ (z : List ℕ). rows_behind (pieces 10 z) done (record { before = before; last = last })) text
    ∙ bind_line_read (line ++ (10 ∷ more)) line more done before last bind (cut-again line more (bind-free last.depth bind spelled typed)) (bind_line-again last.depth bind spelled typed)
    ∙ binds-again binds rest (done + 1) before (with_bind bind last) (and_parts (key_is_spelled bind.key) _ h).1 (and_parts (bind_is_typed bind) _ t).1
    ∙ ap₂ (λ (n : ℕ) (z : Row). rows_behind (pieces 10 rest) n (record { before = before; last = z })) number (more_binds bind binds last)

-- ---- rows

above-snoc : (d : ℕ) (found : Option Row) (rows : List Row) (row : Row) → last_above d found (rows ++ row ∷ []) ≡ cond (row.depth + 1 == d) (Some row) (last_above d found rows)
above-snoc d found [] row = refl
above-snoc d found (r ∷ rows) row = above-snoc d (cond (r.depth + 1 == d) (Some r) found) rows row

-- each depth down to the last row's has a row that may have children above it
abbrev pub Held : List Row → ℕ → Type 0
Held rows depth = (d : ℕ) → 1 ≤ d → d ≤ depth → is_held d rows ≡ true

held-here : (rows : List Row) (last row : Row) → Held (rows ++ last ∷ []) last.depth → MayFollow last row → is_held row.depth (rows ++ last ∷ []) ≡ true
held-here rows last row h f = by (nat_le row.depth last.depth) refl
  where
    by : (b : Bool) → nat_le row.depth last.depth ≡ b → is_held row.depth (rows ++ last ∷ []) ≡ true
    by true e = h row.depth f.below_first (leb-true row.depth last.depth e)
    by false e =
        let more = leb-false row.depth last.depth e in
        let step = f.step in
        let next : row.depth ≡ last.depth + 1 = omega (arith, more, step) in
        ap (λ (o : Option Row). option_map_or (λ parent. holds_children parent.kind) o true) (above-snoc row.depth None rows last ∙ ap (λ (b : Bool). cond b (Some last) (last_above row.depth None rows)) ((Decides-eqb (last.depth + 1) row.depth).1 (sym next)))
        ∙ f.held next

held-more : (rows : List Row) (row : Row) → Held rows row.depth → Held (rows ++ row ∷ []) row.depth
held-more rows row h d below few =
    let other : (row.depth + 1 == d) ≡ false = ne_eqb (row.depth + 1) d (λ same. absurd (omega (arith, same, few))) in
    ap (λ (o : Option Row). option_map_or (λ parent. holds_children parent.kind) o true) (above-snoc d None rows row ∙ ap (λ (b : Bool). cond b (Some row) (last_above d None rows)) other) ∙ h d below few

held-next : (rows : List Row) (last row : Row) → Held (rows ++ last ∷ []) last.depth → MayFollow last row → Held (rows ++ last ∷ []) row.depth
held-next rows last row h f d below few = by (nat_le d last.depth) refl
  where
    by : (b : Bool) → nat_le d last.depth ≡ b → is_held d (rows ++ last ∷ []) ≡ true
    by true e = h d below (leb-true d last.depth e)
    by false e =
        let more = leb-false d last.depth e in
        let step = f.step in
        let here : row.depth ≡ d = omega (arith, more, step, few) in
        subst (λ (n : ℕ). is_held n (rows ++ last ∷ []) ≡ true) here (held-here rows last row h f)

again-head : (n : ℕ) (row : Row) (rows : List Row) → row ∷ rows ≡ read_again n (row ∷ rows) → (row ≡ read_row n row) × (rows ≡ read_again (n + 1) rows)
again-head n row rows h = (head (row ∷ rows) (read_again n (row ∷ rows)) h, tail (row ∷ rows) (read_again n (row ∷ rows)) h)
  where
    head_or : List Row → Row
    head_or [] = row
    head_or (r ∷ rs) = r

    tail_or : List Row → List Row
    tail_or [] = []
    tail_or (r ∷ rs) = rs

    head : (xs ys : List Row) → xs ≡ ys → head_or xs ≡ head_or ys
    head xs ys e = ap head_or e

    tail : (xs ys : List Row) → xs ≡ ys → tail_or xs ≡ tail_or ys
    tail xs ys e = ap tail_or e

-- the row that is read is the row
row-whole : (n : ℕ) (row : Row) → row ≡ read_row n row → with_binds row.binds (placed (new_of row) n row.depth) ≡ row
row-whole n row e = sym e

with_new-again : (rows : List Row) (d : ℕ) (new : NewRow) → is_held d rows ≡ true → (length rows == 65536) ≡ false → is_taken new.id rows ≡ false
    → with_new rows d new ≡ Ok (record { before = rows; last = placed new (length rows + 1) d })
with_new-again rows d new a b c = rw (a, b, c) refl

-- the lines of these rows are read, whatever stands behind them
record Reached (tail : List ℕ) (done : ℕ) (begun : Begun) (rows : List Row) : Type 0 where
  pub next : Begun
  pub is : rows_so_far next ≡ rows_so_far begun ++ rows
  pub deep : next.last.depth ≤ 63
  pub read : rows_behind (pieces 10 (spelling rows ++ tail)) done begun ≡ rows_behind (pieces 10 tail) (done + line_count rows) next

count-cons : (row : Row) (rows : List Row) → line_count (row ∷ rows) ≡ length row.binds + 1 + line_count rows
count-cons row rows = by (length row.binds + 1) 0 rows
  where
    add : (n m : ℕ) (rows : List Row) → fold (λ a x. a + (length x.binds + 1)) (n + m) rows ≡ n + fold (λ a x. a + (length x.binds + 1)) m rows
    add n m [] = refl
    add n m (r ∷ rows) = ap (λ (k : ℕ). fold (λ a x. a + (length x.binds + 1)) k rows) (omega arith) ∙ add n (m + (length r.binds + 1)) rows

    by : (n m : ℕ) (rows : List Row) → fold (λ a x. a + (length x.binds + 1)) (m + n) rows ≡ n + fold (λ a x. a + (length x.binds + 1)) m rows
    by n m rows = ap (λ (k : ℕ). fold (λ a x. a + (length x.binds + 1)) k rows) (omega arith) ∙ add n m rows

rows-reached : (rows : List Row) (tail : List ℕ) (done : ℕ) (before : List Row) (last : Row) → MayAllFollow last rows → last.depth ≤ 63 → list_all is_typed rows ≡ true → list_all is_spelled rows ≡ true
    → rows ≡ read_again (length before + 2) rows → ids_differ (before ++ last ∷ []) rows ≡ true → length before + 1 + length rows ≤ 65536 → Held (before ++ last ∷ []) last.depth
    → Reached tail done (record { before = before; last = last }) rows
rows-reached [] tail done before last follow deep typed spelled fresh ids few held = record {
  next = record { before = before; last = last };
  is = sym (append-nil (before ++ last ∷ []));
  deep = deep;
  read = ap (λ (n : ℕ). rows_behind (pieces 10 tail) n (record { before = before; last = last })) (omega arith);
}
rows-reached (row ∷ rows) tail done before last follow deep typed spelled fresh ids few held =
    let so_far = before ++ last ∷ [] in
    let parts = has-parts row (and_parts _ _ typed).0 (and_parts _ _ spelled).0 in
    let f = follow.0 in
    let line = indent row.depth ++ row_text row in
    let more = flat_map (bind_line row.depth) row.binds ++ (spelling rows ++ tail) in
    let size : length so_far ≡ length before + 1 = length-append before (last ∷ []) in
    let (same, rest) = again-head (length before + 2) row rows fresh in
    let number : length before + 2 ≡ length so_far + 1 = omega (arith, size) in
    let text : spelling (row ∷ rows) ++ tail ≡ line ++ (10 ∷ more) =
    append_assoc (row_lines row) (spelling rows) tail
    ∙ append_assoc (row_line row) (flat_map (bind_line row.depth) row.binds) (spelling rows ++ tail)
    ∙ ap (λ (z : List ℕ). z ++ more) (sym (append_assoc (indent row.depth) (row_text row) (codes "\n")))
    ∙ append_assoc line (codes "\n") more in
    let below = f.below_first in
    let step = f.step in
    let shallow = f.shallow in
    let count = count-cons row rows in
    let there = rows-reached rows tail (done + 1 + length row.binds) so_far row follow.1 shallow (and_parts (is_typed row) _ typed).1 (and_parts (is_spelled row) _ spelled).1
    (rest ∙ ap (λ (n : ℕ). read_again n rows) (omega (arith, size))) (and_parts (not (is_taken row.id so_far)) _ ids).1 (omega (arith, size, few)) (held-more so_far row (held-next before last row held f)) in
    record {
      next = there.next;
      is = there.is ∙ append_assoc so_far (row ∷ []) rows;
      deep = there.deep;
      read = ap (λ (z : List ℕ). rows_behind (pieces 10 z) done (record { before = before; last = last })) text
          ∙ row_line_read (line ++ (10 ∷ more)) line more done row.depth before last (new_of row) (cut-again line more (row-free row parts)) (row_line-again last.depth row.depth row parts f.no_screen below shallow step)
          ∙ ap (λ (r : Result Begun TreeKind). or_fault (done + 1) r (rows_behind (pieces 10 more) (done + 1))) (with_new-again so_far row.depth (new_of row) (held-here before last row held f)
          (ne_eqb (length so_far) 65536 (λ full. absurd (omega (arith, full, size, few)))) (not_inv (is_taken row.id so_far) (and_parts _ _ ids).0))
          ∙ binds-again row.binds (spelling rows ++ tail) (done + 1) so_far (placed (new_of row) (length so_far + 1) row.depth) parts.binds_spelled parts.binds_typed
          ∙ ap (λ (z : Row). rows_behind (pieces 10 (spelling rows ++ tail)) (done + 1 + length row.binds) (record { before = so_far; last = z })) (row-whole (length so_far + 1) row (same ∙ ap (λ (n : ℕ). read_row n row) number))
          ∙ there.read
          ∙ ap (λ (n : ℕ). rows_behind (pieces 10 tail) n there.next) (omega (arith, count));
    }

-- ---- the first line

first-again : (row : Row) → HasParts row → is_screen row.kind ≡ true → first_item (row_text row) true ≡ Ok (new_of row)
first-again row h screen_is =
    let utf8 = is_utf8-from_IsUtf8 (row_text row) (row-utf8 row h) in
    let (count, past) = blanks-again 0 (row_text row) (row-begins row h.kind_spelled).0 in
    let no_bind : is_bind_line (row_text row) ≡ false = ap starts_bind past ∙ (row-begins row h.kind_spelled).1 in
    ap (λ (b : Bool). cond (not b) (Err BadByte) (cond (is_bind_line (row_text row)) (Err Expected) (cond (not (blanks (row_text row) == 0)) (Err BadIndent) (screen (row_of (row_text row)))))) utf8
    ∙ ap (λ (b : Bool). cond b (Err Expected) (cond (not (blanks (row_text row) == 0)) (Err BadIndent) (screen (row_of (row_text row))))) no_bind
    ∙ ap (λ (n : ℕ). cond (not (n == 0)) (Err BadIndent) (screen (row_of (row_text row)))) count
    ∙ ap screen (row-again row h)
    ∙ ap (λ (b : Bool). cond b (Ok (new_of row)) (Err Expected)) screen_is

-- all rows of a file's beginning
pub record IsReached (tail : List ℕ) (rows : List Row) : Type 0 where
  pub next : Begun
  pub is : rows_so_far next ≡ rows
  pub deep : next.last.depth ≤ 63
  pub read : tree_of (spelling rows ++ tail) ≡ rows_behind (pieces 10 tail) (line_count rows) next

pub file-reached : (rows : List Row) (tail : List ℕ) → IsBegun rows → IsPreorder rows → IsReached tail rows
file-reached [] tail h p = absurd p
file-reached (row ∷ rows) tail h p =
    let parts = has-parts row (and_parts _ _ h.typed).0 (and_parts _ _ h.spelled).0 in
    let first = p.0 in
    let more = flat_map (bind_line row.depth) row.binds ++ (spelling rows ++ tail) in
    let flat : indent row.depth ≡ [] = ap indent first.depth in
    let text : spelling (row ∷ rows) ++ tail ≡ row_text row ++ (10 ∷ more) =
    append_assoc (row_lines row) (spelling rows) tail
    ∙ append_assoc (row_line row) (flat_map (bind_line row.depth) row.binds) (spelling rows ++ tail)
    ∙ ap (λ (z : List ℕ). (z ++ (row_text row ++ codes "\n")) ++ more) flat
    ∙ append_assoc (row_text row) (codes "\n") more in
    let free : list_all no_line_feed (row_text row) ≡ true = ap (λ (z : List ℕ). list_all no_line_feed (z ++ row_text row)) (sym flat) ∙ row-free row parts in
    let (same, rest) = again-head 1 row rows h.fresh in
    let few = h.few in
    let count = count-cons row rows in
    let there = rows-reached rows tail (1 + length row.binds) [] row p.1 (let d = first.depth in omega (arith, d)) (and_parts (is_typed row) _ h.typed).1 (and_parts (is_spelled row) _ h.spelled).1 rest
    (and_parts (not (is_taken row.id [])) _ h.ids).1 (omega (arith, few)) (λ d below few. absurd (let flat2 = first.depth in omega (arith, below, few, flat2))) in
    record {
      next = there.next;
      is = there.is;
      deep = there.deep;
      read = ap tree_of text
          ∙ sym (first-read (row_text row ++ (10 ∷ more)) (row_text row) more (new_of row) (cut-again (row_text row) more free) (first-again row parts first.screen))
          ∙ ap (λ (d : ℕ). rows_behind (pieces 10 more) 1 (record { before = []; last = placed (new_of row) 1 d })) (sym first.depth)
          ∙ binds-again row.binds (spelling rows ++ tail) 1 [] (placed (new_of row) 1 row.depth) parts.binds_spelled parts.binds_typed
          ∙ ap (λ (z : Row). rows_behind (pieces 10 (spelling rows ++ tail)) (1 + length row.binds) (record { before = []; last = z })) (row-whole 1 row same)
          ∙ there.read
          ∙ ap (λ (n : ℕ). rows_behind (pieces 10 tail) n there.next) (omega (arith, count));
    }

pub file-again : (rows : List Row) → IsBegun rows → IsPreorder rows → tree_of (spelling rows) ≡ Ok rows
file-again rows h p =
    let there = file-reached rows [] h p in
    ap tree_of (sym (append-nil (spelling rows))) ∙ there.read ∙ ap Ok there.is

-- ---- ids in a tree

abbrev Once : List Row → Type 0
Once rows = (n : ℕ) → count_of n rows ≤ 1

abbrev OneId : List Row → Type 0
OneId rows = (n m : ℕ) (name : List ℕ) → id_of n rows ≡ Some name → id_of m rows ≡ Some name → n ≡ m

-- a row among others
found-row : (front : List Row) (row : Row) (back : List Row) → Once (front ++ (row ∷ back)) → (count_of row.node.0 front ≡ 0) × (row_at row.node.0 (front ++ (row ∷ back)) ≡ Some row)
found-row front row back once =
    let one = once row.node.0 in
    let all = count_of-append row.node.0 front (row ∷ back) in
    let own : has_number row.node.0 row ≡ true = (Decides-eqb row.node.0 row.node.0).1 refl in
    let here : count_of row.node.0 (row ∷ back) ≡ 1 + count_of row.node.0 back = ap (λ (b : Bool). cond {A = ℕ} b 1 0 + count_of row.node.0 back) own in
    let none : count_of row.node.0 front ≡ 0 = omega (arith, one, all, here) in
    (none, row_at-skip row.node.0 front (row ∷ back) none ∙ ap (λ (b : Bool). cond b (Some row) (row_at row.node.0 back)) own)

any-found : (name : List ℕ) (rows : List Row) → list_any (has_id name) rows ≡ true → (front : List Row) × (row : Row) × (back : List Row) × (rows ≡ front ++ (row ∷ back)) × (row.id ≡ Some name)
any-found name [] h = absurd (false≢true h)
any-found name (r ∷ rows) h = by (has_id name r) refl h (any-found name rows)
  where
    by : (b : Bool) → has_id name r ≡ b → (b || list_any (has_id name) rows) ≡ true
        → (list_any (has_id name) rows ≡ true → (front : List Row) × (row : Row) × (back : List Row) × (rows ≡ front ++ (row ∷ back)) × (row.id ≡ Some name))
        → (front : List Row) × (row : Row) × (back : List Row) × (r ∷ rows ≡ front ++ (row ∷ back)) × (row.id ≡ Some name)
    by true e g more = ([], r, rows, refl, id_from_test r.id name e)
    by false e g more = let (front, row, back, is, id) = more g in (r ∷ front, row, back, ap (λ (z : List Row). r ∷ z) is, id)

not_taken : (all before : List Row) (row : Row) (rows : List Row) → all ≡ before ++ (row ∷ rows) → Once all → OneId all → (id : Option (List ℕ)) → row.id ≡ id → (b : Bool) → is_taken id before ≡ b → b ≡ false
not_taken all before row rows is once ids None e false g = refl
not_taken all before row rows is once ids None e true g = absurd (false≢true g)
not_taken all before row rows is once ids (Some name) e false g = refl
not_taken all before row rows is once ids (Some name) e true g =
    let (front, other, back, cut, id) = any-found name before g in
    let whole : all ≡ front ++ (other ∷ (back ++ (row ∷ rows))) = is ∙ ap (λ (z : List Row). z ++ (row ∷ rows)) cut ∙ append_assoc front (other ∷ back) (row ∷ rows) in
    let first = found-row front other (back ++ (row ∷ rows)) (subst Once whole once) in
    let second = found-row before row rows (subst Once is once) in
    let at_first : id_of other.node.0 all ≡ Some name = ap (id_of other.node.0) whole ∙ ap (option_and_then (λ (r : Row). r.id)) first.1 ∙ id in
    let at_second : id_of row.node.0 all ≡ Some name = ap (id_of row.node.0) is ∙ ap (option_and_then (λ (r : Row). r.id)) second.1 ∙ e in
    let same = ids other.node.0 row.node.0 name at_first at_second in
    let none : count_of other.node.0 (front ++ (other ∷ back)) ≡ 0 = ap₂ count_of same (sym cut) ∙ second.0 in
    let all_of = count_of-append other.node.0 front (other ∷ back) in
    let own : has_number other.node.0 other ≡ true = (Decides-eqb other.node.0 other.node.0).1 refl in
    let here : count_of other.node.0 (other ∷ back) ≡ 1 + count_of other.node.0 back = ap (λ (b : Bool). cond {A = ℕ} b 1 0 + count_of other.node.0 back) own in
    absurd (omega (arith, none, all_of, here))

pub ids-of : (all before rows : List Row) → all ≡ before ++ rows → Once all → OneId all → ids_differ before rows ≡ true
ids-of all before [] is once ids = refl
ids-of all before (row ∷ rows) is once ids =
    and_from _ _ (ap not (not_taken all before row rows is once ids row.id refl (is_taken row.id before) refl))
    (ids-of all (before ++ row ∷ []) rows (is ∙ sym (append_assoc before (row ∷ []) rows)) once ids)

-- what is spelled so is read, as those rows
pub reading-again : (bytes : List ℕ) (tree : TreeValue) → IsTree tree → IsReading bytes tree → tree_of bytes ≡ Ok tree.rows
reading-again bytes tree whole reading =
    let made = reading.made in
    let few = whole.few in
    ap tree_of reading.text ∙ file-again tree.rows (record {
      preorder = preorder-some tree.rows whole.preorder;
      typed = reading.typed;
      spelled = reading.spelled;
      fresh = reading.fresh;
      ids = ids-of tree.rows [] tree.rows refl whole.once whole.one_id;
      few = omega (arith, made, few);
    }) whole.preorder

pub gives-rows : (rows : List Row) (read : Result (List Row) LineFault) (r : Result TreeValue TreeFault) → read ≡ Ok rows → Reads read r → GivesRows rows r
gives-rows rows read (Ok tree) e h = sym (ok-same (sym e ∙ h.0))
gives-rows rows read (Err NoMemory) e h = refl
gives-rows rows read (Err (Grammar line kind)) e h = ok-err (sym e ∙ h)
gives-rows rows read (Err NoNode) e h = absurd h
gives-rows rows read (Err DuplicateId') e h = absurd h
gives-rows rows read (Err TooMany') e h = absurd h
gives-rows rows read (Err TooDeep') e h = absurd h
gives-rows rows read (Err Root) e h = absurd h
gives-rows rows read (Err Leaf') e h = absurd h
gives-rows rows read (Err NotSiblings) e h = absurd h

-- ---- rows numbered anew

-- a state that a file doesn't keep, at a kind that begins with this one
abbrev IsFresh : Kind → Private → ℕ → Type 0
IsFresh kind first size =
    (private_part (private_at size first) ≡ [])
    × ((is_alike first (private_at size first) && total_is_spelled (private_at size first)) ≡ true)
    × (kept kind size (private_at size first) ≡ private_at size first)

plain-fresh : (kind : Kind) (size : ℕ) (first : Private) → first_state kind ≡ first → is_alike first Plain ≡ true → IsFresh kind first size
plain-fresh kind size Plain e h = (refl, refl, ap (private_at size) e)
plain-fresh kind size (Cursor place) e h = absurd (false≢true h)
plain-fresh kind size (On b) e h = absurd (false≢true h)
plain-fresh kind size (Chosen line) e h = absurd (false≢true h)
plain-fresh kind size (Bar done total) e h = absurd (false≢true h)

cursor-fresh : (kind : Kind) (size place : ℕ) (first : Private) → first_state kind ≡ first → is_alike first (Cursor place) ≡ true → IsFresh kind first size
cursor-fresh kind size place (Cursor p) e h = (refl, refl, ap (private_at size) e)
cursor-fresh kind size place Plain e h = absurd (false≢true h)
cursor-fresh kind size place (On b) e h = absurd (false≢true h)
cursor-fresh kind size place (Chosen line) e h = absurd (false≢true h)
cursor-fresh kind size place (Bar done total) e h = absurd (false≢true h)

chosen-fresh : (kind : Kind) (size line : ℕ) (first : Private) → first_state kind ≡ first → is_alike first (Chosen line) ≡ true → IsFresh kind first size
chosen-fresh kind size line (Chosen l) e h = (refl, refl, ap (private_at size) e)
chosen-fresh kind size line Plain e h = absurd (false≢true h)
chosen-fresh kind size line (Cursor place) e h = absurd (false≢true h)
chosen-fresh kind size line (On b) e h = absurd (false≢true h)
chosen-fresh kind size line (Bar done total) e h = absurd (false≢true h)

bar-alike : (first : Private) (a b c d : ℕ) → is_alike first (Bar a b) ≡ is_alike first (Bar c d)
bar-alike Plain a b c d = refl
bar-alike (Cursor place) a b c d = refl
bar-alike (On on) a b c d = refl
bar-alike (Chosen line) a b c d = refl
bar-alike (Bar done total) a b c d = refl

-- a row that is read again is spelled as before
kept-part : (kind : Kind) (size : ℕ) (private : Private) → private_is_spelled kind private ≡ true → (private_part (kept kind size private) ≡ private_part private) × (private_is_spelled kind (kept kind size private) ≡ true) × (kept kind size (kept kind size private) ≡ kept kind size private)
kept-part kind size (On b) h = (refl, h, refl)
kept-part kind size (Bar done total) h =
    (refl, ap (λ (b : Bool). b && total_is_spelled (Bar done total)) (bar-alike (first_state kind) 0 total done total) ∙ h, refl)
kept-part kind size Plain h = plain-fresh kind size (first_state kind) refl (and_parts (has_form kind Plain) _ h).0
kept-part kind size (Cursor place) h = cursor-fresh kind size place (first_state kind) refl (and_parts (has_form kind (Cursor place)) _ h).0
kept-part kind size (Chosen line) h = chosen-fresh kind size line (first_state kind) refl (and_parts (has_form kind (Chosen line)) _ h).0

line-same : (n : ℕ) (row : Row) → is_typed row ≡ true → is_spelled row ≡ true → (row_lines (read_row n row) ≡ row_lines row) × (is_spelled (read_row n row) ≡ true) × (read_row n (read_row n row) ≡ read_row n row)
line-same n row t s =
    let parts = has-parts row t s in
    let (part, spelled, twice) = kept-part row.kind (length row.text) row.private parts.private_spelled in (
      ap (λ (z : List ℕ). (indent row.depth ++ ((kind_name row.kind ++ (id_part row.id ++ (class_parts row.classes.names ++ (disabled_part row.disabled ++ (z ++ (text_part row.text ++ inline_part row.inline)))))) ++ codes "\n")) ++ flat_map (bind_line row.depth) row.binds) part,
      and_from _ _ parts.once (and_from _ _ parts.kind_spelled (and_from _ _ parts.text_spelled (and_from _ _ parts.inline_spelled (and_from _ _ parts.binds_spelled spelled)))),
      ap (λ (p : Private). record (read_row n row) { private = p }) twice,
    )

-- what holds of the rows that are read again
pub record IsRead (n : ℕ) (rows : List Row) : Type 0 where
  pub typed : list_all is_typed (read_again n rows) ≡ true
  pub spelled : list_all is_spelled (read_again n rows) ≡ true
  pub text : spelling (read_again n rows) ≡ spelling rows
  pub fresh : read_again n rows ≡ read_again n (read_again n rows)
  pub size : length (read_again n rows) ≡ length rows
  pub names : map (λ row. row.id) (read_again n rows) ≡ map (λ row. row.id) rows

is-read : (n : ℕ) (rows : List Row) → list_all is_typed rows ≡ true → list_all is_spelled rows ≡ true → IsRead n rows
is-read n [] t s = record { typed = refl; spelled = refl; text = refl; fresh = refl; size = refl; names = refl }
is-read n (row ∷ rows) t s =
    let (line, spelled, twice) = line-same n row (and_parts _ _ t).0 (and_parts _ _ s).0 in
    let more = is-read (n + 1) rows (and_parts (is_typed row) _ t).1 (and_parts (is_spelled row) _ s).1 in
    record {
      typed = and_from _ _ (and_parts _ _ t).0 more.typed;
      spelled = and_from _ _ spelled more.spelled;
      text = ap₂ (λ (x y : List ℕ). x ++ y) line more.text;
      fresh = ap₂ (λ (x : Row) (xs : List Row). x ∷ xs) (sym twice) more.fresh;
      size = ap suc more.size;
      names = ap (λ z. row.id ∷ z) more.names;
    }

-- whether an id is taken is a matter of the ids alone
any-ids : (name : List ℕ) (rows : List Row) → list_any (has_id name) rows ≡ list_any (λ id. option_eq bytes_eq id (Some name)) (map (λ row. row.id) rows)
any-ids name [] = refl
any-ids name (row ∷ rows) = ap (λ (b : Bool). has_id name row || b) (any-ids name rows)

taken-same : (id : Option (List ℕ)) (xs ys : List Row) → map (λ row. row.id) xs ≡ map (λ row. row.id) ys → is_taken id xs ≡ is_taken id ys
taken-same None xs ys e = refl
taken-same (Some name) xs ys e = any-ids name xs ∙ ap (list_any (λ id. option_eq bytes_eq id (Some name))) e ∙ sym (any-ids name ys)

ids-map : (xs : List Row) (x : Row) → map (λ row. row.id) (xs ++ x ∷ []) ≡ map (λ row. row.id) xs ++ x.id ∷ []
ids-map [] x = refl
ids-map (y ∷ xs) x = ap (λ z. y.id ∷ z) (ids-map xs x)

ids-same : (n : ℕ) (xs ys rows : List Row) → map (λ row. row.id) xs ≡ map (λ row. row.id) ys → ids_differ ys rows ≡ true → ids_differ xs (read_again n rows) ≡ true
ids-same n xs ys [] e h = refl
ids-same n xs ys (row ∷ rows) e h =
    and_from _ _ (ap not (taken-same row.id xs ys e) ∙ (and_parts _ _ h).0)
    (ids-same (n + 1) (xs ++ read_row n row ∷ []) (ys ++ row ∷ []) rows (ids-map xs (read_row n row) ∙ ap (λ z. z ++ row.id ∷ []) e ∙ sym (ids-map ys row)) (and_parts (not (is_taken row.id ys)) _ h).1)

follow-same : (n m : ℕ) (last : Row) (rows : List Row) → MayAllFollow last rows → MayAllFollow (read_row n last) (read_again m rows)
follow-same n m last [] h = tt
follow-same n m last (row ∷ rows) h =
    let f = h.0 in
    (record { below_first = f.below_first; shallow = f.shallow; step = f.step; held = f.held; no_screen = f.no_screen }, follow-same m (m + 1) row rows h.1)

preorder-same : (rows : List Row) → IsPreorder rows → IsPreorder (read_again 1 rows)
preorder-same [] h = h
preorder-same (row ∷ rows) h = let f = h.0 in (record { number = refl; depth = f.depth; screen = f.screen }, follow-same 1 2 row rows h.1)

-- ---- a tree has no more rows than nodes were made

abbrev InRange : List Row → ℕ → Type 0
InRange rows m = (n : ℕ) → 0 < count_of n rows → (1 ≤ n) × (n ≤ m)

counted-row : (n : ℕ) (rows : List Row) → 0 < count_of n rows → (front : List Row) × (row : Row) × (back : List Row) × (rows ≡ front ++ (row ∷ back)) × (row.node.0 ≡ n)
counted-row n [] h = absurd (omega (arith, h))
counted-row n (r ∷ rows) h = by (has_number n r) refl h (counted-row n rows)
  where
    by : (b : Bool) → has_number n r ≡ b → 0 < cond {A = ℕ} b 1 0 + count_of n rows
        → (0 < count_of n rows → (front : List Row) × (row : Row) × (back : List Row) × (rows ≡ front ++ (row ∷ back)) × (row.node.0 ≡ n))
        → (front : List Row) × (row : Row) × (back : List Row) × (r ∷ rows ≡ front ++ (row ∷ back)) × (row.node.0 ≡ n)
    by true e g more = ([], r, rows, refl, same-byte r.node.0 n e)
    by false e g more = let (front, row, back, is, at) = more (omega (arith, g)) in (r ∷ front, row, back, ap (λ (z : List Row). r ∷ z) is, at)

without-row : (n : ℕ) (rows front : List Row) (row : Row) (back : List Row) → rows ≡ front ++ (row ∷ back) → count_of n rows ≡ cond {A = ℕ} (has_number n row) 1 0 + count_of n (front ++ back)
without-row n rows front row back is =
    let a = ap (count_of n) is ∙ count_of-append n front (row ∷ back) in
    let b = count_of-append n front back in
    omega (arith, a, b)

bounded : (m : ℕ) (rows : List Row) → Once rows → InRange rows m → length rows ≤ m
bounded zero [] once range = omega arith
bounded zero (row ∷ rows) once range =
    let own = found-row [] row rows once in
    let here : 0 < count_of row.node.0 (row ∷ rows) = (let e = ap (λ (b : Bool). cond {A = ℕ} b 1 0 + count_of row.node.0 rows) ((Decides-eqb row.node.0 row.node.0).1 refl) in omega (arith, e)) in
    let (least, most) = range row.node.0 here in
    absurd (omega (arith, least, most))
bounded (suc m) rows once range = by (nat_lt 0 (count_of (suc m) rows)) refl (λ front back. bounded m (front ++ back)) (bounded m rows)
  where
    by : (b : Bool) → nat_lt 0 (count_of (suc m) rows) ≡ b → ((front back : List Row) → Once (front ++ back) → InRange (front ++ back) m → length (front ++ back) ≤ m) → (Once rows → InRange rows m → length rows ≤ m) → length rows ≤ suc m
    by false e less same =
        let none = ltb-false 0 (count_of (suc m) rows) e in
        let few = same once (λ n h.
        let (least, most) = range n h in
        let other : n ≢ suc m = λ here. (let f = ap (λ (k : ℕ). count_of k rows) here in absurd (omega (arith, f, none, h))) in
        (least, omega (arith, most, other))) in
        omega (arith, few)
    by true e less same =
        let (front, row, back, is, at) = counted-row (suc m) rows (ltb-true 0 (count_of (suc m) rows) e) in
        let own : has_number (suc m) row ≡ true = (Decides-eqb row.node.0 (suc m)).1 at in
        let few = less front back
        (λ n. let a = once n in let b = without-row n rows front row back is in omega (arith, a, b))
        (λ n h.
        let b = without-row n rows front row back is in
        let (least, most) = range n (omega (arith, b, h)) in
        let other : n ≢ suc m = λ here.
        (let one = once (suc m) in
        let whole = without-row (suc m) rows front row back is ∙ ap (λ (x : Bool). cond {A = ℕ} x 1 0 + count_of (suc m) (front ++ back)) own in
        let there = ap (λ (k : ℕ). count_of k (front ++ back)) here in
        absurd (omega (arith, one, whole, there, h))) in
        (least, omega (arith, most, other))) in
        let all = ap length is ∙ length-append front (row ∷ back) in
        let rest = length-append front back in
        omega (arith, few, all, rest)

pub again-law : (tree : TreeValue) → IsTree tree → list_all is_typed tree.rows ≡ true → list_all is_spelled tree.rows ≡ true → tree_of (spelling tree.rows) ≡ Ok (read_again 1 tree.rows)
again-law tree whole typed spelled =
    let is = is-read 1 tree.rows typed spelled in
    let size = is.size in
    let few = bounded tree.made tree.rows whole.once whole.in_range in
    let made = whole.few in
    let preorder = preorder-same tree.rows whole.preorder in
    ap tree_of (sym is.text)
    ∙ file-again (read_again 1 tree.rows) (record {
      preorder = preorder-some (read_again 1 tree.rows) preorder;
      typed = is.typed;
      spelled = is.spelled;
      fresh = is.fresh;
      ids = ids-same 1 [] [] tree.rows refl (ids-of tree.rows [] tree.rows refl whole.once whole.one_id);
      few = omega (arith, size, few, made);
    }) preorder
