-- There is one first fault.
use Rattle.std.proofs.lemmas.Bool.{and_parts}
use Rattle.std.proofs.Common.{◌≡◌, ℕ, ◌+◌, ◌/◌, ◌≤◌, ◌==◌, Bool, true, false, cond, not, List, [], ◌∷◌, ◌++◌, length, Option, Some, None, Result, Ok, Err, refl, ap, sym, subst, ◌∙◌, arith, append-nil, ◌≢◌, ◌⊎◌, inl, inr}
use Rattle.std.specs.List.{list_all}
use Rattle.std.proofs.lemmas.Bool.{false≢true, ne_eqb}
use Rattle.tx_read.specs.Pieces.{pieces, onto}
use Rattle.tx_tree.specs.Kind.{is_screen}
use Rattle.tx_tree.specs.Mount.{is_taken}
use Rattle.tx_tree.specs.Row.{placed}
use Rattle.tx_tree.specs.Spelled.{key_is_spelled, no_line_feed}
use Rattle.tx_tree.specs.declared.bind.Bind.{Bind}
use Rattle.tx_tree.specs.declared.fault.TreeKind.{TreeKind}
use Rattle.tx_tree.specs.declared.fault.TreeKind.TheVariants.{BadByte, BadIndent, TooDeep, Expected, Leaf, TooMany, DuplicateId}
use Rattle.tx_tree.specs.declared.row.NewRow.{NewRow}
use Rattle.tx_tree.specs.declared.row.Row.{Row}
use Rattle.tx_tree_file.proofs.FoundLines.{row-found, bind-found}
use Rattle.tx_tree_file.proofs.Fronts.{same-byte}
use Rattle.tx_tree_file.proofs.LastRows.{ifs, item-inv, is_bind, is_widget, other_than}
use Rattle.tx_tree_file.specs.FirstFault.{is_held, line_count, IsBegun, last_row, SpellsRow, IsPlaced, IsRowLine, IsNothing, Breaks, is_line_end, is_ended, IsFirstFault}
use Rattle.tx_tree_file.proofs.AgainLines.{has-parts, row-begins, row_line-again, new_of}
use Rattle.tx_tree_file.proofs.LastRows.{stands-inv}
use Rattle.tx_tree_file.proofs.Whole.{indented}
use Rattle.std.specs.Str.{is_utf8}
use Rattle.tx_tree_file.specs.Indent.{may_indent, starts_bind, blanks, past_blanks, is_bind_line, may_stand}
use Rattle.tx_tree_file.specs.Spelling.{indent, row_text, bind_text, spelling}
use Rattle.tx_tree_file.specs.TreeFile.{bind_is_typed}
use Rattle.tx_tree_file.specs.TreeReading.{Begun, screen, first_item, with_first, widget, bind_item, row_item, item_of, row_of, bind_of, with_new, with_item, next_line, or_fault, is_empty, rows_behind, rows_so_far, rows_of_lines, tree_of}
use Rattle.tx_tree_file.specs.declared.line.Item.{Item}
use Rattle.tx_tree_file.specs.declared.line.Item.TheVariants.{Binding, Widget}
use Rattle.std.proofs.lemmas.Bool.Decides.{Decides-eqb}
use Rattle.tx_tree_file.proofs.AgainParts.{not_inv}
use Rattle.tx_tree_file.proofs.LastRows.{is_bind, is_widget}
use Rattle.tx_tree_file.proofs.AgainFile.{cut-again, file-reached}
use Rattle.tx_tree_file.proofs.Faults.{spelled-blanks, last-snoc, some_rows, row_line-of, bind_item-err, widget-err, screen-err}
use Rattle.tx_tree_file.proofs.LastRows.{more_lines}
use Rattle.tx_tree_file.proofs.Whole.{first-cut, screen-inv, bind_stands-inv}

-- a line at the end
pub cut-last : (line : List ℕ) → list_all no_line_feed line ≡ true → pieces 10 line ≡ line ∷ []
cut-last [] h = refl
cut-last (b ∷ line) h =
    let other : (b == 10) ≡ false = not_inv (b == 10) (and_parts (no_line_feed b) _ h).0 in
    ap (λ (x : Bool). cond x ([] ∷ pieces 10 line) (onto b (pieces 10 line))) other ∙ ap (onto b) (cut-last line (and_parts (no_line_feed b) _ h).1)

-- a binding's line
record IsBindLine (begun : Begun) (line : List ℕ) (bind : Bind) : Type 0 where
  pub typed : bind_is_typed bind ≡ true
  pub spelled : key_is_spelled bind.key ≡ true
  pub text : line ≡ indent (begun.last.depth + 1) ++ bind_text bind

next-bind-text : (begun : Begun) (line : List ℕ) (bind : Bind) → item_of begun.last.depth line true ≡ Ok (Binding bind) → IsBindLine begun line bind
next-bind-text begun line bind is =
    let item = (item-inv begun.last.depth line true (Binding bind) is).1 in
    by (is_bind_line line) item.stands item.is
  where
    by : (b : Bool) → not (may_stand begun.last.depth b (blanks line)) ≡ false → cond b (bind_item (past_blanks line) true) (row_item (blanks line) (past_blanks line) true) ≡ Ok (Binding bind) → IsBindLine begun line bind
    by true stands e =
        let (found, some, same) = is_bind (bind_of (past_blanks line)) (Binding bind) e in
        let that : found ≡ bind = cc in
        let text = bind-found (past_blanks line) bind (some ∙ ap Some that) in
        record {
          typed = text.typed;
          spelled = text.spelled;
          text = indented line (begun.last.depth + 1) (bind_stands-inv begun.last.depth (blanks line) stands) ∙ ap (λ (z : List ℕ). indent (begun.last.depth + 1) ++ z) text.text;
        }
    by false stands e =
        let (few, g) = ifs (blanks line == 128) _ TooDeep (Binding bind) e in
        let (found, row, other, same) = is_widget (blanks line / 2) (row_of (past_blanks line)) (Binding bind) g in
        absurd cc

-- ---- the rule that is broken is the one that is told

indent-inv : (begun : Begun) (rows : List Row) (line : List ℕ) → rows_so_far begun ≡ rows → (b : Bool) → may_indent (last_row rows) line ≡ b → may_stand begun.last.depth (is_bind_line line) (blanks line) ≡ b
indent-inv begun rows line is b e = ap (λ (o : Option Row). may_indent o line) (sym (ap last_row (sym is) ∙ last-snoc begun.before begun.last)) ∙ e

-- a row's line, where its indent may stand there
there-again : (begun : Begun) (rows : List Row) (line : List ℕ) (row : Row) → rows_so_far begun ≡ rows → begun.last.depth ≤ 63 → IsPlaced rows line → SpellsRow rows line row
    → item_of begun.last.depth line true ≡ Ok (Widget row.depth (new_of row))
there-again begun rows line row is deep placed_ok h =
    let parts = has-parts row h.typed h.spelled in
    let (begins, no_bind) = row-begins row parts.kind_spelled in
    let (count, past) = spelled-blanks row.depth line (row_text row) begins h.text in
    let is_row : is_bind_line line ≡ false = ap starts_bind past ∙ no_bind in
    let stands = indent-inv begun rows line is true placed_ok.indented.indent in
    let may : may_stand begun.last.depth false (blanks line) ≡ true = ap (λ (b : Bool). may_stand begun.last.depth b (blanks line)) (sym is_row) ∙ stands in
    let (even, least, most) = stands-inv begun.last.depth (blanks line) (ap not may) in
    let few : (blanks line == 128) ≡ false = ap (λ (b : Bool). cond b false (blanks line == 128)) (sym is_row) ∙ placed_ok.shallow in
    let less = other_than (blanks line) 128 few in
    let some : is_screen row.kind ≡ false = h.screen ∙ ap (λ (z : List Row). length z == 0) (sym is) ∙ some_rows begun in
    ap (λ (z : List ℕ). item_of begun.last.depth z true) h.text
    ∙ row_line-again begun.last.depth row.depth row parts some (omega (arith, count, least)) (omega (arith, count, most, less, deep)) (omega (arith, count, most))

-- a line that may stand there, by what it is
placed-item : (begun : Begun) (rows : List Row) (line : List ℕ) (ended : Bool) → rows_so_far begun ≡ rows → IsPlaced rows line
    → item_of begun.last.depth line ended ≡ cond (is_bind_line line) (bind_item (past_blanks line) ended) (cond ended (widget (blanks line / 2) (row_of (past_blanks line))) (Err Expected))
placed-item begun rows line ended is h =
    let stands = indent-inv begun rows line is true h.indented.indent in
    ap (λ (b : Bool). cond (not b) (Err BadByte) (cond (not (may_stand begun.last.depth (is_bind_line line) (blanks line))) (Err BadIndent) (cond (is_bind_line line) (bind_item (past_blanks line) ended) (row_item (blanks line) (past_blanks line) ended)))) h.indented.utf8
    ∙ ap (λ (b : Bool). cond (not b) (Err BadIndent) (cond (is_bind_line line) (bind_item (past_blanks line) ended) (row_item (blanks line) (past_blanks line) ended))) stands
    ∙ by (is_bind_line line) h.shallow
  where
    rest : Result Item TreeKind
    rest = cond ended (widget (blanks line / 2) (row_of (past_blanks line))) (Err Expected)

    by : (b : Bool) → cond b false (blanks line == 128) ≡ false
        → cond b (bind_item (past_blanks line) ended) (cond (blanks line == 128) (Err TooDeep) rest) ≡ cond b (bind_item (past_blanks line) ended) rest
    by true e = refl
    by false e = ap (λ (x : Bool). cond x (Err TooDeep) rest) e

unended-again : (b : Bool) (text : List ℕ) → ◌≡◌ {A = Result Item TreeKind} (cond b (bind_item text false) (Err Expected)) (Err Expected)
unended-again true text = refl
unended-again false text = refl

-- a line that is nothing
nothing-again : (begun : Begun) (rows : List Row) (line : List ℕ) → rows_so_far begun ≡ rows → begun.last.depth ≤ 63 → list_all no_line_feed line ≡ true → IsPlaced rows line → IsNothing rows line
    → item_of begun.last.depth line true ≡ Err Expected
nothing-again begun rows line is deep whole h none = by (item_of begun.last.depth line true) refl (placed-item begun rows line true is h)
  where
    by : (r : Result Item TreeKind) → item_of begun.last.depth line true ≡ r → item_of begun.last.depth line true ≡ cond (is_bind_line line) (bind_item (past_blanks line) true) (widget (blanks line / 2) (row_of (past_blanks line)))
        → item_of begun.last.depth line true ≡ Err Expected
    by (Ok (Widget d new)) e g = absurd (none.no_row (placed new 0 d) (subst (λ (z : List Row). SpellsRow z line (placed new 0 d)) is (row_line-of begun line true d new whole e).spells))
    by (Ok (Binding bind)) e g =
        let next = next-bind-text begun line bind e in
        absurd (none.no_bind bind (record { typed = next.typed; spelled = next.spelled; last = begun.last; behind = ap last_row (sym is) ∙ last-snoc begun.before begun.last; text = next.text }))
    by (Err kind) e g = e ∙ ap Err (kind-is (is_bind_line line) (sym e ∙ g))
      where
        kind-is : (b : Bool) → Err kind ≡ cond b (bind_item (past_blanks line) true) (widget (blanks line / 2) (row_of (past_blanks line))) → kind ≡ Expected
        kind-is true k = bind_item-err (past_blanks line) true kind (sym k)
        kind-is false k = widget-err (blanks line / 2) (row_of (past_blanks line)) kind (sym k)

new-again : (rows : List Row) (d : ℕ) (new : NewRow) (kind : TreeKind)
    → ((is_held d rows ≡ false) × (kind ≡ Leaf)) ⊎ (((is_held d rows ≡ true) × (length rows ≡ 65536) × (kind ≡ TooMany)) ⊎ ((is_held d rows ≡ true) × (length rows ≢ 65536) × (is_taken new.id rows ≡ true) × (kind ≡ DuplicateId)))
    → with_new rows d new ≡ Err kind
new-again rows d new kind (inl h) = rw (h.0, h.1) refl
new-again rows d new kind (inr (inl h)) = let full : (length rows == 65536) ≡ true = (Decides-eqb (length rows) 65536).1 h.1 in rw (h.0, full, h.2) refl
new-again rows d new kind (inr (inr h)) = let few : (length rows == 65536) ≡ false = ne_eqb (length rows) 65536 h.1 in rw (h.0, few, h.2, h.3) refl

row-again-fault : (begun : Begun) (rows : List Row) (line : List ℕ) (ended : Bool) (row : Row) (kind : TreeKind) → rows_so_far begun ≡ rows → begun.last.depth ≤ 63 → IsRowLine rows line ended row
    → with_new rows row.depth (new_of row) ≡ Err kind → next_line begun line ended ≡ Err kind
row-again-fault begun rows line ended row kind is deep h g =
    ap (λ (b : Bool). next_line begun line b) h.whole
    ∙ ap (with_item begun) (there-again begun rows line row is deep h.placed h.spells)
    ∙ ap (λ (z : List Row). with_new z row.depth (new_of row)) is ∙ g

breaks-again : (begun : Begun) (rows : List Row) (line : List ℕ) (ended : Bool) (kind : TreeKind) → rows_so_far begun ≡ rows → begun.last.depth ≤ 63 → list_all no_line_feed line ≡ true → Breaks rows line ended kind
    → next_line begun line ended ≡ Err kind
breaks-again begun rows line ended BadByte is deep whole h = ap (with_item begun) (ap (λ (b : Bool). cond (not b) (Err BadByte) (cond (not (may_stand begun.last.depth (is_bind_line line) (blanks line))) (Err BadIndent) (cond (is_bind_line line) (bind_item (past_blanks line) ended) (row_item (blanks line) (past_blanks line) ended)))) h)
breaks-again begun rows line ended BadIndent is deep whole h =
    ap (with_item begun) (
    ap (λ (b : Bool). cond (not b) (Err BadByte) (cond (not (may_stand begun.last.depth (is_bind_line line) (blanks line))) (Err BadIndent) (cond (is_bind_line line) (bind_item (past_blanks line) ended) (row_item (blanks line) (past_blanks line) ended)))) h.0
    ∙ ap (λ (b : Bool). cond (not b) (Err BadIndent) (cond (is_bind_line line) (bind_item (past_blanks line) ended) (row_item (blanks line) (past_blanks line) ended))) (indent-inv begun rows line is false h.1))
breaks-again begun rows line ended TooDeep is deep whole h =
    ap (with_item begun) (
    ap (λ (b : Bool). cond (not b) (Err BadByte) (cond (not (may_stand begun.last.depth (is_bind_line line) (blanks line))) (Err BadIndent) (cond (is_bind_line line) (bind_item (past_blanks line) ended) (row_item (blanks line) (past_blanks line) ended)))) h.0.utf8
    ∙ ap (λ (b : Bool). cond (not b) (Err BadIndent) (cond (is_bind_line line) (bind_item (past_blanks line) ended) (row_item (blanks line) (past_blanks line) ended))) (indent-inv begun rows line is true h.0.indent)
    ∙ by (is_bind_line line) (blanks line == 128) h.1)
  where
    by : (b f : Bool) → cond b false f ≡ true → cond b (bind_item (past_blanks line) ended) (cond f (Err TooDeep) (cond ended (widget (blanks line / 2) (row_of (past_blanks line))) (Err Expected))) ≡ Err TooDeep
    by true f g = absurd (false≢true g)
    by false true g = refl
    by false false g = absurd (false≢true g)
breaks-again begun rows line ended Expected is deep whole (h, inl bare) =
    ap (λ (b : Bool). next_line begun line b) bare
    ∙ ap (with_item begun) (placed-item begun rows line false is h ∙ unended-again (is_bind_line line) (past_blanks line))
breaks-again begun rows line true Expected is deep whole (h, inr none) = ap (with_item begun) (nothing-again begun rows line is deep whole h none)
breaks-again begun rows line false Expected is deep whole (h, inr none) = ap (with_item begun) (placed-item begun rows line false is h ∙ unended-again (is_bind_line line) (past_blanks line))
breaks-again begun rows line ended Leaf is deep whole (row, h, held) = row-again-fault begun rows line ended row Leaf is deep h (new-again rows row.depth (new_of row) Leaf (inl (held, refl)))
breaks-again begun rows line ended TooMany is deep whole (row, h, held, full) = row-again-fault begun rows line ended row TooMany is deep h (new-again rows row.depth (new_of row) TooMany (inr (inl (held, full, refl))))
breaks-again begun rows line ended DuplicateId is deep whole (row, h, held, few, taken) = row-again-fault begun rows line ended row DuplicateId is deep h (new-again rows row.depth (new_of row) DuplicateId (inr (inr (held, few, taken, refl))))

-- ---- the first line

flat_line : (line : List ℕ) (b : Bool) → cond b true (blanks line == 0) ≡ true → cond b false (blanks line == 128) ≡ true → ⊥
flat_line line true e h = false≢true h
flat_line line false e h = false≢true (sym (ap (λ (n : ℕ). n == 128) (same-byte (blanks line) 0 e)) ∙ h)

spells-screen : (line : List ℕ) (new : NewRow) → list_all no_line_feed line ≡ true → row_of line ≡ Some new → is_screen new.kind ≡ true → SpellsRow [] line (placed new 0 0)
spells-screen line new whole row is =
    let text = row-found line new row in
    record { typed = text.typed; spelled = text.spelled whole; text = text.text; alone = text.alone; screen = is }

-- what a line that is UTF-8 is, by whether it is a binding
abbrev behind_utf8 : List ℕ → Bool → Bool → Result NewRow TreeKind
behind_utf8 line ended b = cond b (Err Expected) (cond (not (blanks line == 0)) (Err BadIndent) (cond ended (screen (row_of line)) (Err Expected)))

utf8_first : (line : List ℕ) (ended u : Bool) → is_utf8 line ≡ u → first_item line ended ≡ cond (not u) (Err BadByte) (behind_utf8 line ended (is_bind_line line))
utf8_first line ended u e = ap (λ (b : Bool). cond (not b) (Err BadByte) (behind_utf8 line ended (is_bind_line line))) e

first-breaks-again : (line : List ℕ) (ended : Bool) (kind : TreeKind) → list_all no_line_feed line ≡ true → Breaks [] line ended kind → first_item line ended ≡ Err kind
first-breaks-again line ended BadByte whole h = utf8_first line ended false h
first-breaks-again line ended BadIndent whole h = utf8_first line ended true h.0 ∙ by (is_bind_line line) refl h.1
  where
    by : (b : Bool) → is_bind_line line ≡ b → cond b true (blanks line == 0) ≡ false → behind_utf8 line ended b ≡ Err BadIndent
    by true eb e = absurd (false≢true (sym e))
    by false eb e = ap (λ (m : Bool). cond (not m) (Err BadIndent) (cond ended (screen (row_of line)) (Err Expected))) e
first-breaks-again line ended TooDeep whole h = absurd (flat_line line (is_bind_line line) h.0.indent h.1)
first-breaks-again line ended Expected whole (h, why) =
    utf8_first line ended true h.indented.utf8 ∙ bound (is_bind_line line) h.indented.indent
  where
    at : (r : Result NewRow TreeKind) → screen (row_of line) ≡ r → IsNothing [] line → screen (row_of line) ≡ Err Expected
    at (Err kind) e none = e ∙ ap Err (screen-err (row_of line) kind e)
    at (Ok new) e none = let (row, is) = screen-inv (row_of line) new e in absurd (none.no_row (placed new 0 0) (spells-screen line new whole row is))

    by : (b : Bool) → (b ≡ false) ⊎ IsNothing [] line → cond b (screen (row_of line)) (Err Expected) ≡ Err Expected
    by false w = refl
    by true (inl w) = absurd (false≢true (sym w))
    by true (inr none) = at (screen (row_of line)) refl none

    bound : (b : Bool) → cond b true (blanks line == 0) ≡ true → behind_utf8 line ended b ≡ Err Expected
    bound true e = refl
    bound false e = ap (λ (m : Bool). cond (not m) (Err BadIndent) (cond ended (screen (row_of line)) (Err Expected))) e ∙ by ended why
first-breaks-again line ended Leaf whole (row, h, held) = absurd (false≢true (sym held))
first-breaks-again line ended TooMany whole (row, h, held, full) = absurd (omega (arith, full))
first-breaks-again line ended DuplicateId whole (row, h, held, few, taken) = absurd (by row.id taken)
  where
    by : (id : Option (List ℕ)) → is_taken id [] ≡ true → ⊥
    by None e = false≢true e
    by (Some name) e = false≢true e

-- ---- the whole file

filled_line : (line : List ℕ) → line ++ [] ≢ [] → is_empty line ≡ false
filled_line [] h = absurd (h refl)
filled_line (b ∷ line) h = refl

pub fault-once : (bytes : List ℕ) (number : ℕ) (kind : TreeKind) → IsFirstFault bytes number kind → tree_of bytes ≡ Err (record { line = number; kind = kind })
fault-once bytes number kind h =
    ap tree_of h.place ∙ by h.rows h.after h.begun h.ends h.more h.broken ∙ ap (λ (n : ℕ). Err (record { line = n; kind = kind })) (sym h.counted)
  where
    line : List ℕ
    line = h.line

    by : (rows : List Row) (after : List ℕ) → IsBegun rows → is_line_end after ≡ true → (rows ≡ []) ⊎ (line ++ after ≢ []) → Breaks rows line (is_ended after) kind
        → tree_of (spelling rows ++ (line ++ after)) ≡ Err (record { line = line_count rows + 1; kind = kind })
    by [] [] begun ends more broken =
        ap rows_of_lines (ap (pieces 10) (append-nil line) ∙ cut-last line h.whole)
        ∙ ap (λ (r : Result NewRow TreeKind). or_fault 1 (with_first r) (rows_behind [] 1)) (first-breaks-again line false kind h.whole broken)
    by [] (b ∷ after) begun ends more broken =
        let feed = same-byte b 10 ends in
        ap (λ (x : ℕ). tree_of (line ++ (x ∷ after))) feed
        ∙ first-cut (line ++ (10 ∷ after)) line after (cut-again line after h.whole)
        ∙ ap (λ (r : Result NewRow TreeKind). or_fault 1 (with_first r) (rows_behind (pieces 10 after) 1)) (first-breaks-again line true kind h.whole broken)
    by (row ∷ rows) [] begun ends (inl none) broken = absurd cc
    by (row ∷ rows) [] begun ends (inr some) broken =
        let there = file-reached (row ∷ rows) (line ++ []) begun begun.preorder in
        there.read
        ∙ ap (λ (ps : List (List ℕ)). rows_behind ps (line_count (row ∷ rows)) there.next) (ap (pieces 10) (append-nil line) ∙ cut-last line h.whole)
        ∙ ap (λ (b : Bool). cond b (Ok (rows_so_far there.next)) (or_fault (line_count (row ∷ rows) + 1) (next_line there.next line false) (rows_behind [] (line_count (row ∷ rows) + 1)))) (filled_line line some)
        ∙ ap (λ (r : Result Begun TreeKind). or_fault (line_count (row ∷ rows) + 1) r (rows_behind [] (line_count (row ∷ rows) + 1))) (breaks-again there.next (row ∷ rows) line false kind there.is there.deep h.whole broken)
    by (row ∷ rows) (b ∷ after) begun ends more broken =
        let there = file-reached (row ∷ rows) (line ++ (b ∷ after)) begun begun.preorder in
        let feed = same-byte b 10 ends in
        there.read
        ∙ ap (λ (x : ℕ). rows_behind (pieces 10 (line ++ (x ∷ after))) (line_count (row ∷ rows)) there.next) feed
        ∙ ap (λ (ps : List (List ℕ)). rows_behind ps (line_count (row ∷ rows)) there.next) (cut-again line after h.whole)
        ∙ more_lines line after (line_count (row ∷ rows)) there.next
        ∙ ap (λ (r : Result Begun TreeKind). or_fault (line_count (row ∷ rows) + 1) r (rows_behind (pieces 10 after) (line_count (row ∷ rows) + 1))) (breaks-again there.next (row ∷ rows) line true kind there.is there.deep h.whole broken)
