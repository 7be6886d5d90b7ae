-- The first line that breaks a rule.
use Rattle.std.proofs.lemmas.Bool.{and_parts}
use Rattle.std.proofs.Common.{◌≡◌, ℕ, ◌+◌, ◌*◌, ◌/◌, ◌≤◌, ◌==◌, Bool, true, false, cond, not, List, [], ◌∷◌, ◌++◌, length, replicate, Option, Some, None, Result, Ok, Err, refl, ap, ap₂, sym, subst, ◌∙◌, arith, append_assoc, append-nil, length-append, ◌≢◌, ◌⊎◌, inl, inr, ⊎_elim, codes}
use Rattle.std.specs.List.{list_all}
use Rattle.std.specs.Str.{is_utf8}
use Rattle.std.proofs.lemmas.Bool.{false≢true, ne_eqb}
use Rattle.tx_read.specs.Pieces.{pieces}
use Rattle.tx_tree.specs.Kind.{is_screen}
use Rattle.tx_tree.specs.Mount.{is_taken}
use Rattle.tx_tree.specs.Row.{placed}
use Rattle.tx_tree.specs.Spelled.{is_spelled, no_line_feed}
use Rattle.tx_tree.specs.WellFormed.{IsPreorder}
use Rattle.tx_tree.specs.declared.bind.Bind.{Bind}
use Rattle.tx_tree.specs.declared.fault.TreeFault.{TreeFault}
use Rattle.tx_tree.specs.declared.fault.TreeFault.TheVariants.{Grammar, NoNode, DuplicateId as DuplicateId', TooMany as TooMany', TooDeep as TooDeep', Root, Leaf as Leaf', NotSiblings, NoMemory}
use Rattle.tx_tree.specs.declared.fault.TreeKind.{TreeKind}
use Rattle.tx_tree.specs.declared.fault.TreeKind.TheVariants.{BadByte, BadIndent, TooDeep, Expected, Leaf, TooMany, DuplicateId}
use Rattle.tx_tree.specs.declared.row.NewRow.{NewRow}
use Rattle.tx_tree.specs.declared.row.Row.{Row}
use Rattle.tx_tree_file.proofs.FoundLines.{row-found, all-behind}
use Rattle.tx_tree_file.proofs.Fronts.{same-byte, some-same, none-some}
use Rattle.tx_tree_file.proofs.Growing.{all-snoc}
use Rattle.tx_tree_file.proofs.LastRows.{item-inv, row_item-inv, other_than, some_piece}
use Rattle.tx_tree_file.proofs.Repeats.{not_true}
use Rattle.tx_tree_file.specs.FirstFault.{is_held, line_count, IsPreorderOrNone, IsBegun, last_row, SpellsRow, SpellsBind, IsIndented, IsPlaced, IsRowLine, IsNothing, Breaks, is_line_end, is_ended, IsFirstFault, IsFaultOf}
use Rattle.tx_tree_file.proofs.AgainLines.{has-parts, row-begins, blanks-again, row-again, row_line-again, bind_line-again, new_of, BeginsOther}
use Rattle.tx_tree_file.proofs.LastRows.{stands-inv}
use Rattle.tx_tree_file.proofs.Whole.{Stands, ends-preorder, ids-snoc, again-snoc, blanks_split, indented, next-found, first-inv, first-stands, first-text, joined, joined-pieces, pieces-whole, count-last}
use Rattle.tx_tree_file.specs.Indent.{may_indent, is_too_deep, starts_bind, blanks, past_blanks, is_bind_line, may_stand}
use Rattle.tx_tree_file.specs.Spelling.{indent, row_text, bind_text, spelling}
use Rattle.tx_tree_file.specs.TreeFile.{is_typed}
use Rattle.tx_tree_file.specs.TreeReading.{Begun, LineFault, screen, first_item, with_first, binding, widget, bind_item, item_of, row_of, bind_of, with_new, with_item, next_line, or_fault, is_empty, rows_behind, rows_so_far, rows_of_lines, tree_of, FaultIs}
use Rattle.tx_tree_file.specs.declared.line.Item.{Item}
use Rattle.tx_tree_file.specs.declared.line.Item.TheVariants.{Binding, Widget}

pub ok-err : {A F B : Type 0} {x : A} {f : F} → ◌≡◌ {A = Result A F} (Ok x) (Err f) → B
ok-err h = absurd cc

pub err-same : {A F : Type 0} {x y : F} → ◌≡◌ {A = Result A F} (Err x) (Err y) → x ≡ y
err-same h = cc

pub last-snoc : (rows : List Row) (last : Row) → last_row (rows ++ last ∷ []) ≡ Some last
last-snoc [] last = refl
last-snoc (row ∷ []) last = refl
last-snoc (row ∷ next ∷ rows) last = last-snoc (next ∷ rows) last

pub preorder-some : (rows : List Row) → IsPreorder rows → IsPreorderOrNone rows
preorder-some [] h = absurd h
preorder-some (row ∷ rows) h = h

pub begun-of : (begun : Begun) → Stands begun → IsBegun (rows_so_far begun)
begun-of begun h =
    let size = length-append begun.before (begun.last ∷ []) in
    record {
      preorder = preorder-some (rows_so_far begun) (ends-preorder begun.before begun.last h.preorder);
      typed = all-snoc is_typed begun.before begun.last h.typed h.last_typed;
      spelled = all-snoc is_spelled begun.before begun.last h.spelled h.last_spelled;
      fresh = ap₂ (λ (xs : List Row) (x : Row). xs ++ x ∷ []) h.fresh h.last_fresh ∙ sym (again-snoc 1 begun.before begun.last);
      ids = ids-snoc [] begun.before begun.last h.ids h.last_id;
      few = omega (arith, size, h.few);
    }

-- ---- a line that is nothing

pub spelled-blanks : (d : ℕ) (line text : List ℕ) → BeginsOther text → line ≡ indent d ++ text → (blanks line ≡ 2 * d) × (past_blanks line ≡ text)
spelled-blanks d line text h e =
    let (count, past) = blanks-again (2 * d) text h in
    (ap blanks e ∙ count, ap past_blanks e ∙ past)

pub some_rows : (begun : Begun) → (length (rows_so_far begun) == 0) ≡ false
some_rows begun = let size = length-append begun.before (begun.last ∷ []) in ne_eqb (length (rows_so_far begun)) 0 (λ same. absurd (omega (arith, size, same)))

no_row-there : (begun : Begun) (line : List ℕ) (kind : TreeKind) → begun.last.depth ≤ 63 → may_stand begun.last.depth (is_bind_line line) (blanks line) ≡ true → is_too_deep line ≡ false
    → item_of begun.last.depth line true ≡ Err kind → (row : Row) → SpellsRow (rows_so_far begun) line row → ⊥
no_row-there begun line kind deep stands shallow is row h =
    let parts = has-parts row h.typed h.spelled in
    let (begins, no_bind) = row-begins row parts.kind_spelled in
    let (count, past) = spelled-blanks row.depth line (row_text row) begins h.text in
    let is_row : is_bind_line line ≡ false = ap starts_bind past ∙ no_bind in
    let may : may_stand begun.last.depth false (blanks line) ≡ true = ap (λ (b : Bool). may_stand begun.last.depth b (blanks line)) (sym is_row) ∙ stands in
    let (even, least, most) = stands-inv begun.last.depth (blanks line) (ap not may) in
    let few : (blanks line == 128) ≡ false = ap (λ (b : Bool). cond b false (blanks line == 128)) (sym is_row) ∙ shallow in
    let less = other_than (blanks line) 128 few in
    let again = row_line-again begun.last.depth row.depth row parts (h.screen ∙ some_rows begun) (omega (arith, count, least)) (omega (arith, count, most, less, deep)) (omega (arith, count, most)) in
    ok-err (sym again ∙ ap (λ (z : List ℕ). item_of begun.last.depth z true) (sym h.text) ∙ is)

no_bind-there : (begun : Begun) (line : List ℕ) (kind : TreeKind) → item_of begun.last.depth line true ≡ Err kind → (bind : Bind) → SpellsBind (rows_so_far begun) line bind → ⊥
no_bind-there begun line kind is bind h =
    let same : h.last ≡ begun.last = some-same (sym h.behind ∙ last-snoc begun.before begun.last) in
    let text : line ≡ indent (begun.last.depth + 1) ++ bind_text bind = h.text ∙ ap (λ (r : Row). indent (r.depth + 1) ++ bind_text bind) same in
    ok-err (sym (bind_line-again begun.last.depth bind h.spelled h.typed) ∙ ap (λ (z : List ℕ). item_of begun.last.depth z true) (sym text) ∙ is)

-- ---- the rule that a line breaks

placed-line : (begun : Begun) (line : List ℕ) → is_utf8 line ≡ true → may_stand begun.last.depth (is_bind_line line) (blanks line) ≡ true → IsIndented (rows_so_far begun) line
placed-line begun line utf8 stands = record { utf8 = utf8; indent = ap (λ (o : Option Row). may_indent o line) (last-snoc begun.before begun.last) ∙ stands }

expected : (begun : Begun) (line : List ℕ) (ended : Bool) → begun.last.depth ≤ 63 → is_utf8 line ≡ true → may_stand begun.last.depth (is_bind_line line) (blanks line) ≡ true → is_too_deep line ≡ false
    → item_of begun.last.depth line ended ≡ Err Expected → Breaks (rows_so_far begun) line ended Expected
expected begun line false deep utf8 stands shallow is = (record { indented = placed-line begun line utf8 stands; shallow = shallow }, inl refl)
expected begun line true deep utf8 stands shallow is = (
  record { indented = placed-line begun line utf8 stands; shallow = shallow },
  inr (record {
    no_row = no_row-there begun line Expected deep stands shallow is;
    no_bind = no_bind-there begun line Expected is;
  }),
)

binding-err : (o : Option Bind) (kind : TreeKind) → binding o ≡ Err kind → kind ≡ Expected
binding-err None kind h = sym (err-same h)
binding-err (Some bind) kind h = ok-err h

pub widget-err : (depth : ℕ) (o : Option NewRow) (kind : TreeKind) → widget depth o ≡ Err kind → kind ≡ Expected
widget-err depth None kind h = sym (err-same h)
widget-err depth (Some new) kind h = by (is_screen new.kind) h
  where
    by : (b : Bool) → cond b (Err Expected) (Ok (Widget depth new)) ≡ Err kind → kind ≡ Expected
    by true g = sym (err-same g)
    by false g = ok-err g

pub bind_item-err : (text : List ℕ) (ended : Bool) (kind : TreeKind) → bind_item text ended ≡ Err kind → kind ≡ Expected
bind_item-err text true kind h = binding-err (bind_of text) kind h
bind_item-err text false kind h = sym (err-same h)

pub item-breaks : (begun : Begun) (line : List ℕ) (ended : Bool) (kind : TreeKind) → begun.last.depth ≤ 63 → item_of begun.last.depth line ended ≡ Err kind → Breaks (rows_so_far begun) line ended kind
item-breaks begun line ended kind deep is = by (is_utf8 line) (may_stand begun.last.depth (is_bind_line line) (blanks line)) (is_bind_line line) (blanks line == 128) refl refl refl refl is
  where
    at : TreeKind → Type 0
    at k = Breaks (rows_so_far begun) line ended k

    by : (u m b f : Bool) → is_utf8 line ≡ u → may_stand begun.last.depth (is_bind_line line) (blanks line) ≡ m → is_bind_line line ≡ b → (blanks line == 128) ≡ f
        → cond (not u) (Err BadByte) (cond (not m) (Err BadIndent) (cond b (bind_item (past_blanks line) ended) (cond f (Err TooDeep) (cond ended (widget (blanks line / 2) (row_of (past_blanks line))) (Err Expected))))) ≡ Err kind
        → at kind
    by false m b f eu em eb ef h = subst at (err-same h) eu
    by true false b f eu em eb ef h = subst at (err-same h) (eu, ap (λ (o : Option Row). may_indent o line) (last-snoc begun.before begun.last) ∙ em)
    by true true true f eu em eb ef h =
        let k = bind_item-err (past_blanks line) ended kind h in
        subst at (sym k) (expected begun line ended deep eu em (ap (λ (b : Bool). cond b false (blanks line == 128)) eb) (is ∙ ap Err k))
    by true true false true eu em eb ef h =
        subst at (err-same h) (placed-line begun line eu em, ap (λ (b : Bool). cond b false (blanks line == 128)) eb ∙ ef)
    by true true false false eu em eb ef h =
        let k = row-err ended h in
        subst at (sym k) (expected begun line ended deep eu em (ap (λ (b : Bool). cond b false (blanks line == 128)) eb ∙ ef) (is ∙ ap Err k))
      where
        row-err : (e : Bool) → cond e (widget (blanks line / 2) (row_of (past_blanks line))) (Err Expected) ≡ Err kind → kind ≡ Expected
        row-err true g = widget-err (blanks line / 2) (row_of (past_blanks line)) kind g
        row-err false g = sym (err-same g)

-- a row that was read, as one that the line spells
pub row_line-of : (begun : Begun) (line : List ℕ) (ended : Bool) (d : ℕ) (new : NewRow) → list_all no_line_feed line ≡ true → item_of begun.last.depth line ended ≡ Ok (Widget d new)
    → IsRowLine (rows_so_far begun) line ended (placed new 0 d)
row_line-of begun line ended d new whole is =
    let (end, item) = row_item-inv begun.last.depth line ended d new is in
    let text = row-found (past_blanks line) new item.row in
    let half = item.half in
    let even : blanks line ≡ 2 * d = omega (arith, half, item.even) in
    let stands = not_true _ (item-inv begun.last.depth line ended (Widget d new) is).1.stands in
    record {
      placed = record { indented = placed-line begun line item.utf8 stands; shallow = ap (λ (b : Bool). cond b false (blanks line == 128)) item.no_bind ∙ item.few };
      whole = end;
      spells = record {
        typed = text.typed;
        spelled = text.spelled (all-behind no_line_feed (replicate (blanks line) 32) (past_blanks line) (ap (list_all no_line_feed) (sym (blanks_split line)) ∙ whole));
        text = indented line d even ∙ ap (λ (z : List ℕ). indent d ++ z) text.text;
        alone = text.alone;
        screen = item.other ∙ sym (some_rows begun);
      };
    }

new-breaks : (begun : Begun) (line : List ℕ) (ended : Bool) (d : ℕ) (new : NewRow) (kind : TreeKind) → IsRowLine (rows_so_far begun) line ended (placed new 0 d)
    → with_new (rows_so_far begun) d new ≡ Err kind → Breaks (rows_so_far begun) line ended kind
new-breaks begun line ended d new kind row h = by (is_held d (rows_so_far begun)) (length (rows_so_far begun) == 65536) (is_taken new.id (rows_so_far begun)) refl refl refl h
  where
    rows : List Row
    rows = rows_so_far begun

    made : Result Begun TreeKind
    made = Ok (record { before = rows; last = placed new (length rows + 1) d })

    at : TreeKind → Type 0
    at k = Breaks rows line ended k

    by : (a b c : Bool) → is_held d rows ≡ a → (length rows == 65536) ≡ b → is_taken new.id rows ≡ c
        → cond (not a) (Err Leaf) (cond b (Err TooMany) (cond c (Err DuplicateId) made)) ≡ Err kind → at kind
    by false b c ea eb ec g = subst at (err-same g) (placed new 0 d, row, ea)
    by true true c ea eb ec g = subst at (err-same g) (placed new 0 d, row, ea, same-byte (length rows) 65536 eb)
    by true false true ea eb ec g = subst at (err-same g) (placed new 0 d, row, ea, other_than (length rows) 65536 eb, ec)
    by true false false ea eb ec g = ok-err g

pub next-breaks : (begun : Begun) (line : List ℕ) (ended : Bool) (kind : TreeKind) → begun.last.depth ≤ 63 → list_all no_line_feed line ≡ true → next_line begun line ended ≡ Err kind
    → Breaks (rows_so_far begun) line ended kind
next-breaks begun line ended kind deep whole h = by (item_of begun.last.depth line ended) refl h
  where
    by : (r : Result Item TreeKind) → item_of begun.last.depth line ended ≡ r → with_item begun r ≡ Err kind → Breaks (rows_so_far begun) line ended kind
    by (Err k) e g = subst (Breaks (rows_so_far begun) line ended) (err-same g) (item-breaks begun line ended k deep e)
    by (Ok (Binding bind)) e g = ok-err g
    by (Ok (Widget d new)) e g = new-breaks begun line ended d new kind (row_line-of begun line ended d new whole e) g

-- ---- the whole file

fault-inv : (number : ℕ) (r : Result Begun TreeKind) (more : Begun → Result (List Row) LineFault) (fault : LineFault) → or_fault number r more ≡ Err fault
    → ((kind : TreeKind) × (r ≡ Err kind) × (fault ≡ record { line = number; kind = kind })) ⊎ ((next : Begun) × (r ≡ Ok next) × (more next ≡ Err fault))
fault-inv number (Ok next) more fault h = inr (next, refl, h)
fault-inv number (Err kind) more fault h = inl (kind, refl, sym (err-same h))

not_nil : (line : List ℕ) (byte : ℕ) (after : List ℕ) → line ++ (byte ∷ after) ≢ []
not_nil [] byte after h = absurd cc
not_nil (b ∷ line) byte after h = absurd cc

pub fault-behind : (bytes : List ℕ) (lines : List (List ℕ)) (done : ℕ) (begun : Begun) (fault : LineFault) → Stands begun → begun.last.depth ≤ 63 → list_all (list_all no_line_feed) lines ≡ true
    → bytes ≡ spelling (rows_so_far begun) ++ joined lines → done ≡ line_count (rows_so_far begun)
    → rows_behind lines done begun ≡ Err fault → IsFirstFault bytes fault.line fault.kind
fault-behind bytes [] done begun fault h deep whole text count is = ok-err is
fault-behind bytes ([] ∷ []) done begun fault h deep whole text count is = ok-err is
fault-behind bytes ((byte ∷ line) ∷ []) done begun fault h deep whole text count is =
    ⊎_elim
    (λ f. subst (λ (z : LineFault). IsFirstFault bytes z.line z.kind) (sym f.2) (record {
      rows = rows_so_far begun;
      line = byte ∷ line;
      after = [];
      begun = begun-of begun h;
      place = text ∙ ap (λ (z : List ℕ). spelling (rows_so_far begun) ++ z) (sym (append-nil (byte ∷ line)));
      whole = (and_parts _ _ whole).0;
      ends = refl;
      more = inr (λ none. absurd cc);
      counted = ap (λ (n : ℕ). n + 1) count;
      broken = next-breaks begun (byte ∷ line) false f.0 deep (and_parts _ _ whole).0 f.1;
    }))
    (λ g. ok-err g.2)
    (fault-inv (done + 1) (next_line begun (byte ∷ line) false) (rows_behind [] (done + 1)) fault is)
fault-behind bytes (line ∷ second ∷ lines) done begun fault h deep whole text count is =
    ⊎_elim
    (λ f. subst (λ (z : LineFault). IsFirstFault bytes z.line z.kind) (sym f.2) (record {
      rows = rows_so_far begun;
      line = line;
      after = 10 ∷ joined (second ∷ lines);
      begun = begun-of begun h;
      place = text;
      whole = (and_parts _ _ whole).0;
      ends = refl;
      more = inr (not_nil line 10 (joined (second ∷ lines)));
      counted = ap (λ (n : ℕ). n + 1) count;
      broken = next-breaks begun line true f.0 deep (and_parts _ _ whole).0 f.1;
    }))
    (λ g.
    let good = next-found begun line g.0 h deep (and_parts _ _ whole).0 g.1 in
    fault-behind bytes (second ∷ lines) (done + 1) g.0 fault good.stands good.depth (and_parts (list_all no_line_feed line) _ whole).1
    (text ∙ ap (λ (z : List ℕ). spelling (rows_so_far begun) ++ z) (sym (append_assoc line (codes "\n") (joined (second ∷ lines)))) ∙ sym (append_assoc (spelling (rows_so_far begun)) (line ++ codes "\n") (joined (second ∷ lines)))
    ∙ ap (λ (z : List ℕ). z ++ joined (second ∷ lines)) (sym good.text))
    (ap (λ (n : ℕ). n + 1) count ∙ sym good.lines)
    g.2)
    (fault-inv (done + 1) (next_line begun line true) (rows_behind (second ∷ lines) (done + 1)) fault is)

-- ---- the first line

first-nothing : (line : List ℕ) → blanks line ≡ 0 → screen (row_of line) ≡ Err Expected → IsNothing [] line
first-nothing line none is = record {
  no_row = λ row h.
      let parts = has-parts row h.typed h.spelled in
      let (count, past) = spelled-blanks row.depth line (row_text row) (row-begins row parts.kind_spelled).0 h.text in
      let flat : 2 * row.depth ≡ 2 * 0 = sym count ∙ none in
      let text : line ≡ row_text row = h.text ∙ ap (λ (n : ℕ). replicate n 32 ++ row_text row) flat in
      ok-err (sym (ap screen (ap row_of text ∙ row-again row parts) ∙ ap (λ (b : Bool). cond b (Ok (new_of row)) (Err Expected)) h.screen) ∙ is);
  no_bind = λ bind h. none-some h.behind;
}

-- a binding in the first line
bind-nothing : (line : List ℕ) → is_bind_line line ≡ true → IsNothing [] line
bind-nothing line is = record {
  no_row = λ row h.
      let parts = has-parts row h.typed h.spelled in
      let (begins, no_bind) = row-begins row parts.kind_spelled in
      let (count, past) = spelled-blanks row.depth line (row_text row) begins h.text in
      let is_row : is_bind_line line ≡ false = ap starts_bind past ∙ no_bind in
      absurd (false≢true (sym is_row ∙ is));
  no_bind = λ bind h. none-some h.behind;
}

pub screen-err : (o : Option NewRow) (kind : TreeKind) → screen o ≡ Err kind → kind ≡ Expected
screen-err None kind h = sym (err-same h)
screen-err (Some new) kind h = by (is_screen new.kind) h
  where
    by : (b : Bool) → cond b (Ok new) (Err Expected) ≡ Err kind → kind ≡ Expected
    by true g = ok-err g
    by false g = sym (err-same g)

first-breaks : (line : List ℕ) (ended : Bool) (kind : TreeKind) → first_item line ended ≡ Err kind → Breaks [] line ended kind
first-breaks line ended kind h = by (is_utf8 line) (is_bind_line line) (blanks line == 0) ended refl refl refl refl h
  where
    at : TreeKind → Type 0
    at k = Breaks [] line ended k

    indent_is : (b m : Bool) → is_bind_line line ≡ b → (blanks line == 0) ≡ m → may_indent None line ≡ cond b true m
    indent_is b m eb em = ap (λ (x : Bool). cond x true (blanks line == 0)) eb ∙ ap (λ (x : Bool). cond b true x) em

    place : is_utf8 line ≡ true → is_bind_line line ≡ false → (blanks line == 0) ≡ true → IsPlaced [] line
    place u eb m = record {
      indented = record { utf8 = u; indent = indent_is false true eb m };
      shallow = ap (λ (x : Bool). cond x false (blanks line == 128)) eb ∙ ap (λ (n : ℕ). n == 128) (same-byte (blanks line) 0 m);
    }

    bind_place : is_utf8 line ≡ true → is_bind_line line ≡ true → IsPlaced [] line
    bind_place u eb = record {
      indented = record { utf8 = u; indent = indent_is true (blanks line == 0) eb refl };
      shallow = ap (λ (x : Bool). cond x false (blanks line == 128)) eb;
    }

    by : (u b m e : Bool) → is_utf8 line ≡ u → is_bind_line line ≡ b → (blanks line == 0) ≡ m → ended ≡ e
        → cond (not u) (Err BadByte) (cond b (Err Expected) (cond (not m) (Err BadIndent) (cond e (screen (row_of line)) (Err Expected)))) ≡ Err kind → at kind
    by false b m e eu eb em ee g = subst at (err-same g) eu
    by true true m e eu eb em ee g = subst at (err-same g) (bind_place eu eb, inr (bind-nothing line eb))
    by true false false e eu eb em ee g = subst at (err-same g) (eu, indent_is false false eb em)
    by true false true false eu eb em ee g = subst at (err-same g) (place eu eb em, inl ee)
    by true false true true eu eb em ee g =
        let k = screen-err (row_of line) kind g in
        subst at (sym k) (place eu eb em, inr (first-nothing line (same-byte (blanks line) 0 em) (g ∙ ap Err k)))

first-whole : (bytes line after : List ℕ) (kind : TreeKind) → bytes ≡ line ++ after → list_all no_line_feed line ≡ true → is_line_end after ≡ true → Breaks [] line (is_ended after) kind → IsFirstFault bytes 1 kind
first-whole bytes line after kind text whole ends broken = record {
  rows = [];
  line = line;
  after = after;
  begun = record { preorder = tt; typed = refl; spelled = refl; fresh = refl; ids = refl; few = omega arith };
  place = text;
  whole = whole;
  ends = ends;
  more = inl refl;
  counted = refl;
  broken = broken;
}

pub file-fault : (bytes : List ℕ) (fault : LineFault) → tree_of bytes ≡ Err fault → IsFirstFault bytes fault.line fault.kind
file-fault bytes fault h = subst (λ (z : List ℕ). IsFirstFault z fault.line fault.kind) (joined-pieces bytes) (by (pieces 10 bytes) (some_piece bytes) (pieces-whole bytes) h)
  where
    first : (line : List ℕ) (ended : Bool) (more : Begun → Result (List Row) LineFault) (r : Result NewRow TreeKind) → first_item line ended ≡ r → or_fault 1 (with_first r) more ≡ Err fault
        → ((kind : TreeKind) × (first_item line ended ≡ Err kind) × (fault ≡ record { line = 1; kind = kind })) ⊎ ((new : NewRow) × (first_item line ended ≡ Ok new) × (more (record { before = []; last = placed new 1 0 }) ≡ Err fault))
    first line ended more (Err kind) e g = inl (kind, e, sym (err-same g))
    first line ended more (Ok new) e g = inr (new, e, g)

    by : (ps : List (List ℕ)) → is_empty ps ≡ false → list_all (list_all no_line_feed) ps ≡ true → rows_of_lines ps ≡ Err fault → IsFirstFault (joined ps) fault.line fault.kind
    by [] some whole g = absurd (false≢true (sym some))
    by (line ∷ []) some whole g =
        ⊎_elim
        (λ f. subst (λ (z : LineFault). IsFirstFault line z.line z.kind) (sym f.2) (first-whole line line [] f.0 (sym (append-nil line)) (and_parts _ _ whole).0 refl (first-breaks line false f.0 f.1)))
        (λ f. ok-err f.2)
        (first line false (rows_behind [] 1) (first_item line false) refl g)
    by (line ∷ second ∷ lines) some whole g =
        ⊎_elim
        (λ f. subst (λ (z : LineFault). IsFirstFault (joined (line ∷ second ∷ lines)) z.line z.kind) (sym f.2)
        (first-whole (joined (line ∷ second ∷ lines)) line (10 ∷ joined (second ∷ lines)) f.0 refl (and_parts _ _ whole).0 refl (first-breaks line true f.0 f.1)))
        (λ f.
        let is = (first-inv line true f.0 f.1).1 in
        let text = row-found line f.0 is.row in
        fault-behind (joined (line ∷ second ∷ lines)) (second ∷ lines) 1 (record { before = []; last = placed f.0 1 0 }) fault (first-stands line f.0 (and_parts _ _ whole).0 is) (omega arith) (and_parts (list_all no_line_feed line) _ whole).1
        (sym (append_assoc line (codes "\n") (joined (second ∷ lines))) ∙ ap (λ (z : List ℕ). z ++ joined (second ∷ lines)) (sym (first-text line f.0 is)))
        (let none = ap length text.alone in let count = count-last [] (placed f.0 1 0) in omega (arith, none, count))
        f.2)
        (first line true (rows_behind (second ∷ lines) 1) (first_item line true) refl g)

pub fault-of : (bytes : List ℕ) (fault : TreeFault) → FaultIs (tree_of bytes) fault → IsFaultOf bytes fault
fault-of bytes NoMemory h = tt
fault-of bytes (Grammar line kind) h = file-fault bytes (record { line = line; kind = kind }) h
fault-of bytes NoNode h = absurd h
fault-of bytes DuplicateId' h = absurd h
fault-of bytes TooMany' h = absurd h
fault-of bytes TooDeep' h = absurd h
fault-of bytes Root h = absurd h
fault-of bytes Leaf' h = absurd h
fault-of bytes NotSiblings h = absurd h
