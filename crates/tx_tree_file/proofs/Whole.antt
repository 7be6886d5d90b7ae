-- What is read of a whole file is spelled so.
use Rattle.std.proofs.lemmas.Bool.{and_parts, and_from}
use Rattle.std.proofs.Common.{◌≡◌, ℕ, ◌+◌, ◌*◌, ◌/◌, ◌≤◌, ◌==◌, ◌&&◌, Bool, true, false, cond, not, List, [], ◌∷◌, ◌++◌, length, drop, replicate, flat_map, fold, Option, Some, None, Result, Ok, Err, refl, ap, ap₂, sym, subst, ◌∙◌, arith, append_assoc, append-nil, length-append, codes, add-one}
use Rattle.std.specs.List.{list_all}
use Rattle.std.specs.Option.{option_map_or}
use Rattle.std.specs.Str.{is_utf8}
use Rattle.std.proofs.lemmas.Bool.{false≢true, eqb-true}
use Rattle.std.proofs.lemmas.Grind.{flat_map-append}
use Rattle.tx_read.specs.Pieces.{pieces, onto}
use Rattle.tx_tree.specs.Kind.{is_screen, holds_children}
use Rattle.tx_tree.specs.Mount.{is_taken}
use Rattle.tx_tree.specs.Row.{placed}
use Rattle.tx_tree.specs.Rows.{last_above}
use Rattle.tx_text.specs.Name.{is_name}
use Rattle.tx_tree.specs.Spelled.{is_spelled, key_is_spelled, no_line_feed, byte_is_spelled, no_repeats, kind_is_spelled, private_is_spelled}
use Rattle.tx_tree.specs.WellFormed.{MayFollow, MayAllFollow, IsFirst, IsPreorder}
use Rattle.tx_tree.specs.TreeValue.{TreeValue}
use Rattle.tx_tree.specs.declared.bind.Bind.{Bind}
use Rattle.tx_tree.specs.declared.fault.TreeFault.{TreeFault}
use Rattle.tx_tree.specs.declared.fault.TreeFault.TheVariants.{Grammar, NoNode, DuplicateId as DuplicateId', TooMany as TooMany', TooDeep as TooDeep', Root, Leaf as Leaf', NotSiblings, NoMemory}
use Rattle.tx_tree.specs.declared.fault.TreeKind.{TreeKind}
use Rattle.tx_tree.specs.declared.fault.TreeKind.TheVariants.{BadByte, BadIndent, TooDeep, Expected, Leaf, TooMany, DuplicateId}
use Rattle.tx_tree.specs.declared.row.NewRow.{NewRow}
use Rattle.tx_tree.specs.declared.row.Row.{Row}
use Rattle.tx_tree_file.proofs.FoundLines.{row-found, bind-found, all-behind}
use Rattle.tx_tree_file.proofs.Fronts.{same-byte}
use Rattle.tx_tree_file.proofs.Growing.{above_front, all-snoc}
use Rattle.tx_tree_file.proofs.LastRows.{ok-same, err-ok, ifs, ended-inv, item-inv, is_bind, is_widget, IsRowItem, row_item-inv, other_than, some_piece}
use Rattle.tx_tree_file.proofs.Repeats.{not_true}
use Rattle.tx_tree_file.specs.FirstFault.{ids_differ, is_held, line_count}
use Rattle.tx_tree_file.specs.Indent.{blanks, past_blanks, is_bind_line, may_stand}
use Rattle.tx_tree_file.specs.Spelling.{indent, row_text, row_line, bind_text, bind_line, row_lines, spelling}
use Rattle.tx_tree_file.specs.TreeFile.{is_typed, bind_is_typed, kind_is_typed, id_is_typed, kept, read_row, read_again, IsReading}
use Rattle.tx_tree_file.specs.TreeReading.{Begun, LineFault, screen, first_item, with_first, first_line, bind_item, row_item, item_of, row_of, bind_of, with_bind, with_new, with_item, next_line, or_fault, is_empty, rows_behind, rows_so_far, rows_of_lines, tree_of, GivesAt, FaultIs}
use Rattle.tx_tree_file.specs.declared.line.Item.{Item}
use Rattle.tx_tree_file.specs.declared.line.Item.TheVariants.{Binding, Widget}

-- ---- blanks before a line

pub blanks_split : (line : List ℕ) → line ≡ replicate (blanks line) 32 ++ past_blanks line
blanks_split [] = refl
blanks_split (byte ∷ bytes) = by (byte == 32) refl (blanks_split bytes)
  where
    by : (b : Bool) → (byte == 32) ≡ b → bytes ≡ replicate (blanks bytes) 32 ++ past_blanks bytes
        → byte ∷ bytes ≡ replicate (cond b (blanks bytes + 1) 0) 32 ++ drop (cond b (blanks bytes + 1) 0) (byte ∷ bytes)
    by true e h = rw (add-one (blanks bytes)) (ap₂ (λ (x : ℕ) (xs : List ℕ). x ∷ xs) (same-byte byte 32 e) h)
    by false e h = refl

pub indented : (line : List ℕ) (depth : ℕ) → blanks line ≡ 2 * depth → line ≡ indent depth ++ past_blanks line
indented line depth e = blanks_split line ∙ ap (λ (n : ℕ). replicate n 32 ++ past_blanks line) e

-- ---- rows one behind another

-- the last row stands rightly behind those before it
abbrev pub EndsBehind : Row → List Row → Row → Type 0
EndsBehind row [] last = MayFollow row last
EndsBehind row (next ∷ rows) last = MayFollow row next × EndsBehind next rows last

abbrev pub Ends : List Row → Row → Type 0
Ends [] last = IsFirst last
Ends (row ∷ rows) last = IsFirst row × EndsBehind row rows last

behind-bind : (row : Row) (rows : List Row) (last : Row) (bind : Bind) → EndsBehind row rows last → EndsBehind row rows (with_bind bind last)
behind-bind row [] last bind h = record { below_first = h.below_first; shallow = h.shallow; step = h.step; held = h.held; no_screen = h.no_screen }
behind-bind row (next ∷ rows) last bind h = (h.0, behind-bind next rows last bind h.1)

ends-bind : (rows : List Row) (last : Row) (bind : Bind) → Ends rows last → Ends rows (with_bind bind last)
ends-bind [] last bind h = record { number = h.number; depth = h.depth; screen = h.screen }
ends-bind (row ∷ rows) last bind h = (h.0, behind-bind row rows last bind h.1)

behind-new : (row : Row) (rows : List Row) (last new : Row) → EndsBehind row rows last → MayFollow last new → EndsBehind row (rows ++ last ∷ []) new
behind-new row [] last new h f = (h, f)
behind-new row (next ∷ rows) last new h f = (h.0, behind-new next rows last new h.1 f)

ends-new : (rows : List Row) (last new : Row) → Ends rows last → MayFollow last new → Ends (rows ++ last ∷ []) new
ends-new [] last new h f = (h, f)
ends-new (row ∷ rows) last new h f = (h.0, behind-new row rows last new h.1 f)

follow-all : (row : Row) (rows : List Row) (last : Row) → EndsBehind row rows last → MayAllFollow row (rows ++ last ∷ [])
follow-all row [] last h = (h, tt)
follow-all row (next ∷ rows) last h = (h.0, follow-all next rows last h.1)

pub ends-preorder : (rows : List Row) (last : Row) → Ends rows last → IsPreorder (rows ++ last ∷ [])
ends-preorder [] last h = (h, tt)
ends-preorder (row ∷ rows) last h = (h.0, follow-all row rows last h.1)

-- ---- what holds of the rows so far

pub record Stands (begun : Begun) : Type 0 where
  pub preorder : Ends begun.before begun.last
  pub typed : list_all is_typed begun.before ≡ true
  pub last_typed : is_typed begun.last ≡ true
  pub spelled : list_all is_spelled begun.before ≡ true
  pub last_spelled : is_spelled begun.last ≡ true
  pub fresh : begun.before ≡ read_again 1 begun.before
  pub last_fresh : begun.last ≡ read_row (length begun.before + 1) begun.last
  pub ids : ids_differ [] begun.before ≡ true
  pub last_id : is_taken begun.last.id begun.before ≡ false
  pub few : length begun.before + 1 ≤ 65536

pub again-snoc : (n : ℕ) (rows : List Row) (row : Row) → read_again n (rows ++ row ∷ []) ≡ read_again n rows ++ read_row (length rows + n) row ∷ []
again-snoc n [] row = ap (λ (k : ℕ). read_row k row ∷ []) (omega arith)
again-snoc n (r ∷ rows) row =
    let next : length rows + (n + 1) ≡ length (r ∷ rows) + n = omega arith in
    ap (λ (z : List Row). read_row n r ∷ z) (again-snoc (n + 1) rows row) ∙ ap (λ (k : ℕ). read_row n r ∷ (read_again (n + 1) rows ++ read_row k row ∷ [])) next

pub ids-snoc : (before rows : List Row) (row : Row) → ids_differ before rows ≡ true → is_taken row.id (before ++ rows) ≡ false → ids_differ before (rows ++ row ∷ []) ≡ true
ids-snoc before [] row h e = ap (λ (b : Bool). not b && true) (ap (is_taken row.id) (sym (append-nil before)) ∙ e)
ids-snoc before (r ∷ rows) row h e =
    and_from _ _ (and_parts _ _ h).0 (ids-snoc (before ++ r ∷ []) rows row (and_parts (not (is_taken r.id before)) _ h).1 (ap (is_taken row.id) (append_assoc before (r ∷ []) rows) ∙ e))

-- with a binding more
change : (a x y : Bool) → (x ≡ true → y ≡ true) → (a && x) ≡ true → (a && y) ≡ true
change true x y f h = f h
change false x y f h = h

typed-bind : (last : Row) (bind : Bind) → is_typed last ≡ true → bind_is_typed bind ≡ true → is_typed (with_bind bind last) ≡ true
typed-bind last bind h e =
    change (kind_is_typed last.kind) _ _ (change (id_is_typed last.id) _ _ (change (list_all is_name last.classes.names) _ _ (change (is_utf8 last.text) _ _ (change (is_utf8 last.inline) _ _
    (λ all. all-snoc bind_is_typed last.binds bind all e))))) h

spelled-bind : (last : Row) (bind : Bind) → is_spelled last ≡ true → key_is_spelled bind.key ≡ true → is_spelled (with_bind bind last) ≡ true
spelled-bind last bind h e =
    change (no_repeats last.classes.names) _ _ (change (kind_is_spelled last.kind) _ _ (change (list_all byte_is_spelled last.text) _ _ (change (list_all no_line_feed last.inline) _ _
    (λ rest. and_from (list_all (λ bind. key_is_spelled bind.key) (last.binds ++ bind ∷ [])) (private_is_spelled last.kind last.private)
    (all-snoc (λ bind. key_is_spelled bind.key) last.binds bind (and_parts (list_all (λ bind. key_is_spelled bind.key) last.binds) _ rest).0 e)
    (and_parts (list_all (λ bind. key_is_spelled bind.key) last.binds) _ rest).1)))) h

pub stands-bind : (begun : Begun) (bind : Bind) → Stands begun → bind_is_typed bind ≡ true → key_is_spelled bind.key ≡ true → Stands (record begun { last = with_bind bind begun.last })
stands-bind begun bind h typed spelled = record {
  preorder = ends-bind begun.before begun.last bind h.preorder;
  typed = h.typed;
  last_typed = typed-bind begun.last bind h.last_typed typed;
  spelled = h.spelled;
  last_spelled = spelled-bind begun.last bind h.last_spelled spelled;
  fresh = h.fresh;
  last_fresh = ap (with_bind bind) h.last_fresh;
  ids = h.ids;
  last_id = h.last_id;
  few = h.few;
}

-- with a row more
new-fresh : (new : NewRow) (n d : ℕ) → new.private ≡ kept new.kind (length new.text) new.private → placed new n d ≡ read_row n (placed new n d)
new-fresh new n d e = ap (λ z. record (placed new n d) { private = z }) e

pub held-inv : (rows : List Row) (last : Row) (depth : ℕ) → depth ≡ last.depth + 1 → is_held depth (rows ++ last ∷ []) ≡ true → holds_children last.kind ≡ true
held-inv rows last depth e h =
    sym (ap (λ (z : Option Row). option_map_or (λ parent. holds_children parent.kind) z true) (ap (λ (d : ℕ). last_above d None (rows ++ last ∷ [])) e ∙ above_front last.depth None rows last [] refl refl)) ∙ h

-- what a row that may be added passes
pub record IsAllowed (rows : List Row) (depth : ℕ) (new : NewRow) : Type 0 where
  pub held : is_held depth rows ≡ true
  pub few : (length rows == 65536) ≡ false
  pub id : is_taken new.id rows ≡ false

pub with_new-inv : (rows : List Row) (depth : ℕ) (new : NewRow) (begun : Begun) → with_new rows depth new ≡ Ok begun
    → IsAllowed rows depth new × (begun ≡ record { before = rows; last = placed new (length rows + 1) depth })
with_new-inv rows depth new begun h =
    let (held, h1) = ifs (not (is_held depth rows)) _ Leaf begun h in
    let (few, h2) = ifs (length rows == 65536) _ TooMany begun h1 in
    let (id, h3) = ifs (is_taken new.id rows) _ DuplicateId begun h2 in
    (record { held = not_true _ held; few = few; id = id }, sym (ok-same h3))

pub stands-new : (begun : Begun) (line : List ℕ) (d : ℕ) (new : NewRow) → Stands begun → IsRowItem begun.last.depth line d new → list_all no_line_feed line ≡ true → begun.last.depth ≤ 63
    → IsAllowed (rows_so_far begun) d new → Stands (record { before = rows_so_far begun; last = placed new (length (rows_so_far begun) + 1) d })
stands-new begun line d new h item whole deep may =
    let text = row-found (past_blanks line) new item.row in
    let few = other_than (blanks line) 128 item.few in
    let half = item.half in
    let size : length (rows_so_far begun) ≡ length begun.before + 1 = length-append begun.before (begun.last ∷ []) in
    let less = other_than (length (rows_so_far begun)) 65536 may.few in
    let number : length begun.before + 1 ≡ length begun.before + 1 = refl in
    record {
      preorder = ends-new begun.before begun.last (placed new (length (rows_so_far begun) + 1) d) h.preorder (record {
        below_first = omega (arith, half, item.least);
        shallow = omega (arith, half, item.most, item.even, few, deep);
        step = omega (arith, half, item.most);
        held = λ e. held-inv begun.before begun.last d e may.held;
        no_screen = item.other;
      });
      typed = all-snoc is_typed begun.before begun.last h.typed h.last_typed;
      last_typed = text.typed;
      spelled = all-snoc is_spelled begun.before begun.last h.spelled h.last_spelled;
      last_spelled = text.spelled (all-behind no_line_feed (replicate (blanks line) 32) (past_blanks line) (ap (list_all no_line_feed) (sym (blanks_split line)) ∙ whole));
      fresh = ap₂ (λ (xs : List Row) (x : Row). xs ++ x ∷ []) h.fresh h.last_fresh ∙ sym (again-snoc 1 begun.before begun.last);
      last_fresh = new-fresh new (length (rows_so_far begun) + 1) d text.again;
      ids = ids-snoc [] begun.before begun.last h.ids h.last_id;
      last_id = may.id;
      few = omega (arith, size, less, h.few);
    }

-- ---- the text so far

spelling-last : (before : List Row) (last : Row) → spelling (before ++ last ∷ []) ≡ spelling before ++ row_lines last
spelling-last before last = flat_map-append row_lines before (last ∷ []) ∙ ap (λ (z : List ℕ). spelling before ++ z) (append-nil (row_lines last))

spelling-bind : (before : List Row) (last : Row) (bind : Bind) → spelling (before ++ with_bind bind last ∷ []) ≡ spelling (before ++ last ∷ []) ++ bind_line last.depth bind
spelling-bind before last bind =
    spelling-last before (with_bind bind last)
    ∙ ap (λ (z : List ℕ). spelling before ++ (row_line last ++ z)) (flat_map-append (bind_line last.depth) last.binds (bind ∷ []) ∙ ap (λ (z : List ℕ). flat_map (bind_line last.depth) last.binds ++ z) (append-nil (bind_line last.depth bind)))
    ∙ ap (λ (z : List ℕ). spelling before ++ z) (sym (append_assoc (row_line last) (flat_map (bind_line last.depth) last.binds) (bind_line last.depth bind)))
    ∙ sym (append_assoc (spelling before) (row_lines last) (bind_line last.depth bind))
    ∙ ap (λ (z : List ℕ). z ++ bind_line last.depth bind) (sym (spelling-last before last))

alone-lines : (row : Row) → row.binds ≡ [] → row_lines row ≡ row_line row
alone-lines row e = ap (λ z. row_line row ++ flat_map (bind_line row.depth) z) e ∙ append-nil (row_line row)

ended_line : (line front text : List ℕ) → line ≡ front ++ text → line ++ codes "\n" ≡ front ++ (text ++ codes "\n")
ended_line line front text e = ap (λ (z : List ℕ). z ++ codes "\n") e ∙ append_assoc front text (codes "\n")

fold-snoc : {A : Type 0} (f : A → ℕ) (n : ℕ) (xs : List A) (x : A) → fold (λ a x. a + f x) n (xs ++ x ∷ []) ≡ fold (λ a x. a + f x) n xs + f x
fold-snoc f n [] x = refl
fold-snoc f n (y ∷ xs) x = fold-snoc f (n + f y) xs x

pub count-last : (before : List Row) (last : Row) → line_count (before ++ last ∷ []) ≡ line_count before + (length last.binds + 1)
count-last before last = fold-snoc (λ row. length row.binds + 1) 0 before last

-- ---- one line more

pub record IsNext (begun : Begun) (line : List ℕ) (next : Begun) : Type 0 where
  pub stands : Stands next
  pub text : spelling (rows_so_far next) ≡ spelling (rows_so_far begun) ++ (line ++ codes "\n")
  pub lines : line_count (rows_so_far next) ≡ line_count (rows_so_far begun) + 1
  pub depth : next.last.depth ≤ 63

pub bind_stands-inv : (depth count : ℕ) → not (may_stand depth true count) ≡ false → count ≡ 2 * (depth + 1)
bind_stands-inv depth count h = eqb-true count (2 * (depth + 1)) (not_true _ h)

pub next-bind : (begun : Begun) (line : List ℕ) (bind : Bind) → Stands begun → begun.last.depth ≤ 63 → item_of begun.last.depth line true ≡ Ok (Binding bind)
    → IsNext begun line (record begun { last = with_bind bind begun.last })
next-bind begun line bind h deep is =
    let item = (item-inv begun.last.depth line true (Binding bind) is).1 in
    by (is_bind_line line) item.stands item.is
  where
    by : (b : Bool) → not (may_stand begun.last.depth b (blanks line)) ≡ false → cond b (bind_item (past_blanks line) true) (row_item (blanks line) (past_blanks line) true) ≡ Ok (Binding bind)
        → IsNext begun line (record begun { last = with_bind bind begun.last })
    by true stands e =
        let (found, some, same) = is_bind (bind_of (past_blanks line)) (Binding bind) e in
        let that : found ≡ bind = cc in
        let text = bind-found (past_blanks line) bind (some ∙ ap Some that) in
        record {
          stands = stands-bind begun bind h text.typed text.spelled;
          text = spelling-bind begun.before begun.last bind
              ∙ ap (λ (z : List ℕ). spelling (rows_so_far begun) ++ z) (sym (ended_line line (indent (begun.last.depth + 1)) (bind_text bind)
              (indented line (begun.last.depth + 1) (bind_stands-inv begun.last.depth (blanks line) stands) ∙ ap (λ (z : List ℕ). indent (begun.last.depth + 1) ++ z) text.text)));
          lines =
              let a = count-last begun.before (with_bind bind begun.last) in
              let b = count-last begun.before begun.last in
              let c = length-append begun.last.binds (bind ∷ []) in
              omega (arith, a, b, c);
          depth = deep;
        }
    by false stands e =
        let (few, g) = ifs (blanks line == 128) _ TooDeep (Binding bind) e in
        let (found, row, other, same) = is_widget (blanks line / 2) (row_of (past_blanks line)) (Binding bind) g in
        absurd cc

pub next-row : (begun : Begun) (line : List ℕ) (d : ℕ) (new : NewRow) → Stands begun → begun.last.depth ≤ 63 → list_all no_line_feed line ≡ true → item_of begun.last.depth line true ≡ Ok (Widget d new)
    → IsAllowed (rows_so_far begun) d new → IsNext begun line (record { before = rows_so_far begun; last = placed new (length (rows_so_far begun) + 1) d })
next-row begun line d new h deep whole is may =
    let item = (row_item-inv begun.last.depth line true d new is).1 in
    let text = row-found (past_blanks line) new item.row in
    let half = item.half in
    let even : blanks line ≡ 2 * d = omega (arith, half, item.even) in
    let few = other_than (blanks line) 128 item.few in
    let row = placed new (length (rows_so_far begun) + 1) d in
    record {
      stands = stands-new begun line d new h item whole deep may;
      text = spelling-last (rows_so_far begun) row ∙ ap (λ (z : List ℕ). spelling (rows_so_far begun) ++ z) (alone-lines row text.alone
          ∙ sym (ended_line line (indent d) (row_text row) (indented line d even ∙ ap (λ (z : List ℕ). indent d ++ z) text.text)));
      lines = let a = count-last (rows_so_far begun) row in let b = ap length text.alone in omega (arith, a, b);
      depth = omega (arith, half, item.most, item.even, few, deep);
    }

pub next-found : (begun : Begun) (line : List ℕ) (next : Begun) → Stands begun → begun.last.depth ≤ 63 → list_all no_line_feed line ≡ true → next_line begun line true ≡ Ok next → IsNext begun line next
next-found begun line next h deep whole is = by (item_of begun.last.depth line true) refl is
  where
    by : (r : Result Item TreeKind) → item_of begun.last.depth line true ≡ r → with_item begun r ≡ Ok next → IsNext begun line next
    by (Err kind) e g = err-ok g
    by (Ok (Binding bind)) e g = subst (IsNext begun line) (ok-same g) (next-bind begun line bind h deep e)
    by (Ok (Widget d new)) e g =
        let (may, same) = with_new-inv (rows_so_far begun) d new next g in
        subst (IsNext begun line) (sym same) (next-row begun line d new h deep whole e may)

-- ---- the first line

pub record IsFirstItem (line : List ℕ) (new : NewRow) : Type 0 where
  pub utf8 : is_utf8 line ≡ true
  pub none : blanks line ≡ 0
  pub row : row_of line ≡ Some new
  pub screen : is_screen new.kind ≡ true

pub screen-inv : (o : Option NewRow) (new : NewRow) → screen o ≡ Ok new → (o ≡ Some new) × (is_screen new.kind ≡ true)
screen-inv None new h = err-ok h
screen-inv (Some found) new h =
    let (is, same) = ended-inv (is_screen found.kind) (Ok found) Expected new h in
    (ap Some (ok-same same), subst (λ (z : NewRow). is_screen z.kind ≡ true) (ok-same same) is)

pub first-inv : (line : List ℕ) (ended : Bool) (new : NewRow) → first_item line ended ≡ Ok new → (ended ≡ true) × IsFirstItem line new
first-inv line ended new h =
    let (utf8, h1) = ifs (not (is_utf8 line)) _ BadByte new h in
    let (no_bind, h0) = ifs (is_bind_line line) _ Expected new h1 in
    let (none, h2) = ifs (not (blanks line == 0)) _ BadIndent new h0 in
    let (whole, h3) = ended-inv ended (screen (row_of line)) Expected new h2 in
    let (row, is) = screen-inv (row_of line) new h3 in
    (whole, record { utf8 = not_true _ utf8; none = same-byte (blanks line) 0 (not_true _ none); row = row; screen = is })

-- the Screen alone
pub first-stands : (line : List ℕ) (new : NewRow) → list_all no_line_feed line ≡ true → IsFirstItem line new → Stands (record { before = []; last = placed new 1 0 })
first-stands line new whole is =
    let text = row-found line new is.row in record {
      preorder = record { number = refl; depth = refl; screen = is.screen };
      typed = refl;
      last_typed = text.typed;
      spelled = refl;
      last_spelled = text.spelled whole;
      fresh = refl;
      last_fresh = new-fresh new 1 0 text.again;
      ids = refl;
      last_id = nobody new.id;
      few = omega arith;
    }
  where
    nobody : (id : Option (List ℕ)) → is_taken id [] ≡ false
    nobody None = refl
    nobody (Some id) = refl

pub first-text : (line : List ℕ) (new : NewRow) → IsFirstItem line new → spelling (placed new 1 0 ∷ []) ≡ line ++ codes "\n"
first-text line new is =
    let text = row-found line new is.row in
    append-nil (row_lines (placed new 1 0)) ∙ alone-lines (placed new 1 0) text.alone ∙ sym (ap (λ (z : List ℕ). z ++ codes "\n") text.text)

-- ---- all lines

-- the text of these pieces
abbrev pub joined : List (List ℕ) → List ℕ
joined [] = []
joined (piece ∷ []) = piece
joined (piece ∷ next ∷ pieces) = piece ++ (10 ∷ joined (next ∷ pieces))

pub joined-pieces : (bytes : List ℕ) → joined (pieces 10 bytes) ≡ bytes
joined-pieces [] = refl
joined-pieces (byte ∷ bytes) = by (byte == 10) refl (pieces 10 bytes) (some_piece bytes) (joined-pieces bytes)
  where
    by : (b : Bool) → (byte == 10) ≡ b → (ps : List (List ℕ)) → is_empty ps ≡ false → joined ps ≡ bytes → joined (cond b ([] ∷ ps) (onto byte ps)) ≡ byte ∷ bytes
    by b e [] h g = absurd cc
    by true e (p ∷ ps) h g = ap₂ (λ (x : ℕ) (xs : List ℕ). x ∷ xs) (sym (same-byte byte 10 e)) g
    by false e (p ∷ []) h g = ap (λ (xs : List ℕ). byte ∷ xs) g
    by false e (p ∷ q ∷ ps) h g = ap (λ (xs : List ℕ). byte ∷ xs) g

pub pieces-whole : (bytes : List ℕ) → list_all (list_all no_line_feed) (pieces 10 bytes) ≡ true
pieces-whole [] = refl
pieces-whole (byte ∷ bytes) = by (byte == 10) refl (pieces 10 bytes) (pieces-whole bytes)
  where
    by : (b : Bool) → (byte == 10) ≡ b → (ps : List (List ℕ)) → list_all (list_all no_line_feed) ps ≡ true → list_all (list_all no_line_feed) (cond b ([] ∷ ps) (onto byte ps)) ≡ true
    by true e ps h = h
    by false e [] h = and_from _ _ (and_from _ _ (ap not e) refl) refl
    by false e (p ∷ ps) h = and_from _ _ (and_from _ _ (ap not e) (and_parts _ _ h).0) (and_parts (list_all no_line_feed p) _ h).1

pub record IsWhole (begun : Begun) (lines : List (List ℕ)) (rows : List Row) : Type 0 where
  pub last : Begun
  pub is : rows ≡ rows_so_far last
  pub stands : Stands last
  pub text : spelling rows ≡ spelling (rows_so_far begun) ++ joined lines

pub or-inv : (number : ℕ) (r : Result Begun TreeKind) (more : Begun → Result (List Row) LineFault) (rows : List Row) → or_fault number r more ≡ Ok rows → (next : Begun) × (r ≡ Ok next) × (more next ≡ Ok rows)
or-inv number (Ok next) more rows h = (next, refl, h)
or-inv number (Err kind) more rows h = err-ok h

next-unended : {B : Type 0} (begun : Begun) (line : List ℕ) (next : Begun) → next_line begun line false ≡ Ok next → B
next-unended {B = B} begun line next h = by (item_of begun.last.depth line false) refl h
  where
    by : (r : Result Item TreeKind) → item_of begun.last.depth line false ≡ r → with_item begun r ≡ Ok next → B
    by (Err kind) e g = err-ok g
    by (Ok item) e g = absurd (false≢true (item-inv begun.last.depth line false item e).0)

pub found-behind : (lines : List (List ℕ)) (done : ℕ) (begun : Begun) (rows : List Row) → Stands begun → begun.last.depth ≤ 63 → list_all (list_all no_line_feed) lines ≡ true
    → rows_behind lines done begun ≡ Ok rows → IsWhole begun lines rows
found-behind [] done begun rows h deep whole is = record { last = begun; is = sym (ok-same is); stands = h; text = ap spelling (sym (ok-same is)) ∙ sym (append-nil (spelling (rows_so_far begun))) }
found-behind ([] ∷ []) done begun rows h deep whole is = record { last = begun; is = sym (ok-same is); stands = h; text = ap spelling (sym (ok-same is)) ∙ sym (append-nil (spelling (rows_so_far begun))) }
found-behind ((byte ∷ bytes) ∷ []) done begun rows h deep whole is =
    let (next, e, more) = or-inv (done + 1) (next_line begun (byte ∷ bytes) false) (rows_behind [] (done + 1)) rows is in
    next-unended begun (byte ∷ bytes) next e
found-behind (line ∷ second ∷ lines) done begun rows h deep whole is =
    let (next, e, more) = or-inv (done + 1) (next_line begun line true) (rows_behind (second ∷ lines) (done + 1)) rows is in
    let good = next-found begun line next h deep (and_parts _ _ whole).0 e in
    let rest = found-behind (second ∷ lines) (done + 1) next rows good.stands good.depth (and_parts (list_all no_line_feed line) _ whole).1 more in
    record {
      last = rest.last;
      is = rest.is;
      stands = rest.stands;
      text = rest.text ∙ ap (λ (z : List ℕ). z ++ joined (second ∷ lines)) good.text ∙ append_assoc (spelling (rows_so_far begun)) (line ++ codes "\n") (joined (second ∷ lines))
          ∙ ap (λ (z : List ℕ). spelling (rows_so_far begun) ++ z) (append_assoc line (codes "\n") (joined (second ∷ lines)));
    }

pub record IsFoundFile (bytes : List ℕ) (rows : List Row) : Type 0 where
  pub last : Begun
  pub is : rows ≡ rows_so_far last
  pub stands : Stands last
  pub text : bytes ≡ spelling rows

pub file-found : (bytes : List ℕ) (rows : List Row) → tree_of bytes ≡ Ok rows → IsFoundFile bytes rows
file-found bytes rows h = subst (λ (z : List ℕ). IsFoundFile z rows) (joined-pieces bytes) (by (pieces 10 bytes) (pieces-whole bytes) h)
  where
    first : (r : Result NewRow TreeKind) (begun : Begun) → with_first r ≡ Ok begun → (new : NewRow) × (r ≡ Ok new) × (begun ≡ record { before = []; last = placed new 1 0 })
    first (Err kind) begun h = err-ok h
    first (Ok new) begun h = (new, refl, sym (ok-same h))

    by : (ps : List (List ℕ)) → list_all (list_all no_line_feed) ps ≡ true → rows_of_lines ps ≡ Ok rows → IsFoundFile (joined ps) rows
    by [] whole g = err-ok g
    by (line ∷ []) whole g =
        let (begun, e, more) = or-inv 1 (first_line line false) (rows_behind [] 1) rows g in
        let (new, f, same) = first (first_item line false) begun e in
        absurd (false≢true (first-inv line false new f).0)
    by (line ∷ second ∷ lines) whole g =
        let (begun, e, more) = or-inv 1 (first_line line true) (rows_behind (second ∷ lines) 1) rows g in
        let (new, f, same) = first (first_item line true) begun e in
        let is = (first-inv line true new f).1 in
        let start : Begun = record { before = []; last = placed new 1 0 } in
        let rest = found-behind (second ∷ lines) 1 start rows (first-stands line new (and_parts _ _ whole).0 is) (omega arith) (and_parts (list_all no_line_feed line) _ whole).1 (ap (rows_behind (second ∷ lines) 1) (sym same) ∙ more) in
        record {
          last = rest.last;
          is = rest.is;
          stands = rest.stands;
          text = sym (rest.text ∙ ap (λ (z : List ℕ). z ++ joined (second ∷ lines)) (first-text line new is) ∙ append_assoc line (codes "\n") (joined (second ∷ lines)));
        }

-- ---- the first line, as the code reads it

pub first-cut : (bytes line rest : List ℕ) → pieces 10 bytes ≡ line ∷ pieces 10 rest → tree_of bytes ≡ or_fault 1 (with_first (first_item line true)) (rows_behind (pieces 10 rest) 1)
first-cut bytes line rest cut = ap rows_of_lines cut ∙ ap (λ (b : Bool). or_fault 1 (first_line line (not b)) (rows_behind (pieces 10 rest) 1)) (some_piece rest)

pub first-read : (bytes line rest : List ℕ) (new : NewRow) → pieces 10 bytes ≡ line ∷ pieces 10 rest → first_item line true ≡ Ok new
    → rows_behind (pieces 10 rest) 1 (record { before = []; last = placed new 1 0 }) ≡ tree_of bytes
first-read bytes line rest new cut is = sym (first-cut bytes line rest cut ∙ ap (λ (r : Result NewRow TreeKind). or_fault 1 (with_first r) (rows_behind (pieces 10 rest) 1)) is)

pub first-fault : (bytes line rest : List ℕ) (fault : TreeFault) → pieces 10 bytes ≡ line ∷ pieces 10 rest → GivesAt 1 (first_item line true) (Err fault) → FaultIs (tree_of bytes) fault
first-fault bytes line rest NoMemory cut gives = tt
first-fault bytes line rest (Grammar number kind) cut gives =
    first-cut bytes line rest cut ∙ ap (λ (r : Result NewRow TreeKind). or_fault 1 (with_first r) (rows_behind (pieces 10 rest) 1)) gives.1
    ∙ ap (λ (n : ℕ). Err (record { line = n; kind = kind })) (sym gives.0)
first-fault bytes line rest NoNode cut gives = absurd gives
first-fault bytes line rest DuplicateId' cut gives = absurd gives
first-fault bytes line rest TooMany' cut gives = absurd gives
first-fault bytes line rest TooDeep' cut gives = absurd gives
first-fault bytes line rest Root cut gives = absurd gives
first-fault bytes line rest Leaf' cut gives = absurd gives
first-fault bytes line rest NotSiblings cut gives = absurd gives

-- ---- what a file stands for

pub reading-of : (bytes : List ℕ) (tree : TreeValue) → tree_of bytes ≡ Ok tree.rows → tree.made ≡ length tree.rows → IsReading bytes tree
reading-of bytes tree h made =
    let file = file-found bytes tree.rows h in
    let last = file.last in
    let so : (xs : List Row) → xs ≡ rows_so_far last → list_all is_typed xs ≡ true = λ xs e. ap (list_all is_typed) e ∙ all-snoc is_typed last.before last.last file.stands.typed file.stands.last_typed in
    record {
      typed = so tree.rows file.is;
      spelled = ap (list_all is_spelled) file.is ∙ all-snoc is_spelled last.before last.last file.stands.spelled file.stands.last_spelled;
      text = file.text;
      fresh = file.is ∙ ap₂ (λ (xs : List Row) (x : Row). xs ++ x ∷ []) file.stands.fresh file.stands.last_fresh ∙ sym (again-snoc 1 last.before last.last) ∙ ap (read_again 1) (sym file.is);
      made = made;
    }
