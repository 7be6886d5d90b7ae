-- Reading on behind a last row.
use Rattle.std.proofs.lemmas.Bool.{and_parts}
use Rattle.std.proofs.Common.{◌≡◌, ℕ, ◌+◌, ◌*◌, ◌/◌, ◌%◌, ◌≤◌, ◌==◌, Bool, true, false, cond, not, List, [], ◌∷◌, ◌++◌, length, Option, Some, None, Result, Ok, Err, refl, ap, sym, subst, ◌∙◌, arith, append_assoc, ◌≢◌, leb-true}
use Rattle.std.proofs.lemmas.Bool.{false≢true}
use Rattle.std.proofs.lemmas.Bool.Decides.{Decides-eqb}
use Rattle.tx_tree_file.proofs.Repeats.{not_true}
use Rattle.std.specs.Str.{is_utf8}
use Rattle.tx_read.specs.Pieces.{pieces, onto}
use Rattle.tx_tree.specs.Kind.{is_screen}
use Rattle.tx_tree.specs.declared.bind.Bind.{Bind}
use Rattle.tx_tree.specs.declared.fault.TreeFault.{TreeFault}
use Rattle.tx_tree.specs.declared.fault.TreeFault.TheVariants.{Grammar, NoNode, DuplicateId, TooMany, TooDeep as TooDeep', Root, Leaf, NotSiblings, NoMemory}
use Rattle.tx_tree.specs.declared.fault.TreeKind.{TreeKind}
use Rattle.tx_tree.specs.declared.fault.TreeKind.TheVariants.{BadByte, BadIndent, TooDeep, Expected}
use Rattle.tx_tree.specs.declared.row.NewRow.{NewRow}
use Rattle.tx_tree.specs.declared.row.Row.{Row}
use Rattle.tx_tree_file.proofs.Fronts.{same-byte}
use Rattle.tx_tree_file.proofs.FoundLines.{row-found}
use Rattle.tx_tree_file.specs.Indent.{blanks, past_blanks, is_bind_line, may_stand}
use Rattle.tx_tree_file.specs.Sections.{with_binds, IsWidget, Leads}
use Rattle.tx_tree_file.specs.TreeReading.{Begun, binding, widget, bind_item, row_item, item_of, row_of, bind_of, with_bind, with_new, with_item, next_line, or_fault, is_empty, rows_behind, GivesAt}
use Rattle.tx_tree_file.specs.declared.line.Item.{Item}
use Rattle.tx_tree_file.specs.declared.line.Item.TheVariants.{Binding, Widget}
use Rattle.tx_tree_file.specs.declared.section.Met.{Met}

-- how much is left behind what was met
abbrev pub bytes_left : Option Met → ℕ
bytes_left None = 0
bytes_left (Some met) = length met.rest.now + 1

pub ok-same : {A F : Type 0} {x y : A} → ◌≡◌ {A = Result A F} (Ok x) (Ok y) → x ≡ y
ok-same h = cc

pub err-ok : {A F B : Type 0} {x : A} {f : F} → ◌≡◌ {A = Result A F} (Err f) (Ok x) → B
err-ok h = absurd cc

-- there is a piece in any bytes
pub some_piece : (bytes : List ℕ) → is_empty (pieces 10 bytes) ≡ false
some_piece [] = refl
some_piece (byte ∷ bytes) = by (byte == 10) (pieces 10 bytes)
  where
    by : (b : Bool) (rest : List (List ℕ)) → is_empty (cond b ([] ∷ rest) (onto byte rest)) ≡ false
    by true rest = refl
    by false [] = refl
    by false (piece ∷ rest) = refl

pub more_lines : (line behind : List ℕ) (done : ℕ) (begun : Begun)
    → rows_behind (line ∷ pieces 10 behind) done begun ≡ or_fault (done + 1) (next_line begun line true) (rows_behind (pieces 10 behind) (done + 1))
more_lines line behind done begun = rw (some_piece behind) refl

-- a line that is a binding
pub bind_line_read : (left line behind : List ℕ) (done : ℕ) (before : List Row) (last : Row) (bind : Bind)
    → pieces 10 left ≡ line ∷ pieces 10 behind → item_of last.depth line true ≡ Ok (Binding bind)
    → rows_behind (pieces 10 left) done (record { before = before; last = last }) ≡ rows_behind (pieces 10 behind) (done + 1) (record { before = before; last = with_bind bind last })
bind_line_read left line behind done before last bind cut is =
    ap (λ (z : List (List ℕ)). rows_behind z done (record { before = before; last = last })) cut
    ∙ more_lines line behind done (record { before = before; last = last })
    ∙ ap (λ (z : Result Item TreeKind). or_fault (done + 1) (with_item (record { before = before; last = last }) z) (rows_behind (pieces 10 behind) (done + 1))) is

pub one_bind_more : (binds : List Bind) (bind : Bind) (last : Row) → with_bind bind (with_binds binds last) ≡ with_binds (binds ++ bind ∷ []) last
one_bind_more binds bind last = ap (λ (z : List Bind). record last { binds = z }) (append_assoc last.binds binds (bind ∷ []))

-- a line that is a row
pub row_line_read : (left line behind : List ℕ) (done depth : ℕ) (before : List Row) (last : Row) (new : NewRow)
    → pieces 10 left ≡ line ∷ pieces 10 behind → item_of last.depth line true ≡ Ok (Widget depth new)
    → rows_behind (pieces 10 left) done (record { before = before; last = last }) ≡ or_fault (done + 1) (with_new (before ++ last ∷ []) depth new) (rows_behind (pieces 10 behind) (done + 1))
row_line_read left line behind done depth before last new cut is =
    ap (λ (z : List (List ℕ)). rows_behind z done (record { before = before; last = last })) cut
    ∙ more_lines line behind done (record { before = before; last = last })
    ∙ ap (λ (z : Result Item TreeKind). or_fault (done + 1) (with_item (record { before = before; last = last }) z) (rows_behind (pieces 10 behind) (done + 1))) is

-- a line that is at fault
pub fault_read : (left line behind : List ℕ) (done : ℕ) (before : List Row) (last : Row) (kind : TreeKind)
    → pieces 10 left ≡ line ∷ pieces 10 behind → item_of last.depth line true ≡ Err kind
    → rows_behind (pieces 10 left) done (record { before = before; last = last }) ≡ Err (record { line = done + 1; kind = kind })
fault_read left line behind done before last kind cut is =
    ap (λ (z : List (List ℕ)). rows_behind z done (record { before = before; last = last })) cut
    ∙ more_lines line behind done (record { before = before; last = last })
    ∙ ap (λ (z : Result Item TreeKind). or_fault (done + 1) (with_item (record { before = before; last = last }) z) (rows_behind (pieces 10 behind) (done + 1))) is

-- the end
pub end_read : (left : List ℕ) (done : ℕ) (before : List Row) (last : Row) → left ≡ [] → pieces 10 left ≡ left ∷ []
    → rows_behind (pieces 10 left) done (record { before = before; last = last }) ≡ Ok (before ++ last ∷ [])
end_read left done before last none cut =
    ap (λ (z : List ℕ). rows_behind (pieces 10 z) done (record { before = before; last = last })) none

filled_line : (line : List ℕ) → (length line == 0) ≡ false → is_empty line ≡ false
filled_line [] h = absurd cc
filled_line (byte ∷ line) h = refl

-- a line without a line feed
pub last_fault_read : (left : List ℕ) (done : ℕ) (before : List Row) (last : Row) (kind : TreeKind) → (length left == 0) ≡ false → pieces 10 left ≡ left ∷ []
    → item_of last.depth left false ≡ Err kind
    → rows_behind (pieces 10 left) done (record { before = before; last = last }) ≡ Err (record { line = done + 1; kind = kind })
last_fault_read left done before last kind filled cut is =
    ap (λ (z : List (List ℕ)). rows_behind z done (record { before = before; last = last })) cut
    ∙ rw (filled_line left filled, is) refl

-- ---- what a line can be

pub ifs : {A F : Type 0} (b : Bool) (x : Result A F) (f : F) (y : A) → cond b (Err f) x ≡ Ok y → (b ≡ false) × (x ≡ Ok y)
ifs true x f y h = err-ok h
ifs false x f y h = (refl, h)

pub ended-inv : {A F : Type 0} (b : Bool) (x : Result A F) (f : F) (y : A) → cond b x (Err f) ≡ Ok y → (b ≡ true) × (x ≡ Ok y)
ended-inv true x f y h = (refl, h)
ended-inv false x f y h = err-ok h

-- what a line is at all
pub record IsItem (depth : ℕ) (line : List ℕ) (item : Item) : Type 0 where
  pub utf8 : not (is_utf8 line) ≡ false
  pub stands : not (may_stand depth (is_bind_line line) (blanks line)) ≡ false
  pub is : cond (is_bind_line line) (bind_item (past_blanks line) true) (row_item (blanks line) (past_blanks line) true) ≡ Ok item

pub item-inv : (depth : ℕ) (line : List ℕ) (ended : Bool) (item : Item) → item_of depth line ended ≡ Ok item → (ended ≡ true) × IsItem depth line item
item-inv depth line ended item h =
    let (utf8, h1) = ifs (not (is_utf8 line)) _ BadByte item h in
    let (stands, h2) = ifs (not (may_stand depth (is_bind_line line) (blanks line))) _ BadIndent item h1 in
    let (whole, is) = by (is_bind_line line) h2 in
    (whole, record { utf8 = utf8; stands = stands; is = is })
  where
    by : (b : Bool) → cond b (bind_item (past_blanks line) ended) (row_item (blanks line) (past_blanks line) ended) ≡ Ok item
        → (ended ≡ true) × (cond b (bind_item (past_blanks line) true) (row_item (blanks line) (past_blanks line) true) ≡ Ok item)
    by true g =
        let (whole, is) = ended-inv ended (binding (bind_of (past_blanks line))) Expected item g in
        (whole, is)
    by false g =
        let (few, g1) = ifs (blanks line == 128) _ TooDeep item g in
        let (whole, is) = ended-inv ended (widget (blanks line / 2) (row_of (past_blanks line))) Expected item g1 in
        (whole, rw few is)

pub is_bind : (o : Option Bind) (item : Item) → binding o ≡ Ok item → (bind : Bind) × (o ≡ Some bind) × (item ≡ Binding bind)
is_bind None item h = err-ok h
is_bind (Some bind) item h = (bind, refl, sym (ok-same h))

pub is_widget : (depth : ℕ) (o : Option NewRow) (item : Item) → widget depth o ≡ Ok item → (new : NewRow) × (o ≡ Some new) × (is_screen new.kind ≡ false) × (item ≡ Widget depth new)
is_widget depth None item h = err-ok h
is_widget depth (Some new) item h = let (other, is) = ifs (is_screen new.kind) (Ok (Widget depth new)) Expected item h in (new, refl, other, sym (ok-same is))

pub stands-inv : (depth count : ℕ) → not (may_stand depth false count) ≡ false → (count % 2 ≡ 0) × (2 ≤ count) × (count ≤ 2 * (depth + 1))
stands-inv depth count h =
    let good = not_true (may_stand depth false count) h in
    (same-byte _ 0 (and_parts _ _ good).0, leb-true 2 count (and_parts _ _ (and_parts _ _ good).1).0, leb-true count (2 * (depth + 1)) (and_parts _ _ (and_parts _ _ good).1).1)

-- a row line as it was read
pub record IsRowItem (depth : ℕ) (line : List ℕ) (d : ℕ) (new : NewRow) : Type 0 where
  pub utf8 : is_utf8 line ≡ true
  pub no_bind : is_bind_line line ≡ false
  pub even : blanks line % 2 ≡ 0
  pub least : 2 ≤ blanks line
  pub most : blanks line ≤ 2 * (depth + 1)
  pub few : (blanks line == 128) ≡ false
  pub row : row_of (past_blanks line) ≡ Some new
  pub other : is_screen new.kind ≡ false
  pub half : d ≡ blanks line / 2

pub row_item-inv : (depth : ℕ) (line : List ℕ) (ended : Bool) (d : ℕ) (new : NewRow) → item_of depth line ended ≡ Ok (Widget d new) → (ended ≡ true) × IsRowItem depth line d new
row_item-inv depth line ended d new h =
    let (whole, item) = item-inv depth line ended (Widget d new) h in
    (whole, by (is_bind_line line) refl item.stands item.is (not_true (is_utf8 line) item.utf8))
  where
    by : (b : Bool) → is_bind_line line ≡ b → not (may_stand depth b (blanks line)) ≡ false
        → cond b (bind_item (past_blanks line) true) (row_item (blanks line) (past_blanks line) true) ≡ Ok (Widget d new) → is_utf8 line ≡ true → IsRowItem depth line d new
    by true e stands is utf8 =
        let (bind, some, same) = is_bind (bind_of (past_blanks line)) (Widget d new) is in
        absurd cc
    by false e stands is utf8 =
        let (few, g) = ifs (blanks line == 128) _ TooDeep (Widget d new) is in
        let (found, row, other, same) = is_widget (blanks line / 2) (row_of (past_blanks line)) (Widget d new) g in
        let (even, least, most) = stands-inv depth (blanks line) stands in
        let half : d ≡ blanks line / 2 = cc in
        let that : found ≡ new = cc in
        record {
          utf8 = utf8;
          no_bind = e;
          even = even;
          least = least;
          most = most;
          few = few;
          row = subst (λ (z : NewRow). row_of (past_blanks line) ≡ Some z) that row;
          other = subst (λ (z : NewRow). is_screen z.kind ≡ false) that other;
          half = half;
        }

pub other_than : (a b : ℕ) → (a == b) ≡ false → a ≢ b
other_than a b e same = absurd (false≢true (sym e ∙ (Decides-eqb a b).1 same))

pub widget-read : (depth : ℕ) (line : List ℕ) (ended : Bool) (d : ℕ) (new : NewRow) → depth ≤ 63 → item_of depth line ended ≡ Ok (Widget d new) → IsWidget depth d new
widget-read depth line ended d new deep h =
    let is = (row_item-inv depth line ended d new h).1 in
    let half = is.half in
    let few = other_than (blanks line) 128 is.few in
    record {
      below = omega (arith, half, is.least);
      shallow = omega (arith, half, is.most, is.even, few, deep);
      step = omega (arith, half, is.most);
      alone = (row-found (past_blanks line) new is.row).alone;
      other = is.other;
    }

-- a line without a line feed is none
pub unended : {B : Type 0} (depth : ℕ) (line : List ℕ) (item : Item) → item_of depth line false ≡ Ok item → B
unended depth line item h = absurd (false≢true (item-inv depth line false item h).0)

pub piece_short : (bytes piece : List ℕ) (rest : List (List ℕ)) → pieces 10 bytes ≡ piece ∷ rest → length piece ≤ length bytes
piece_short [] piece rest h = let e : [] ≡ piece = cc in subst (λ (z : List ℕ). length z ≤ 0) e (omega arith)
piece_short (byte ∷ bytes) piece rest h = by (byte == 10) (pieces 10 bytes) (λ p r. piece_short bytes p r) h
  where
    by : (b : Bool) (more : List (List ℕ)) → ((p : List ℕ) (r : List (List ℕ)) → more ≡ p ∷ r → length p ≤ length bytes) → cond b ([] ∷ more) (onto byte more) ≡ piece ∷ rest → length piece ≤ length (byte ∷ bytes)
    by true more f h = let e : [] ≡ piece = cc in subst (λ (z : List ℕ). length z ≤ length (byte ∷ bytes)) e (omega arith)
    by false [] f h = let e : byte ∷ [] ≡ piece = cc in subst (λ (z : List ℕ). length z ≤ length (byte ∷ bytes)) e (omega arith)
    by false (p ∷ r) f h = let e : byte ∷ p ≡ piece = cc in let a = f p r refl in subst (λ (z : List ℕ). length z ≤ length (byte ∷ bytes)) e (omega (arith, a))

-- ---- what the loop over the lines keeps

-- what all gives is what is left to give
abbrev pub Keeps : ℕ → List ℕ → ℕ → List ℕ → ℕ → List Bind → Type 0
Keeps depth all done left line binds =
    (before : List Row) (last : Row) → last.depth ≡ depth
    → rows_behind (pieces 10 all) done (record { before = before; last = last }) ≡ rows_behind (pieces 10 left) line (record { before = before; last = with_binds binds last })

pub leads-fault : (depth done line : ℕ) (all left text behind : List ℕ) (binds : List Bind) (fault : TreeFault) → Keeps depth all done left line binds
    → pieces 10 left ≡ text ∷ pieces 10 behind → GivesAt (line + 1) (item_of depth text true) (Err fault) → Leads depth all done (Err fault)
leads-fault depth done line all left text behind binds NoMemory so cut gives = tt
leads-fault depth done line all left text behind binds (Grammar number kind) so cut gives = λ before last e.
    so before last e
    ∙ fault_read left text behind line before (with_binds binds last) kind cut (ap (λ (d : ℕ). item_of d text true) e ∙ gives.1)
    ∙ ap (λ (n : ℕ). Err (record { line = n; kind = kind })) (sym gives.0)
leads-fault depth done line all left text behind binds NoNode so cut gives = absurd gives
leads-fault depth done line all left text behind binds DuplicateId so cut gives = absurd gives
leads-fault depth done line all left text behind binds TooMany so cut gives = absurd gives
leads-fault depth done line all left text behind binds TooDeep' so cut gives = absurd gives
leads-fault depth done line all left text behind binds Root so cut gives = absurd gives
leads-fault depth done line all left text behind binds Leaf so cut gives = absurd gives
leads-fault depth done line all left text behind binds NotSiblings so cut gives = absurd gives

pub leads-last-fault : (depth done line : ℕ) (all left : List ℕ) (binds : List Bind) (fault : TreeFault) → Keeps depth all done left line binds
    → (length left == 0) ≡ false → pieces 10 left ≡ left ∷ [] → GivesAt (line + 1) (item_of depth left false) (Err fault) → Leads depth all done (Err fault)
leads-last-fault depth done line all left binds NoMemory so filled cut gives = tt
leads-last-fault depth done line all left binds (Grammar number kind) so filled cut gives = λ before last e.
    so before last e
    ∙ last_fault_read left line before (with_binds binds last) kind filled cut (ap (λ (d : ℕ). item_of d left false) e ∙ gives.1)
    ∙ ap (λ (n : ℕ). Err (record { line = n; kind = kind })) (sym gives.0)
leads-last-fault depth done line all left binds NoNode so filled cut gives = absurd gives
leads-last-fault depth done line all left binds DuplicateId so filled cut gives = absurd gives
leads-last-fault depth done line all left binds TooMany so filled cut gives = absurd gives
leads-last-fault depth done line all left binds TooDeep' so filled cut gives = absurd gives
leads-last-fault depth done line all left binds Root so filled cut gives = absurd gives
leads-last-fault depth done line all left binds Leaf so filled cut gives = absurd gives
leads-last-fault depth done line all left binds NotSiblings so filled cut gives = absurd gives

pub keeps-bind : (depth done line : ℕ) (all left text behind : List ℕ) (binds : List Bind) (bind : Bind) → Keeps depth all done left line binds
    → pieces 10 left ≡ text ∷ pieces 10 behind → item_of depth text true ≡ Ok (Binding bind) → Keeps depth all done behind (line + 1) (binds ++ bind ∷ [])
keeps-bind depth done line all left text behind binds bind so cut is = λ before last e.
    so before last e
    ∙ bind_line_read left text behind line before (with_binds binds last) bind cut (ap (λ (d : ℕ). item_of d text true) e ∙ is)
    ∙ ap (λ (z : Row). rows_behind (pieces 10 behind) (line + 1) (record { before = before; last = z })) (one_bind_more binds bind last)

pub leads-row : (depth done line d : ℕ) (all left text behind : List ℕ) (binds : List Bind) (new : NewRow) → Keeps depth all done left line binds
    → pieces 10 left ≡ text ∷ pieces 10 behind → item_of depth text true ≡ Ok (Widget d new)
    → (before : List Row) (last : Row) → last.depth ≡ depth
    → rows_behind (pieces 10 all) done (record { before = before; last = last }) ≡ or_fault (line + 1) (with_new (before ++ with_binds binds last ∷ []) d new) (rows_behind (pieces 10 behind) (line + 1))
leads-row depth done line d all left text behind binds new so cut is before last e =
    so before last e
    ∙ row_line_read left text behind line d before (with_binds binds last) new cut (ap (λ (d : ℕ). item_of d text true) e ∙ is)

pub leads-end : (depth done line : ℕ) (all left : List ℕ) (binds : List Bind) → Keeps depth all done left line binds
    → (length left == 0) ≡ true → pieces 10 left ≡ left ∷ []
    → (before : List Row) (last : Row) → last.depth ≡ depth
    → rows_behind (pieces 10 all) done (record { before = before; last = last }) ≡ Ok (before ++ with_binds binds last ∷ [])
leads-end depth done line all left binds so none cut before last e = so before last e ∙ end_read left line before (with_binds binds last) (nothing left none) cut
  where
    nothing : (bytes : List ℕ) → (length bytes == 0) ≡ true → bytes ≡ []
    nothing [] h = refl
    nothing (byte ∷ bytes) h = let zero = same-byte _ 0 h in absurd (omega (arith, zero))
