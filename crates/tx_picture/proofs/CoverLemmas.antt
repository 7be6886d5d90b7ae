-- What is known of the owners of a line.
use Rattle.std.proofs.Common.{◌≡◌, ℕ, ◌+◌, suc, zero, Bool, true, false, nat_lt, ◌&&◌, List, [], ◌∷◌, length, map, get_or, Option, Some, None, option_map, is_some, if◌then◌else◌, refl, sym, ap, subst, ◌∙◌, arith, inl, inr}
use Rattle.std.specs.List.{position_from, range_with_len}
use Rattle.std.specs.Option.{option_map_or, option_or}
use Rattle.std.specs.Prelude.{slice_get}
use Rattle.std.proofs.lemmas.Bool.{cases_Bool, eq-eqb, ltb-true, ltb-false}
use Rattle.std.proofs.lemmas.List.{get_or_past}
use Rattle.std.proofs.lemmas.List.FromFn.{get_or-map-range_with_len, length-map-range_with_len}
use Rattle.tx_cascade.specs.Styles.{StylesValue}
use Rattle.tx_cell.specs.Cell.{CellValue}
use Rattle.tx_geom.specs.Region.{Holds}
use Rattle.tx_geom.specs.declared.places.Size.{Size}
use Rattle.tx_map.specs.declared.entry.Entry.{Entry}
use Rattle.tx_node_map.specs.Held.{held}
use Rattle.tx_owner.specs.Laws.{TopmostIsThat, WithinIsHeld}
use Rattle.tx_owner.specs.Owner.{first_cell, is_entry_of, is_seen, is_within, line_owners, owner, owners, shows_at, spot, topmost, Placed}
use Rattle.tx_owner.specs.Owners.{OwnersValue}
use Rattle.tx_paint.specs.Drawing.{DrawingValue, IsDrawing, drawing_of}
use Rattle.tx_picture.proofs.LawLemmas.{cell-empty, cell-owned}
use Rattle.tx_picture.specs.Cells.{OwnersCover, cell_by}
use Rattle.tx_picture.specs.Drawings.{drawing_where, drawings}
use Rattle.tx_picture.specs.Given.{AreOwners}
use Rattle.tx_picture.specs.Picture.{drawn_in, empty, entry_cell, entry_drawing, is_place, kept_half, left_owner, place_cell, right_owner, row_drawing, shown_cell, shown_line, styles_of}
use Rattle.tx_sizes.specs.Forest.{Styles}
use Rattle.tx_tree.specs.Rows.{row_at}
use Rattle.tx_tree.specs.declared.row.Row.{Row}
use Rattle.tx_widgets.specs.Frame.{place}

some-is : {A : Type 0} (a b : A) → Some a ≡ Some b → a ≡ b
some-is a b is = cc

-- ---- the owner of a cell

-- an owner is the place of an entry, at whose region the cell is
pub record Owns (entries : List Entry) (x y at : ℕ) : Type 0 where
  pub entry : Entry
  pub stands : slice_get entries at ≡ Some entry
  pub holds : Holds entry.region (place x y)

and-first : (a b : Bool) → (a && b) ≡ true → a ≡ true
and-first true b is = refl
and-first false b is = is

and-second : (a b : Bool) → (a && b) ≡ true → b ≡ true
and-second true b is = is
and-second false b is = let clash : false ≡ true = is in cc

module _ (that : TopmostIsThat) (within : WithinIsHeld) (styles : Styles) (entries : List Entry) where
  within-region : (x y : ℕ) (entry : Entry) → shows_at styles x y entry ≡ true → is_within entry.region x y ≡ true
  unfolding shows_at
  within-region x y entry is = and-first (is_within entry.region x y) (is_within entry.clip x y) (and-second (is_seen styles entry) _ is)

  owns-by : (x y at : ℕ) (top : Option Placed) → topmost styles entries x y ≡ top → option_map (λ placed. placed.place) top ≡ Some at → Owns entries x y at
  owns-by x y at None top_is is = let clash : None ≡ Some at = is in cc
  owns-by x y at (Some placed) top_is is =
      let same : placed.place ≡ at = some-is placed.place at is in
      let known = that styles entries x y placed top_is in
      record {
        entry = placed.entry;
        stands = ap (slice_get entries) (sym same) ∙ known.stands;
        holds = (within placed.entry.region x y).0 (within-region x y placed.entry known.shows);
      }

  pub owns : (x y at : ℕ) → owner styles entries x y ≡ Some at → Owns entries x y at
  unfolding owner
  owns x y at is = owns-by x y at (topmost styles entries x y) refl is

  -- the owners of a line own its cells
  pub line-owns : (width x y at : ℕ) → get_or (line_owners styles entries width y) x None ≡ Some at → Owns entries x y at
  line-owns width x y at is = elim (cases_Bool (nat_lt x width)) [
    | inl on ↦ owns x y at (sym (get_or-map-range_with_len (λ x. owner styles entries x y) 0 width x x None (ltb-true x width on) (omega arith)) ∙ is)
    | inr off ↦
        let past = get_or_past (line_owners styles entries width y) x None (omega (arith, length-map-range_with_len (λ x. owner styles entries x y) 0 width, ltb-false x width off)) in
        let clash : None ≡ Some at = sym past ∙ is in
        cc
  ]

-- ---- drawings

get_or-map-some : {A B : Type 0} (f : A → Option B) (xs : List A) (at : ℕ) (x : A) → slice_get xs at ≡ Some x → get_or (map f xs) at None ≡ f x
get_or-map-some f [] at x is = let clash : None ≡ Some x = is in cc
get_or-map-some f (first ∷ xs) zero x is = ap f (some-is first x is)
get_or-map-some f (first ∷ xs) (suc at) x is = get_or-map-some f xs at x is

row-size : (shown : StylesValue) (entry : Entry) (row : Row) → (row_drawing shown entry row).size ≡ record { width = entry.region.width; height = entry.region.height }
unfolding row_drawing drawing_of
row-size shown entry row = refl

drawing-size : (shown : StylesValue) (entry : Entry) (row : Option Row) (d : DrawingValue) → option_map (row_drawing shown entry) row ≡ Some d
    → d.size ≡ record { width = entry.region.width; height = entry.region.height }
drawing-size shown entry None d is = let clash : None ≡ Some d = is in cc
drawing-size shown entry (Some row) d is = ap (λ (d : DrawingValue). d.size) (sym (some-is (row_drawing shown entry row) d is)) ∙ row-size shown entry row

where-size : (shown : StylesValue) (spots : ℕ → Option (ℕ × ℕ)) (entry : Entry) (d : DrawingValue) (is_met : Bool) → (if is_met then entry_drawing shown entry else None) ≡ Some d
    → d.size ≡ record { width = entry.region.width; height = entry.region.height }
where-size shown spots entry d true is = drawing-size shown entry (row_at entry.node.0 shown.rows) d is
where-size shown spots entry d false is = let clash : None ≡ Some d = is in cc

-- each drawing of a list is one
abbrev pub AreDrawings : List (Option DrawingValue) → Type 0
AreDrawings drawings = (at : ℕ) (d : DrawingValue) → get_or drawings at None ≡ Some d → IsDrawing d

-- the owners of a line cover the cells that they own
pub owners-cover : TopmostIsThat → WithinIsHeld → (shown : StylesValue) (entries : List Entry) (spots : ℕ → Option (ℕ × ℕ)) (all : List (Option DrawingValue)) (width y : ℕ)
    → all ≡ drawings shown spots entries → AreDrawings all → OwnersCover entries all y (line_owners (styles_of shown) entries width y)
owners-cover that within shown entries spots all width y all_is are x at is entry d entry_is d_is =
    let own = line-owns that within (styles_of shown) entries width x y at is in
    let same : own.entry ≡ entry = some-is own.entry entry (sym own.stands ∙ entry_is) in
    let drawn : drawing_where shown spots entry ≡ Some d = sym (get_or-map-some (drawing_where shown spots) entries at entry entry_is) ∙ ap (λ ds. get_or ds at None) (sym all_is) ∙ d_is in
    record {
      holds = subst (λ (e : Entry). Holds e.region (place x y)) same own.holds;
      size = where-size shown spots entry d (is_some (spots entry.node.0)) drawn;
      shape = are at d d_is;
    }

-- ---- where rows are met

or-some : {A : Type 0} (a b : Option A) → is_some a ≡ true → is_some (option_or a b) ≡ true
or-some None b is = let clash : false ≡ true = is in cc
or-some (Some a) b is = refl

or-second : {A : Type 0} (a b : Option A) → is_some b ≡ true → is_some (option_or a b) ≡ true
or-second None b is = is
or-second (Some a) b is = refl

map-some : {A B : Type 0} (f : A → B) (a : Option A) → is_some a ≡ true → is_some (option_map f a) ≡ true
map-some f None is = is
map-some f (Some a) is = refl

position-some : {A : Type 0} (test : A → Bool) (d : A) → test d ≡ false → (xs : List A) (from i : ℕ) → test (get_or xs i d) ≡ true → is_some (position_from test from xs) ≡ true
position-some test d none [] from i is = let clash : false ≡ true = sym none ∙ ap test (sym (get_or_past [] i d (omega arith))) ∙ is in cc
position-some test d none (x ∷ xs) from zero is = rw is refl
position-some test d none (x ∷ xs) from (suc i) is = elim (cases_Bool (test x)) [
  | inl passes ↦ rw passes refl
  | inr fails ↦ rw fails (position-some test d none xs (from + 1) i is)
]

first-cell-some : (test : Option ℕ → Bool) → test None ≡ false → (lines : List (List (Option ℕ))) (from y x : ℕ) → test (get_or (get_or lines y []) x None) ≡ true
    → is_some (first_cell test from lines) ≡ true
first-cell-some test none [] from y x is =
    let clash : false ≡ true =
    sym none ∙ ap test (sym (ap (λ (line : List (Option ℕ)). get_or line x None) (get_or_past [] y [] (omega arith)) ∙ get_or_past [] x None (omega arith))) ∙ is
    in
    cc
first-cell-some test none (line ∷ lines) from zero x is =
    or-some (option_map (λ x. (x, from)) (position_from test 0 line)) (first_cell test (from + 1) lines) (map-some (λ x. (x, from)) (position_from test 0 line) (position-some test None none line 0 x is))
first-cell-some test none (line ∷ lines) from (suc y) x is =
    or-second (option_map (λ x. (x, from)) (position_from test 0 line)) (first_cell test (from + 1) lines) (first-cell-some test none lines (from + 1) y x is)

own-entry : (entries : List Entry) (at : ℕ) (entry : Entry) → slice_get entries at ≡ Some entry → is_entry_of entries entry.node.0 (Some at) ≡ true
own-entry entries at entry is = rw is (eq-eqb entry.node.0 entry.node.0 refl)

-- the row of an owner is met
pub is-met : (entries : List Entry) (lines : List (List (Option ℕ))) (y x at : ℕ) (entry : Entry) → slice_get entries at ≡ Some entry → get_or (get_or lines y []) x None ≡ Some at
    → is_some (spot entries lines entry.node.0) ≡ true
is-met entries lines y x at entry entry_is is =
    first-cell-some (is_entry_of entries entry.node.0) refl lines 0 y x (ap (is_entry_of entries entry.node.0) is ∙ own-entry entries at entry entry_is)

-- ---- lines by drawings

cells-same : (cells others : ℕ → ℕ → CellValue) (owners : List (Option ℕ)) → ((x at : ℕ) → get_or owners x None ≡ Some at → cells at x ≡ others at x)
    → (x : ℕ) (owner : Option ℕ) → get_or owners x None ≡ owner → shown_cell cells owners x ≡ shown_cell others owners x
cells-same cells others owners same x None is = cell-empty cells owners x is ∙ sym (cell-empty others owners x is)
cells-same cells others owners same x (Some at) is =
    cell-owned cells owners x at is
    ∙ ap (λ cell. kept_half (is_place at (left_owner owners x)) (is_place at (right_owner owners x)) cell) (same x at is)
    ∙ sym (cell-owned others owners x at is)

pub lines-same : (cells others : ℕ → ℕ → CellValue) (owners : List (Option ℕ)) → ((x at : ℕ) → get_or owners x None ≡ Some at → cells at x ≡ others at x)
    → shown_line cells owners ≡ shown_line others owners
unfolding shown_line
lines-same cells others owners same =
    let each : (x : ℕ) → shown_cell cells owners x ≡ shown_cell others owners x = λ x. cells-same cells others owners same x (get_or owners x None) refl in
    ap (λ (f : ℕ → CellValue). map f (range_with_len 0 (length owners))) (λ i x. each x i)

-- by the drawings of the rows that are met, each owner shows what its row draws
pub line-drawn : TopmostIsThat → WithinIsHeld → (shown : StylesValue) (entries : List Entry) (size : Size) (of : OwnersValue) (all : List (Option DrawingValue)) (line : List (Option ℕ)) (y : ℕ)
    → AreOwners (styles_of shown) entries size of → all ≡ drawings shown (held of.spots) entries → get_or of.lines y [] ≡ line → line ≡ line_owners (styles_of shown) entries size.width y
    → shown_line (cell_by entries all y) line ≡ shown_line (place_cell shown entries y) line
line-drawn that within shown entries size of all line y are all_is line_is owners_are =
    lines-same (cell_by entries all y) (place_cell shown entries y) line
    (λ x at is.
    let own = line-owns that within (styles_of shown) entries size.width x y at (ap (λ (l : List (Option ℕ)). get_or l x None) (sym owners_are) ∙ is) in
    let entry = own.entry in
    let met : is_some (held of.spots entry.node.0) ≡ true =
    ap (λ (s : Option (ℕ × ℕ)). is_some s) (are.spots entry.node.0) ∙ is-met entries of.lines y x at entry own.stands (ap (λ (l : List (Option ℕ)). get_or l x None) line_is ∙ is)
    in
    let drawing : get_or all at None ≡ entry_drawing shown entry =
    ap (λ ds. get_or ds at None) all_is ∙ get_or-map-some (drawing_where shown (held of.spots)) entries at entry own.stands ∙ ap (λ b. if b then entry_drawing shown entry else None) met
    in
    ap (λ e. option_map_or (λ entry. option_map_or (λ d. drawn_in entry.region d x y) (get_or all at None) empty) e empty) own.stands
    ∙ ap (λ d. option_map_or (λ d. drawn_in entry.region d x y) d empty) drawing
    ∙ sym (ap (λ e. option_map_or (entry_cell shown x y) e empty) own.stands))
