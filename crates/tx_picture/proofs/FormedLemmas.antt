-- Which lines of cells are well formed, place by place.
use Rattle.std.proofs.Common.{◌≡◌, ℕ, ◌+◌, ◌-◌, ◌<◌, ◌≤◌, suc, zero, ℤ, pos, ◌-ℤ◌, Bool, true, false, not, nat_lt, ◌==◌, List, [], ◌∷◌, length, map, Option, Some, None, get_or, if◌then◌else◌, refl, sym, ap, subst, ◌∙◌, arith, inl, inr}
use Rattle.std.specs.List.{range_with_len}
use Rattle.std.specs.Int.Signed.{pos-nat_abs, yes_non_neg}
use Rattle.std.specs.Option.{option_map_or}
use Rattle.std.specs.Prelude.{nat_abs, slice_get}
use Rattle.std.proofs.lemmas.Bool.{cases_Bool, eqb-true, eqb-false, eq-eqb, ne_eqb, lt-ltb, ltb-false, le-ltb}
use Rattle.std.proofs.lemmas.Int.{ints}
use Rattle.std.proofs.lemmas.List.{get_or_past}
use Rattle.std.proofs.lemmas.List.FromFn.{length-map-range_with_len}
use Rattle.tx_cell.proofs.lemmas.MadeCells.{IsMade-own, IsOfItsText-blank, white_on_black-channels}
use Rattle.tx_cell.specs.Cell.{CellValue, IsOfItsText, blank, tail_of}
use Rattle.tx_cell.specs.Pen.{HasByteChannels, white_on_black}
use Rattle.tx_cell.specs.Strip.{IsWellFormed, IsWellFormedAfter, before_end, behind_start, owed_tail}
use Rattle.tx_geom.specs.Region.{IsAmong}
use Rattle.tx_geom.specs.declared.places.Region.{Region}
use Rattle.tx_geom.specs.declared.places.Size.{Size}
use Rattle.tx_map.specs.declared.entry.Entry.{Entry}
use Rattle.tx_paint.specs.Drawing.{DrawingValue, IsDrawing, drawn, drawn_line}
use Rattle.tx_paint.specs.Laws.{LinesAreWhole}
use Rattle.tx_picture.proofs.LawLemmas.{cell-empty, cell-owned}
use Rattle.tx_picture.specs.Cells.{Covers, OwnersCover, cell_by}
use Rattle.tx_picture.specs.Picture.{drawn_in, empty, is_place, kept_half, left_owner, right_owner, shown_cell, shown_line}

-- the cell itself, where it is a tail
abbrev pub tail_in : CellValue → Option CellValue
tail_in cell = if cell.tail then Some cell else None

-- the tail that stands in a column, of those before an end
abbrev pub tail_at : (ℕ → CellValue) → ℕ → ℕ → Option CellValue
tail_at f end x = if nat_lt x end then tail_in (f x) else None

-- what is known of a cell by itself
pub record IsPart (cell : CellValue) : Type 0 where
  pub channels : HasByteChannels cell.pen
  pub text : cell.tail ≡ false → IsOfItsText cell
  pub tail : cell.tail ≡ true → cell ≡ tail_of cell.pen

-- and beside the next one
pub record IsJoined (f : ℕ → CellValue) (end x : ℕ) : Type 0 where
  pub part : IsPart (f x)
  pub next : owed_tail (f x) ≡ tail_at f end (x + 1)

tail-owes-none : (cell : CellValue) → cell ≡ tail_of cell.pen → owed_tail cell ≡ None
tail-owes-none cell is = ap (λ (c : CellValue). if nat_lt 1 c.width then Some (tail_of cell.pen) else None) is

-- ---- from the places to the list

-- a cell before well-formed ones that begin with the tail that it owes
formed-here : (cell : CellValue) (cells : List CellValue) (tail : Bool) → cell.tail ≡ tail → (owed : Option CellValue) → owed ≡ tail_in cell → IsPart cell
    → IsWellFormedAfter (owed_tail cell) cells → IsWellFormedAfter owed (cell ∷ cells)
formed-here cell cells true is owed start part rest =
    let own : owed ≡ Some cell = start ∙ ap (λ tail. if tail then Some cell else None) is in
    subst (λ (o : Option CellValue). IsWellFormedAfter o (cell ∷ cells)) (sym own)
    (refl, subst (λ (o : Option CellValue). IsWellFormedAfter o cells) (tail-owes-none cell (part.tail is)) rest)
formed-here cell cells false is owed start part rest =
    let own : owed ≡ None = start ∙ ap (λ tail. if tail then Some cell else None) is in
    subst (λ (o : Option CellValue). IsWellFormedAfter o (cell ∷ cells)) (sym own) (part.text is, rest)

module _ (f : ℕ → CellValue) (end : ℕ) (joined : (x : ℕ) → x < end → IsJoined f end x) where
  formed-from : (n from : ℕ) (owed : Option CellValue) → from + n ≡ end → owed ≡ tail_at f end from → IsWellFormedAfter owed (map f (range_with_len from n))
  formed-from zero from owed all start =
      let past : nat_lt from end ≡ false = le-ltb from end (omega (arith, all)) in
      let own : owed ≡ None = start ∙ ap (λ on. if on then tail_in (f from) else None) past in
      subst (λ (o : Option CellValue). IsWellFormedAfter o []) (sym own) tt
  formed-from (suc n) from owed all start =
      let on : nat_lt from end ≡ true = lt-ltb from end (omega (arith, all)) in
      let here = joined from (omega (arith, all)) in
      formed-here (f from) (map f (range_with_len (from + 1) n)) (f from).tail refl owed (start ∙ ap (λ on. if on then tail_in (f from) else None) on) here.part
      (formed-from n (from + 1) (owed_tail (f from)) (omega (arith, all)) here.next)

  pub formed-by_places : tail_at f end 0 ≡ None → IsWellFormed (map f (range_with_len 0 end))
  formed-by_places none = formed-from end 0 None (omega arith) (sym none)

-- ---- and back

pub record IsOwed (owed : Option CellValue) : Type 0 where
  pub tail : (cell : CellValue) → owed ≡ Some cell → (cell ≡ tail_of cell.pen) × HasByteChannels cell.pen

owed-none : IsOwed None
owed-none = record { tail = λ cell is. let clash : None ≡ Some cell = is in cc }

some-is : {A : Type 0} (a b : A) → Some a ≡ Some b → a ≡ b
some-is a b is = cc

owed-by : (cell : CellValue) (wide : Bool) → HasByteChannels cell.pen → IsOwed (if wide then Some (tail_of cell.pen) else None)
owed-by cell true channels = record {
  tail = λ tail is.
      let same : tail_of cell.pen ≡ tail = some-is (tail_of cell.pen) tail is in
      (subst (λ (t : CellValue). t ≡ tail_of t.pen) same refl, subst (λ (t : CellValue). HasByteChannels t.pen) same channels);
}
owed-by cell false channels = owed-none

-- what is known from a column on
pub record AreJoined (g : ℕ → CellValue) (end from : ℕ) (owed : Option CellValue) : Type 0 where
  pub start : owed ≡ tail_at g end from
  pub each : (x : ℕ) → from ≤ x → x < end → IsJoined g end x

module _ (g : ℕ → CellValue) (end : ℕ) where
  here-or-on : (from : ℕ) (owed : Option CellValue) → IsJoined g end from → AreJoined g end (from + 1) owed → (x : ℕ) → from ≤ x → x < end → IsJoined g end x
  here-or-on from owed here rest x low high = elim (cases_Bool (x == from)) [
    | inl same ↦ subst (IsJoined g end) (sym (eqb-true x from same)) here
    | inr other ↦ rest.each x (let differs = eqb-false x from other in let less : (x ≡ from → ⊥) = differs in omega arith) high
  ]

  on-at : (from n : ℕ) → from + suc n ≡ end → tail_at g end from ≡ tail_in (g from)
  on-at from n all = let on : nat_lt from end ≡ true = lt-ltb from end (omega (arith, all)) in ap (λ on. if on then tail_in (g from) else None) on

  joined-from : (n from : ℕ) (owed : Option CellValue) → IsOwed owed → from + n ≡ end → IsWellFormedAfter owed (map g (range_with_len from n)) → AreJoined g end from owed
  joined-from zero from None is all formed = record {
    start = let past : nat_lt from end ≡ false = le-ltb from end (omega (arith, all)) in sym (ap (λ on. if on then tail_in (g from) else None) past);
    each = λ x low high. absurd (omega (arith, all));
  }
  joined-from zero from (Some tail) is all formed = absurd formed
  joined-from (suc n) from None is all formed =
      let own = formed.0 in
      let head : (g from).tail ≡ false = (IsMade-own (g from) own).head in
      let rest = joined-from n (from + 1) (owed_tail (g from)) (owed-by (g from) (nat_lt 1 (g from).width) own.channels) (omega (arith, all)) formed.1 in
      let here : IsJoined g end from = record {
        part = record { channels = own.channels; text = λ _. own; tail = λ is_tail. let clash : false ≡ true = sym head ∙ is_tail in cc };
        next = rest.start;
      } in
      record {
        start = sym (on-at from n all ∙ ap (λ tail. if tail then Some (g from) else None) head);
        each = here-or-on from (owed_tail (g from)) here rest;
      }
  joined-from (suc n) from (Some tail) is all formed =
      let same : g from ≡ tail = formed.0 in
      let known = is.tail tail refl in
      let own : g from ≡ tail_of (g from).pen = subst (λ (c : CellValue). c ≡ tail_of c.pen) (sym same) known.0 in
      let is_tail : (g from).tail ≡ true = ap (λ (c : CellValue). c.tail) own in
      let rest = joined-from n (from + 1) None owed-none (omega (arith, all)) formed.1 in
      let here : IsJoined g end from = record {
        part = record {
          channels = subst (λ (c : CellValue). HasByteChannels c.pen) (sym same) known.1;
          text = λ head. let clash : true ≡ false = sym is_tail ∙ head in cc;
          tail = λ _. own;
        };
        next = tail-owes-none (g from) own ∙ rest.start;
      } in
      record {
        start = sym (on-at from n all ∙ ap (λ t. if t then Some (g from) else None) is_tail ∙ ap (λ c. Some c) same);
        each = here-or-on from None here rest;
      }

  pub joined-places : IsWellFormed (map g (range_with_len 0 end)) → (x : ℕ) → x < end → IsJoined g end x
  joined-places formed x high = (joined-from end 0 None owed-none (omega arith) formed).each x (omega arith) high

-- ---- halves

pub blank-part : (cell : CellValue) → HasByteChannels cell.pen → IsPart (blank cell.pen)
blank-part cell channels = record { channels = channels; text = λ _. IsOfItsText-blank cell.pen channels; tail = λ is. cc }

behind-part : (is_first tail : Bool) (cell : CellValue) → cell.tail ≡ tail → IsPart cell → IsPart (behind_start is_first cell)
behind-part false tail cell is part = part
behind-part true true cell is part = subst IsPart (sym (ap (λ t. if t then blank cell.pen else cell) is)) (blank-part cell part.channels)
behind-part true false cell is part = subst IsPart (sym (ap (λ t. if t then blank cell.pen else cell) is)) part

before-part : (is_last wide : Bool) (cell : CellValue) → nat_lt 1 cell.width ≡ wide → IsPart cell → IsPart (before_end is_last cell)
before-part false wide cell is part = part
before-part true true cell is part = subst IsPart (sym (ap (λ w. if w then blank cell.pen else cell) is)) (blank-part cell part.channels)
before-part true false cell is part = subst IsPart (sym (ap (λ w. if w then blank cell.pen else cell) is)) part

pub kept-part : (left right : Bool) (cell : CellValue) → IsPart cell → IsPart (kept_half left right cell)
kept-part left right cell part =
    before-part (not right) _ (behind_start (not left) cell) refl (behind-part (not left) cell.tail cell refl part)

owed-behind : (is_first tail : Bool) (cell : CellValue) → cell.tail ≡ tail → IsPart cell → owed_tail (behind_start is_first cell) ≡ owed_tail cell
owed-behind false tail cell is part = refl
owed-behind true true cell is part = ap (λ t. owed_tail (if t then blank cell.pen else cell)) is ∙ sym (tail-owes-none cell (part.tail is))
owed-behind true false cell is part = ap (λ t. owed_tail (if t then blank cell.pen else cell)) is

owed-before : (right wide : Bool) (cell : CellValue) → nat_lt 1 cell.width ≡ wide → owed_tail (before_end (not right) cell) ≡ (if right then owed_tail cell else None)
owed-before true wide cell is = refl
owed-before false true cell is = ap (λ w. owed_tail (if w then blank cell.pen else cell)) is
owed-before false false cell is = ap (λ w. owed_tail (if w then blank cell.pen else cell)) is ∙ ap (λ w. if w then Some (tail_of cell.pen) else None) is

-- a cell owes a tail where its row owns the next cell
pub owed-kept : (left right : Bool) (cell : CellValue) → IsPart cell → owed_tail (kept_half left right cell) ≡ (if right then owed_tail cell else None)
owed-kept left right cell part =
    owed-before right _ (behind_start (not left) cell) refl
    ∙ ap (λ owed. if right then owed else None) (owed-behind (not left) cell.tail cell refl part)

wide-head : (cell : CellValue) (tail : Bool) → cell.tail ≡ tail → nat_lt 1 cell.width ≡ true → IsPart cell → tail_in cell ≡ None
wide-head cell false is wide part = ap (λ t. if t then Some cell else None) is
wide-head cell true is wide part =
    let narrow : nat_lt 1 cell.width ≡ false = ap (λ (c : CellValue). nat_lt 1 c.width) (part.tail is) in
    let clash : true ≡ false = sym wide ∙ narrow in
    cc

tail-before : (is_last wide : Bool) (cell : CellValue) → nat_lt 1 cell.width ≡ wide → IsPart cell → tail_in (before_end is_last cell) ≡ tail_in cell
tail-before false wide cell is part = refl
tail-before true true cell is part = ap (λ w. tail_in (if w then blank cell.pen else cell)) is ∙ sym (wide-head cell cell.tail refl is part)
tail-before true false cell is part = ap (λ w. tail_in (if w then blank cell.pen else cell)) is

tail-behind : (left tail : Bool) (cell : CellValue) → cell.tail ≡ tail → tail_in (behind_start (not left) cell) ≡ (if left then tail_in cell else None)
tail-behind true tail cell is = refl
tail-behind false true cell is = ap (λ t. tail_in (if t then blank cell.pen else cell)) is
tail-behind false false cell is = ap (λ t. tail_in (if t then blank cell.pen else cell)) is ∙ ap (λ t. if t then Some cell else None) is

-- a tail stands where its row owns the cell before it
pub tail-kept : (left right : Bool) (cell : CellValue) → IsPart cell → tail_in (kept_half left right cell) ≡ (if left then tail_in cell else None)
tail-kept left right cell part =
    tail-before (not right) _ (behind_start (not left) cell) refl (behind-part (not left) cell.tail cell refl part)
    ∙ tail-behind left cell.tail cell refl

pub empty-part : IsPart empty
empty-part = record { channels = white_on_black-channels; text = λ _. IsOfItsText-blank white_on_black white_on_black-channels; tail = λ is. cc }

-- ---- lines

-- what is known of the cells of a line that are owned: of each by itself, and that one place draws wide cells with their tails
pub record AreLines (cells : ℕ → ℕ → CellValue) (owners : List (Option ℕ)) : Type 0 where
  pub parts : (x place : ℕ) → get_or owners x None ≡ Some place → IsPart (cells place x)
  pub runs : (x place : ℕ) → get_or owners x None ≡ Some place → get_or owners (x + 1) None ≡ Some place
      → owed_tail (cells place x) ≡ tail_in (cells place (x + 1))

module _ (cells : ℕ → ℕ → CellValue) (owners : List (Option ℕ)) (lines : AreLines cells owners) where
  part-at : (x : ℕ) (owner : Option ℕ) → get_or owners x None ≡ owner → IsPart (shown_cell cells owners x)
  part-at x None is = subst IsPart (sym (cell-empty cells owners x is)) empty-part
  part-at x (Some place) is =
      subst IsPart (sym (cell-owned cells owners x place is))
      (kept-part (is_place place (left_owner owners x)) (is_place place (right_owner owners x)) (cells place x) (lines.parts x place is))

  -- the tail that stands in a column
  tail-owned : (x place : ℕ) (left : Option ℕ) → get_or owners x None ≡ Some place → left_owner owners x ≡ left
      → tail_in (shown_cell cells owners x) ≡ (if is_place place left then tail_in (cells place x) else None)
  tail-owned x place left is left_is =
      ap tail_in (cell-owned cells owners x place is)
      ∙ tail-kept (is_place place (left_owner owners x)) (is_place place (right_owner owners x)) (cells place x) (lines.parts x place is)
      ∙ ap (λ owner. if is_place place owner then tail_in (cells place x) else None) left_is

  -- and the one that it owes
  owed-owned : (x place : ℕ) (right : Option ℕ) → get_or owners x None ≡ Some place → right_owner owners x ≡ right
      → owed_tail (shown_cell cells owners x) ≡ (if is_place place right then owed_tail (cells place x) else None)
  owed-owned x place right is right_is =
      ap owed_tail (cell-owned cells owners x place is)
      ∙ owed-kept (is_place place (left_owner owners x)) (is_place place (right_owner owners x)) (cells place x) (lines.parts x place is)
      ∙ ap (λ owner. if is_place place owner then owed_tail (cells place x) else None) right_is

  left-back : (x : ℕ) (owner : Option ℕ) → get_or owners x None ≡ owner → left_owner owners (x + 1) ≡ owner
  left-back x owner is =
      let some : (x + 1 == 0) ≡ false = ne_eqb (x + 1) 0 (λ e. omega (arith, e)) in
      let back : x + 1 - 1 ≡ x = omega arith in
      ap (λ first. if first then None else get_or owners (x + 1 - 1) None) some ∙ ap (λ n. get_or owners n None) back ∙ is

  same-place : (x place other : ℕ) (same : Bool) → (other == place) ≡ same → get_or owners x None ≡ Some place → get_or owners (x + 1) None ≡ Some other
      → (if other == place then owed_tail (cells place x) else None) ≡ (if place == other then tail_in (cells other (x + 1)) else None)
  same-place x place other true same is next_is =
      let e : other ≡ place = eqb-true other place same in
      let back : (place == other) ≡ true = eq-eqb place other (sym e) in
      ap (λ b. if b then owed_tail (cells place x) else None) same
      ∙ lines.runs x place is (next_is ∙ ap (λ (o : ℕ). Some o) e)
      ∙ sym (ap (λ b. if b then tail_in (cells other (x + 1)) else None) back ∙ ap (λ (o : ℕ). tail_in (cells o (x + 1))) e)
  same-place x place other false differs is next_is =
      let back : (place == other) ≡ false = ne_eqb place other (λ e. eqb-false other place differs (sym e)) in
      ap (λ b. if b then owed_tail (cells place x) else None) differs
      ∙ sym (ap (λ b. if b then tail_in (cells other (x + 1)) else None) back)

  -- what a cell owes stands in the next column
  owed-next : (x : ℕ) (here next : Option ℕ) → get_or owners x None ≡ here → get_or owners (x + 1) None ≡ next
      → owed_tail (shown_cell cells owners x) ≡ tail_in (shown_cell cells owners (x + 1))
  owed-next x None None is next_is = ap owed_tail (cell-empty cells owners x is) ∙ sym (ap tail_in (cell-empty cells owners (x + 1) next_is))
  owed-next x None (Some other) is next_is =
      ap owed_tail (cell-empty cells owners x is) ∙ sym (tail-owned (x + 1) other None next_is (left-back x None is))
  owed-next x (Some place) None is next_is =
      owed-owned x place None is next_is ∙ sym (ap tail_in (cell-empty cells owners (x + 1) next_is))
  owed-next x (Some place) (Some other) is next_is =
      owed-owned x place (Some other) is next_is
      ∙ same-place x place other (other == place) refl is next_is
      ∙ sym (tail-owned (x + 1) other (Some place) next_is (left-back x (Some place) is))

  end-none : (x : ℕ) → length owners ≤ x → tail_in (shown_cell cells owners x) ≡ None
  end-none x past = ap tail_in (cell-empty cells owners x (get_or_past owners x None past))

  next-by : (x : ℕ) (on : Bool) → nat_lt (x + 1) (length owners) ≡ on
      → owed_tail (shown_cell cells owners x) ≡ (if on then tail_in (shown_cell cells owners (x + 1)) else None)
  next-by x true on = owed-next x _ _ refl refl
  next-by x false off = owed-next x _ _ refl refl ∙ end-none (x + 1) (ltb-false (x + 1) (length owners) off)

  joined-at : (x : ℕ) → x < length owners → IsJoined (shown_cell cells owners) (length owners) x
  joined-at x high = record { part = part-at x (get_or owners x None) refl; next = next-by x (nat_lt (x + 1) (length owners)) refl }

  first-by : (owner : Option ℕ) → get_or owners 0 None ≡ owner → tail_in (shown_cell cells owners 0) ≡ None
  first-by None is = ap tail_in (cell-empty cells owners 0 is)
  first-by (Some place) is = tail-owned 0 place None is refl

  start-by : (on : Bool) → nat_lt 0 (length owners) ≡ on → tail_at (shown_cell cells owners) (length owners) 0 ≡ None
  start-by true on = ap (λ b. if b then tail_in (shown_cell cells owners 0) else None) on ∙ first-by (get_or owners 0 None) refl
  start-by false off = ap (λ b. if b then tail_in (shown_cell cells owners 0) else None) off

  pub line-formed : IsWellFormed (shown_line cells owners)
  unfolding shown_line
  line-formed = formed-by_places (shown_cell cells owners) (length owners) joined-at (start-by (nat_lt 0 (length owners)) refl)

-- ---- lines of drawings

pub counted-is : (from : ℤ) (count at : ℕ) → IsAmong from count (pos at) → pos (nat_abs (pos at -ℤ from)) ≡ pos at -ℤ from
counted-is from count at among = pos-nat_abs (pos at -ℤ from) (yes_non_neg (omega (arith, ints, among.from_on)))

counted-below : (from : ℤ) (count at : ℕ) → IsAmong from count (pos at) → nat_abs (pos at -ℤ from) < count
counted-below from count at among = omega (arith, ints, counted-is from count at among, among.before)

counted-next : (from : ℤ) (count at : ℕ) → IsAmong from count (pos at) → IsAmong from count (pos (at + 1))
    → nat_abs (pos (at + 1) -ℤ from) ≡ nat_abs (pos at -ℤ from) + 1
counted-next from count at among next = omega (arith, ints, counted-is from count at among, counted-is from count (at + 1) next)

pub cell-drawn : (entries : List Entry) (drawings : List (Option DrawingValue)) (y at x : ℕ) (entry : Entry) (d : DrawingValue)
    → slice_get entries at ≡ Some entry → get_or drawings at None ≡ Some d → cell_by entries drawings y at x ≡ drawn_in entry.region d x y
cell-drawn entries drawings y at x entry d entry_is d_is =
    ap (λ e. option_map_or (λ entry. option_map_or (λ d. drawn_in entry.region d x y) (get_or drawings at None) empty) e empty) entry_is
    ∙ ap (λ o. option_map_or (λ d. drawn_in entry.region d x y) o empty) d_is

module _ (whole : LinesAreWhole) (entries : List Entry) (drawings : List (Option DrawingValue)) (y : ℕ) (owners : List (Option ℕ)) (cover : OwnersCover entries drawings y owners) where
  joined-drawing : (d : DrawingValue) (line x : ℕ) → IsDrawing d → x < d.size.width → IsJoined (λ x. drawn d x line) d.size.width x
  unfolding drawn_line
  joined-drawing d line x is below = joined-places (λ x. drawn d x line) d.size.width (whole d line is).formed x below

  column-below : (region : Region) (d : DrawingValue) (x : ℕ) → Covers region d x y → nat_abs (pos x -ℤ region.x) < d.size.width
  column-below region d x covers =
      let below = counted-below region.x region.width x covers.holds.column in
      let wide : d.size.width ≡ region.width = ap (λ (s : Size). s.width) covers.size in
      omega (arith, below, wide)

  part-by : (x at : ℕ) → get_or owners x None ≡ Some at → (entry : Option Entry) (d : Option DrawingValue) → slice_get entries at ≡ entry → get_or drawings at None ≡ d
      → IsPart (cell_by entries drawings y at x)
  part-by x at is None d entry_is d_is =
      subst IsPart (sym (ap (λ e. option_map_or (λ entry. option_map_or (λ d. drawn_in entry.region d x y) (get_or drawings at None) empty) e empty) entry_is)) empty-part
  part-by x at is (Some entry) None entry_is d_is =
      subst IsPart
      (sym (ap (λ e. option_map_or (λ entry. option_map_or (λ d. drawn_in entry.region d x y) (get_or drawings at None) empty) e empty) entry_is
      ∙ ap (λ o. option_map_or (λ d. drawn_in entry.region d x y) o empty) d_is))
      empty-part
  part-by x at is (Some entry) (Some d) entry_is d_is =
      let covers = cover x at is entry d entry_is d_is in
      subst IsPart (sym (cell-drawn entries drawings y at x entry d entry_is d_is))
      (joined-drawing d (nat_abs (pos y -ℤ entry.region.y)) (nat_abs (pos x -ℤ entry.region.x)) covers.shape (column-below entry.region d x covers)).part

  run-by : (x at : ℕ) → get_or owners x None ≡ Some at → get_or owners (x + 1) None ≡ Some at → (entry : Option Entry) (d : Option DrawingValue)
      → slice_get entries at ≡ entry → get_or drawings at None ≡ d
      → owed_tail (cell_by entries drawings y at x) ≡ tail_in (cell_by entries drawings y at (x + 1))
  run-by x at is next_is None d entry_is d_is =
      let none : (z : ℕ) → cell_by entries drawings y at z ≡ empty =
      λ z. ap (λ e. option_map_or (λ entry. option_map_or (λ d. drawn_in entry.region d z y) (get_or drawings at None) empty) e empty) entry_is
      in
      ap owed_tail (none x) ∙ sym (ap tail_in (none (x + 1)))
  run-by x at is next_is (Some entry) None entry_is d_is =
      let none : (z : ℕ) → cell_by entries drawings y at z ≡ empty =
      λ z. ap (λ e. option_map_or (λ entry. option_map_or (λ d. drawn_in entry.region d z y) (get_or drawings at None) empty) e empty) entry_is
      ∙ ap (λ o. option_map_or (λ d. drawn_in entry.region d z y) o empty) d_is
      in
      ap owed_tail (none x) ∙ sym (ap tail_in (none (x + 1)))
  run-by x at is next_is (Some entry) (Some d) entry_is d_is =
      let covers = cover x at is entry d entry_is d_is in
      let next = cover (x + 1) at next_is entry d entry_is d_is in
      let line = nat_abs (pos y -ℤ entry.region.y) in
      let column = nat_abs (pos x -ℤ entry.region.x) in
      let after : nat_abs (pos (x + 1) -ℤ entry.region.x) ≡ column + 1 = counted-next entry.region.x entry.region.width x covers.holds.column next.holds.column in
      let below = column-below entry.region d (x + 1) next in
      let on : nat_lt (column + 1) d.size.width ≡ true = lt-ltb (column + 1) d.size.width (omega (arith, below, after)) in
      ap owed_tail (cell-drawn entries drawings y at x entry d entry_is d_is)
      ∙ (joined-drawing d line column covers.shape (column-below entry.region d x covers)).next
      ∙ ap (λ b. if b then tail_in (drawn d (column + 1) line) else None) on
      ∙ sym (ap tail_in (cell-drawn entries drawings y at (x + 1) entry d entry_is d_is) ∙ ap (λ z. tail_in (drawn d z line)) after)

  pub drawn-formed : IsWellFormed (shown_line (cell_by entries drawings y) owners)
  drawn-formed = line-formed (cell_by entries drawings y) owners (record {
    parts = λ x at is. part-by x at is (slice_get entries at) (get_or drawings at None) refl refl;
    runs = λ x at is next_is. run-by x at is next_is (slice_get entries at) (get_or drawings at None) refl refl;
  })

pub line-length : (cells : ℕ → ℕ → CellValue) (owners : List (Option ℕ)) → length (shown_line cells owners) ≡ length owners
unfolding shown_line
line-length cells owners = length-map-range_with_len (shown_cell cells owners) 0 (length owners)
