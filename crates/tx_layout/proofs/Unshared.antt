-- Children of one flow share no cell in an arrangement.
use Rattle.std.proofs.Common.{◌≡◌, ℕ, zero, suc, ◌+◌, ◌-◌, ◌<◌, ◌≤◌, ◌⊎◌, inl, inr, max, ◌∙◌, refl, sym, ap, subst, Bool, true, false, List, [], ◌∷◌, ◌++◌, length, map, replicate, Option, Some, None, Result, Ok, arith, ℤ, pos, negsuc, if◌then◌else◌}
use Rattle.std.specs.Prelude.{◌%◌, take, ◌+ℤ◌, ◌-ℤ◌, ◌≤ℤ◌, ◌==◌, ⊤, All, IfSome, slice_index_or}
use Rattle.std.specs.List.{AllByRecursion as Every, filter, range_with_len}
use Rattle.std.specs.Option.{option_or}
use Rattle.std.proofs.lemmas.Bool.{cases_lt, eqb-true}
use Rattle.std.proofs.lemmas.Int.{ints}
use Rattle.std.proofs.lemmas.List.{get_or_default}
use Rattle.std.proofs.lemmas.List.Elements.{All-from_recursion, recursion_from_All}
use Rattle.tx_frac.specs.Ratio.{IsLowest, gcd, greatest_divisor}
use Rattle.tx_frac.specs.declared.scalars.Scalar.{Scalar}
use Rattle.tx_geom.specs.Region.{Holds, IsAmong}
use Rattle.tx_geom.specs.declared.choices.AlignX.{AlignX}
use Rattle.tx_geom.specs.declared.choices.AlignY.{AlignY}
use Rattle.tx_geom.specs.declared.choices.Axis.{Axis}
use Rattle.tx_geom.specs.declared.choices.Axis.TheVariants.{Width, Height}
use Rattle.tx_geom.specs.declared.choices.LayoutKind.{LayoutKind}
use Rattle.tx_geom.specs.declared.choices.LayoutKind.TheVariants.{Vertical, Horizontal, Grid}
use Rattle.tx_geom.specs.declared.places.Offset.{Offset}
use Rattle.tx_geom.specs.declared.places.Region.{Region}
use Rattle.tx_geom.specs.declared.places.Size.{Size}
use Rattle.tx_box.specs.Axis.{axis_spans}
use Rattle.tx_box.specs.Item.{IsSized, NotNegative}
use Rattle.tx_box.specs.Laws.{HasFractions, IsRow, SpansFollow}
use Rattle.tx_box.specs.declared.items.Basis.{Basis}
use Rattle.tx_box.specs.declared.items.Item.{Item}
use Rattle.tx_box.specs.declared.items.Span.{Span}
use Rattle.tx_grid.specs.Laws.{EachStandsFirst, NoneShareCells as NoneShareInGrid}
use Rattle.tx_grid.specs.Standing.{AreSpans, IsInside, IsRowCount, IsSpan, SharesNoCell, StandsAt, cut, first_place, standing, standing_after}
use Rattle.tx_grid.specs.declared.places.Cells.{Cells}
use Rattle.tx_grid.specs.declared.places.Spans.{Spans}
use Rattle.tx_layout.specs.Arrangement.{Layer, arranged_layer, docked_region, flow_basis, flow_region, laid_docked, layer_with, region_of, regions_of, start_x, start_y, together}
use Rattle.tx_layout.specs.Children.{docked, flow, is_docked, is_docked_by, is_in_flow, is_in_layer, layer_numbers, layer_of, layers, numbered}
use Rattle.tx_layout.specs.Flow.{flow_of}
use Rattle.tx_layout.specs.Grid.{AreInTracks, area_of, cells_of, columns_of, cut_in, cut_side, frame_with, framed, grid_of, grid_with, one_fr, or_one_fr, row_count, rows_of, side_over, sized_frames, sized_in, spans_of, track_at, track_gap, track_gaps, track_item, track_items, track_spans}
use Rattle.tx_layout.specs.Laws.{at_axis, AcceptedFillRoom, FillsRoom, HasBoxes, HasNoOffset, IsAccepted, IsAcceptedGrid, NoneShareCells, NoneShareInArrangement}
use Rattle.tx_layout.specs.Line.{Flow, line_of}
use Rattle.tx_layout.specs.Room.{edges_of, inside}
use Rattle.tx_layout.specs.Sides.{across_one, along, basis_of, content_of, count_of, measured, with_side, in_row}
use Rattle.tx_layout.specs.Steps.{each_of}
use Rattle.tx_layout.specs.Style.{IsTrack, item_of}
use Rattle.tx_layout.specs.declared.children.Child.{Child}
use Rattle.tx_layout.specs.declared.children.Framed.{Framed}
use Rattle.tx_layout.specs.declared.children.Side.{Side}
use Rattle.tx_layout.specs.declared.styles.Arrangement.{Arrangement}
use Rattle.tx_layout.specs.declared.styles.Ask.{Ask}
use Rattle.tx_layout.specs.declared.styles.BoxStyle.{BoxStyle}
use Rattle.tx_layout.specs.declared.styles.GridStyle.{GridStyle}
use Rattle.tx_layout.proofs.Agreeing.{across_kept, both_kept, bound_at, each_kept, every_kept, every_map, flow_kept, ok_is, stepped_from}
use Rattle.tx_layout.proofs.Filling.{AreApart, are_apart, axis_begins, axis_long, begin_of, column_of, end_of, map_long, not_past, one_columns, refused_some, row_of, some_same}
use Rattle.tx_layout.proofs.InTracks.{in_tracks}
use Rattle.tx_layout.proofs.Ordinary.{index_or, min_span, most_span, range_long, replicate_long, tracks_each}
use Rattle.tx_layout.proofs.Shown.{at_place, each_keeps}

-- ---- lists

abbrev Among : {A : Type 0} → A → List A → Type 0
Among x [] = ⊥
Among x (y ∷ ys) = (y ≡ x) ⊎ Among x ys

-- each two of a list, the one before first
abbrev Pairs : {A : Type 0} → (A → A → Type 0) → List A → Type 0
Pairs R [] = ⊤
Pairs R (x ∷ xs) = Every (R x) xs × Pairs R xs

pairs_of : {A : Type 0} (R : A → A → Type 0) (xs : List A) → ((i j : ℕ) (d : A) → i < j → j < length xs → R (slice_index_or xs i d) (slice_index_or xs j d)) → Pairs R xs
pairs_of R [] h = tt
pairs_of R (x ∷ xs) h = (
  recursion_from_All (R x) xs (λ j d within. h 0 (suc j) d (omega arith) (omega arith)),
  pairs_of R xs (λ i j d less within. h (suc i) (suc j) d (omega arith) (omega arith)),
)

every_both : {A : Type 0} (P Q : A → Type 0) (xs : List A) → Every P xs → Every Q xs → Every (λ x. P x × Q x) xs
every_both P Q [] h g = tt
every_both P Q (x ∷ xs) h g = ((h.0, g.0), every_both P Q xs h.1 g.1)

among_every : {A : Type 0} (P : A → Type 0) (x : A) (xs : List A) → Every P xs → Among x xs → P x
among_every P x [] h a = absurd a
among_every P x (y ∷ ys) h (inl e) = subst P e h.0
among_every P x (y ∷ ys) h (inr a) = among_every P x ys h.1 a

-- a fact of each two of a list is one of any two that differ
among_pairs : {A : Type 0} (R : A → A → Type 0) → ((x y : A) → R x y → R y x) → (xs : List A) (x y : A) → Pairs R xs → (x ≡ y → ⊥) → Among x xs → Among y xs → R x y
among_pairs R swap [] x y h other a b = absurd a
among_pairs R swap (z ∷ zs) x y h other (inl e) (inl f) = absurd (other (sym e ∙ f))
among_pairs R swap (z ∷ zs) x y h other (inl e) (inr b) = subst (λ w. R w y) e (among_every (R z) y zs h.0 b)
among_pairs R swap (z ∷ zs) x y h other (inr a) (inl f) = swap y x (subst (λ w. R w x) f (among_every (R z) x zs h.0 a))
among_pairs R swap (z ∷ zs) x y h other (inr a) (inr b) = among_pairs R swap zs x y h.1 other a b

either_more : {A : Type 0} (x z : A) (zs ys : List A) → Among x zs ⊎ Among x ys → Among x (z ∷ zs) ⊎ Among x ys
either_more x z zs ys (inl a) = inl (inr a)
either_more x z zs ys (inr a) = inr a

among_append : {A : Type 0} (x : A) (xs ys : List A) → Among x (xs ++ ys) → Among x xs ⊎ Among x ys
among_append x [] ys a = inr a
among_append x (z ∷ zs) ys (inl e) = inl (inl e)
among_append x (z ∷ zs) ys (inr a) = either_more x z zs ys (among_append x zs ys a)

record OfMap {A B : Type 0} (f : A → B) (y : B) (xs : List A) : Type 0 where
  value : A
  among : Among value xs
  is : f value ≡ y

among_map : {A B : Type 0} (f : A → B) (y : B) (xs : List A) → Among y (map f xs) → OfMap f y xs
among_map f y [] a = absurd a
among_map f y (x ∷ xs) (inl e) = record { value = x; among = inl refl; is = e }
among_map f y (x ∷ xs) (inr a) = let b = among_map f y xs a in record { value = b.value; among = inr b.among; is = b.is }

if_passes : (p : Child → Bool) (b : Bool) (c : Child) (cs : List Child) → p c ≡ b → Every (λ d. p d ≡ true) cs → Every (λ d. p d ≡ true) (if b then c ∷ cs else cs)
if_passes p true c cs e h = (e, h)
if_passes p false c cs e h = h

every_passes : (p : Child → Bool) (cs : List Child) → Every (λ c. p c ≡ true) (filter p cs)
every_passes p [] = tt
every_passes p (c ∷ cs) = if_passes p (p c) c (filter p cs) refl (every_passes p cs)

-- ---- the boxes of accepted children

abbrev Accepted : Child → Type 0
Accepted c = IsAccepted c.style

accepted_side : (axis : Axis) (s : Side) (c : Child) → Accepted c → Accepted (with_side axis s c)
accepted_side Width s c h = h
accepted_side Height s c h = h

abbrev IsBox : Item → Type 0
IsBox item = IsSized item × HasFractions item

item_box : (axis : Axis) (s : BoxStyle) (n : ℕ) → IsAccepted s → IsBox (item_of axis s n)
item_box Width s n h = (
  record { size = h.style.width; least = h.style.least_width; most = h.style.most_width },
  record { size = h.width; least = h.least Width; most = h.most Width },
)
item_box Height s n h = (
  record { size = h.style.height; least = h.style.least_height; most = h.style.most_height },
  record { size = h.height; least = h.least Height; most = h.most Height },
)

measured_box : (m : Ask → Option ℕ) (axis : Axis) (area : Size) (c : Child) (item : Item) → Accepted c → measured m axis area c ≡ Ok item → IsBox item
unfolding measured
measured_box m axis area c item h e =
    let b = bound_at (content_of m axis area c) _ item e in
    subst IsBox (ok_is {F = Axis} (item_of axis c.style b.value) item b.second) (item_box axis c.style b.value h)

all_boxes : (m : Ask → Option ℕ) (axis : Axis) (area : Size) (cs : List Child) (items : List Item) → Every Accepted cs → each_of (measured m axis area) cs ≡ Ok items → Every IsBox items
all_boxes m axis area cs items h e = each_kept (measured m axis area) Accepted IsBox (measured_box m axis area) cs items h e

boxes_with : (m : Ask → Option ℕ) (main : Axis) (basis : Basis) (cs ready : List Child) (items : List Item) → at_axis m main basis cs ≡ Ok ready → Every Accepted ready → each_of (measured m main basis.area) ready ≡ Ok items
    → HasBoxes m main basis cs
boxes_with m main basis cs ready items at h e =
    let boxes = all_boxes m main basis.area ready items h e in
    record {
      ready = ready;
      at_axis = at;
      items = items;
      boxes = e;
      sized = All-from_recursion IsSized items (every_map IsBox IsSized (λ i b. b.0) items boxes);
      fractions = All-from_recursion HasFractions items (every_map IsBox HasFractions (λ i b. b.1) items boxes);
    }

pub boxes_of : (m : Ask → Option ℕ) (main : Axis) (basis : Basis) (cs : List Child) (f : Flow) → Every Accepted cs → line_of m (Some main) basis cs ≡ Ok f → HasBoxes m main basis cs
unfolding along
boxes_of m Height basis cs f h e =
    let c = column_of m basis cs f e in
    let items = bound_at (each_of (measured m Height basis.area) c.ready) (in_row Height basis c.ready) c.children c.heights in
    boxes_with m Height basis cs c.ready items.value c.widths (across_kept Accepted accepted_side m Width basis cs c.ready h c.widths) items.first
boxes_of m Width basis cs f h e =
    let r = row_of m basis cs f e in
    let items = bound_at (each_of (measured m Width basis.area) cs) (in_row Width basis cs) r.placed r.widths in
    boxes_with m Width basis cs cs items.value refl h items.first

pub accepted_fill_room : FillsRoom → AcceptedFillRoom
unfolding boxes_with
accepted_fill_room law m Height basis cs f h e ready items at boxes shares =
    law m Height basis cs f e (boxes_with m Height basis cs ready items at (across_kept Accepted accepted_side m Width basis cs ready (recursion_from_All Accepted cs h) at) boxes) shares
accepted_fill_room law m Width basis cs f h e ready items at boxes shares =
    law m Width basis cs f e (boxes_with m Width basis cs ready items at (subst (Every Accepted) (ok_is {F = Axis} cs ready at) (recursion_from_All Accepted cs h)) boxes) shares

-- ---- two children that share no cell wherever their flow begins

abbrev Unshared : Child → Child → Type 0
Unshared c d =
    (left top : ℕ) → HasNoOffset c → HasNoOffset d → (p : Offset) → Holds (flow_region left top c) p → Holds (flow_region left top d) p → ⊥

swapped : (c d : Child) → Unshared c d → Unshared d c
swapped c d h left top still still' p one other = h left top still' still p other one

line_pairs : NoneShareCells → (m : Ask → Option ℕ) (main : Axis) (basis : Basis) (cs : List Child) (f : Flow) → Every Accepted cs → line_of m (Some main) basis cs ≡ Ok f → Pairs Unshared f.children
line_pairs law m main basis cs f h e =
    pairs_of Unshared f.children
    (λ i j d less within left top still still' p one other. law m main basis cs f e (boxes_of m main basis cs f h e) left top i j d less within still still' p one other)

-- ---- tracks stand apart

-- a size of at least 0, in lowest terms
abbrev IsTrackSize : Scalar → Type 0
IsTrackSize s = NotNegative s.value × IsLowest s.value

one_size : IsTrackSize one_fr
unfolding gcd greatest_divisor
one_size = (omega (arith, ints), record { positive = omega arith; coprime = refl })

or_one_size : (ts : List Scalar) → Every IsTrackSize ts → Every IsTrackSize (or_one_fr ts)
or_one_size [] h = (one_size, tt)
or_one_size (t ∷ ts) h = h

track_size : (ts : List Scalar) (n : ℕ) → Every IsTrackSize ts → IsTrackSize (track_at ts n)
track_size ts n h = index_or IsTrackSize (or_one_fr ts) (n % length (or_one_fr ts)) one_fr (or_one_size ts h) one_size

track_box : (t : Scalar) → IsTrackSize t → IsBox (track_item t)
track_box t h = (record { size = h.0; least = tt; most = tt }, record { size = h.1; least = tt; most = tt })

sizes_of : (ts : List Scalar) → All IsTrack ts → All (λ track. IsLowest track.value) ts → Every IsTrackSize ts
sizes_of ts h g =
    every_both (λ track. NotNegative track.value) (λ track. IsLowest track.value) ts
    (every_map IsTrack (λ track. NotNegative track.value) (λ t k. k.not_negative) ts (recursion_from_All IsTrack ts h))
    (recursion_from_All (λ track. IsLowest track.value) ts g)

-- so many tracks that stand apart
record AreTracksApart (count : ℕ) (spans : List Span) : Type 0 where
  apart : AreApart spans
  long : length spans ≡ count

tracks_apart : SpansFollow → (axis : Axis) (gutter : ℕ) (ts : List Scalar) (count : ℕ) (basis : Basis) (spans : List Span) → Every IsTrackSize ts → track_spans axis gutter ts count basis ≡ Ok spans → AreTracksApart count spans
unfolding track_spans
tracks_apart law axis gutter ts count basis spans h e =
    let items = track_items ts count in
    let gaps = track_gaps gutter count in
    let own = replicate count basis.area in
    let gives = refused_some axis (axis_spans items gaps axis basis own) spans e in
    let long : length items ≡ count = map_long (λ n. track_item (track_at ts n)) (range_with_len 0 count) ∙ range_long 0 count in
    let many : length gaps ≡ count + 1 = map_long (track_gap gutter count) (range_with_len 0 (count + 1)) ∙ range_long 0 (count + 1) in
    let more : length gaps ≡ length items + 1 = omega (arith, long, many) in
    let each : length own ≡ length items = replicate_long count basis.area ∙ sym long in
    let boxes = tracks_each IsBox (λ n. track_item (track_at ts n)) (λ n. track_box (track_at ts n) (track_size ts n h)) 0 count in
    let row : IsRow items gaps own = record {
      sized = All-from_recursion IsSized items (every_map IsBox IsSized (λ i b. b.0) items boxes);
      fractions = All-from_recursion HasFractions items (every_map IsBox HasFractions (λ i b. b.1) items boxes);
      one_gap_more = more;
      one_base_each = each;
    } in
    record {
      apart = are_apart gaps spans (axis_begins items gaps axis basis own spans gives) (law items gaps axis basis own spans row gives);
      long = axis_long items gaps axis basis own spans more each gives ∙ long;
    }

-- cells that end before others begin
abbrev Ahead : Side → Side → Type 0
Ahead s t = s.from + s.size ≤ t.from

abbrev none : Span
none = record { from = pos 0; to = pos 0 }

begin_to_end : (spans : List Span) → AreApart spans → (a k : ℕ) → a + k < length spans → (slice_index_or spans a none).from ≤ℤ (slice_index_or spans (a + k) none).to
begin_to_end spans h a zero within =
    subst (λ (m : ℕ). (slice_index_or spans a none).from ≤ℤ (slice_index_or spans m none).to) (let e : a ≡ a + 0 = omega arith in e) (h.forward a none (omega arith))
begin_to_end spans h a (suc k) within =
    let first = h.forward a none (omega arith) in
    let gap = h.apart a k none (omega arith) in
    let last = h.forward (a + k + 1) none (omega arith) in
    subst (λ (m : ℕ). (slice_index_or spans a none).from ≤ℤ (slice_index_or spans m none).to) (let e : a + k + 1 ≡ a + suc k = omega arith in e) (omega (arith, ints))

over_ahead : (spans : List Span) → AreApart spans → (a m b n : ℕ) → 1 ≤ m → a + m ≤ b → b < length spans → Ahead (side_over spans a m) (side_over spans b n)
unfolding side_over
over_ahead spans h a m b n some less within =
    let low = h.low a none (omega arith) in
    let up : (slice_index_or spans a none).from ≤ℤ (slice_index_or spans (a + m - 1) none).to =
    subst (λ (k : ℕ). (slice_index_or spans a none).from ≤ℤ (slice_index_or spans k none).to) (let e : a + (m - 1) ≡ a + m - 1 = omega arith in e) (begin_to_end spans h a (m - 1) (omega arith)) in
    let whole : Span = record { from = (slice_index_or spans a none).from; to = (slice_index_or spans (a + m - 1) none).to } in
    let end = end_of whole low up in
    let begin = begin_of (slice_index_or spans b none).from (h.low b none within) in
    let gap : (slice_index_or spans (a + m - 1) none).to ≤ℤ (slice_index_or spans b none).from =
    subst (λ (k : ℕ). (slice_index_or spans (a + m - 1) none).to ≤ℤ (slice_index_or spans k none).from) (let e : a + m - 1 + (b - (a + m)) + 1 ≡ b = omega arith in e) (h.apart (a + m - 1) (b - (a + m)) none (omega arith)) in
    not_past (count_of whole.from + count_of (whole.to -ℤ whole.from)) (count_of (slice_index_or spans b none).from) whole.to (slice_index_or spans b none).from end begin gap

-- ---- the cells of a grid

abbrev CellsBeside : Cells → Cells → Type 0
CellsBeside a b = ((a.column + a.columns ≤ b.column) ⊎ (b.column + b.columns ≤ a.column)) ⊎ ((a.row + a.rows ≤ b.row) ⊎ (b.row + b.rows ≤ a.row))

beside_by : (a b : Cells) → 1 ≤ a.columns → 1 ≤ b.columns → 1 ≤ a.rows → 1 ≤ b.rows → SharesNoCell a b
    → (b.column < a.column + a.columns) ⊎ (a.column + a.columns ≤ b.column) → (a.column < b.column + b.columns) ⊎ (b.column + b.columns ≤ a.column)
    → (b.row < a.row + a.rows) ⊎ (a.row + a.rows ≤ b.row) → (a.row < b.row + b.rows) ⊎ (b.row + b.rows ≤ a.row) → CellsBeside a b
beside_by a b aw bw at bt h (inr p) q r s = inl (inl p)
beside_by a b aw bw at bt h (inl p) (inr q) r s = inl (inr q)
beside_by a b aw bw at bt h (inl p) (inl q) (inr r) s = inr (inl r)
beside_by a b aw bw at bt h (inl p) (inl q) (inl r) (inr s) = inr (inr s)
beside_by a b aw bw at bt h (inl p) (inl q) (inl r) (inl s) =
    absurd
    (h (max a.column b.column) (max a.row b.row) (record { from_left = omega arith; to_right = omega arith; from_top = omega arith; to_bottom = omega arith })
    (record { from_left = omega arith; to_right = omega arith; from_top = omega arith; to_bottom = omega arith }))

cells_beside : (xs ys : List Span) (a b : Cells) → AreInTracks xs ys a → AreInTracks xs ys b → SharesNoCell a b → CellsBeside a b
cells_beside xs ys a b ha hb h =
    beside_by a b ha.wide hb.wide ha.high hb.high h (cases_lt b.column (a.column + a.columns)) (cases_lt a.column (b.column + b.columns)) (cases_lt b.row (a.row + a.rows)) (cases_lt a.row (b.row + b.rows))

-- the places of two children share no cell
abbrev Parted : Option Cells → Option Cells → Type 0
Parted None q = ⊤
Parted (Some a) None = ⊤
Parted (Some a) (Some b) = SharesNoCell a b

parted_with : (o q : Option Cells) → ((a b : Cells) → o ≡ Some a → q ≡ Some b → SharesNoCell a b) → Parted o q
parted_with None q f = tt
parted_with (Some a) None f = tt
parted_with (Some a) (Some b) f = f a b refl refl

places_parted : NoneShareInGrid → (spans : List Spans) (columns : ℕ) (rows : Option ℕ) → Pairs Parted (standing spans columns rows)
places_parted law spans columns rows =
    let places = standing spans columns rows in
    pairs_of Parted places
    (λ i j d less within. parted_with (slice_index_or places i d) (slice_index_or places j d)
    (λ a b e f. law spans columns rows i j a b (get_or_default places i None d (omega arith) ∙ e) (get_or_default places j None d within ∙ f) (λ same. omega arith)))

standing_long : (columns : ℕ) (rows : Option ℕ) (before : List (Option Cells)) (spans : List Spans) → length (standing_after columns rows before spans) ≡ length spans
standing_long columns rows before [] = refl
standing_long columns rows before (s ∷ spans) = ap suc (standing_long columns rows (before ++ first_place columns rows before (cut columns rows s) ∷ []) spans)

inside_if : (columns : ℕ) (rows : Option ℕ) (before : List (Option Cells)) (s : Spans) (place : Option Cells) → IsSpan columns → IfSome rows IsRowCount → AreSpans s
    → StandsAt columns rows before (cut columns rows s) place → IfSome place (IsInside columns rows)
inside_if columns rows before s None hc hr hs h = tt
inside_if columns rows before s (Some cells) hc hr hs h =
    record {
      wide = subst IsSpan (sym (ap (λ (c : Cells). c.columns) h.of_span)) (min_span s.columns columns hs.columns hc);
      high = subst IsSpan (sym (ap (λ (c : Cells). c.rows) h.of_span)) (most_span rows s.rows hr hs.rows);
      in_columns = h.fits.in_columns;
      in_rows = h.fits.in_rows;
    }

all_inside : EachStandsFirst → (spans : List Spans) (columns : ℕ) (rows : Option ℕ) → IsSpan columns → IfSome rows IsRowCount → Every AreSpans spans
    → All (λ place. IfSome place (IsInside columns rows)) (standing spans columns rows)
all_inside law spans columns rows hc hr h k d within =
    let places = standing spans columns rows in
    let one : Spans = record { columns = 1; rows = 1 } in
    let at : k < length spans = subst (λ n. k < n) (standing_long columns rows [] spans) within in
    subst (λ o. IfSome o (IsInside columns rows)) (get_or_default places k None d within)
    (inside_if columns rows (take k places) (slice_index_or spans k one) (slice_index_or places k None) hc hr (All-from_recursion AreSpans spans h k one at) (law spans columns rows k one at))

spans_good : (cs : List Child) → Every Accepted cs → Every AreSpans (map spans_of cs)
spans_good [] h = tt
spans_good (c ∷ cs) h = (record { columns = h.0.style.column_span; rows = h.0.style.row_span }, spans_good cs h.1)

-- ---- the children of a grid

abbrev sides : Framed → Side × Side
sides f = (f.columns, f.rows)

abbrev Beside : Side × Side → Side × Side → Type 0
Beside s t = (Ahead s.0 t.0 ⊎ Ahead t.0 s.0) ⊎ (Ahead s.1 t.1 ⊎ Ahead t.1 s.1)

before_end : (a m n : ℕ) → 1 ≤ m → a + m ≤ n → a < n
before_end a m n some h = omega arith

frame_beside : (xs ys : List Span) → AreApart xs → AreApart ys → (c d : Child) (a b : Cells) → AreInTracks xs ys a → AreInTracks xs ys b → CellsBeside a b → Beside (sides (frame_with xs ys c a)) (sides (frame_with xs ys d b))
frame_beside xs ys hx hy c d a b ha hb (inl (inl h)) = inl (inl (over_ahead xs hx a.column a.columns b.column b.columns ha.wide h (before_end b.column b.columns (length xs) hb.wide hb.in_columns)))
frame_beside xs ys hx hy c d a b ha hb (inl (inr h)) = inl (inr (over_ahead xs hx b.column b.columns a.column a.columns hb.wide h (before_end a.column a.columns (length xs) ha.wide ha.in_columns)))
frame_beside xs ys hx hy c d a b ha hb (inr (inl h)) = inr (inl (over_ahead ys hy a.row a.rows b.row b.rows ha.high h (before_end b.row b.rows (length ys) hb.high hb.in_rows)))
frame_beside xs ys hx hy c d a b ha hb (inr (inr h)) = inr (inr (over_ahead ys hy b.row b.rows a.row a.rows hb.high h (before_end a.row a.rows (length ys) ha.high ha.in_rows)))

module _ (xs ys : List Span) (hx : AreApart xs) (hy : AreApart ys) where
  every_beside : (c : Child) (a : Cells) → AreInTracks xs ys a → (places : List (Option Cells)) (cs : List Child) → Every (λ place. IfSome place (AreInTracks xs ys)) places → Every (Parted (Some a)) places
      → Every (Beside (sides (frame_with xs ys c a))) (map sides (framed xs ys places cs))
  every_beside c a ha places [] h p = tt
  every_beside c a ha [] (d ∷ cs) h p = tt
  every_beside c a ha (None ∷ places) (d ∷ cs) h p = every_beside c a ha places cs h.1 p.1
  every_beside c a ha (Some b ∷ places) (d ∷ cs) h p = (frame_beside xs ys hx hy c d a b ha h.0 (cells_beside xs ys a b ha h.0 p.0), every_beside c a ha places cs h.1 p.1)

  frames_beside : (places : List (Option Cells)) (cs : List Child) → Every (λ place. IfSome place (AreInTracks xs ys)) places → Pairs Parted places → Pairs Beside (map sides (framed xs ys places cs))
  frames_beside places [] h p = tt
  frames_beside [] (d ∷ cs) h p = tt
  frames_beside (None ∷ places) (d ∷ cs) h p = frames_beside places cs h.1 p.1
  frames_beside (Some a ∷ places) (d ∷ cs) h p = (every_beside d a h.0 places cs h.1 p.0, frames_beside places cs h.1 p.1)

-- all cells of one side are some of another
record Within (s t : Side) : Type 0 where
  cells : (k : ℕ) → s.from ≤ k → k < s.from + s.size → (t.from ≤ k) × (k < t.from + t.size)

cut_columns : (f : Framed) (n : ℕ) → Within (cut_side Width f n) f.columns
cut_columns f n = record { cells = λ k a b. (omega arith, omega arith) }

cut_rows : (f : Framed) (n : ℕ) → Within (cut_side Height f n) f.rows
cut_rows f n = record { cells = λ k a b. (omega arith, omega arith) }

abbrev InColumns : Framed → Type 0
InColumns f = Within f.child.wide f.columns

abbrev InCells : Framed → Type 0
InCells f = Within f.child.wide f.columns × Within f.child.tall f.rows

in_columns : (m : Ask → Option ℕ) (screen : Size) (f g : Framed) → sized_in m Width screen f ≡ Ok g → InColumns g
unfolding sized_in
in_columns m screen f g e =
    let b = bound_at (across_one m Width (basis_of (area_of f) screen) f.child) _ g e in
    subst InColumns (ok_is {F = Axis} (cut_in Width f b.value) g b.second) (cut_columns f _)

in_cells : (m : Ask → Option ℕ) (screen : Size) (f g : Framed) → InColumns f → sized_in m Height screen f ≡ Ok g → InCells g
unfolding sized_in
in_cells m screen f g h e =
    let b = bound_at (across_one m Height (basis_of (area_of f) screen) f.child) _ g e in
    let same = (one_columns m (basis_of (area_of f) screen) f.child b.value b.first).wide in
    subst InCells (ok_is {F = Axis} (cut_in Height f b.value) g b.second) (subst (λ (s : Side). Within s f.columns) (sym same) h, cut_rows f _)

every_true : {A : Type 0} (xs : List A) → Every (λ x. ⊤) xs
every_true [] = tt
every_true (x ∷ xs) = (tt, every_true xs)

frames_in_cells : (m : Ask → Option ℕ) (screen : Size) (fs gs : List Framed) → sized_frames m screen fs ≡ Ok gs → Every InCells gs
unfolding sized_frames
frames_in_cells m screen fs gs e =
    let wide = bound_at (each_of (sized_in m Width screen) fs) (each_of (sized_in m Height screen)) gs e in
    each_kept (sized_in m Height screen) InColumns InCells (in_cells m screen) wide.value gs
    (each_kept (sized_in m Width screen) (λ f. ⊤) InColumns (λ f g h. in_columns m screen f g) fs wide.value (every_true fs) wide.first) wide.second

one_sides : (m : Ask → Option ℕ) (axis : Axis) (screen : Size) (f g : Framed) → sized_in m axis screen f ≡ Ok g → sides g ≡ sides f
unfolding sized_in
one_sides m axis screen f g e =
    let b = bound_at (across_one m axis (basis_of (area_of f) screen) f.child) _ g e in
    ap sides (sym (ok_is {F = Axis} (cut_in axis f b.value) g b.second))

frames_sides : (m : Ask → Option ℕ) (screen : Size) (fs gs : List Framed) → sized_frames m screen fs ≡ Ok gs → map sides gs ≡ map sides fs
unfolding sized_frames
frames_sides m screen fs gs e =
    let wide = bound_at (each_of (sized_in m Width screen) fs) (each_of (sized_in m Height screen)) gs e in
    each_keeps (sized_in m Height screen) sides (one_sides m Height screen) wide.value gs wide.second
    ∙ each_keeps (sized_in m Width screen) sides (one_sides m Width screen) fs wide.value wide.first

no_side : (left : ℕ) (s t u v : Side) (z o q : ℤ) → Within s u → Within t v → Ahead u v → o ≡ pos 0 → q ≡ pos 0 → IsAmong (pos (left + s.from) +ℤ o) s.size z → IsAmong (pos (left + t.from) +ℤ q) t.size z → ⊥
no_side left s t u v (pos n) o q hs ht ahead e f a b =
    let al = a.from_on in
    let au = a.before in
    let bl = b.from_on in
    let bu = b.before in
    let one : left + s.from ≤ n = omega (arith, ints) in
    let two : n < left + s.from + s.size = omega (arith, ints) in
    let three : left + t.from ≤ n = omega (arith, ints) in
    let four : n < left + t.from + t.size = omega (arith, ints) in
    let w = hs.cells (n - left) (omega (arith, one)) (omega (arith, one, two)) in
    let x = ht.cells (n - left) (omega (arith, three)) (omega (arith, three, four)) in
    let end = w.1 in
    let begin = x.0 in
    omega (arith, end, begin, ahead)
no_side left s t u v (negsuc n) o q hs ht ahead e f a b = let al = a.from_on in omega (arith, ints)

cells_unshared : (f g : Framed) → InCells f → InCells g → Beside (sides f) (sides g) → Unshared f.child g.child
unfolding flow_region
cells_unshared f g hf hg (inl (inl h)) left top still still' p one other =
    no_side left f.child.wide g.child.wide f.columns g.columns p.x f.child.style.offset.x g.child.style.offset.x hf.0 hg.0 h (ap (λ (o : Offset). o.x) still) (ap (λ (o : Offset). o.x) still') one.column other.column
cells_unshared f g hf hg (inl (inr h)) left top still still' p one other =
    no_side left g.child.wide f.child.wide g.columns f.columns p.x g.child.style.offset.x f.child.style.offset.x hg.0 hf.0 h (ap (λ (o : Offset). o.x) still') (ap (λ (o : Offset). o.x) still) other.column one.column
cells_unshared f g hf hg (inr (inl h)) left top still still' p one other =
    no_side top f.child.tall g.child.tall f.rows g.rows p.y f.child.style.offset.y g.child.style.offset.y hf.1 hg.1 h (ap (λ (o : Offset). o.y) still) (ap (λ (o : Offset). o.y) still') one.row other.row
cells_unshared f g hf hg (inr (inr h)) left top still still' p one other =
    no_side top g.child.tall f.child.tall g.rows f.rows p.y g.child.style.offset.y f.child.style.offset.y hg.1 hf.1 h (ap (λ (o : Offset). o.y) still') (ap (λ (o : Offset). o.y) still) other.row one.row

every_unshared : (f : Framed) (gs : List Framed) → InCells f → Every InCells gs → Every (Beside (sides f)) (map sides gs) → Every (Unshared f.child) (map (λ (g : Framed). g.child) gs)
every_unshared f [] h each b = tt
every_unshared f (g ∷ gs) h each b = (cells_unshared f g h each.0 b.0, every_unshared f gs h each.1 b.1)

children_unshared : (fs : List Framed) → Every InCells fs → Pairs Beside (map sides fs) → Pairs Unshared (map (λ (f : Framed). f.child) fs)
children_unshared [] each b = tt
children_unshared (f ∷ fs) each b = (every_unshared f fs each.0 each.1 b.0, children_unshared fs each.1 b.1)

-- what is known of boxes and grids
pub record FlowLaws : Type 0 where
  pub follow : SpansFollow
  pub first : EachStandsFirst
  pub apart : NoneShareInGrid
  pub line : NoneShareCells

grid_pairs : FlowLaws → (m : Ask → Option ℕ) (grid : GridStyle) (basis : Basis) (cs : List Child) (f : Flow) → IsAcceptedGrid grid → Every Accepted cs → grid_of m grid basis cs ≡ Ok f → Pairs Unshared f.children
unfolding grid_of cells_of
grid_pairs laws m grid basis cs f good h e =
    let places = standing (map spans_of cs) grid.columns grid.rows in
    let xs = bound_at (columns_of grid basis) _ f e in
    let ys = bound_at (rows_of grid basis places) _ f xs.second in
    let fs = bound_at (sized_frames m basis.screen (framed xs.value ys.value places cs)) _ f ys.second in
    let wide = tracks_apart laws.follow Width grid.gutter_horizontal grid.column_tracks grid.columns basis xs.value (sizes_of grid.column_tracks good.style.column_tracks good.column_tracks) xs.first in
    let tall = tracks_apart laws.follow Height grid.gutter_vertical grid.row_tracks (row_count grid.rows places) basis ys.value (sizes_of grid.row_tracks good.style.row_tracks good.row_tracks) ys.first in
    let inside = all_inside laws.first (map spans_of cs) grid.columns grid.rows good.style.columns good.style.rows (spans_good cs h) in
    let within = recursion_from_All (λ place. IfSome place (AreInTracks xs.value ys.value)) places (in_tracks grid.columns grid.rows xs.value ys.value places wide.long tall.long inside) in
    let beside = frames_beside xs.value ys.value wide.apart tall.apart places cs within (places_parted laws.apart (map spans_of cs) grid.columns grid.rows) in
    let after = subst (Pairs Beside) (sym (frames_sides m basis.screen (framed xs.value ys.value places cs) fs.value fs.first)) beside in
    subst (λ (x : Flow). Pairs Unshared x.children) (ok_is {F = Axis} (grid_with xs.value ys.value fs.value) f fs.second)
    (children_unshared fs.value (frames_in_cells m basis.screen (framed xs.value ys.value places cs) fs.value fs.first) after)

flow_pairs : FlowLaws → (m : Ask → Option ℕ) (kind : LayoutKind) (grid : GridStyle) (basis : Basis) (cs : List Child) (f : Flow) → IsAcceptedGrid grid → Every Accepted cs → flow_of m kind grid basis cs ≡ Ok f → Pairs Unshared f.children
flow_pairs laws m Vertical grid basis cs f good h e = line_pairs laws.line m Height basis cs f h e
flow_pairs laws m Horizontal grid basis cs f good h e = line_pairs laws.line m Width basis cs f h e
flow_pairs laws m Grid grid basis cs f good h e = grid_pairs laws m grid basis cs f good h e

-- ---- which region belongs to which child

front_is : (b : Bool) (q : ℕ × Region) (n : ℕ) (r : Region) → (q.0 == n) ≡ b → (if b then Some q.1 else None) ≡ Some r → q ≡ (n, r)
front_is true (k, s) n r is e =
    let place : k ≡ n = eqb-true k n is in
    let region : s ≡ r = some_same s r e in
    ap (λ (x : ℕ). (x, s)) place ∙ ap (λ (x : Region). (n, x)) region
front_is false q n r is e = absurd (let h : ⊥ = cc in h)

first_or : (o : Option Region) (q : ℕ × Region) (rs : List (ℕ × Region)) (n : ℕ) (r : Region) → (o ≡ Some r → Among {A = ℕ × Region} (n, r) rs) → option_or o (if q.0 == n then Some q.1 else None) ≡ Some r → Among {A = ℕ × Region} (n, r) (q ∷ rs)
first_or (Some s) q rs n r rest e = inr (rest e)
first_or None q rs n r rest e = inl (front_is (q.0 == n) q n r refl e)

in_regions : (rs : List (ℕ × Region)) (n : ℕ) (r : Region) → region_of rs n ≡ Some r → Among {A = ℕ × Region} (n, r) rs
in_regions [] n r e = absurd (let h : ⊥ = cc in h)
in_regions (q ∷ rs) n r e = first_or (region_of rs n) q rs n r (in_regions rs n r) e

-- the layer that a region is of
record InLayer (g : List Child → Result Layer Axis) (h : ℕ → List Child) (x : ℕ × Region) : Type 0 where
  n : ℕ
  l : Layer
  is : g (h n) ≡ Ok l
  among : Among x l.regions

this_or : (g : List Child → Result Layer Axis) (h : ℕ → List Child) (x : ℕ × Region) (n : ℕ) (l : Layer) (rest : List Layer) → g (h n) ≡ Ok l → (Among x (regions_of rest) → InLayer g h x)
    → Among x l.regions ⊎ Among x (regions_of rest) → InLayer g h x
this_or g h x n l rest e f (inl a) = record { n = n; l = l; is = e; among = a }
this_or g h x n l rest e f (inr a) = f a

in_layers : (g : List Child → Result Layer Axis) (h : ℕ → List Child) (x : ℕ × Region) (ns : List ℕ) (laid : List Layer) → each_of g (map h ns) ≡ Ok laid → Among x (regions_of laid) → InLayer g h x
in_layers g h x [] laid e a = absurd (subst (λ ls. Among x (regions_of ls)) (sym (ok_is {F = Axis} [] laid e)) a)
in_layers g h x (n ∷ ns) laid e a =
    let s = stepped_from g (h n) (map h ns) laid (g (h n)) (each_of g (map h ns)) refl refl e in
    this_or g h x n s.y s.ys s.first (in_layers g h x ns s.ys s.rest) (among_append x s.y.regions (regions_of s.ys) (subst (λ ls. Among x (regions_of ls)) s.is a))

-- a child with an accepted style, which is that at its place
record IsKnown (styles : List BoxStyle) (d : BoxStyle) (n : ℕ) (c : Child) : Type 0 where
  accepted : Accepted c
  is : slice_index_or styles c.place d ≡ c.style
  layer : is_in_layer n c ≡ true

known_side : (styles : List BoxStyle) (d : BoxStyle) (n : ℕ) (axis : Axis) (s : Side) (c : Child) → IsKnown styles d n c → IsKnown styles d n (with_side axis s c)
known_side styles d n Width s c h = record { accepted = h.accepted; is = h.is; layer = h.layer }
known_side styles d n Height s c h = record { accepted = h.accepted; is = h.is; layer = h.layer }

abbrev IsKnownDocked : List BoxStyle → BoxStyle → ℕ → Child → Type 0
IsKnownDocked styles d n c = IsKnown styles d n c × (is_docked c ≡ true)

docked_side : (styles : List BoxStyle) (d : BoxStyle) (n : ℕ) (axis : Axis) (s : Side) (c : Child) → IsKnownDocked styles d n c → IsKnownDocked styles d n (with_side axis s c)
docked_side styles d n Width s c h = (known_side styles d n Width s c h.0, h.1)
docked_side styles d n Height s c h = (known_side styles d n Height s c h.0, h.1)

abbrev IsOwn : List BoxStyle → BoxStyle → Child → Type 0
IsOwn styles d c = Accepted c × (slice_index_or styles c.place d ≡ c.style)

own_from : (all styles : List BoxStyle) (d : BoxStyle) (n : ℕ) → Every IsAccepted styles → ((k : ℕ) → slice_index_or all (n + k) d ≡ slice_index_or styles k d) → Every (IsOwn all d) (numbered n styles)
own_from all [] d n h same = tt
own_from all (s ∷ styles) d n h same = (
  (h.0, subst (λ (m : ℕ). slice_index_or all m d ≡ s) (let e : n + 0 ≡ n = omega arith in e) (same 0)),
  own_from all styles d (n + 1) h.1 (λ k. subst (λ (m : ℕ). slice_index_or all m d ≡ slice_index_or styles k d) (let e : n + suc k ≡ n + 1 + k = omega arith in e) (same (suc k))),
)

known_layer : (styles : List BoxStyle) (d : BoxStyle) (n : ℕ) → Every IsAccepted styles → Every (IsKnown styles d n) (filter (is_in_layer n) (numbered 0 styles))
known_layer styles d n h =
    let all = numbered 0 styles in
    let own = own_from styles styles d 0 h (λ k. ap (λ (m : ℕ). slice_index_or styles m d) (let e : 0 + k ≡ k = omega arith in e)) in
    let layer = filter (is_in_layer n) all in
    every_map (λ c. IsOwn styles d c × (is_in_layer n c ≡ true)) (IsKnown styles d n) (λ c k. record { accepted = k.0.0; is = k.0.1; layer = k.1 }) layer
    (every_both (IsOwn styles d) (λ c. is_in_layer n c ≡ true) layer (every_kept (IsOwn styles d) (is_in_layer n) all own) (every_passes (is_in_layer n) all))

not_docked : (c : Child) → c.style.dock ≡ None → is_docked c ≡ true → ⊥
not_docked c e h = let k : is_docked c ≡ false = ap is_docked_by e in let x : ⊥ = cc in x

-- ---- the arrangement

module _ (laws : FlowLaws) (m : Ask → Option ℕ) (kind : LayoutKind) (grid : GridStyle) (align : AlignX × AlignY) (basis : Basis) (styles : List BoxStyle) (d : BoxStyle) (accepted : Every IsAccepted styles) (good : IsAcceptedGrid grid) where
  abbrev layer : ℕ → List Child
  layer n = filter (is_in_layer n) (numbered 0 styles)

  abbrev left_of : List Child → Flow → ℕ
  left_of ds f = start_x align.0 (edges_of ds) (inside (edges_of ds) basis.area) f

  abbrev top_of : List Child → Flow → ℕ
  top_of ds f = start_y align.1 (edges_of ds) (inside (edges_of ds) basis.area) f

  -- a region of a child of the flow
  record Flowing (n : ℕ) (x : ℕ × Region) : Type 0 where
    ds : List Child
    f : Flow
    docks : laid_docked m basis (layer n) ≡ Ok ds
    flows : flow_of m kind grid (flow_basis basis ds) (flow (layer n)) ≡ Ok f
    c : Child
    among : Among c f.children
    is : (c.place, flow_region (left_of ds f) (top_of ds f) c) ≡ x

  known_flow : (n : ℕ) (x : ℕ × Region) → (w : Flowing n x) → IsKnown styles d n w.c
  known_flow n x w =
      among_every (IsKnown styles d n) w.c w.f.children
      (flow_kept (IsKnown styles d n) (known_side styles d n) m kind grid (flow_basis basis w.ds) (flow (layer n)) w.f (every_kept (IsKnown styles d n) is_in_flow (layer n) (known_layer styles d n accepted)) w.flows) w.among

  flowing_or : (n i : ℕ) (r : Region) (ds : List Child) (f : Flow) → laid_docked m basis (layer n) ≡ Ok ds → flow_of m kind grid (flow_basis basis ds) (flow (layer n)) ≡ Ok f → (slice_index_or styles i d).dock ≡ None
      → Among {A = ℕ × Region} (i, r) (map (λ c. (c.place, docked_region basis.area c)) ds) ⊎ Among {A = ℕ × Region} (i, r) (map (λ c. (c.place, flow_region (left_of ds f) (top_of ds f) c)) f.children) → Flowing n (i, r)
  flowing_or n i r ds f docks flows free (inl a) =
      let o = among_map (λ c. (c.place, docked_region basis.area c)) (i, r) ds a in
      let all = both_kept (IsKnownDocked styles d n) (docked_side styles d n) m None basis (docked (layer n)) ds
      (every_both (IsKnown styles d n) (λ c. is_docked c ≡ true) (docked (layer n)) (every_kept (IsKnown styles d n) is_docked (layer n) (known_layer styles d n accepted)) (every_passes is_docked (layer n))) docks in
      let known = among_every (IsKnownDocked styles d n) o.value ds all o.among in
      let place : o.value.place ≡ i = ap (λ (x : ℕ × Region). x.0) o.is in
      absurd (not_docked o.value (ap (λ (s : BoxStyle). s.dock) (sym known.0.is ∙ ap (λ k. slice_index_or styles k d) place) ∙ free) known.1)
  flowing_or n i r ds f docks flows free (inr a) =
      let o = among_map (λ c. (c.place, flow_region (left_of ds f) (top_of ds f) c)) (i, r) f.children a in
      record { ds = ds; f = f; docks = docks; flows = flows; c = o.value; among = o.among; is = o.is }

  flowing : (n i : ℕ) (r : Region) (l : Layer) → arranged_layer m kind grid align basis (layer n) ≡ Ok l → (slice_index_or styles i d).dock ≡ None → Among {A = ℕ × Region} (i, r) l.regions → Flowing n (i, r)
  unfolding arranged_layer
  flowing n i r l e free a =
      let ds = bound_at (laid_docked m basis (layer n)) _ l e in
      let f = bound_at (flow_of m kind grid (flow_basis basis ds.value) (flow (layer n))) _ l ds.second in
      let at = ok_is {F = Axis} (layer_with align basis.area ds.value f.value) l f.second in
      flowing_or n i r ds.value f.value ds.first f.first free
      (among_append (i, r) (map (λ c. (c.place, docked_region basis.area c)) ds.value) (map (λ c. (c.place, flow_region (left_of ds.value f.value) (top_of ds.value f.value) c)) f.value.children)
      (subst (λ (x : Layer). Among {A = ℕ × Region} (i, r) x.regions) (sym at) a))

  -- the layer of a child is that of its style
  layer_is : (n i : ℕ) (r : Region) → Flowing n (i, r) → (slice_index_or styles i d).layer ≡ n
  layer_is n i r w =
      let known = known_flow n (i, r) w in
      let place : w.c.place ≡ i = ap (λ (x : ℕ × Region). x.0) w.is in
      ap (λ (s : BoxStyle). s.layer) (sym (ap (λ k. slice_index_or styles k d) place) ∙ known.is) ∙ eqb-true (layer_of w.c) n known.layer

  style_is : (n i : ℕ) (r : Region) → (w : Flowing n (i, r)) → w.c.style ≡ slice_index_or styles i d
  style_is n i r w =
      let known = known_flow n (i, r) w in
      let place : w.c.place ≡ i = ap (λ (x : ℕ × Region). x.0) w.is in
      sym known.is ∙ ap (λ k. slice_index_or styles k d) place

  -- the same flow gives two regions
  same_flow : (n i j : ℕ) (r q : Region) → (i ≡ j → ⊥) → (v : Flowing n (i, r)) (c : Child) → Among c v.f.children → ◌≡◌ {A = ℕ × Region} (c.place, flow_region (left_of v.ds v.f) (top_of v.ds v.f) c) (j, q)
      → HasNoOffset v.c → HasNoOffset c → (p : Offset) → Holds r p → Holds q p → ⊥
  same_flow n i j r q other v c among is still still' p one two =
      let known = every_kept (IsKnown styles d n) is_in_flow (layer n) (known_layer styles d n accepted) in
      let all = every_map (IsKnown styles d n) Accepted (λ c k. k.accepted) (flow (layer n)) known in
      let pairs = flow_pairs laws m kind grid (flow_basis basis v.ds) (flow (layer n)) v.f good all v.flows in
      let at : v.c.place ≡ i = ap (λ (x : ℕ × Region). x.0) v.is in
      let at' : c.place ≡ j = ap (λ (x : ℕ × Region). x.0) is in
      let differ : v.c ≡ c → ⊥ = λ e. other (sym at ∙ (ap (λ (x : Child). x.place) e ∙ at')) in
      let region : flow_region (left_of v.ds v.f) (top_of v.ds v.f) v.c ≡ r = ap (λ (x : ℕ × Region). x.1) v.is in
      let region' : flow_region (left_of v.ds v.f) (top_of v.ds v.f) c ≡ q = ap (λ (x : ℕ × Region). x.1) is in
      among_pairs Unshared swapped v.f.children v.c c pairs differ v.among among (left_of v.ds v.f) (top_of v.ds v.f) still still' p
      (subst (λ x. Holds x p) (sym region) one) (subst (λ x. Holds x p) (sym region') two)

  two_flowing : (n i j : ℕ) (r q : Region) → (i ≡ j → ⊥) → (v : Flowing n (i, r)) (w : Flowing n (j, q)) → HasNoOffset v.c → HasNoOffset w.c → (p : Offset) → Holds r p → Holds q p → ⊥
  two_flowing n i j r q other v w still still' p one two =
      let docks : w.ds ≡ v.ds = ok_is {F = Axis} w.ds v.ds (sym w.docks ∙ v.docks) in
      let flows = subst (λ ds. flow_of m kind grid (flow_basis basis ds) (flow (layer n)) ≡ Ok w.f) docks w.flows in
      let same : w.f ≡ v.f = ok_is {F = Axis} w.f v.f (sym flows ∙ v.flows) in
      let at = subst (λ ds. ◌≡◌ {A = ℕ × Region} (w.c.place, flow_region (left_of ds w.f) (top_of ds w.f) w.c) (j, q)) docks w.is in
      same_flow n i j r q other v w.c (subst (λ (f : Flow). Among w.c f.children) same w.among)
      (subst (λ (f : Flow). ◌≡◌ {A = ℕ × Region} (w.c.place, flow_region (left_of v.ds f) (top_of v.ds f) w.c) (j, q)) same at) still still' p one two

  -- two layers of one number are one
  two_layers : (n k i j : ℕ) (r q : Region) → n ≡ k → (i ≡ j → ⊥) → (v : Flowing n (i, r)) (w : Flowing k (j, q)) → HasNoOffset v.c → HasNoOffset w.c → (p : Offset) → Holds r p → Holds q p → ⊥
  two_layers n k i j r q same other v w still still' p one two =
      subst (λ t. (w : Flowing t (j, q)) → HasNoOffset w.c → ⊥) same (λ w still'. two_flowing n i j r q other v w still still' p one two) w still'

pub none_share_in_arrangement : FlowLaws → NoneShareInArrangement
unfolding layers
none_share_in_arrangement laws m kind grid align styles area screen a accepted good e i j d hi hj other si sj same r q ri qj p one two =
    let basis = basis_of area screen in
    let each = recursion_from_All IsAccepted styles accepted in
    let ns = layer_numbers (numbered 0 styles) in
    let lay = λ (n : ℕ). filter (is_in_layer n) (numbered 0 styles) in
    let laid = bound_at (each_of (arranged_layer m kind grid align basis) (map lay ns)) _ a e in
    let rs = regions_of laid.value in
    let made = ok_is {F = Axis} (together (length styles) laid.value) a laid.second in
    let region_i = sym (at_place (length styles) i rs hi) ∙ (ap (λ (x : Arrangement). slice_index_or x.placed i None) made ∙ ri) in
    let region_j = sym (at_place (length styles) j rs hj) ∙ (ap (λ (x : Arrangement). slice_index_or x.placed j None) made ∙ qj) in
    let li = in_layers (arranged_layer m kind grid align basis) lay (i, r) ns laid.value laid.first (in_regions rs i r region_i) in
    let lj = in_layers (arranged_layer m kind grid align basis) lay (j, q) ns laid.value laid.first (in_regions rs j q region_j) in
    let fi = flowing laws m kind grid align basis styles d each good li.n i r li.l li.is si.flow li.among in
    let fj = flowing laws m kind grid align basis styles d each good lj.n j q lj.l lj.is sj.flow lj.among in
    let layers_same : li.n ≡ lj.n = sym (layer_is laws m kind grid align basis styles d each good li.n i r fi) ∙ (same ∙ layer_is laws m kind grid align basis styles d each good lj.n j q fj) in
    let still = ap (λ (s : BoxStyle). s.offset) (style_is laws m kind grid align basis styles d each good li.n i r fi) ∙ si.still in
    let still' = ap (λ (s : BoxStyle). s.offset) (style_is laws m kind grid align basis styles d each good lj.n j q fj) ∙ sj.still in
    two_layers laws m kind grid align basis styles d each good li.n lj.n i j r q layers_same other fi fj still still' p one two
