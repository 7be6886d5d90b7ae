-- Children with ordinary styles that answer have their arrangement and their measures.
use Rattle.std.proofs.Common.{◌≡◌, ℕ, zero, suc, ◌+◌, ◌-◌, ◌*◌, ◌%◌, ◌^◌, ◌<◌, ◌≤◌, ◌⊎◌, min, max, Bool, true, false, List, [], ◌∷◌, ◌++◌, length, map, replicate, Option, Some, None, Result, Ok, Err, refl, sym, ◌∙◌, ap, subst, inl, inr, arith, ℤ, pos, negsuc, if◌then◌else◌}
use Rattle.std.proofs.lemmas.Bool.{cases_lt}
use Rattle.std.proofs.lemmas.Int.{ints}
use Rattle.std.proofs.lemmas.List.Elements.{All-from_recursion, All-head, All-tail, All-replicate}
use Rattle.std.proofs.lemmas.List.Sums.{sum_by-cons}
use Rattle.std.specs.Prelude.{◌-ℤ◌, ◌+ℤ◌, ◌*ℤ◌, ◌≤ℤ◌, ◌==◌, ◌||◌, ⊤, All, IfSome, IsSome, IsSomeAnd, IsOkAnd, slice_index_or, filter, sum_by}
use Rattle.std.specs.List.{AllByRecursion as Every, range_with_len}
use Rattle.std.specs.Option.{option_or}
use Rattle.tx_read.specs.Answer.{or_refused}
use Rattle.tx_read.specs.Reading.{◌>>=◌}
use Rattle.tx_frac.specs.Laws.{OneForm}
use Rattle.tx_frac.specs.Ratio.{Ratio}
use Rattle.tx_frac.specs.declared.scalars.Scalar.{Scalar}
use Rattle.tx_geom.specs.Along.{ahead_of, behind_of, less}
use Rattle.tx_geom.specs.declared.choices.AlignX.{AlignX}
use Rattle.tx_geom.specs.declared.choices.AlignY.{AlignY}
use Rattle.tx_geom.specs.declared.choices.Axis.{Axis}
use Rattle.tx_geom.specs.declared.choices.Axis.TheVariants.{Width, Height}
use Rattle.tx_geom.specs.declared.choices.LayoutKind.{LayoutKind}
use Rattle.tx_geom.specs.declared.choices.LayoutKind.TheVariants.{Vertical, Horizontal, Grid}
use Rattle.tx_geom.specs.declared.places.Region.{Region}
use Rattle.tx_geom.specs.declared.places.Size.{Size}
use Rattle.tx_geom.specs.declared.places.Spacing.{Spacing}
use Rattle.tx_box.specs.Axis.{axis_spans, bases}
use Rattle.tx_box.specs.Item.{NotNegative, IsSized}
use Rattle.tx_box.specs.Laws.{HasFractions, IsRow, SpansFollow}
use Rattle.tx_box.specs.Ordinary.{IsCells, IsOrdinaryItem, IsOrdinarySize, IsShortDecimal, IsShortSpan, OrdinaryAxis, OrdinaryBox, OrdinaryCells, OrdinaryItems, OrdinarySpans}
use Rattle.tx_box.specs.Sizes.{box_cells}
use Rattle.tx_box.specs.declared.items.Basis.{Basis}
use Rattle.tx_box.specs.declared.items.Item.{Item}
use Rattle.tx_box.specs.declared.items.Span.{Span}
use Rattle.tx_grid.specs.Laws.{AllArePlaced}
use Rattle.tx_grid.specs.Standing.{IsRowCount, IsSpan, at_most, cells_at, cut, first_given, first_place, fits, last_row, place_in, standing, standing_after}
use Rattle.tx_grid.specs.declared.places.Cells.{Cells}
use Rattle.tx_grid.specs.declared.places.Spans.{Spans}
use Rattle.tx_layout.specs.Arrangement.{Layer, arranged_layer, asked_docked, asked_layer, at_edges, docked_region, flow_basis, flow_region, in_flow, laid_docked, layer_with, placed_by, region_of, regions_of, together}
use Rattle.tx_layout.specs.Children.{docked, at_sides, flow, is_at_side, is_docked, is_in_flow, is_in_layer, layer_numbers, layers, numbered}
use Rattle.tx_layout.specs.Flow.{flow_extent, flow_of}
use Rattle.tx_layout.specs.Grid.{area_of, cells_of, columns_end, columns_of, framed, grid_extent, grid_of, grid_with, one_fr, or_one_fr, row_count, rows_of, side_over, sized_frames, sized_in, span_at, spans_of, track_at, track_gap, track_gaps, track_item, track_items, track_spans, tracks_end}
use Rattle.tx_layout.specs.Line.{Flow, line_extent, line_of, line_with, sized_for}
use Rattle.tx_layout.specs.Ordinary.{AnswersOrdinary, AreOrdinaryChildren, HasShortRegions, IsOrdinaryGrid, IsOrdinarySpacing, IsOrdinaryStyle, IsOrdinaryWidth, IsShortRegion, OrdinaryChildren}
use Rattle.tx_layout.specs.Room.{edges_along, edges_of, extent, greatest, inside}
use Rattle.tx_layout.specs.Sides.{across, across_one, along, areas, ask_of, basis_of, content_if, content_of, count_of, gaps, gaps_behind, in_row, is_main, measured, side_in, side_of, sized, sized_both, sized_by, width_for, with_side, with_spans}
use Rattle.tx_layout.specs.Steps.{each_of}
use Rattle.tx_layout.specs.Style.{base, is_auto, item_of, size_in}
use Rattle.tx_layout.specs.declared.children.Child.{Child}
use Rattle.tx_layout.specs.declared.children.Framed.{Framed}
use Rattle.tx_layout.specs.declared.children.Side.{Side}
use Rattle.tx_layout.specs.declared.layers.Edges.{Edges}
use Rattle.tx_layout.specs.declared.styles.Ask.{Ask}
use Rattle.tx_layout.specs.declared.styles.BoxStyle.{BoxStyle}
use Rattle.tx_layout.specs.declared.styles.GridStyle.{GridStyle}
use Rattle.tx_layout.proofs.Agreeing.{every_kept}
use Rattle.tx_layout.proofs.Filling.{gaps_long, map_long}
use Rattle.tx_layout.proofs.Following.{AreJoined, gap_if, joined_tracks, near_more, reach}

-- what is known of boxes, grids and fractions
pub record BoxLaws : Type 0 where
  pub forms : OneForm
  pub axis : OrdinaryAxis
  pub box : OrdinaryBox
  pub cells : OrdinaryCells
  pub spans : OrdinarySpans
  pub follow : SpansFollow
  pub placed : AllArePlaced

-- ---- steps that are defined

then_and : {A B F : Type 0} (P : A → Type 0) (Q : B → Type 0) (r : Result A F) (f : A → Result B F) → IsOkAnd r P → ((x : A) → P x → IsOkAnd (f x) Q) → IsOkAnd (r >>= f) Q
then_and P Q (Ok x) f h k = k x h
then_and P Q (Err fault) f h k = h

and_weaker : {A F : Type 0} (P Q : A → Type 0) (r : Result A F) → ((x : A) → P x → Q x) → IsOkAnd r P → IsOkAnd r Q
and_weaker P Q (Ok x) k h = k x h
and_weaker P Q (Err fault) k h = h

-- elements that all pass, as many as there were
abbrev AreAll : {A B : Type 0} → (B → Type 0) → List A → List B → Type 0
AreAll Q xs ys = Every Q ys × (length ys ≡ length xs)

each_and : {A B F : Type 0} (f : A → Result B F) (P : A → Type 0) (Q : B → Type 0) → ((x : A) → P x → IsOkAnd (f x) Q) → (xs : List A) → Every P xs → IsOkAnd (each_of f xs) (AreAll Q xs)
each_and f P Q step [] h = (tt, refl)
each_and f P Q step (x ∷ xs) h =
    then_and Q (AreAll Q (x ∷ xs)) (f x) _ (step x h.0) (λ y hy. then_and (AreAll Q xs) (AreAll Q (x ∷ xs)) (each_of f xs) _ (each_and f P Q step xs h.1) (λ ys hs. ((hy, hs.0), ap suc hs.1)))

or_and : {A K : Type 0} (P : A → Type 0) (k : K) (o : Option A) → IsSomeAnd o P → IsOkAnd (or_refused k o) P
or_and P k (Some x) h = h
or_and P k None h = h

some_and : {A : Type 0} (P : A → Type 0) (o : Option A) → IsSome o → ((x : A) → o ≡ Some x → P x) → IsSomeAnd o P
some_and P (Some x) h k = k x refl
some_and P None h k = absurd (let e : ⊥ = cc in e)

pub every_of : {A : Type 0} (P : A → Type 0) (xs : List A) → All P xs → Every P xs
every_of P [] h = tt
every_of P (x ∷ xs) h = (All-head P x xs h, every_of P xs (All-tail P x xs h))

-- ---- sizes

less_small : (area : Size) (by : Spacing) → IsOrdinarySize area → IsOrdinarySize (less area by)
less_small area by h = let w = h.width in let t = h.height in record { width = omega (arith, w); height = omega (arith, t) }

inside_small : (e : Edges) (area : Size) → IsOrdinarySize area → IsOrdinarySize (inside e area)
inside_small e area h = let w = h.width in let t = h.height in record { width = omega (arith, w); height = omega (arith, t) }

count_small : (z : ℤ) (n : ℕ) → z ≤ℤ pos n → count_of z ≤ n
count_small (pos k) n h = omega (arith, ints, h)
count_small (negsuc k) n h = omega arith

short_side : (s : Span) → IsShortSpan s → count_of (s.to -ℤ s.from) ≤ 65535
short_side s h = let p = h.at_most in count_small (s.to -ℤ s.from) 65535 (omega (arith, ints, p))

-- a short decimal is at least 0, and in lowest terms
not_below : (z : ℤ) (d n k : ℕ) → 0 < d → z *ℤ pos d ≡ pos n *ℤ pos k → pos 0 ≤ℤ z
not_below (pos m) d n k hd e = omega (arith, ints)
not_below (negsuc m) (suc d) n k hd e = absurd (omega (arith, ints, e))
not_below (negsuc m) zero n k hd e = absurd (omega (arith, hd))

decimal_positive : (x : Ratio) → IsShortDecimal x → NotNegative x
decimal_positive x h = not_below x.num 1000 h.thousandths x.den (omega arith) h.value.same

-- ---- children

-- one of so many children with such a style, and with at most 65,535 cells so far
pub record IsFit (count : ℕ) (c : Child) : Type 0 where
  pub below : c.place < count
  pub style : IsOrdinaryStyle c.style
  pub wide : c.wide.size ≤ 65535
  pub tall : c.tall.size ≤ 65535

-- at most 1,000 of them
pub record AreFit (count : ℕ) (cs : List Child) : Type 0 where
  pub each : Every (IsFit count) cs
  pub few : length cs ≤ 1000

-- an area on a screen
record IsOrdinaryBasis (b : Basis) : Type 0 where
  area : IsOrdinarySize b.area
  screen : IsOrdinarySize b.screen

side_fit : (count : ℕ) (axis : Axis) (s : Side) (c : Child) → s.size ≤ 65535 → IsFit count c → IsFit count (with_side axis s c)
side_fit count Width s c h f = record { below = f.below; style = f.style; wide = h; tall = f.tall }
side_fit count Height s c h f = record { below = f.below; style = f.style; wide = f.wide; tall = h }

side_small : (count : ℕ) (axis : Axis) (c : Child) → IsFit count c → (side_in axis c).size ≤ 65535
side_small count Width c f = f.wide
side_small count Height c f = f.tall

asked_width : (count : ℕ) (axis : Axis) (c : Child) → IsFit count c → IsOrdinaryWidth (width_for axis c)
asked_width count Width c f = tt
asked_width count Height c f = let w = f.wide in omega (arith, w)

item_fit : (count : ℕ) (axis : Axis) (c : Child) (n : ℕ) → IsFit count c → IsCells n → IsOrdinaryItem (item_of axis c.style n)
item_fit count Width c n f h =
    let l = f.style.gutter.left in
    let r = f.style.gutter.right in
    record { size = f.style.width; least = f.style.least Width; most = f.style.most Width; gutter = omega (arith, l, r); auto = h }
item_fit count Height c n f h =
    let t = f.style.gutter.top in
    let b = f.style.gutter.bottom in
    record { size = f.style.height; least = f.style.least Height; most = f.style.most Height; gutter = omega (arith, t, b); auto = h }

kept_few : (p : Child → Bool) (cs : List Child) → length (filter p cs) ≤ length cs
kept_few p [] = omega arith
kept_few p (c ∷ cs) = one (p c) (filter p cs) (length cs) (kept_few p cs)
  where
    one : (b : Bool) (ds : List Child) (n : ℕ) → length ds ≤ n → length (if b then c ∷ ds else ds) ≤ suc n
    one true ds n h = omega (arith, h)
    one false ds n h = omega (arith, h)

kept_fit : (count : ℕ) (p : Child → Bool) (cs : List Child) → AreFit count cs → AreFit count (filter p cs)
kept_fit count p cs h = let few = h.few in let less = kept_few p cs in record { each = every_kept (IsFit count) p cs h.each; few = omega (arith, few, less) }

-- ---- gaps and bases

ahead_small : (axis : Axis) (by : Spacing) → IsOrdinarySpacing by → ahead_of axis by ≤ 65535
ahead_small Width by h = h.left
ahead_small Height by h = h.top

behind_small : (axis : Axis) (by : Spacing) → IsOrdinarySpacing by → behind_of axis by ≤ 65535
behind_small Width by h = h.right
behind_small Height by h = h.bottom

max_small : (a b n : ℕ) → a ≤ n → b ≤ n → max a b ≤ n
max_small a b n p q = omega (arith, p, q)

gaps_small : (count : ℕ) (axis : Axis) (margin : ℕ) (cs : List Child) → margin ≤ 65535 → Every (IsFit count) cs → Every IsCells (gaps_behind axis margin cs)
gaps_small count axis margin [] h each = (omega (arith, h), tt)
gaps_small count axis margin (c ∷ cs) h each =
    let m = max_small margin (ahead_of axis c.style.margin) 65535 h (ahead_small axis c.style.margin each.0.style.margin) in
    (omega (arith, m), gaps_small count axis (behind_of axis c.style.margin) cs (behind_small axis c.style.margin each.0.style.margin) each.1)

areas_small : (area : Size) (cs : List Child) → IsOrdinarySize area → Every IsOrdinarySize (areas area cs)
areas_small area [] h = tt
areas_small area (c ∷ cs) h = (less_small area c.style.margin h, areas_small area cs h)

-- ---- children with the cells of spans

spans_fit : (count : ℕ) (axis : Axis) (cs : List Child) (spans : List Span) → Every (IsFit count) cs → Every IsShortSpan spans → Every (IsFit count) (with_spans axis cs spans)
spans_fit count axis [] spans h g = tt
spans_fit count axis (c ∷ cs) [] h g = tt
spans_fit count axis (c ∷ cs) (s ∷ spans) h g = (side_fit count axis (side_of s) c (short_side s g.0) h.0, spans_fit count axis cs spans h.1 g.1)

spans_few : (axis : Axis) (cs : List Child) (spans : List Span) → length (with_spans axis cs spans) ≤ length cs
spans_few axis [] spans = omega arith
spans_few axis (c ∷ cs) [] = omega arith
spans_few axis (c ∷ cs) (s ∷ spans) = let less = spans_few axis cs spans in omega (arith, less)

-- ---- the cells of a grid

-- from 1 to 100 columns and rows
record IsCut (cells : Cells) : Type 0 where
  columns : IsSpan cells.columns
  rows : IsSpan cells.rows

pub min_span : (a b : ℕ) → IsSpan a → IsSpan b → IsSpan (min a b)
min_span a b p q = let pl = p.least in let ql = q.least in let pm = p.most in record { least = omega (arith, pl, ql); most = omega (arith, pm) }

pub most_span : (rows : Option ℕ) (n : ℕ) → IfSome rows IsRowCount → IsSpan n → IsSpan (at_most rows n)
most_span None n h f = f
most_span (Some limit) n h f = let hl = h.least in let fl = f.least in let fm = f.most in record { least = omega (arith, hl, fl); most = omega (arith, fm) }

if_or : {A : Type 0} (P : A → Type 0) (a b : Option A) → IfSome a P → IfSome b P → IfSome (option_or a b) P
if_or P None b h g = g
if_or P (Some x) b h g = h

if_given : {A : Type 0} (P : A → Type 0) (f : ℕ → Option A) → ((k : ℕ) → IfSome (f k) P) → (n from : ℕ) → IfSome (first_given f n from) P
if_given P f h zero from = tt
if_given P f h (suc n) from = if_or P (f from) (first_given f n (suc from)) (h from) (if_given P f h n (suc from))

if_there : {A : Type 0} (P : A → Type 0) (b : Bool) (x : A) → P x → IfSome (if b then Some x else None) P
if_there P true x h = h
if_there P false x h = tt

first_cut : (columns : ℕ) (rows : Option ℕ) (before : List (Option Cells)) (span : Spans) → IsSpan span.columns → IsSpan span.rows → IfSome (first_place columns rows before span) IsCut
unfolding first_place
first_cut columns rows before span h g =
    if_given IsCut (λ row. first_given (place_in columns rows before span row) (suc columns) 0)
    (λ row. if_given IsCut (place_in columns rows before span row) (λ column. if_there IsCut (fits columns rows before (cells_at span row column)) (cells_at span row column) (record { columns = h; rows = g })) (suc columns) 0)
    (suc (last_row rows before)) 0

all_cut : (columns : ℕ) (rows : Option ℕ) (before : List (Option Cells)) (cs : List Child) (count : ℕ) → IsSpan columns → IfSome rows IsRowCount → Every (IsFit count) cs
    → Every (λ place. IfSome place IsCut) (standing_after columns rows before (map spans_of cs))
all_cut columns rows before [] count h g each = tt
all_cut columns rows before (c ∷ cs) count h g each =
    let place = first_place columns rows before (cut columns rows (spans_of c)) in (
      first_cut columns rows before (cut columns rows (spans_of c)) (min_span c.style.column_span columns each.0.style.column_span h) (most_span rows c.style.row_span g each.0.style.row_span),
      all_cut columns rows (before ++ place ∷ []) cs count h g each.1,
    )

spanned : (count : ℕ) (cs : List Child) → Every (IsFit count) cs → sum_by (λ (span : Spans). span.rows) (map spans_of cs) ≤ 100 * length cs
spanned count [] h = omega arith
spanned count (c ∷ cs) h =
    let rest = spanned count cs h.1 in
    let most = h.0.style.row_span.most in
    let sum = sum_by-cons (λ (span : Spans). span.rows) (spans_of c) (map spans_of cs) in
    omega (arith, rest, most, sum)

rows_few : (placed : AllArePlaced) (count columns : ℕ) (rows : Option ℕ) (cs : List Child) → IfSome rows IsRowCount → AreFit count cs → row_count rows (standing (map spans_of cs) columns rows) ≤ 100000
rows_few placed count columns None cs h f =
    let used = (placed (map spans_of cs) columns).1 in
    let all = spanned count cs f.each in
    let few = f.few in
    omega (arith, used, all, few)
rows_few placed count columns (Some limit) cs h f = let most = h.most in omega (arith, most)

-- ---- tracks

abbrev IsDecimal : Scalar → Type 0
IsDecimal s = IsShortDecimal s.value

pub index_or : {A : Type 0} (P : A → Type 0) (xs : List A) (n : ℕ) (d : A) → Every P xs → P d → P (slice_index_or xs n d)
index_or P [] n d h g = g
index_or P (x ∷ xs) zero d h g = h.0
index_or P (x ∷ xs) (suc n) d h g = index_or P xs n d h.1 g

one_decimal : OneForm → IsDecimal one_fr
one_decimal forms = record { thousandths = 1000; digits = omega arith; value = forms.whole (pos 1) 1000 }

or_one_decimal : OneForm → (ts : List Scalar) → Every IsDecimal ts → Every IsDecimal (or_one_fr ts)
or_one_decimal forms [] h = (one_decimal forms, tt)
or_one_decimal forms (t ∷ ts) h = h

track_decimal : OneForm → (ts : List Scalar) (n : ℕ) → Every IsDecimal ts → IsDecimal (track_at ts n)
track_decimal forms ts n h = index_or IsDecimal (or_one_fr ts) (n % length (or_one_fr ts)) one_fr (or_one_decimal forms ts h) (one_decimal forms)

track_fit : (t : Scalar) → IsDecimal t → IsOrdinaryItem (track_item t)
track_fit t h = record { size = h; least = tt; most = tt; gutter = omega arith; auto = omega arith }

track_sized : (t : Scalar) → IsDecimal t → IsSized (track_item t)
track_sized t h = record { size = decimal_positive t.value h; least = tt; most = tt }

track_lowest : (t : Scalar) → IsDecimal t → HasFractions (track_item t)
track_lowest t h = record { size = h.value.lowest_terms; least = tt; most = tt }

pub tracks_each : (P : Item → Type 0) (f : ℕ → Item) → ((n : ℕ) → P (f n)) → (a n : ℕ) → Every P (map f (range_with_len a n))
tracks_each P f h a zero = tt
tracks_each P f h a (suc n) = (h a, tracks_each P f h (a + 1) n)

pub range_long : (a n : ℕ) → length (range_with_len a n) ≡ n
range_long a zero = refl
range_long a (suc n) = ap suc (range_long (a + 1) n)

track_gaps_small : (gutter count a n : ℕ) → gutter ≤ 9999 → Every IsCells (map (track_gap gutter count) (range_with_len a n))
track_gaps_small gutter count a zero h = tt
track_gaps_small gutter count a (suc n) h = let less = gap_if ((a == 0) || (a == count)) gutter in (omega (arith, less, h), track_gaps_small gutter count (a + 1) n h)

pub replicate_long : {A : Type 0} (n : ℕ) (x : A) → length (replicate n x) ≡ n
replicate_long zero x = refl
replicate_long (suc n) x = ap suc (replicate_long n x)

tracks_and : BoxLaws → (axis : Axis) (gutter : ℕ) (ts : List Scalar) (count : ℕ) (basis : Basis) → gutter ≤ 9999 → Every IsDecimal ts → count ≤ 100000 → IsOrdinaryBasis basis
    → IsOkAnd (track_spans axis gutter ts count basis) AreJoined
unfolding track_spans
tracks_and laws axis gutter ts count basis few h small b =
    let items = track_items ts count in
    let own = replicate count basis.area in
    let long : length items ≡ count = map_long (λ n. track_item (track_at ts n)) (range_with_len 0 count) ∙ range_long 0 count in
    let gaps_many : length (track_gaps gutter count) ≡ count + 1 = map_long (track_gap gutter count) (range_with_len 0 (count + 1)) ∙ range_long 0 (count + 1) in
    let own_many : length own ≡ count = replicate_long count basis.area in
    let ordinary : OrdinaryItems items (track_gaps gutter count) basis own = record {
      each_item = All-from_recursion IsOrdinaryItem items (tracks_each IsOrdinaryItem (λ n. track_item (track_at ts n)) (λ n. track_fit (track_at ts n) (track_decimal laws.forms ts n h)) 0 count);
      count = omega (arith, long, small);
      each_gap = All-from_recursion IsCells (track_gaps gutter count) (track_gaps_small gutter count 0 (count + 1) few);
      one_gap_more = omega (arith, long, gaps_many);
      area = b.area;
      screen = b.screen;
      each_base = All-replicate IsOrdinarySize count basis.area b.area;
    } in
    let row : IsRow items (track_gaps gutter count) own = record {
      sized = All-from_recursion IsSized items (tracks_each IsSized (λ n. track_item (track_at ts n)) (λ n. track_sized (track_at ts n) (track_decimal laws.forms ts n h)) 0 count);
      fractions = All-from_recursion HasFractions items (tracks_each HasFractions (λ n. track_item (track_at ts n)) (λ n. track_lowest (track_at ts n) (track_decimal laws.forms ts n h)) 0 count);
      one_gap_more = omega (arith, long, gaps_many);
      one_base_each = own_many ∙ sym long;
    } in
    or_and AreJoined axis (axis_spans items (track_gaps gutter count) axis basis own)
    (some_and AreJoined (axis_spans items (track_gaps gutter count) axis basis own) (laws.axis items (track_gaps gutter count) axis basis own ordinary)
    (λ spans e. joined_tracks gutter count spans few (laws.spans items (track_gaps gutter count) axis basis own spans ordinary e) (laws.follow items (track_gaps gutter count) axis basis own spans row e)))

-- so many tracks from one on have at most 2^23 cells
low_from : (spans : List Span) (n : ℕ) → AreJoined spans → pos 0 ≤ℤ (span_at spans n).from
low_from spans n h = index_low spans n (every_of IsShortSpan spans h.each)
  where
    index_low : (xs : List Span) (n : ℕ) → Every IsShortSpan xs → pos 0 ≤ℤ (span_at xs n).from
    index_low [] n each = omega (arith, ints)
    index_low (x ∷ xs) zero each = each.0.not_negative
    index_low (x ∷ xs) (suc n) each = index_low xs n each.1

past_end : (spans : List Span) (n : ℕ) → length spans ≤ n → (span_at spans n).to ≡ pos 0
past_end [] n h = refl
past_end (s ∷ spans) zero h = absurd (omega (arith, h))
past_end (s ∷ spans) (suc n) h = past_end spans n (omega (arith, h))

over_small : (spans : List Span) (first count : ℕ) → AreJoined spans → IsSpan count → (side_over spans first count).size ≤ 2 ^ 23
unfolding side_over
over_small spans first count h s = by (cases_lt (first + count - 1) (length spans))
  where
    by : ((first + count - 1 < length spans) ⊎ (length spans ≤ first + count - 1)) → count_of ((span_at spans (first + count - 1)).to -ℤ (span_at spans first).from) ≤ 2 ^ 23
    by (inl within) =
        let least = s.least in
        let most = s.most in
        let at : first + (count - 1) ≡ first + count - 1 = omega (arith, least) in
        let r = reach spans first (count - 1) (record { from = pos 0; to = pos 0 }) h (omega (arith, at, within)) in
        let near = near_more (count - 1 + 1) (span_at spans first).from (span_at spans (first + (count - 1))).to (omega (arith, least, most)) r.near in
        let far : (span_at spans (first + count - 1)).to ≤ℤ ((span_at spans first).from +ℤ pos 7553400) = subst (λ (m : ℕ). (span_at spans m).to ≤ℤ ((span_at spans first).from +ℤ pos 7553400)) at near in
        count_small ((span_at spans (first + count - 1)).to -ℤ (span_at spans first).from) (2 ^ 23) (omega (arith, ints, far))
    by (inr past) =
        let none = past_end spans (first + count - 1) past in
        let low = low_from spans first h in
        count_small ((span_at spans (first + count - 1)).to -ℤ (span_at spans first).from) (2 ^ 23) (omega (arith, ints, none, low))

-- a child in an area of at most 2^23 columns and rows
record IsFitFrame (count : ℕ) (f : Framed) : Type 0 where
  child : IsFit count f.child
  columns : f.columns.size ≤ 2 ^ 23
  rows : f.rows.size ≤ 2 ^ 23

frames_fit : (count : ℕ) (xs ys : List Span) (places : List (Option Cells)) (cs : List Child) → AreJoined xs → AreJoined ys → Every (λ place. IfSome place IsCut) places → Every (IsFit count) cs
    → Every (IsFitFrame count) (framed xs ys places cs)
frames_fit count xs ys places [] hx hy h each = tt
frames_fit count xs ys [] (c ∷ cs) hx hy h each = tt
frames_fit count xs ys (None ∷ places) (c ∷ cs) hx hy h each = frames_fit count xs ys places cs hx hy h.1 each.1
frames_fit count xs ys (Some cells ∷ places) (c ∷ cs) hx hy h each = (
  record { child = each.0; columns = over_small xs cells.column cells.columns hx h.0.columns; rows = over_small ys cells.row cells.rows hy h.0.rows },
  frames_fit count xs ys places cs hx hy h.1 each.1,
)

-- ---- steps

module _ (laws : BoxLaws) (count : ℕ) (m : Ask → Option ℕ) (answers : AnswersOrdinary count m) where
  content_and : (axis : Axis) (area : Size) (c : Child) → IsFit count c → IsOrdinarySize area → IsOkAnd (content_of m axis area c) IsCells
  unfolding content_of
  content_and axis area c f h = by (is_auto (size_in axis c.style).unit)
    where
      by : (b : Bool) → IsOkAnd (content_if b axis (m (ask_of axis area c))) IsCells
      by true = or_and IsCells axis (m (ask_of axis area c)) (answers (ask_of axis area c) f.below (asked_width count axis c f) (less_small (base c.style area) c.style.gutter (less_small area c.style.margin h)))
      by false = omega arith

  measured_and : (axis : Axis) (area : Size) (c : Child) → IsFit count c → IsOrdinarySize area → IsOkAnd (measured m axis area c) IsOrdinaryItem
  unfolding measured
  measured_and axis area c f h = then_and IsCells IsOrdinaryItem (content_of m axis area c) _ (content_and axis area c f h) (λ n k. item_fit count axis c n f k)

  sized_by_and : (axis : Axis) (c : Child) (o : Option ℤ) → IsFit count c → IsSomeAnd o (λ n. n ≤ℤ pos 65535) → IsOkAnd (sized_by axis c o) (IsFit count)
  sized_by_and axis c None f h = h
  sized_by_and axis c (Some n) f h = side_fit count axis _ c (count_small n 65535 h) f

  one_and : (axis : Axis) (basis : Basis) (c : Child) → IsOrdinaryBasis basis → IsFit count c → IsOkAnd (across_one m axis basis c) (IsFit count)
  unfolding across_one
  one_and axis basis c b f =
      let own = base c.style basis.area in
      let small = less_small basis.area c.style.margin b.area in
      then_and IsOrdinaryItem (IsFit count) (measured m axis basis.area c) _ (measured_and axis basis.area c f b.area)
      (λ item i. sized_by_and axis c (box_cells item (bases axis basis own)) f
      (some_and (λ n. n ≤ℤ pos 65535) (box_cells item (bases axis basis own)) (laws.box item axis basis own i b.screen small) (λ n e. laws.cells item axis basis own n i b.screen small e)))

  across_and : (axis : Axis) (basis : Basis) (cs : List Child) → IsOrdinaryBasis basis → AreFit count cs → IsOkAnd (across m axis basis cs) (AreFit count)
  unfolding across
  across_and axis basis cs b f =
      let few = f.few in
      and_weaker (AreAll (IsFit count) cs) (AreFit count) (each_of (across_one m axis basis) cs) (λ ds h. let long = h.1 in record { each = h.0; few = omega (arith, few, long) })
      (each_and (across_one m axis basis) (IsFit count) (IsFit count) (λ c g. one_and axis basis c b g) cs f.each)

  row_and : (axis : Axis) (basis : Basis) (cs : List Child) (items : List Item) → IsOrdinaryBasis basis → AreFit count cs → AreAll IsOrdinaryItem cs items → IsOkAnd (in_row axis basis cs items) (AreFit count)
  row_and axis basis cs items b f h =
      let few = f.few in
      let long = h.1 in
      let more = gaps_long axis 0 cs in
      let ordinary : OrdinaryItems items (gaps axis cs) basis (areas basis.area cs) = record {
        each_item = All-from_recursion IsOrdinaryItem items h.0;
        count = omega (arith, few, long);
        each_gap = All-from_recursion IsCells (gaps axis cs) (gaps_small count axis 0 cs (omega arith) f.each);
        one_gap_more = omega (arith, long, more);
        area = b.area;
        screen = b.screen;
        each_base = All-from_recursion IsOrdinarySize (areas basis.area cs) (areas_small basis.area cs b.area);
      } in
      let spans = axis_spans items (gaps axis cs) axis basis (areas basis.area cs) in
      then_and (Every IsShortSpan) (AreFit count) (or_refused axis spans) _
      (or_and (Every IsShortSpan) axis spans (some_and (Every IsShortSpan) spans (laws.axis items (gaps axis cs) axis basis (areas basis.area cs) ordinary)
      (λ ss e. every_of IsShortSpan ss (laws.spans items (gaps axis cs) axis basis (areas basis.area cs) ss ordinary e))))
      (λ ss g. let less = spans_few axis cs ss in record { each = spans_fit count axis cs ss f.each g; few = omega (arith, few, less) })

  along_and : (axis : Axis) (basis : Basis) (cs : List Child) → IsOrdinaryBasis basis → AreFit count cs → IsOkAnd (along m axis basis cs) (AreFit count)
  unfolding along
  along_and axis basis cs b f =
      then_and (AreAll IsOrdinaryItem cs) (AreFit count) (each_of (measured m axis basis.area) cs) (in_row axis basis cs)
      (each_and (measured m axis basis.area) (IsFit count) IsOrdinaryItem (λ c g. measured_and axis basis.area c g b.area) cs f.each) (λ items h. row_and axis basis cs items b f h)

  sized_and : (main : Option Axis) (basis : Basis) (axis : Axis) (cs : List Child) → IsOrdinaryBasis basis → AreFit count cs → IsOkAnd (sized m main basis axis cs) (AreFit count)
  sized_and main basis axis cs b f = by (is_main main axis)
    where
      by : (is : Bool) → IsOkAnd (if is then along m axis basis cs else across m axis basis cs) (AreFit count)
      by true = along_and axis basis cs b f
      by false = across_and axis basis cs b f

  both_and : (main : Option Axis) (basis : Basis) (cs : List Child) → IsOrdinaryBasis basis → AreFit count cs → IsOkAnd (sized_both m main basis cs) (AreFit count)
  unfolding sized_both
  both_and main basis cs b f = then_and (AreFit count) (AreFit count) (sized m main basis Width cs) (sized m main basis Height) (sized_and main basis Width cs b f) (λ ds h. sized_and main basis Height ds b h)

  for_and : (axis : Axis) (main : Option Axis) (basis : Basis) (cs : List Child) → IsOrdinaryBasis basis → AreFit count cs → IsOkAnd (sized_for axis m main basis cs) (AreFit count)
  for_and Width main basis cs b f = sized_and main basis Width cs b f
  for_and Height main basis cs b f = both_and main basis cs b f

  -- ---- flows

  abbrev IsFitFlow : Flow → Type 0
  IsFitFlow f = Every (IsFit count) f.children

  line_and : (main : Option Axis) (basis : Basis) (cs : List Child) → IsOrdinaryBasis basis → AreFit count cs → IsOkAnd (line_of m main basis cs) IsFitFlow
  unfolding line_of
  line_and main basis cs b f = then_and (AreFit count) IsFitFlow (sized_both m main basis cs) (λ fs. Ok (line_with main fs)) (both_and main basis cs b f) (λ fs h. h.each)

  line_extent_and : (main : Option Axis) (axis : Axis) (basis : Basis) (cs : List Child) → IsOrdinaryBasis basis → AreFit count cs → IsOkAnd (line_extent m main axis basis cs) (λ n. ⊤)
  unfolding line_extent
  line_extent_and main axis basis cs b f = then_and (AreFit count) (λ n. ⊤) (sized_for axis m main basis cs) (λ fs. Ok (extent main axis fs)) (for_and axis main basis cs b f) (λ fs h. tt)

  in_frame_and : (axis : Axis) (screen : Size) (f : Framed) → IsOrdinarySize screen → IsFitFrame count f → IsOkAnd (sized_in m axis screen f) (IsFitFrame count)
  unfolding sized_in
  in_frame_and axis screen f s h =
      then_and (IsFit count) (IsFitFrame count) (across_one m axis (basis_of (area_of f) screen) f.child) _
      (one_and axis (basis_of (area_of f) screen) f.child (record { area = record { width = h.columns; height = h.rows }; screen = s }) h.child)
      (λ c g. record { child = side_fit count axis _ c (let small = side_small count axis c g in omega (arith, small)) g; columns = h.columns; rows = h.rows })

  frames_and : (screen : Size) (fs : List Framed) → IsOrdinarySize screen → Every (IsFitFrame count) fs → IsOkAnd (sized_frames m screen fs) (Every (IsFitFrame count))
  unfolding sized_frames
  frames_and screen fs s h =
      then_and (AreAll (IsFitFrame count) fs) (Every (IsFitFrame count)) (each_of (sized_in m Width screen) fs) (each_of (sized_in m Height screen))
      (each_and (sized_in m Width screen) (IsFitFrame count) (IsFitFrame count) (λ f g. in_frame_and Width screen f s g) fs h)
      (λ gs g. and_weaker (AreAll (IsFitFrame count) gs) (Every (IsFitFrame count)) (each_of (sized_in m Height screen) gs) (λ ks k. k.0)
      (each_and (sized_in m Height screen) (IsFitFrame count) (IsFitFrame count) (λ f k. in_frame_and Height screen f s k) gs g.0))

  columns_and : (grid : GridStyle) (basis : Basis) → IsOrdinaryBasis basis → IsOrdinaryGrid grid → IsOkAnd (columns_of grid basis) AreJoined
  columns_and grid basis b g =
      let most = g.columns.most in
      tracks_and laws Width grid.gutter_horizontal grid.column_tracks grid.columns basis g.gutter_horizontal (every_of IsDecimal grid.column_tracks g.column_tracks) (omega (arith, most)) b

  rows_and : (grid : GridStyle) (basis : Basis) (cs : List Child) → IsOrdinaryBasis basis → IsOrdinaryGrid grid → AreFit count cs → IsOkAnd (rows_of grid basis (cells_of grid cs)) AreJoined
  unfolding cells_of
  rows_and grid basis cs b g f =
      tracks_and laws Height grid.gutter_vertical grid.row_tracks (row_count grid.rows (standing (map spans_of cs) grid.columns grid.rows)) basis g.gutter_vertical (every_of IsDecimal grid.row_tracks g.row_tracks)
      (rows_few laws.placed count grid.columns grid.rows cs g.rows f) b

  cells_cut : (grid : GridStyle) (cs : List Child) → IsOrdinaryGrid grid → AreFit count cs → Every (λ place. IfSome place IsCut) (cells_of grid cs)
  unfolding cells_of
  cells_cut grid cs g f = all_cut grid.columns grid.rows [] cs count g.columns g.rows f.each

  frames_children : (fs : List Framed) → Every (IsFitFrame count) fs → Every (IsFit count) (map (λ (f : Framed). f.child) fs)
  frames_children [] h = tt
  frames_children (f ∷ fs) h = (h.0.child, frames_children fs h.1)

  grid_and : (grid : GridStyle) (basis : Basis) (cs : List Child) → IsOrdinaryBasis basis → IsOrdinaryGrid grid → AreFit count cs → IsOkAnd (grid_of m grid basis cs) IsFitFlow
  unfolding grid_of
  grid_and grid basis cs b g f =
      then_and AreJoined IsFitFlow (columns_of grid basis) _ (columns_and grid basis b g)
      (λ xs hx. then_and AreJoined IsFitFlow (rows_of grid basis (cells_of grid cs)) _ (rows_and grid basis cs b g f)
      (λ ys hy. then_and (Every (IsFitFrame count)) IsFitFlow (sized_frames m basis.screen (framed xs ys (cells_of grid cs) cs)) (λ fs. Ok (grid_with xs ys fs))
      (frames_and basis.screen (framed xs ys (cells_of grid cs) cs) b.screen (frames_fit count xs ys (cells_of grid cs) cs hx hy (cells_cut grid cs g f) f.each))
      (λ fs h. frames_children fs h)))

  columns_end_and : (grid : GridStyle) (basis : Basis) → IsOrdinaryBasis basis → IsOrdinaryGrid grid → IsOkAnd (columns_end grid basis) (λ n. ⊤)
  columns_end_and grid basis b g = then_and AreJoined (λ n. ⊤) (columns_of grid basis) (λ columns. Ok (tracks_end columns)) (columns_and grid basis b g) (λ xs h. tt)

  grid_extent_and : (grid : GridStyle) (axis : Axis) (basis : Basis) (cs : List Child) → IsOrdinaryBasis basis → IsOrdinaryGrid grid → AreFit count cs → IsOkAnd (grid_extent grid axis basis cs) (λ n. ⊤)
  unfolding grid_extent
  grid_extent_and grid Width basis cs b g f = columns_end_and grid basis b g
  grid_extent_and grid Height basis cs b g f =
      then_and (λ n. ⊤) (λ n. ⊤) (columns_end grid basis) _ (columns_end_and grid basis b g)
      (λ _ h. then_and AreJoined (λ n. ⊤) (rows_of grid basis (cells_of grid cs)) (λ rows. Ok (tracks_end rows)) (rows_and grid basis cs b g f) (λ ys k. tt))

  flow_and : (kind : LayoutKind) (grid : GridStyle) (basis : Basis) (cs : List Child) → IsOrdinaryBasis basis → IsOrdinaryGrid grid → AreFit count cs → IsOkAnd (flow_of m kind grid basis cs) IsFitFlow
  flow_and Vertical grid basis cs b g f = line_and (Some Height) basis cs b f
  flow_and Horizontal grid basis cs b g f = line_and (Some Width) basis cs b f
  flow_and Grid grid basis cs b g f = grid_and grid basis cs b g f

  flow_extent_and : (kind : LayoutKind) (grid : GridStyle) (axis : Axis) (basis : Basis) (cs : List Child) → IsOrdinaryBasis basis → IsOrdinaryGrid grid → AreFit count cs → IsOkAnd (flow_extent m kind grid axis basis cs) (λ n. ⊤)
  flow_extent_and Vertical grid axis basis cs b g f = line_extent_and (Some Height) axis basis cs b f
  flow_extent_and Horizontal grid axis basis cs b g f = line_extent_and (Some Width) axis basis cs b f
  flow_extent_and Grid grid axis basis cs b g f = grid_extent_and grid axis basis cs b g f

  -- ---- layers

  docked_and : (basis : Basis) (cs : List Child) → IsOrdinaryBasis basis → AreFit count cs → IsOkAnd (laid_docked m basis cs) (AreFit count)
  docked_and basis cs b f = both_and None basis (docked cs) b (kept_fit count is_docked cs f)

  left_small : (basis : Basis) (ds : List Child) → IsOrdinaryBasis basis → IsOrdinaryBasis (flow_basis basis ds)
  left_small basis ds b = record { area = inside_small (edges_of ds) basis.area b.area; screen = b.screen }

  abbrev AreShort : List (ℕ × Region) → Type 0
  AreShort rs = Every (λ r. IsShortRegion r.1) rs

  both_short : (rs others : List (ℕ × Region)) → AreShort rs → AreShort others → AreShort (rs ++ others)
  both_short [] others h g = g
  both_short (r ∷ rs) others h g = (h.0, both_short rs others h.1 g)

  edges_short : (area : Size) (ds : List Child) → Every (IsFit count) ds → AreShort (at_edges area ds)
  unfolding docked_region
  edges_short area [] h = tt
  edges_short area (d ∷ ds) h = (record { width = h.0.wide; height = h.0.tall }, edges_short area ds h.1)

  flow_short : (left top : ℕ) (cs : List Child) → Every (IsFit count) cs → AreShort (in_flow left top cs)
  unfolding flow_region
  flow_short left top [] h = tt
  flow_short left top (c ∷ cs) h = (record { width = h.0.wide; height = h.0.tall }, flow_short left top cs h.1)

  layer_and : (kind : LayoutKind) (grid : GridStyle) (align : AlignX × AlignY) (basis : Basis) (cs : List Child) → IsOrdinaryBasis basis → IsOrdinaryGrid grid → AreFit count cs
      → IsOkAnd (arranged_layer m kind grid align basis cs) (λ l. AreShort l.regions)
  unfolding arranged_layer
  layer_and kind grid align basis cs b g f =
      then_and (AreFit count) (λ (l : Layer). AreShort l.regions) (laid_docked m basis cs) _ (docked_and basis cs b f)
      (λ ds d. then_and IsFitFlow (λ (l : Layer). AreShort l.regions) (flow_of m kind grid (flow_basis basis ds) (flow cs)) (λ fl. Ok (layer_with align basis.area ds fl))
      (flow_and kind grid (flow_basis basis ds) (flow cs) (left_small basis ds b) g (kept_fit count is_in_flow cs f))
      (λ fl h. both_short (at_edges basis.area ds) _ (edges_short basis.area ds d.each) (flow_short _ _ fl.children h)))

  asked_docked_and : (axis : Axis) (basis : Basis) (cs : List Child) → IsOrdinaryBasis basis → AreFit count cs → IsOkAnd (asked_docked m axis basis cs) (AreFit count)
  asked_docked_and Width basis cs b f = sized_and None basis Width (at_sides cs) b (kept_fit count is_at_side cs f)
  asked_docked_and Height basis cs b f = docked_and basis cs b f

  asked_and : (kind : LayoutKind) (grid : GridStyle) (axis : Axis) (basis : Basis) (cs : List Child) → IsOrdinaryBasis basis → IsOrdinaryGrid grid → AreFit count cs → IsOkAnd (asked_layer m kind grid axis basis cs) (λ n. ⊤)
  unfolding asked_layer
  asked_and kind grid axis basis cs b g f =
      then_and (AreFit count) (λ n. ⊤) (asked_docked m axis basis cs) _ (asked_docked_and axis basis cs b f)
      (λ ds d. then_and (λ n. ⊤) (λ n. ⊤) (flow_extent m kind grid axis (flow_basis basis ds) (flow cs)) (λ n. Ok (edges_along axis (edges_of ds) + n))
      (flow_extent_and kind grid axis (flow_basis basis ds) (flow cs) (left_small basis ds b) g (kept_fit count is_in_flow cs f)) (λ n h. tt))

  asked_layers_and : (kind : LayoutKind) (grid : GridStyle) (axis : Axis) (basis : Basis) (ls : List (List Child)) → IsOrdinaryBasis basis → IsOrdinaryGrid grid → Every (AreFit count) ls
      → IsOkAnd (each_of (asked_layer m kind grid axis basis) ls >>= (λ ns. Ok (greatest ns)) >>= (λ n. Ok (min n 65535))) (λ n. n ≤ 65535)
  asked_layers_and kind grid axis basis ls b g h =
      then_and (λ n. ⊤) (λ n. n ≤ 65535) (each_of (asked_layer m kind grid axis basis) ls >>= (λ ns. Ok (greatest ns))) (λ n. Ok (min n 65535))
      (then_and (AreAll (λ n. ⊤) ls) (λ n. ⊤) (each_of (asked_layer m kind grid axis basis) ls) (λ ns. Ok (greatest ns))
      (each_and (asked_layer m kind grid axis basis) (AreFit count) (λ n. ⊤) (λ l f. asked_and kind grid axis basis l b g f) ls h) (λ ns k. tt))
      (λ n k. omega arith)

  -- ---- regions

  all_short : (ls : List Layer) → Every (λ (l : Layer). AreShort l.regions) ls → AreShort (regions_of ls)
  all_short [] h = tt
  all_short (l ∷ ls) h = both_short l.regions (regions_of ls) h.0 (all_short ls h.1)

  region_short : (rs : List (ℕ × Region)) (n : ℕ) → AreShort rs → IfSome (region_of rs n) IsShortRegion
  region_short [] n h = tt
  region_short (r ∷ rs) n h = if_or IsShortRegion (region_of rs n) (if r.0 == n then Some r.1 else None) (region_short rs n h.1) (if_there IsShortRegion (r.0 == n) r.1 h.0)

  placed_short : (rs : List (ℕ × Region)) (a n : ℕ) → AreShort rs → Every (λ r. IfSome r IsShortRegion) (map (region_of rs) (range_with_len a n))
  placed_short rs a zero h = tt
  placed_short rs a (suc n) h = (region_short rs a h, placed_short rs (a + 1) n h)

  together_short : (places : ℕ) (ls : List Layer) → Every (λ (l : Layer). AreShort l.regions) ls → HasShortRegions (together places ls)
  unfolding placed_by
  together_short places ls h = All-from_recursion (λ r. IfSome r IsShortRegion) (placed_by places (regions_of ls)) (placed_short (regions_of ls) 0 places (all_short ls h))

  layers_and : (kind : LayoutKind) (grid : GridStyle) (align : AlignX × AlignY) (basis : Basis) (places : ℕ) (ls : List (List Child)) → IsOrdinaryBasis basis → IsOrdinaryGrid grid → Every (AreFit count) ls
      → IsOkAnd (each_of (arranged_layer m kind grid align basis) ls >>= (λ laid. Ok (together places laid))) HasShortRegions
  layers_and kind grid align basis places ls b g h =
      then_and (AreAll (λ (l : Layer). AreShort l.regions) ls) HasShortRegions (each_of (arranged_layer m kind grid align basis) ls) (λ laid. Ok (together places laid))
      (each_and (arranged_layer m kind grid align basis) (AreFit count) (λ (l : Layer). AreShort l.regions) (λ l f. layer_and kind grid align basis l b g f) ls h)
      (λ laid k. together_short places laid k.0)

-- ---- the children of a container

numbered_fit : (count n : ℕ) (styles : List BoxStyle) → n + length styles ≡ count → Every IsOrdinaryStyle styles → Every (IsFit count) (numbered n styles)
numbered_fit count n [] is h = tt
numbered_fit count n (s ∷ styles) is h = (record { below = omega (arith, is); style = h.0; wide = omega arith; tall = omega arith }, numbered_fit count (n + 1) styles (omega (arith, is)) h.1)

numbered_long : (n : ℕ) (styles : List BoxStyle) → length (numbered n styles) ≡ length styles
numbered_long n [] = refl
numbered_long n (s ∷ styles) = ap suc (numbered_long (n + 1) styles)

layers_fit : (count : ℕ) (cs : List Child) (ns : List ℕ) → AreFit count cs → Every (AreFit count) (map (λ n. filter (is_in_layer n) cs) ns)
layers_fit count cs [] h = tt
layers_fit count cs (n ∷ ns) h = (kept_fit count (is_in_layer n) cs h, layers_fit count cs ns h)

all_fit : (styles : List BoxStyle) (grid : GridStyle) (screen : Size) → AreOrdinaryChildren styles grid screen → Every (AreFit (length styles)) (layers (numbered 0 styles))
unfolding layers
all_fit styles grid screen o =
    let long = numbered_long 0 styles in
    let few = o.few in
    layers_fit (length styles) (numbered 0 styles) (layer_numbers (numbered 0 styles))
    (record { each = numbered_fit (length styles) 0 styles (omega arith) (every_of IsOrdinaryStyle styles o.each); few = omega (arith, long, few) })

pub ordinary_children : BoxLaws → OrdinaryChildren
ordinary_children laws = record {
  arrangement = λ m kind grid align styles area screen o answers h.
      layers_and laws (length styles) m answers kind grid align (basis_of area screen) (length styles) (layers (numbered 0 styles)) (record { area = h; screen = o.sides }) o.tracks (all_fit styles grid screen o);
  width = λ m kind grid styles area screen o answers h.
      asked_layers_and laws (length styles) m answers kind grid Width (basis_of area screen) (layers (numbered 0 styles)) (record { area = h; screen = o.sides }) o.tracks (all_fit styles grid screen o);
  height = λ m kind grid styles width area screen o answers w h.
      asked_layers_and laws (length styles) m answers kind grid Height (basis_of (record { width = width; height = area.height }) screen) (layers (numbered 0 styles))
      (record { area = record { width = omega (arith, w); height = h.height }; screen = o.sides }) o.tracks (all_fit styles grid screen o);
}
