-- Children that follow each other fill the room that they share, and stand apart.
use Rattle.std.proofs.Common.{◌≡◌, ℕ, zero, suc, ◌+◌, ◌-◌, ◌<◌, ◌≤◌, ◌∙◌, refl, sym, ap, subst, List, [], ◌∷◌, length, drop, Option, Some, None, Result, Ok, arith, ℤ, pos, negsuc, Bool, true, false, if◌then◌else◌}
use Rattle.std.specs.Prelude.{◌+ℤ◌, ◌-ℤ◌, ◌≤ℤ◌, ◌<ℤ◌, All, map, max, slice_index, slice_index_or, unwrap_or, ◌==◌}
use Rattle.std.specs.List.{last_or, zip}
use Rattle.std.specs.Option.{option_and_then, option_map}
use Rattle.std.proofs.lemmas.Int.{ints}
use Rattle.std.proofs.Math.Nat.{div-one}
use Rattle.tx_read.specs.Answer.{or_refused}
use Rattle.tx_frac.specs.Ratio.{Ratio, floor_of, add}
use Rattle.tx_geom.specs.Along.{side, ahead_of, behind_of}
use Rattle.tx_geom.specs.declared.choices.Axis.{Axis}
use Rattle.tx_geom.specs.declared.choices.Axis.TheVariants.{Width, Height}
use Rattle.tx_geom.specs.declared.places.Offset.{Offset}
use Rattle.tx_geom.specs.declared.places.Size.{Size}
use Rattle.tx_box.specs.Axis.{above_zero, bases, axis_parts, axis_sizes, axis_spans, each, final_size, final_sizes, growing, last_of, last_round, next_round, part_round, placed, room, round, round_with, sizes_of, spans_from, unit_of}
use Rattle.tx_box.specs.Item.{IsSized}
use Rattle.tx_box.specs.Laws.{FillsTotal, Follow, HasFractions, IsRow, SpansFollow}
use Rattle.tx_box.specs.Sizes.{cells, box_cells}
use Rattle.tx_box.specs.declared.items.Basis.{Basis}
use Rattle.tx_box.specs.declared.items.Item.{Item}
use Rattle.tx_box.specs.declared.items.Span.{Span}
use Rattle.tx_box.specs.declared.parts.Part.{Part}
use Rattle.tx_layout.specs.declared.styles.Ask.{Ask}
use Rattle.tx_layout.specs.declared.styles.BoxStyle.{BoxStyle}
use Rattle.tx_layout.specs.declared.children.Child.{Child}
use Rattle.tx_layout.specs.declared.children.Side.{Side}
use Rattle.tx_layout.specs.Style.{base}
use Rattle.tx_layout.specs.Room.{outer_end, last_end, extent}
use Rattle.tx_layout.specs.Sides.{across, across_one, along, areas, by_itself, count_of, gaps, gaps_behind, in_row, measured, side_in, side_of, sized, sized_both, sized_by, with_side, with_spans}
use Rattle.tx_layout.specs.Line.{Flow, line_of, line_with}
use Rattle.tx_layout.specs.Arrangement.{flow_region}
use Rattle.tx_layout.specs.Laws.{SharesFlow, FillsRoom, NoneShareCells}
use Rattle.tx_layout.specs.Steps.{each_of}
use Rattle.tx_layout.proofs.Agreeing.{bound_at, stepped_from, ok_is}

-- ---- spans

pub some_same : {A : Type 0} (x y : A) → Some x ≡ Some y → x ≡ y
some_same x y e = cc

-- what came of a step that may give nothing
record Then {A B : Type 0} (o : Option A) (f : A → Option B) (z : B) : Type 0 where
  value : A
  first : o ≡ Some value
  second : f value ≡ Some z

then_at : {A B : Type 0} (o : Option A) (f : A → Option B) (z : B) → option_and_then f o ≡ Some z → Then o f z
then_at None f z e = absurd (let h : ⊥ = cc in h)
then_at (Some x) f z e = record { value = x; first = refl; second = e }

record Mapped {A B : Type 0} (o : Option A) (f : A → B) (z : B) : Type 0 where
  value : A
  first : o ≡ Some value
  is : f value ≡ z

mapped_at : {A B : Type 0} (o : Option A) (f : A → B) (z : B) → option_map f o ≡ Some z → Mapped o f z
mapped_at None f z e = absurd (let h : ⊥ = cc in h)
mapped_at (Some x) f z e = record { value = x; first = refl; is = some_same (f x) z e }

abbrev pub BeginsAt : ℤ → List Span → Type 0
BeginsAt z [] = Unit {0}
BeginsAt z (s ∷ spans) = s.from ≡ z

placed_begins : (x size : Ratio) (gap : ℕ) (s : Span) (y : Ratio) → placed x size gap ≡ Some (s, y) → s.from ≡ floor_of x
unfolding placed
placed_begins x size gap s y e =
    let end = then_at (add x size) _ (s, y) e in
    let next = mapped_at (add end.value (cells gap)) _ (s, y) end.second in
    sym (ap (λ z. z.0.from) next.is)

spans_begin : (x : Ratio) (ps : List (Ratio × ℕ)) (spans : List Span) → spans_from x ps ≡ Some spans → BeginsAt (floor_of x) spans
spans_begin x [] spans e = subst (BeginsAt (floor_of x)) (some_same [] spans e) tt
spans_begin x (p ∷ ps) spans e =
    let first = then_at (placed x p.0 p.1) _ spans e in
    let rest = mapped_at (spans_from first.value.1 ps) _ spans first.second in
    subst (BeginsAt (floor_of x)) rest.is (placed_begins x p.0 p.1 first.value.0 first.value.1 first.first)

pub axis_begins : (items : List Item) (gaps : List ℕ) (axis : Axis) (basis : Basis) (own : List Size) (spans : List Span) → axis_spans items gaps axis basis own ≡ Some spans → BeginsAt (pos (slice_index gaps 0)) spans
unfolding axis_spans
axis_begins items gaps axis basis own spans e =
    let sizes = then_at (axis_sizes items gaps axis basis own) _ spans e in
    subst (λ z. BeginsAt z spans) (ap pos (div-one (slice_index gaps 0))) (spans_begin (cells (slice_index gaps 0)) (zip sizes.value (drop 1 gaps)) spans sizes.second)

-- spans from 0 on, of which none ends before it begins, and none begins before another ends
pub record AreApart (spans : List Span) : Type 0 where
  pub low : (i : ℕ) (d : Span) → i < length spans → pos 0 ≤ℤ (slice_index_or spans i d).from
  pub forward : (i : ℕ) (d : Span) → i < length spans → (slice_index_or spans i d).from ≤ℤ (slice_index_or spans i d).to
  pub apart : (i n : ℕ) (d : Span) → i + n + 1 < length spans → (slice_index_or spans i d).to ≤ℤ (slice_index_or spans (i + n + 1) d).from

follow_low : (gaps : List ℕ) (spans : List Span) (g : ℕ) → BeginsAt (pos g) spans → Follow gaps spans → (i : ℕ) (d : Span) → i < length spans → pos 0 ≤ℤ (slice_index_or spans i d).from
follow_low gaps [] g b h i d within = absurd (omega arith)
follow_low gaps (s ∷ spans) g b h zero d within = let e : s.from ≡ pos g = b in omega (arith, ints)
follow_low gaps (s ∷ spans) g b h (suc i) d within =
    let before = follow_low gaps (s ∷ spans) g b h i d (omega arith) in
    let up = h.forward i d (omega arith) in
    let step = subst (λ (m : ℕ). (slice_index_or (s ∷ spans) m d).from ≡ (slice_index_or (s ∷ spans) i d).to +ℤ pos (slice_index gaps m)) (let e : i + 1 ≡ suc i = omega arith in e) (h.next i d (omega arith)) in
    omega (arith, ints)

follow_apart : (gaps : List ℕ) (spans : List Span) → Follow gaps spans → (i n : ℕ) (d : Span) → i + n + 1 < length spans → (slice_index_or spans i d).to ≤ℤ (slice_index_or spans (i + n + 1) d).from
follow_apart gaps spans h i zero d within =
    subst (λ (m : ℕ). (slice_index_or spans i d).to ≤ℤ (slice_index_or spans m d).from) (let e : i + 1 ≡ i + 0 + 1 = omega arith in e)
    (let step = h.next i d (omega arith) in omega (arith, ints))
follow_apart gaps spans h i (suc n) d within =
    let before = follow_apart gaps spans h i n d (omega arith) in
    let up = h.forward (i + n + 1) d (omega arith) in
    let step = h.next (i + n + 1) d (omega arith) in
    subst (λ (m : ℕ). (slice_index_or spans i d).to ≤ℤ (slice_index_or spans m d).from) (let e : i + n + 1 + 1 ≡ i + suc n + 1 = omega arith in e) (omega (arith, ints))

pub are_apart : (gaps : List ℕ) (spans : List Span) → BeginsAt (pos (slice_index gaps 0)) spans → Follow gaps spans → AreApart spans
are_apart gaps spans b h = record { low = follow_low gaps spans (slice_index gaps 0) b h; forward = h.forward; apart = follow_apart gaps spans h }

-- ---- children with spans

-- where a span ends, as the cells of a child tell
pub end_of : (s : Span) → pos 0 ≤ℤ s.from → s.from ≤ℤ s.to → pos (count_of s.from + count_of (s.to -ℤ s.from)) ≡ s.to
end_of s low up = at s.from s.to low up
  where
    back : (a : ℕ) (t : ℤ) → pos a ≤ℤ t → pos (a + count_of (t -ℤ pos a)) ≡ t
    back a (pos b) h = over b (let k : a ≤ b = omega (arith, ints) in k)
      where
        over : (b : ℕ) → a ≤ b → pos (a + count_of (pos b -ℤ pos a)) ≡ pos b
        over b k =
            let e : pos b -ℤ pos a ≡ pos (b - a) = omega (arith, ints) in
            ap (λ (z : ℤ). pos (a + count_of z)) e ∙ ap pos (let f : a + (b - a) ≡ b = omega arith in f)
    back a (negsuc b) h = absurd (omega (arith, ints))

    at : (f t : ℤ) → pos 0 ≤ℤ f → f ≤ℤ t → pos (count_of f + count_of (t -ℤ f)) ≡ t
    at (pos a) t low up = back a t up
    at (negsuc a) t low up = absurd (omega (arith, ints))

pub begin_of : (z : ℤ) → pos 0 ≤ℤ z → pos (count_of z) ≡ z
begin_of (pos a) h = refl
begin_of (negsuc a) h = absurd (omega (arith, ints))

side_with : (axis : Axis) (s : Side) (c : Child) → side_in axis (with_side axis s c) ≡ s
side_with Width s c = refl
side_with Height s c = refl

style_with : (axis : Axis) (s : Side) (c : Child) → (with_side axis s c).style ≡ c.style
style_with Width s c = refl
style_with Height s c = refl

spans_at : (axis : Axis) (cs : List Child) (spans : List Span) (i : ℕ) (d : Child) (e : Span) → i < length (with_spans axis cs spans) → (i < length spans) × (side_in axis (slice_index_or (with_spans axis cs spans) i d) ≡ side_of (slice_index_or spans i e))
spans_at axis [] spans i d e h = absurd (omega arith)
spans_at axis (c ∷ cs) [] i d e h = absurd (omega arith)
spans_at axis (c ∷ cs) (s ∷ spans) zero d e h = (omega arith, side_with axis (side_of s) c)
spans_at axis (c ∷ cs) (s ∷ spans) (suc i) d e h =
    let rest = spans_at axis cs spans i d e (omega arith) in
    let within = rest.0 in
    (omega arith, rest.1)

abbrev none : Span
none = record { from = pos 0; to = pos 0 }

pub not_past : (m n : ℕ) (x y : ℤ) → pos m ≡ x → pos n ≡ y → x ≤ℤ y → m ≤ n
not_past m n x y e f h = omega (arith, ints)

-- the cells of one end before those of another begin
stand_apart : (axis : Axis) (cs : List Child) (spans : List Span) → AreApart spans → (i j : ℕ) (d : Child) → i < j → j < length (with_spans axis cs spans)
    → (side_in axis (slice_index_or (with_spans axis cs spans) i d)).from + (side_in axis (slice_index_or (with_spans axis cs spans) i d)).size ≤ (side_in axis (slice_index_or (with_spans axis cs spans) j d)).from
stand_apart axis cs spans h i j d less within =
    let a = spans_at axis cs spans i d none (omega arith) in
    let b = spans_at axis cs spans j d none within in
    let far = b.0 in
    let s = slice_index_or spans i none in
    let t = slice_index_or spans j none in
    let near = a.0 in
    let low = h.low i none near in
    let up = h.forward i none near in
    let low' = h.low j none far in
    let gap : (slice_index_or spans i none).to ≤ℤ (slice_index_or spans j none).from =
    subst (λ (m : ℕ). (slice_index_or spans i none).to ≤ℤ (slice_index_or spans m none).from) (let e : i + (j - i - 1) + 1 ≡ j = omega arith in e) (h.apart i (j - i - 1) none (omega arith)) in
    let end = end_of s low up in
    let begin = begin_of t.from low' in
    rw (a.1, b.1) (not_past (count_of s.from + count_of (s.to -ℤ s.from)) (count_of t.from) s.to t.from end begin gap)

abbrev AreLow : List Span → Type 0
AreLow [] = Unit {0}
AreLow (s ∷ spans) = (pos 0 ≤ℤ s.from) × (s.from ≤ℤ s.to) × AreLow spans

are_low : (spans : List Span) → ((i : ℕ) (d : Span) → i < length spans → (pos 0 ≤ℤ (slice_index_or spans i d).from) × ((slice_index_or spans i d).from ≤ℤ (slice_index_or spans i d).to)) → AreLow spans
are_low [] h = tt
are_low (s ∷ spans) h = ((h 0 s (omega arith)).0, (h 0 s (omega arith)).1, are_low spans (λ i d within. h (suc i) d (omega arith)))

-- ---- one span for each box

each_long : {A B : Type 0} (f : A → Option B) (xs : List A) (ys : List B) → each f xs ≡ Some ys → length ys ≡ length xs
each_long f [] ys e = ap length (sym (some_same [] ys e))
each_long f (x ∷ xs) ys e =
    let first = then_at (f x) _ ys e in
    let rest = mapped_at (each f xs) _ ys first.second in
    ap length (sym rest.is) ∙ ap suc (each_long f xs rest.value rest.first)

zip_long : {A B : Type 0} (xs : List A) (ys : List B) → length ys ≡ length xs → length (zip xs ys) ≡ length xs
zip_long [] ys h = refl
zip_long (x ∷ xs) [] h = absurd (omega arith)
zip_long (x ∷ xs) (y ∷ ys) h = ap suc (zip_long xs ys (omega arith))

round_long : (u r t : Ratio) (ps qs : List Part) → round u r ps ≡ Some (t, qs) → length qs ≡ length ps
round_long u r t [] qs e = let is : [] ≡ qs = ap (λ z. z.1) (some_same {A = Ratio × List Part} (r, []) (t, qs) e) in ap length (sym is)
round_long u r t (p ∷ ps) qs e =
    let first = then_at (part_round u r p) _ (t, qs) e in
    let rest = mapped_at (round u first.value.1 ps) _ (t, qs) first.second in
    let is : first.value.0 ∷ rest.value.1 ≡ qs = ap (λ z. z.1) rest.is in
    ap length (sym is) ∙ ap suc (round_long u first.value.1 rest.value.0 ps rest.value.1 rest.first)

with_long : (u : Option Ratio) (r t : Ratio) (ps qs : List Part) → round_with u r ps ≡ Some (t, qs) → length qs ≡ length ps
with_long None r t ps qs e = let is : ps ≡ qs = ap (λ z. z.1) (some_same {A = Ratio × List Part} (r, ps) (t, qs) e) in ap length (sym is)
with_long (Some u) r t ps qs e = round_long u r t ps qs e

next_long : (r t : Ratio) (ps qs : List Part) → next_round r ps ≡ Some (t, qs) → length qs ≡ length ps
unfolding next_round
next_long r t ps qs e =
    let u = then_at (unit_of r ps) _ (t, qs) e in
    with_long u.value (above_zero r) t ps qs u.second

last_long : (n : ℕ) (r t : Ratio) (ps qs : List Part) → last_round n r ps ≡ Some (t, qs) → length qs ≡ length ps
unfolding last_round
last_long zero r t ps qs e = let is : ps ≡ qs = ap (λ z. z.1) (some_same {A = Ratio × List Part} (r, ps) (t, qs) e) in ap length (sym is)
last_long (suc n) r t ps qs e =
    let next = then_at (next_round r ps) _ (t, qs) e in
    either (growing next.value.1 == growing ps) next.value.0 next.value.1 (next_long r next.value.0 ps next.value.1 next.first) (last_long n next.value.0 t next.value.1 qs) next.second
  where
    either : (b : Bool) (s : Ratio) (os : List Part) → length os ≡ length ps → (last_round n s os ≡ Some (t, qs) → length qs ≡ length os) → (if b then Some (r, ps) else last_round n s os) ≡ Some (t, qs) → length qs ≡ length ps
    either true s os h again e = let is : ps ≡ qs = ap (λ z. z.1) (some_same {A = Ratio × List Part} (r, ps) (t, qs) e) in ap length (sym is)
    either false s os h again e = again e ∙ h

sizes_long : (total : ℕ) (gaps : List ℕ) (ps : List Part) (cs : List Ratio) → sizes_of total gaps ps ≡ Some cs → length cs ≡ length ps
unfolding sizes_of last_of final_sizes
sizes_long total gaps ps cs e =
    let last = then_at (last_of total gaps ps) _ cs e in
    let r = then_at (room total gaps ps) _ last.value last.first in
    let u = then_at (unit_of last.value.0 last.value.1) _ cs last.second in
    each_long (final_size u.value) last.value.1 cs u.second ∙ last_long (growing ps) r.value last.value.0 ps last.value.1 r.second

from_long : (x : Ratio) (ps : List (Ratio × ℕ)) (spans : List Span) → spans_from x ps ≡ Some spans → length spans ≡ length ps
from_long x [] spans e = ap length (sym (some_same [] spans e))
from_long x (p ∷ ps) spans e =
    let first = then_at (placed x p.0 p.1) _ spans e in
    let rest = mapped_at (spans_from first.value.1 ps) _ spans first.second in
    ap length (sym rest.is) ∙ ap suc (from_long first.value.1 ps rest.value rest.first)

drop_one : (gaps : List ℕ) (n : ℕ) → length gaps ≡ n + 1 → length (drop 1 gaps) ≡ n
drop_one [] n h = absurd (omega arith)
drop_one (g ∷ gs) n h = omega arith

pub axis_long : (items : List Item) (gaps : List ℕ) (axis : Axis) (basis : Basis) (own : List Size) (spans : List Span) → length gaps ≡ length items + 1 → length own ≡ length items
    → axis_spans items gaps axis basis own ≡ Some spans → length spans ≡ length items
unfolding axis_spans axis_sizes axis_parts
axis_long items gaps axis basis own spans h k e =
    let cs = then_at (axis_sizes items gaps axis basis own) _ spans e in
    let ps = then_at (axis_parts items axis basis own) _ cs.value cs.first in
    let parts : length ps.value ≡ length items = each_long _ (zip items own) ps.value ps.first ∙ zip_long items own k in
    let sizes : length cs.value ≡ length items = sizes_long (side axis basis.area) gaps ps.value cs.value ps.second ∙ parts in
    from_long (cells (slice_index gaps 0)) (zip cs.value (drop 1 gaps)) spans cs.second
    ∙ (zip_long cs.value (drop 1 gaps) (drop_one gaps (length items) h ∙ sym sizes) ∙ sizes)

-- ---- a flow

pub gaps_long : (axis : Axis) (margin : ℕ) (cs : List Child) → length (gaps_behind axis margin cs) ≡ length cs + 1
gaps_long axis margin [] = omega arith
gaps_long axis margin (c ∷ cs) = let rest = gaps_long axis (behind_of axis c.style.margin) cs in omega arith

pub map_long : {A B : Type 0} (f : A → B) (xs : List A) → length (map f xs) ≡ length xs
map_long f [] = refl
map_long f (x ∷ xs) = ap suc (map_long f xs)

pub each_of_long : {A B F : Type 0} (f : A → Result B F) (xs : List A) (ys : List B) → each_of f xs ≡ Ok ys → length ys ≡ length xs
each_of_long {F} f [] ys e = ap length (sym (ok_is {F = F} [] ys e))
each_of_long f (x ∷ xs) zs e =
    let s = stepped_from f x xs zs (f x) (each_of f xs) refl refl e in
    ap length s.is ∙ ap suc (each_of_long f xs s.ys s.rest)

-- what an axis made of children
record Laid (meaning : Ask → Option ℕ) (axis : Axis) (basis : Basis) (cs fs : List Child) (items : List Item) : Type 0 where
  spans : List Span
  axis_gives : axis_spans items (gaps axis cs) axis basis (areas basis.area cs) ≡ Some spans
  row : IsRow items (gaps axis cs) (areas basis.area cs)
  is : fs ≡ with_spans axis cs spans
  long : length spans ≡ length cs

pub refused_some : {A F : Type 0} (fault : F) (o : Option A) (x : A) → or_refused fault o ≡ Ok x → o ≡ Some x
refused_some fault None x e = absurd (let h : ⊥ = cc in h)
refused_some {F} fault (Some y) x e = ap Some (ok_is {F = F} y x e)

laid_along : (meaning : Ask → Option ℕ) (axis : Axis) (basis : Basis) (cs fs : List Child) (items : List Item) → along meaning axis basis cs ≡ Ok fs → each_of (measured meaning axis basis.area) cs ≡ Ok items
    → All IsSized items → All HasFractions items → Laid meaning axis basis cs fs items
unfolding along
laid_along meaning axis basis cs fs items e boxes sized fractions =
    let first = bound_at (each_of (measured meaning axis basis.area) cs) (in_row axis basis cs) fs e in
    let same : first.value ≡ items = ok_is {F = Axis} first.value items (sym first.first ∙ boxes) in
    let second : in_row axis basis cs items ≡ Ok fs = subst (λ l. in_row axis basis cs l ≡ Ok fs) same first.second in
    let third = bound_at (or_refused axis (axis_spans items (gaps axis cs) axis basis (areas basis.area cs))) _ fs second in
    let gives = refused_some axis (axis_spans items (gaps axis cs) axis basis (areas basis.area cs)) third.value third.first in
    let count : length items ≡ length cs = each_of_long (measured meaning axis basis.area) cs items boxes in
    let more : length (gaps axis cs) ≡ length items + 1 = gaps_long axis 0 cs ∙ ap (λ n. n + 1) (sym count) in
    let own : length (areas basis.area cs) ≡ length items = map_long (λ (c : Child). base c.style basis.area) cs ∙ sym count in
    record {
      spans = third.value;
      axis_gives = gives;
      row = record { sized = sized; fractions = fractions; one_gap_more = more; one_base_each = own };
      is = sym (ok_is {F = Axis} (with_spans axis cs third.value) fs third.second);
      long = axis_long items (gaps axis cs) axis basis (areas basis.area cs) third.value more own gives ∙ count;
    }

laid_apart : (meaning : Ask → Option ℕ) (axis : Axis) (basis : Basis) (cs fs : List Child) (items : List Item) → SpansFollow → (l : Laid meaning axis basis cs fs items) → AreApart l.spans
laid_apart meaning axis basis cs fs items law l =
    are_apart (gaps axis cs) l.spans (axis_begins items (gaps axis cs) axis basis (areas basis.area cs) l.spans l.axis_gives) (law items (gaps axis cs) axis basis (areas basis.area cs) l.spans l.row l.axis_gives)

-- the last child ends where the last span does, and its margin is the last gap
ends_at : (axis : Axis) (margin : ℕ) (o : Option ℕ) (cs : List Child) (spans : List Span) (p : Option Span) (end : Span) → 0 < length cs → length spans ≡ length cs → AreLow spans → last_or p spans ≡ Some end
    → pos (unwrap_or (last_or o (map (outer_end axis) (with_spans axis cs spans))) 0) ≡ end.to +ℤ pos (unwrap_or (last_or None (gaps_behind axis margin cs)) 0)
ends_at axis margin o [] spans p end some long low is = absurd (omega arith)
ends_at axis margin o (c ∷ cs) [] p end some long low is = absurd (omega arith)
ends_at axis margin o (c ∷ []) (s ∷ []) p end some long low is =
    let at : s ≡ end = some_same s end is in
    let e = end_of s low.0 low.1 in
    let outer : outer_end axis (with_side axis (side_of s) c) ≡ count_of s.from + count_of (s.to -ℤ s.from) + behind_of axis c.style.margin =
    ap (λ (d : Side). d.from + d.size + behind_of axis (with_side axis (side_of s) c).style.margin) (side_with axis (side_of s) c)
    ∙ ap (λ (t : BoxStyle). count_of s.from + count_of (s.to -ℤ s.from) + behind_of axis t.margin) (style_with axis (side_of s) c) in
    ap pos outer ∙ (added (count_of s.from + count_of (s.to -ℤ s.from)) (behind_of axis c.style.margin) s.to e ∙ ap (λ (t : Span). t.to +ℤ pos (behind_of axis c.style.margin)) at)
  where
    added : (m n : ℕ) (z : ℤ) → pos m ≡ z → pos (m + n) ≡ z +ℤ pos n
    added m n z e = omega (arith, ints)
ends_at axis margin o (c ∷ []) (s ∷ (t ∷ spans)) p end some long low is = absurd (omega arith)
ends_at axis margin o (c ∷ (d ∷ cs)) (s ∷ []) p end some long low is = absurd (omega arith)
ends_at axis margin o (c ∷ (d ∷ cs)) (s ∷ (t ∷ spans)) p end some long low is =
    ends_at axis (behind_of axis c.style.margin) (Some (outer_end axis (with_side axis (side_of s) c))) (d ∷ cs) (t ∷ spans) (Some s) end (omega arith) (omega arith) low.2 is
    ∙ ap (λ n. end.to +ℤ pos n) (last_gap (max margin (ahead_of axis c.style.margin)) (d ∷ cs) (behind_of axis c.style.margin))
  where
    last_gap : (g : ℕ) (cs : List Child) (margin : ℕ) → unwrap_or (last_or None (gaps_behind axis margin cs)) 0 ≡ unwrap_or (last_or None (g ∷ gaps_behind axis margin cs)) 0
    last_gap g [] margin = refl
    last_gap g (c ∷ cs) margin = refl

along_fills : (meaning : Ask → Option ℕ) (axis : Axis) (basis : Basis) (cs fs : List Child) (items : List Item) → FillsTotal → SpansFollow → Laid meaning axis basis cs fs items → SharesFlow axis basis cs items
    → last_end axis fs ≡ side axis basis.area
along_fills meaning axis basis cs fs items total law l s =
    let end = total items (gaps axis cs) axis basis (areas basis.area cs) s.parts s.last s.left l.spans l.row s.at_start s.at_end s.shares l.axis_gives in
    let apart = laid_apart meaning axis basis cs fs items law l in
    let low = are_low l.spans (λ i d within. (apart.low i d within, apart.forward i d within)) in
    let long = l.long in
    let some : 0 < length cs = let k = not_empty l.spans end.0 end.1 in omega arith in
    let at = ends_at axis 0 None cs l.spans None end.0 some l.long low end.1 in
    ap (λ ds. last_end axis ds) l.is ∙ whole (last_end axis (with_spans axis cs l.spans)) (side axis basis.area) (at ∙ end.2)
  where
    not_empty : (spans : List Span) (end : Span) → last_or None spans ≡ Some end → 0 < length spans
    not_empty [] end e = absurd (let h : ⊥ = cc in h)
    not_empty (s ∷ spans) end e = omega arith

    whole : (m n : ℕ) → pos m ≡ pos n → m ≡ n
    whole m n e = omega (arith, ints)

-- ---- heights leave the columns as they are

-- the same columns, of the same style
pub record SameColumns (c d : Child) : Type 0 where
  pub wide : d.wide ≡ c.wide
  pub style : d.style ≡ c.style

sized_columns : (c d : Child) (o : Option ℤ) → sized_by Height c o ≡ Ok d → SameColumns c d
sized_columns c d None e = absurd (let h : ⊥ = cc in h)
sized_columns c d (Some z) e =
    let is : by_itself Height c z ≡ d = ok_is {F = Axis} (by_itself Height c z) d e in
    subst (SameColumns c) is (record { wide = refl; style = refl })

pub one_columns : (meaning : Ask → Option ℕ) (basis : Basis) (c d : Child) → across_one meaning Height basis c ≡ Ok d → SameColumns c d
unfolding across_one
one_columns meaning basis c d e =
    let b = bound_at (measured meaning Height basis.area c) _ d e in
    sized_columns c d (box_cells b.value (bases Height basis (base c.style basis.area))) b.second

same_end : (c d : Child) → SameColumns c d → outer_end Width d ≡ outer_end Width c
same_end c d h = ap (λ (s : Side). s.from + s.size + behind_of Width d.style.margin) h.wide ∙ ap (λ (t : BoxStyle). c.wide.from + c.wide.size + behind_of Width t.margin) h.style

all_columns : (meaning : Ask → Option ℕ) (basis : Basis) (cs ds : List Child) → each_of (across_one meaning Height basis) cs ≡ Ok ds → map (outer_end Width) ds ≡ map (outer_end Width) cs
all_columns meaning basis [] ds e = ap (map (outer_end Width)) (sym (ok_is {F = Axis} [] ds e))
all_columns meaning basis (c ∷ cs) zs e =
    let s = stepped_from (across_one meaning Height basis) c cs zs (across_one meaning Height basis c) (each_of (across_one meaning Height basis) cs) refl refl e in
    ap (map (outer_end Width)) s.is
    ∙ (ap (λ n. n ∷ map (outer_end Width) s.ys) (same_end c s.y (one_columns meaning basis c s.y s.first)) ∙ ap (λ l. outer_end Width c ∷ l) (all_columns meaning basis cs s.ys s.rest))

column_at : (meaning : Ask → Option ℕ) (basis : Basis) (cs ds : List Child) (i : ℕ) (d : Child) → each_of (across_one meaning Height basis) cs ≡ Ok ds → (slice_index_or ds i d).wide ≡ (slice_index_or cs i d).wide
column_at meaning basis [] ds i d e = ap (λ l. (slice_index_or l i d).wide) (sym (ok_is {F = Axis} [] ds e))
column_at meaning basis (c ∷ cs) zs zero d e =
    let s = stepped_from (across_one meaning Height basis) c cs zs (across_one meaning Height basis c) (each_of (across_one meaning Height basis) cs) refl refl e in
    ap (λ l. (slice_index_or l 0 d).wide) s.is ∙ (one_columns meaning basis c s.y s.first).wide
column_at meaning basis (c ∷ cs) zs (suc i) d e =
    let s = stepped_from (across_one meaning Height basis) c cs zs (across_one meaning Height basis c) (each_of (across_one meaning Height basis) cs) refl refl e in
    ap (λ l. (slice_index_or l (suc i) d).wide) s.is ∙ column_at meaning basis cs s.ys i d s.rest

-- ---- columns and rows

-- a column: the widths, and then the axis
pub record Column (meaning : Ask → Option ℕ) (basis : Basis) (cs : List Child) (flow : Flow) : Type 0 where
  pub ready : List Child
  pub children : List Child
  pub widths : across meaning Width basis cs ≡ Ok ready
  pub heights : along meaning Height basis ready ≡ Ok children
  pub is : flow ≡ line_with (Some Height) children

pub column_of : (meaning : Ask → Option ℕ) (basis : Basis) (cs : List Child) (flow : Flow) → line_of meaning (Some Height) basis cs ≡ Ok flow → Column meaning basis cs flow
unfolding line_of sized_both
column_of meaning basis cs flow e =
    let b = bound_at (sized_both meaning (Some Height) basis cs) _ flow e in
    let d = bound_at (sized meaning (Some Height) basis Width cs) _ b.value b.first in
    record { ready = d.value; children = b.value; widths = d.first; heights = d.second; is = sym (ok_is {F = Axis} (line_with (Some Height) b.value) flow b.second) }

-- a row: the axis, and then the heights
pub record Row (meaning : Ask → Option ℕ) (basis : Basis) (cs : List Child) (flow : Flow) : Type 0 where
  pub placed : List Child
  pub children : List Child
  pub widths : along meaning Width basis cs ≡ Ok placed
  pub heights : each_of (across_one meaning Height basis) placed ≡ Ok children
  pub is : flow ≡ line_with (Some Width) children

pub row_of : (meaning : Ask → Option ℕ) (basis : Basis) (cs : List Child) (flow : Flow) → line_of meaning (Some Width) basis cs ≡ Ok flow → Row meaning basis cs flow
unfolding line_of sized_both across
row_of meaning basis cs flow e =
    let b = bound_at (sized_both meaning (Some Width) basis cs) _ flow e in
    let d = bound_at (sized meaning (Some Width) basis Width cs) _ b.value b.first in
    record { placed = d.value; children = b.value; widths = d.first; heights = d.second; is = sym (ok_is {F = Axis} (line_with (Some Width) b.value) flow b.second) }

pub fills_room : FillsTotal → SpansFollow → FillsRoom
unfolding extent
fills_room total law meaning Height basis cs flow e boxes shares =
    let c = column_of meaning basis cs flow e in
    let ready : c.ready ≡ boxes.ready = ok_is {F = Axis} c.ready boxes.ready (sym c.widths ∙ boxes.at_axis) in
    let heights : along meaning Height basis boxes.ready ≡ Ok c.children = subst (λ l. along meaning Height basis l ≡ Ok c.children) ready c.heights in
    let l = laid_along meaning Height basis boxes.ready c.children boxes.items heights boxes.boxes boxes.sized boxes.fractions in
    ap (λ (f : Flow). f.tall) c.is ∙ along_fills meaning Height basis boxes.ready c.children boxes.items total law l shares
fills_room total law meaning Width basis cs flow e boxes shares =
    let r = row_of meaning basis cs flow e in
    let ready : cs ≡ boxes.ready = ok_is {F = Axis} cs boxes.ready boxes.at_axis in
    let widths : along meaning Width basis boxes.ready ≡ Ok r.placed = subst (λ l. along meaning Width basis l ≡ Ok r.placed) ready r.widths in
    let l = laid_along meaning Width basis boxes.ready r.placed boxes.items widths boxes.boxes boxes.sized boxes.fractions in
    ap (λ (f : Flow). f.wide) r.is
    ∙ (ap (λ ns. unwrap_or (last_or None ns) 0) (all_columns meaning basis r.placed r.children r.heights) ∙ along_fills meaning Width basis boxes.ready r.placed boxes.items total law l shares)

-- no number is in two ranges of which one ends before the other begins
no_row : (top a m b n : ℕ) (o q y : ℤ) → a + m ≤ b → o ≡ pos 0 → q ≡ pos 0 → y <ℤ ((pos (top + a) +ℤ o) +ℤ pos m) → (pos (top + b) +ℤ q) ≤ℤ y → ⊥
no_row top a m b n o q y h e f before from = omega (arith, ints)

pub none_share_cells : SpansFollow → NoneShareCells
unfolding flow_region
none_share_cells law meaning Height basis cs flow e boxes left top i j d less within still still' p one other =
    let c = column_of meaning basis cs flow e in
    let ready : c.ready ≡ boxes.ready = ok_is {F = Axis} c.ready boxes.ready (sym c.widths ∙ boxes.at_axis) in
    let heights : along meaning Height basis boxes.ready ≡ Ok c.children = subst (λ l. along meaning Height basis l ≡ Ok c.children) ready c.heights in
    let l = laid_along meaning Height basis boxes.ready c.children boxes.items heights boxes.boxes boxes.sized boxes.fractions in
    let apart = laid_apart meaning Height basis boxes.ready c.children boxes.items law l in
    let is : flow.children ≡ with_spans Height boxes.ready l.spans = ap (λ (f : Flow). f.children) c.is ∙ l.is in
    let far : j < length (with_spans Height boxes.ready l.spans) = subst (λ ds. j < length ds) is within in
    let gap = subst (λ ds. (side_in Height (slice_index_or ds i d)).from + (side_in Height (slice_index_or ds i d)).size ≤ (side_in Height (slice_index_or ds j d)).from) (sym is) (stand_apart Height boxes.ready l.spans apart i j d less far) in
    let x = slice_index_or flow.children i d in
    let y = slice_index_or flow.children j d in
    no_row top x.tall.from x.tall.size y.tall.from 0 x.style.offset.y y.style.offset.y p.y gap (ap (λ (o : Offset). o.y) still) (ap (λ (o : Offset). o.y) still') one.row.before other.row.from_on
none_share_cells law meaning Width basis cs flow e boxes left top i j d less within still still' p one other =
    let r = row_of meaning basis cs flow e in
    let ready : cs ≡ boxes.ready = ok_is {F = Axis} cs boxes.ready boxes.at_axis in
    let widths : along meaning Width basis boxes.ready ≡ Ok r.placed = subst (λ l. along meaning Width basis l ≡ Ok r.placed) ready r.widths in
    let l = laid_along meaning Width basis boxes.ready r.placed boxes.items widths boxes.boxes boxes.sized boxes.fractions in
    let apart = laid_apart meaning Width basis boxes.ready r.placed boxes.items law l in
    let is : flow.children ≡ r.children = ap (λ (f : Flow). f.children) r.is in
    let many : length r.children ≡ length r.placed = each_of_long (across_one meaning Height basis) r.placed r.children r.heights in
    let far : j < length (with_spans Width boxes.ready l.spans) = subst (λ ds. j < length ds) l.is (subst (λ n. j < n) many (subst (λ ds. j < length ds) is within)) in
    let gap = stand_apart Width boxes.ready l.spans apart i j d less far in
    let at = λ (k : ℕ). ap (λ ds. (slice_index_or ds k d).wide) is ∙ (column_at meaning basis r.placed r.children k d r.heights ∙ ap (λ ds. (slice_index_or ds k d).wide) l.is) in
    let x = slice_index_or flow.children i d in
    let y = slice_index_or flow.children j d in
    let near : x.wide.from + x.wide.size ≤ y.wide.from = rw (at i, at j) gap in
    no_row left x.wide.from x.wide.size y.wide.from 0 x.style.offset.x y.style.offset.x p.x near (ap (λ (o : Offset). o.x) still) (ap (λ (o : Offset). o.x) still') one.column.before other.column.from_on
