-- The children that have a region are those that get cells.
use Rattle.std.proofs.Common.{◌≡◌, ℕ, ◌+◌, ◌<◌, ◌==◌, ◌∙◌, refl, sym, ap, Bool, true, false, List, [], ◌∷◌, ◌++◌, length, Option, Some, None, Result, Ok, if◌then◌else◌, arith, ℤ}
use Rattle.std.specs.Prelude.{◌||◌, map, slice_index_or}
use Rattle.std.specs.List.{filter_map, flat_map, list_any, zip}
use Rattle.std.specs.Option.{is_some, option_or}
use Rattle.std.proofs.lemmas.List.{map-append}
use Rattle.std.proofs.lemmas.List.FromFn.{get_or-map-range_with_len}
use Rattle.tx_read.specs.Answer.{or_refused}
use Rattle.tx_geom.specs.declared.choices.AlignX.{AlignX}
use Rattle.tx_geom.specs.declared.choices.AlignY.{AlignY}
use Rattle.tx_geom.specs.declared.choices.Axis.{Axis}
use Rattle.tx_geom.specs.declared.choices.Axis.TheVariants.{Width, Height}
use Rattle.tx_geom.specs.declared.choices.LayoutKind.{LayoutKind}
use Rattle.tx_geom.specs.declared.choices.LayoutKind.TheVariants.{Vertical, Horizontal, Grid}
use Rattle.tx_geom.specs.declared.places.Region.{Region}
use Rattle.tx_geom.specs.declared.places.Size.{Size}
use Rattle.tx_box.specs.declared.items.Basis.{Basis}
use Rattle.tx_box.specs.declared.items.Span.{Span}
use Rattle.tx_box.specs.Axis.{axis_spans, bases}
use Rattle.tx_box.specs.Sizes.{box_cells}
use Rattle.tx_grid.specs.declared.places.Cells.{Cells}
use Rattle.tx_layout.specs.declared.styles.Arrangement.{Arrangement}
use Rattle.tx_layout.specs.declared.styles.Ask.{Ask}
use Rattle.tx_layout.specs.declared.styles.GridStyle.{GridStyle}
use Rattle.tx_layout.specs.declared.children.Child.{Child}
use Rattle.tx_layout.specs.declared.children.Framed.{Framed}
use Rattle.tx_layout.specs.declared.children.Side.{Side}
use Rattle.tx_layout.specs.Style.{base}
use Rattle.tx_layout.specs.Children.{numbered, layers, docked, flow}
use Rattle.tx_layout.specs.Sides.{basis_of, measured, across_one, sized_by, with_side, side_of, with_spans, in_row, areas, gaps, across, along, by_itself, is_main, sized, sized_both}
use Rattle.tx_layout.specs.Line.{Flow, line_with, line_of}
use Rattle.tx_layout.specs.Grid.{frame_at, framed, cells_of, columns_of, rows_of, sized_in, cut_in, area_of, sized_frames, grid_with, grid_of}
use Rattle.tx_layout.specs.Flow.{flow_of}
use Rattle.tx_layout.specs.Steps.{each_of}
use Rattle.tx_layout.specs.Arrangement.{Layer, laid_docked, flow_basis, layer_with, arranged_layer, together, region_of, regions_of, placed_by}
use Rattle.tx_layout.specs.Laws.{if_placed, placed_flow, celled, CelledHaveRegions}
use Rattle.tx_layout.proofs.Agreeing.{bound_at, stepped_from, ok_is}
use Rattle.tx_layout.proofs.Filling.{axis_long, gaps_long, map_long, each_of_long, refused_some}

-- ---- sizes keep the places

abbrev places : List Child → List ℕ
places cs = map (λ (c : Child). c.place) cs

-- steps that keep a number
pub each_keeps : {A K : Type 0} (f : A → Result A Axis) (k : A → K) → ((x y : A) → f x ≡ Ok y → k y ≡ k x) → (xs ys : List A) → each_of f xs ≡ Ok ys → map k ys ≡ map k xs
each_keeps f k step [] ys e = ap (map k) (sym (ok_is {F = Axis} [] ys e))
each_keeps f k step (x ∷ xs) zs e =
    let s = stepped_from f x xs zs (f x) (each_of f xs) refl refl e in
    ap (map k) s.is ∙ (ap (λ n. n ∷ map k s.ys) (step x s.y s.first) ∙ ap (λ ns. k x ∷ ns) (each_keeps f k step xs s.ys s.rest))

side_place : (axis : Axis) (s : Side) (c : Child) → (with_side axis s c).place ≡ c.place
side_place Width s c = refl
side_place Height s c = refl

sized_by_place : (axis : Axis) (c d : Child) (o : Option ℤ) → sized_by axis c o ≡ Ok d → d.place ≡ c.place
sized_by_place axis c d None e = absurd (let k : ⊥ = cc in k)
sized_by_place axis c d (Some z) e = ap (λ (x : Child). x.place) (sym (ok_is {F = Axis} (by_itself axis c z) d e)) ∙ side_place axis _ c

one_place : (m : Ask → Option ℕ) (axis : Axis) (basis : Basis) (c d : Child) → across_one m axis basis c ≡ Ok d → d.place ≡ c.place
unfolding across_one
one_place m axis basis c d e =
    let b = bound_at (measured m axis basis.area c) _ d e in
    sized_by_place axis c d (box_cells b.value (bases axis basis (base c.style basis.area))) b.second

across_places : (m : Ask → Option ℕ) (axis : Axis) (basis : Basis) (cs ds : List Child) → across m axis basis cs ≡ Ok ds → places ds ≡ places cs
unfolding across
across_places m axis basis cs ds e = each_keeps (across_one m axis basis) (λ (c : Child). c.place) (one_place m axis basis) cs ds e

spans_places : (axis : Axis) (cs : List Child) (spans : List Span) → length spans ≡ length cs → places (with_spans axis cs spans) ≡ places cs
spans_places axis [] [] h = refl
spans_places axis [] (s ∷ spans) h = refl
spans_places axis (c ∷ cs) [] h = absurd (omega arith)
spans_places axis (c ∷ cs) (s ∷ spans) h =
    ap (λ n. n ∷ places (with_spans axis cs spans)) (side_place axis (side_of s) c) ∙ ap (λ ns. c.place ∷ ns) (spans_places axis cs spans (omega arith))

along_places : (m : Ask → Option ℕ) (axis : Axis) (basis : Basis) (cs ds : List Child) → along m axis basis cs ≡ Ok ds → places ds ≡ places cs
unfolding along
along_places m axis basis cs ds e =
    let items = bound_at (each_of (measured m axis basis.area) cs) (in_row axis basis cs) ds e in
    let spans = bound_at (or_refused axis (axis_spans items.value (gaps axis cs) axis basis (areas basis.area cs))) _ ds items.second in
    let gives = refused_some axis (axis_spans items.value (gaps axis cs) axis basis (areas basis.area cs)) spans.value spans.first in
    let count : length items.value ≡ length cs = each_of_long (measured m axis basis.area) cs items.value items.first in
    let more : length (gaps axis cs) ≡ length items.value + 1 = gaps_long axis 0 cs ∙ ap (λ n. n + 1) (sym count) in
    let own : length (areas basis.area cs) ≡ length items.value = map_long (λ (c : Child). base c.style basis.area) cs ∙ sym count in
    ap places (sym (ok_is {F = Axis} (with_spans axis cs spans.value) ds spans.second))
    ∙ spans_places axis cs spans.value (axis_long items.value (gaps axis cs) axis basis (areas basis.area cs) spans.value more own gives ∙ count)

if_places : (b : Bool) (x y : Result (List Child) Axis) (cs ds : List Child) → (x ≡ Ok ds → places ds ≡ places cs) → (y ≡ Ok ds → places ds ≡ places cs) → (if b then x else y) ≡ Ok ds → places ds ≡ places cs
if_places true x y cs ds f g e = f e
if_places false x y cs ds f g e = g e

sized_places : (m : Ask → Option ℕ) (main : Option Axis) (basis : Basis) (axis : Axis) (cs ds : List Child) → sized m main basis axis cs ≡ Ok ds → places ds ≡ places cs
sized_places m main basis axis cs ds e =
    if_places (is_main main axis) (along m axis basis cs) (across m axis basis cs) cs ds (along_places m axis basis cs ds) (across_places m axis basis cs ds) e

both_places : (m : Ask → Option ℕ) (main : Option Axis) (basis : Basis) (cs ds : List Child) → sized_both m main basis cs ≡ Ok ds → places ds ≡ places cs
unfolding sized_both
both_places m main basis cs ds e =
    let wide = bound_at (sized m main basis Width cs) (sized m main basis Height) ds e in
    sized_places m main basis Height wide.value ds wide.second ∙ sized_places m main basis Width cs wide.value wide.first

-- ---- flows

line_places : (m : Ask → Option ℕ) (main : Option Axis) (basis : Basis) (cs : List Child) (f : Flow) → line_of m main basis cs ≡ Ok f → places f.children ≡ places cs
unfolding line_of
line_places m main basis cs f e =
    let fs = bound_at (sized_both m main basis cs) _ f e in
    ap (λ (x : Flow). places x.children) (sym (ok_is {F = Axis} (line_with main fs.value) f fs.second)) ∙ both_places m main basis cs fs.value fs.first

abbrev frame_place : Framed → ℕ
frame_place f = f.child.place

in_place : (m : Ask → Option ℕ) (axis : Axis) (screen : Size) (f g : Framed) → sized_in m axis screen f ≡ Ok g → frame_place g ≡ frame_place f
unfolding sized_in
in_place m axis screen f g e =
    let b = bound_at (across_one m axis (basis_of (area_of f) screen) f.child) _ g e in
    ap frame_place (sym (ok_is {F = Axis} (cut_in axis f b.value) g b.second)) ∙ (side_place axis _ b.value ∙ one_place m axis (basis_of (area_of f) screen) f.child b.value b.first)

frames_places : (m : Ask → Option ℕ) (screen : Size) (fs gs : List Framed) → sized_frames m screen fs ≡ Ok gs → map frame_place gs ≡ map frame_place fs
unfolding sized_frames
frames_places m screen fs gs e =
    let wide = bound_at (each_of (sized_in m Width screen) fs) (each_of (sized_in m Height screen)) gs e in
    each_keeps (sized_in m Height screen) frame_place (in_place m Height screen) wide.value gs wide.second
    ∙ each_keeps (sized_in m Width screen) frame_place (in_place m Width screen) fs wide.value wide.first

placed_places : (xs ys : List Span) (zs : List (Child × Option Cells)) → map frame_place (filter_map (frame_at xs ys) zs) ≡ places (filter_map if_placed zs)
placed_places xs ys [] = refl
placed_places xs ys ((c, None) ∷ zs) = placed_places xs ys zs
placed_places xs ys ((c, Some cells) ∷ zs) = ap (λ ns. c.place ∷ ns) (placed_places xs ys zs)

children_places : (fs : List Framed) → places (map (λ (f : Framed). f.child) fs) ≡ map frame_place fs
children_places [] = refl
children_places (f ∷ fs) = ap (λ ns. frame_place f ∷ ns) (children_places fs)

grid_places : (m : Ask → Option ℕ) (grid : GridStyle) (basis : Basis) (cs : List Child) (f : Flow) → grid_of m grid basis cs ≡ Ok f → places f.children ≡ places (placed_flow Grid grid cs)
unfolding grid_of
grid_places m grid basis cs f e =
    let xs = bound_at (columns_of grid basis) _ f e in
    let ys = bound_at (rows_of grid basis (cells_of grid cs)) _ f xs.second in
    let fs = bound_at (sized_frames m basis.screen (framed xs.value ys.value (cells_of grid cs) cs)) _ f ys.second in
    ap (λ (x : Flow). places x.children) (sym (ok_is {F = Axis} (grid_with xs.value ys.value fs.value) f fs.second))
    ∙ (children_places fs.value
    ∙ (frames_places m basis.screen (framed xs.value ys.value (cells_of grid cs) cs) fs.value fs.first ∙ placed_places xs.value ys.value (zip cs (cells_of grid cs))))

flow_places : (m : Ask → Option ℕ) (kind : LayoutKind) (grid : GridStyle) (basis : Basis) (cs : List Child) (f : Flow) → flow_of m kind grid basis cs ≡ Ok f → places f.children ≡ places (placed_flow kind grid cs)
flow_places m Vertical grid basis cs f e = line_places m (Some Height) basis cs f e
flow_places m Horizontal grid basis cs f e = line_places m (Some Width) basis cs f e
flow_places m Grid grid basis cs f e = grid_places m grid basis cs f e

-- ---- layers

abbrev first_of_each : List (ℕ × Region) → List ℕ
first_of_each rs = map (λ (r : ℕ × Region). r.0) rs

regions_places : (f : Child → Region) (cs : List Child) → first_of_each (map (λ c. (c.place, f c)) cs) ≡ places cs
regions_places f [] = refl
regions_places f (c ∷ cs) = ap (λ ns. c.place ∷ ns) (regions_places f cs)

both_regions : (f g : Child → Region) (ds cs : List Child) → first_of_each (map (λ c. (c.place, f c)) ds ++ map (λ c. (c.place, g c)) cs) ≡ places ds ++ places cs
both_regions f g ds cs =
    map-append (λ (r : ℕ × Region). r.0) (map (λ c. (c.place, f c)) ds) (map (λ c. (c.place, g c)) cs)
    ∙ (ap (λ l. l ++ first_of_each (map (λ c. (c.place, g c)) cs)) (regions_places f ds) ∙ ap (λ l. places ds ++ l) (regions_places g cs))

layer_places : (m : Ask → Option ℕ) (kind : LayoutKind) (grid : GridStyle) (align : AlignX × AlignY) (basis : Basis) (cs : List Child) (l : Layer) → arranged_layer m kind grid align basis cs ≡ Ok l
    → first_of_each l.regions ≡ places (celled kind grid cs)
unfolding arranged_layer
layer_places m kind grid align basis cs l e =
    let ds = bound_at (laid_docked m basis cs) _ l e in
    let f = bound_at (flow_of m kind grid (flow_basis basis ds.value) (flow cs)) _ l ds.second in
    ap (λ (x : Layer). first_of_each x.regions) (sym (ok_is {F = Axis} (layer_with align basis.area ds.value f.value) l f.second))
    ∙ (both_regions _ _ ds.value f.value.children
    ∙ (ap (λ ns. ns ++ places f.value.children) (both_places m None basis (docked cs) ds.value ds.first)
    ∙ (ap (λ ns. places (docked cs) ++ ns) (flow_places m kind grid (flow_basis basis ds.value) (flow cs) f.value f.first)
    ∙ sym (map-append (λ (c : Child). c.place) (docked cs) (placed_flow kind grid (flow cs))))))

all_places : (m : Ask → Option ℕ) (kind : LayoutKind) (grid : GridStyle) (align : AlignX × AlignY) (basis : Basis) (ls : List (List Child)) (laid : List Layer) → each_of (arranged_layer m kind grid align basis) ls ≡ Ok laid
    → first_of_each (regions_of laid) ≡ places (flat_map (celled kind grid) ls)
all_places m kind grid align basis [] laid e = ap (λ (ds : List Layer). first_of_each (regions_of ds)) (sym (ok_is {F = Axis} [] laid e))
all_places m kind grid align basis (cs ∷ ls) laid e =
    let s = stepped_from (arranged_layer m kind grid align basis) cs ls laid (arranged_layer m kind grid align basis cs) (each_of (arranged_layer m kind grid align basis) ls) refl refl e in
    ap (λ (ds : List Layer). first_of_each (regions_of ds)) s.is
    ∙ (map-append (λ (r : ℕ × Region). r.0) s.y.regions (regions_of s.ys)
    ∙ (ap (λ ns. ns ++ first_of_each (regions_of s.ys)) (layer_places m kind grid align basis cs s.y s.first)
    ∙ (ap (λ ns. places (celled kind grid cs) ++ ns) (all_places m kind grid align basis ls s.ys s.rest)
    ∙ sym (map-append (λ (c : Child). c.place) (celled kind grid cs) (flat_map (celled kind grid) ls)))))

-- ---- regions

or_there : (o : Option Region) (b : Bool) (r : Region) → is_some (option_or o (if b then Some r else None)) ≡ (b || is_some o)
or_there None true r = refl
or_there None false r = refl
or_there (Some q) true r = refl
or_there (Some q) false r = refl

region_there : (rs : List (ℕ × Region)) (n : ℕ) → is_some (region_of rs n) ≡ list_any (λ k. k == n) (first_of_each rs)
region_there [] n = refl
region_there (r ∷ rs) n = or_there (region_of rs n) (r.0 == n) r.1 ∙ ap (λ b. (r.0 == n) || b) (region_there rs n)

any_place : (n : ℕ) (cs : List Child) → list_any (λ k. k == n) (places cs) ≡ list_any (λ (c : Child). c.place == n) cs
any_place n [] = refl
any_place n (c ∷ cs) = ap (λ b. (c.place == n) || b) (any_place n cs)

pub at_place : (count n : ℕ) (rs : List (ℕ × Region)) → n < count → slice_index_or (placed_by count rs) n None ≡ region_of rs n
unfolding placed_by
at_place count n rs h = get_or-map-range_with_len (region_of rs) 0 count n n None h (omega arith)

pub celled_have_regions : CelledHaveRegions
celled_have_regions m kind grid align styles area screen a e n h =
    let ls = layers (numbered 0 styles) in
    let laid = bound_at (each_of (arranged_layer m kind grid align (basis_of area screen)) ls) _ a e in
    ap (λ (x : Arrangement). is_some (slice_index_or x.placed n None)) (sym (ok_is {F = Axis} (together (length styles) laid.value) a laid.second))
    ∙ (ap is_some (at_place (length styles) n (regions_of laid.value) h)
    ∙ (region_there (regions_of laid.value) n
    ∙ (ap (list_any (λ k. k == n)) (all_places m kind grid align (basis_of area screen) ls laid.value laid.first) ∙ any_place n (flat_map (celled kind grid) ls))))
