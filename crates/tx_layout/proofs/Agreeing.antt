-- Two meanings that agree on every ask of a child of a container give it one arrangement and one measure.
use Rattle.std.proofs.Common.{◌≡◌, ℕ, ◌+◌, ◌<◌, ◌∙◌, refl, sym, ap, subst, Bool, true, false, List, [], ◌∷◌, length, Option, Some, None, Result, Ok, Err, if◌then◌else◌, arith, ℤ}
use Rattle.std.specs.Prelude.{map, min}
use Rattle.std.specs.List.{AllByRecursion as Every, cons_option, filter}
use Rattle.tx_read.specs.Answer.{or_refused}
use Rattle.tx_read.specs.Reading.{◌>>=◌}
use Rattle.tx_geom.specs.declared.choices.AlignX.{AlignX}
use Rattle.tx_geom.specs.declared.choices.AlignY.{AlignY}
use Rattle.tx_geom.specs.declared.choices.Axis.{Axis}
use Rattle.tx_geom.specs.declared.choices.Axis.TheVariants.{Width, Height}
use Rattle.tx_geom.specs.declared.choices.LayoutKind.{LayoutKind}
use Rattle.tx_geom.specs.declared.choices.LayoutKind.TheVariants.{Vertical, Horizontal, Grid}
use Rattle.tx_geom.specs.declared.places.Size.{Size}
use Rattle.tx_box.specs.declared.items.Basis.{Basis}
use Rattle.tx_box.specs.declared.items.Span.{Span}
use Rattle.tx_box.specs.Axis.{axis_spans, bases}
use Rattle.tx_box.specs.Sizes.{box_cells}
use Rattle.tx_grid.specs.declared.places.Cells.{Cells}
use Rattle.tx_layout.specs.declared.styles.Ask.{Ask}
use Rattle.tx_layout.specs.declared.styles.BoxStyle.{BoxStyle}
use Rattle.tx_layout.specs.declared.styles.GridStyle.{GridStyle}
use Rattle.tx_layout.specs.declared.children.Child.{Child}
use Rattle.tx_layout.specs.declared.children.Framed.{Framed}
use Rattle.tx_layout.specs.declared.children.Side.{Side}
use Rattle.tx_layout.specs.Style.{is_auto, size_in, item_of, base}
use Rattle.tx_layout.specs.Children.{numbered, layer_numbers, is_in_layer, is_docked, is_at_side, is_in_flow, layers, docked, at_sides, flow}
use Rattle.tx_layout.specs.Room.{greatest, extent, edges_of, edges_along}
use Rattle.tx_layout.specs.Sides.{basis_of, content_of, content_if, ask_of, measured, across_one, sized_by, with_side, side_of, with_spans, in_row, areas, gaps, across, along, by_itself, is_main, sized, sized_both}
use Rattle.tx_layout.specs.Line.{Flow, line_with, line_of, sized_for, line_extent}
use Rattle.tx_layout.specs.Grid.{frame_at, frame_with, framed, cells_of, columns_of, rows_of, sized_in, cut_in, area_of, sized_frames, grid_with, grid_of}
use Rattle.tx_layout.specs.Flow.{flow_of, flow_extent}
use Rattle.tx_layout.specs.Steps.{each_of}
use Rattle.tx_layout.specs.Arrangement.{laid_docked, flow_basis, layer_with, arranged_layer, together, arranged_layers, asked_docked, asked_layer, asked_layers}
use Rattle.tx_layout.specs.Laws.{Agree, MeaningsDecide}

-- ---- steps over a list

bind_same : {A B F : Type 0} (r s : Result A F) (f g : A → Result B F) → r ≡ s → ((x : A) → s ≡ Ok x → f x ≡ g x) → r >>= f ≡ s >>= g
bind_same r (Ok x) f g e h = ap (λ t. t >>= f) e ∙ h x refl
bind_same r (Err fault) f g e h = ap (λ t. t >>= f) e

each_same : {A B F : Type 0} (f g : A → Result B F) (xs : List A) → Every (λ x. f x ≡ g x) xs → each_of f xs ≡ each_of g xs
each_same f g [] h = refl
each_same f g (x ∷ xs) h =
    bind_same (f x) (g x) _ _ h.0 (λ y is. bind_same (each_of f xs) (each_of g xs) _ _ (each_same f g xs h.1) (λ ys so. refl))

-- what came of steps of which the first is y
pub record Stepped {A B F : Type 0} (f : A → Result B F) (x : A) (xs : List A) (zs : List B) : Type 0 where
  pub y : B
  pub ys : List B
  pub first : f x ≡ Ok y
  pub rest : each_of f xs ≡ Ok ys
  pub is : zs ≡ y ∷ ys

pub stepped_from : {A B F : Type 0} (f : A → Result B F) (x : A) (xs : List A) (zs : List B) (r : Result B F) (s : Result (List B) F) → f x ≡ r → each_of f xs ≡ s → (r >>= (λ y. s >>= (λ ys. Ok (y ∷ ys)))) ≡ Ok zs → Stepped f x xs zs
stepped_from f x xs zs (Ok y) (Ok ys) a b e = record { y = y; ys = ys; first = a; rest = b; is = let h : zs ≡ y ∷ ys = cc in h }
stepped_from f x xs zs (Ok y) (Err fault) a b e = absurd (let h : ⊥ = cc in h)
stepped_from f x xs zs (Err fault) s a b e = absurd (let h : ⊥ = cc in h)

pub each_kept : {A B F : Type 0} (f : A → Result B F) (P : A → Type 0) (Q : B → Type 0) → ((x : A) (y : B) → P x → f x ≡ Ok y → Q y) → (xs : List A) (ys : List B) → Every P xs → each_of f xs ≡ Ok ys → Every Q ys
each_kept f P Q step [] ys h e = subst (λ l. Every Q l) (let k : [] ≡ ys = cc in k) tt
each_kept f P Q step (x ∷ xs) zs h e =
    let s = stepped_from f x xs zs (f x) (each_of f xs) refl refl e in
    subst (λ l. Every Q l) (sym s.is) (step x s.y h.0 s.first, each_kept f P Q step xs s.ys h.1 s.rest)

pub every_map : {A : Type 0} (P Q : A → Type 0) → ((x : A) → P x → Q x) → (xs : List A) → Every P xs → Every Q xs
every_map P Q f [] h = tt
every_map P Q f (x ∷ xs) h = (f x h.0, every_map P Q f xs h.1)

every_if : (P : Child → Type 0) (b : Bool) (c : Child) (cs : List Child) → P c → Every P cs → Every P (if b then c ∷ cs else cs)
every_if P true c cs h hs = (h, hs)
every_if P false c cs h hs = hs

pub every_kept : (P : Child → Type 0) (p : Child → Bool) (cs : List Child) → Every P cs → Every P (filter p cs)
every_kept P p [] h = tt
every_kept P p (c ∷ cs) h = every_if P (p c) c (filter p cs) h.0 (every_kept P p cs h.1)

-- what came of two steps
pub record Bound {A B F : Type 0} (r : Result A F) (f : A → Result B F) (z : B) : Type 0 where
  pub value : A
  pub first : r ≡ Ok value
  pub second : f value ≡ Ok z

pub bound_at : {A B F : Type 0} (r : Result A F) (f : A → Result B F) (z : B) → (r >>= f) ≡ Ok z → Bound r f z
bound_at (Ok x) f z e = record { value = x; first = refl; second = e }
bound_at (Err fault) f z e = absurd (let h : ⊥ = cc in h)

pub ok_is : {A F : Type 0} (x y : A) → (let r : Result A F = Ok x in r) ≡ Ok y → x ≡ y
ok_is x y e = cc

-- ---- the children of a container

-- one of so many children
abbrev Below : ℕ → Child → Type 0
Below count c = c.place < count

below_numbered : (count n : ℕ) (styles : List BoxStyle) → n + length styles ≡ count → Every (Below count) (numbered n styles)
below_numbered count n [] h = tt
below_numbered count n (s ∷ styles) h = (omega arith, below_numbered count (n + 1) styles (omega arith))

every_layer : (P : Child → Type 0) (cs : List Child) (ns : List ℕ) → Every P cs → Every (λ l. Every P l) (map (λ n. filter (is_in_layer n) cs) ns)
every_layer P cs [] h = tt
every_layer P cs (n ∷ ns) h = (every_kept P (is_in_layer n) cs h, every_layer P cs ns h)

below_layers : (styles : List BoxStyle) → Every (λ l. Every (Below (length styles)) l) (layers (numbered 0 styles))
unfolding layers
below_layers styles =
    every_layer (Below (length styles)) (numbered 0 styles) (layer_numbers (numbered 0 styles)) (below_numbered (length styles) 0 styles (omega arith))

below_side : (count : ℕ) (axis : Axis) (s : Side) (c : Child) → Below count c → Below count (with_side axis s c)
below_side count Width s c h = h
below_side count Height s c h = h

-- ---- what is left as it is where children get their cells

-- a child of a grid with its place
abbrev pub InFrame : (Child → Type 0) → Framed → Type 0
InFrame P f = P f.child

module _ (P : Child → Type 0) (keeps : (axis : Axis) (s : Side) (c : Child) → P c → P (with_side axis s c)) where
  sized_by_kept : (axis : Axis) (c d : Child) (o : Option ℤ) → P c → sized_by axis c o ≡ Ok d → P d
  sized_by_kept axis c d None h e = absurd (let k : ⊥ = cc in k)
  sized_by_kept axis c d (Some z) h e =
      let at : by_itself axis c z ≡ d = ok_is {F = Axis} (by_itself axis c z) d e in
      subst P at (keeps axis _ c h)

  one_kept : (m : Ask → Option ℕ) (axis : Axis) (basis : Basis) (c d : Child) → P c → across_one m axis basis c ≡ Ok d → P d
  unfolding across_one
  one_kept m axis basis c d h e =
      let b = bound_at (measured m axis basis.area c) _ d e in
      sized_by_kept axis c d (box_cells b.value (bases axis basis (base c.style basis.area))) h b.second

  spans_kept : (axis : Axis) (cs : List Child) (spans : List Span) → Every P cs → Every P (with_spans axis cs spans)
  spans_kept axis [] spans h = tt
  spans_kept axis (c ∷ cs) [] h = tt
  spans_kept axis (c ∷ cs) (s ∷ spans) h = (keeps axis (side_of s) c h.0, spans_kept axis cs spans h.1)

  along_kept : (m : Ask → Option ℕ) (axis : Axis) (basis : Basis) (cs ds : List Child) → Every P cs → along m axis basis cs ≡ Ok ds → Every P ds
  unfolding along
  along_kept m axis basis cs ds h e =
      let items = bound_at (each_of (measured m axis basis.area) cs) (in_row axis basis cs) ds e in
      let spans = bound_at (or_refused axis (axis_spans items.value (gaps axis cs) axis basis (areas basis.area cs))) _ ds items.second in
      subst (Every P) (ok_is {F = Axis} (with_spans axis cs spans.value) ds spans.second) (spans_kept axis cs spans.value h)

  pub across_kept : (m : Ask → Option ℕ) (axis : Axis) (basis : Basis) (cs ds : List Child) → Every P cs → across m axis basis cs ≡ Ok ds → Every P ds
  unfolding across
  across_kept m axis basis cs ds h e = each_kept (across_one m axis basis) P P (one_kept m axis basis) cs ds h e

  if_kept : (b : Bool) (x y : Result (List Child) Axis) (ds : List Child) → (x ≡ Ok ds → Every P ds) → (y ≡ Ok ds → Every P ds) → (if b then x else y) ≡ Ok ds → Every P ds
  if_kept true x y ds f g e = f e
  if_kept false x y ds f g e = g e

  sized_kept : (m : Ask → Option ℕ) (main : Option Axis) (basis : Basis) (axis : Axis) (cs ds : List Child) → Every P cs → sized m main basis axis cs ≡ Ok ds → Every P ds
  sized_kept m main basis axis cs ds h e =
      if_kept (is_main main axis) (along m axis basis cs) (across m axis basis cs) ds (along_kept m axis basis cs ds h) (across_kept m axis basis cs ds h) e

  pub both_kept : (m : Ask → Option ℕ) (main : Option Axis) (basis : Basis) (cs ds : List Child) → Every P cs → sized_both m main basis cs ≡ Ok ds → Every P ds
  unfolding sized_both
  both_kept m main basis cs ds h e =
      let wide = bound_at (sized m main basis Width cs) (sized m main basis Height) ds e in
      sized_kept m main basis Height wide.value ds (sized_kept m main basis Width cs wide.value h wide.first) wide.second

  line_kept : (m : Ask → Option ℕ) (main : Option Axis) (basis : Basis) (cs : List Child) (f : Flow) → Every P cs → line_of m main basis cs ≡ Ok f → Every P f.children
  unfolding line_of
  line_kept m main basis cs f h e =
      let fs = bound_at (sized_both m main basis cs) _ f e in
      subst (λ (x : Flow). Every P x.children) (ok_is {F = Axis} (line_with main fs.value) f fs.second) (both_kept m main basis cs fs.value h fs.first)

  -- ---- children of a grid

  cons_kept : (o : Option Framed) (fs : List Framed) → (f : (g : Framed) → o ≡ Some g → InFrame P g) → Every (InFrame P) fs → Every (InFrame P) (cons_option o fs)
  cons_kept None fs f h = h
  cons_kept (Some g) fs f h = (f g refl, h)

  at_kept : (xs ys : List Span) (c : Child) (p : Option Cells) (g : Framed) → P c → frame_at xs ys (c, p) ≡ Some g → InFrame P g
  at_kept xs ys c None g h e = absurd (let k : ⊥ = cc in k)
  at_kept xs ys c (Some cells) g h e = let at : frame_with xs ys c cells ≡ g = cc in subst (InFrame P) at h

  pub framed_kept : (xs ys : List Span) (places : List (Option Cells)) (cs : List Child) → Every P cs → Every (InFrame P) (framed xs ys places cs)
  framed_kept xs ys places [] h = tt
  framed_kept xs ys [] (c ∷ cs) h = tt
  framed_kept xs ys (p ∷ places) (c ∷ cs) h = cons_kept (frame_at xs ys (c, p)) (framed xs ys places cs) (λ g e. at_kept xs ys c p g h.0 e) (framed_kept xs ys places cs h.1)

  in_kept : (m : Ask → Option ℕ) (axis : Axis) (screen : Size) (f g : Framed) → InFrame P f → sized_in m axis screen f ≡ Ok g → InFrame P g
  unfolding sized_in
  in_kept m axis screen f g h e =
      let b = bound_at (across_one m axis (basis_of (area_of f) screen) f.child) _ g e in
      subst (InFrame P) (ok_is {F = Axis} (cut_in axis f b.value) g b.second) (keeps axis _ b.value (one_kept m axis (basis_of (area_of f) screen) f.child b.value h b.first))

  pub all_in_kept : (m : Ask → Option ℕ) (axis : Axis) (screen : Size) (fs gs : List Framed) → Every (InFrame P) fs → each_of (sized_in m axis screen) fs ≡ Ok gs → Every (InFrame P) gs
  all_in_kept m axis screen fs gs h e = each_kept (sized_in m axis screen) (InFrame P) (InFrame P) (in_kept m axis screen) fs gs h e

  frames_kept : (m : Ask → Option ℕ) (screen : Size) (fs gs : List Framed) → Every (InFrame P) fs → sized_frames m screen fs ≡ Ok gs → Every (InFrame P) gs
  unfolding sized_frames
  frames_kept m screen fs gs h e =
      let wide = bound_at (each_of (sized_in m Width screen) fs) (each_of (sized_in m Height screen)) gs e in
      all_in_kept m Height screen wide.value gs (all_in_kept m Width screen fs wide.value h wide.first) wide.second

  children_kept : (fs : List Framed) → Every (InFrame P) fs → Every P (map (λ (f : Framed). f.child) fs)
  children_kept [] h = tt
  children_kept (f ∷ fs) h = (h.0, children_kept fs h.1)

  grid_kept : (m : Ask → Option ℕ) (grid : GridStyle) (basis : Basis) (cs : List Child) (f : Flow) → Every P cs → grid_of m grid basis cs ≡ Ok f → Every P f.children
  unfolding grid_of
  grid_kept m grid basis cs f h e =
      let xs = bound_at (columns_of grid basis) _ f e in
      let ys = bound_at (rows_of grid basis (cells_of grid cs)) _ f xs.second in
      let fs = bound_at (sized_frames m basis.screen (framed xs.value ys.value (cells_of grid cs) cs)) _ f ys.second in
      subst (λ (x : Flow). Every P x.children) (ok_is {F = Axis} (grid_with xs.value ys.value fs.value) f fs.second)
      (children_kept fs.value (frames_kept m basis.screen (framed xs.value ys.value (cells_of grid cs) cs) fs.value (framed_kept xs.value ys.value (cells_of grid cs) cs h) fs.first))

  pub flow_kept : (m : Ask → Option ℕ) (kind : LayoutKind) (grid : GridStyle) (basis : Basis) (cs : List Child) (f : Flow) → Every P cs → flow_of m kind grid basis cs ≡ Ok f → Every P f.children
  flow_kept m Vertical grid basis cs f h e = line_kept m (Some Height) basis cs f h e
  flow_kept m Horizontal grid basis cs f h e = line_kept m (Some Width) basis cs f h e
  flow_kept m Grid grid basis cs f h e = grid_kept m grid basis cs f h e

-- ---- sizes

module _ (count : ℕ) (m n : Ask → Option ℕ) (agree : Agree count m n) where
  content_same : (axis : Axis) (area : Size) (c : Child) → Below count c → content_of m axis area c ≡ content_of n axis area c
  unfolding content_of
  content_same axis area c h = ap (λ o. content_if (is_auto (size_in axis c.style).unit) axis o) (agree (ask_of axis area c) h)

  measured_same : (axis : Axis) (area : Size) (c : Child) → Below count c → measured m axis area c ≡ measured n axis area c
  unfolding measured
  measured_same axis area c h = ap (λ r. r >>= (λ k. Ok (item_of axis c.style k))) (content_same axis area c h)

  one_same : (axis : Axis) (basis : Basis) (c : Child) → Below count c → across_one m axis basis c ≡ across_one n axis basis c
  unfolding across_one
  one_same axis basis c h = ap (λ r. r >>= (λ item. sized_by axis c (box_cells item (bases axis basis (base c.style basis.area))))) (measured_same axis basis.area c h)

  across_same : (axis : Axis) (basis : Basis) (cs : List Child) → Every (Below count) cs → across m axis basis cs ≡ across n axis basis cs
  unfolding across
  across_same axis basis cs h =
      each_same (across_one m axis basis) (across_one n axis basis) cs (every_map (Below count) (λ c. across_one m axis basis c ≡ across_one n axis basis c) (one_same axis basis) cs h)

  along_same : (axis : Axis) (basis : Basis) (cs : List Child) → Every (Below count) cs → along m axis basis cs ≡ along n axis basis cs
  unfolding along
  along_same axis basis cs h =
      ap (λ r. r >>= in_row axis basis cs)
      (each_same (measured m axis basis.area) (measured n axis basis.area) cs (every_map (Below count) (λ c. measured m axis basis.area c ≡ measured n axis basis.area c) (measured_same axis basis.area) cs h))

  if_same : {A : Type 0} (b : Bool) (x y z w : A) → x ≡ y → z ≡ w → (if b then x else z) ≡ (if b then y else w)
  if_same true x y z w p q = p
  if_same false x y z w p q = q

  sized_same : (main : Option Axis) (basis : Basis) (axis : Axis) (cs : List Child) → Every (Below count) cs → sized m main basis axis cs ≡ sized n main basis axis cs
  sized_same main basis axis cs h =
      if_same (is_main main axis) (along m axis basis cs) (along n axis basis cs) (across m axis basis cs) (across n axis basis cs) (along_same axis basis cs h) (across_same axis basis cs h)

  both_same : (main : Option Axis) (basis : Basis) (cs : List Child) → Every (Below count) cs → sized_both m main basis cs ≡ sized_both n main basis cs
  unfolding sized_both
  both_same main basis cs h =
      bind_same (sized m main basis Width cs) (sized n main basis Width cs) _ _ (sized_same main basis Width cs h) (λ ds is. sized_same main basis Height ds (sized_kept (Below count) (below_side count) n main basis Width cs ds h is))

  for_same : (axis : Axis) (main : Option Axis) (basis : Basis) (cs : List Child) → Every (Below count) cs → sized_for axis m main basis cs ≡ sized_for axis n main basis cs
  for_same Width main basis cs h = sized_same main basis Width cs h
  for_same Height main basis cs h = both_same main basis cs h

  -- ---- flows

  line_same : (main : Option Axis) (basis : Basis) (cs : List Child) → Every (Below count) cs → line_of m main basis cs ≡ line_of n main basis cs
  unfolding line_of
  line_same main basis cs h = ap (λ r. r >>= (λ fs. Ok (line_with main fs))) (both_same main basis cs h)

  extent_same : (main : Option Axis) (axis : Axis) (basis : Basis) (cs : List Child) → Every (Below count) cs → line_extent m main axis basis cs ≡ line_extent n main axis basis cs
  unfolding line_extent
  extent_same main axis basis cs h = ap (λ r. r >>= (λ fs. Ok (extent main axis fs))) (for_same axis main basis cs h)

  in_same : (axis : Axis) (screen : Size) (f : Framed) → InFrame (Below count) f → sized_in m axis screen f ≡ sized_in n axis screen f
  unfolding sized_in
  in_same axis screen f h = ap (λ r. r >>= (λ c. Ok (cut_in axis f c))) (one_same axis (basis_of (area_of f) screen) f.child h)

  all_in_same : (axis : Axis) (screen : Size) (fs : List Framed) → Every (InFrame (Below count)) fs → each_of (sized_in m axis screen) fs ≡ each_of (sized_in n axis screen) fs
  all_in_same axis screen fs h =
      each_same (sized_in m axis screen) (sized_in n axis screen) fs (every_map (InFrame (Below count)) (λ f. sized_in m axis screen f ≡ sized_in n axis screen f) (in_same axis screen) fs h)

  frames_same : (screen : Size) (fs : List Framed) → Every (InFrame (Below count)) fs → sized_frames m screen fs ≡ sized_frames n screen fs
  unfolding sized_frames
  frames_same screen fs h =
      bind_same (each_of (sized_in m Width screen) fs) (each_of (sized_in n Width screen) fs) _ _ (all_in_same Width screen fs h)
      (λ gs is. all_in_same Height screen gs (all_in_kept (Below count) (below_side count) n Width screen fs gs h is))

  grid_same : (grid : GridStyle) (basis : Basis) (cs : List Child) → Every (Below count) cs → grid_of m grid basis cs ≡ grid_of n grid basis cs
  unfolding grid_of
  grid_same grid basis cs h =
      bind_same (columns_of grid basis) (columns_of grid basis) _ _ refl
      (λ xs at. bind_same (rows_of grid basis (cells_of grid cs)) (rows_of grid basis (cells_of grid cs)) _ _ refl
      (λ ys is. ap (λ r. r >>= (λ fs. Ok (grid_with xs ys fs))) (frames_same basis.screen (framed xs ys (cells_of grid cs) cs) (framed_kept (Below count) (below_side count) xs ys (cells_of grid cs) cs h))))

  flow_same : (kind : LayoutKind) (grid : GridStyle) (basis : Basis) (cs : List Child) → Every (Below count) cs → flow_of m kind grid basis cs ≡ flow_of n kind grid basis cs
  flow_same Vertical grid basis cs h = line_same (Some Height) basis cs h
  flow_same Horizontal grid basis cs h = line_same (Some Width) basis cs h
  flow_same Grid grid basis cs h = grid_same grid basis cs h

  flow_extent_same : (kind : LayoutKind) (grid : GridStyle) (axis : Axis) (basis : Basis) (cs : List Child) → Every (Below count) cs → flow_extent m kind grid axis basis cs ≡ flow_extent n kind grid axis basis cs
  flow_extent_same Vertical grid axis basis cs h = extent_same (Some Height) axis basis cs h
  flow_extent_same Horizontal grid axis basis cs h = extent_same (Some Width) axis basis cs h
  flow_extent_same Grid grid axis basis cs h = refl

  -- ---- layers

  docked_same : (basis : Basis) (cs : List Child) → Every (Below count) cs → laid_docked m basis cs ≡ laid_docked n basis cs
  docked_same basis cs h = both_same None basis (docked cs) (every_kept (Below count) is_docked cs h)

  layer_same : (kind : LayoutKind) (grid : GridStyle) (align : AlignX × AlignY) (basis : Basis) (cs : List Child) → Every (Below count) cs → arranged_layer m kind grid align basis cs ≡ arranged_layer n kind grid align basis cs
  unfolding arranged_layer
  layer_same kind grid align basis cs h =
      bind_same (laid_docked m basis cs) (laid_docked n basis cs) _ _ (docked_same basis cs h)
      (λ ds is. ap (λ r. r >>= (λ f. Ok (layer_with align basis.area ds f))) (flow_same kind grid (flow_basis basis ds) (flow cs) (every_kept (Below count) is_in_flow cs h)))

  asked_docked_same : (axis : Axis) (basis : Basis) (cs : List Child) → Every (Below count) cs → asked_docked m axis basis cs ≡ asked_docked n axis basis cs
  asked_docked_same Width basis cs h = sized_same None basis Width (at_sides cs) (every_kept (Below count) is_at_side cs h)
  asked_docked_same Height basis cs h = docked_same basis cs h

  asked_same : (kind : LayoutKind) (grid : GridStyle) (axis : Axis) (basis : Basis) (cs : List Child) → Every (Below count) cs → asked_layer m kind grid axis basis cs ≡ asked_layer n kind grid axis basis cs
  unfolding asked_layer
  asked_same kind grid axis basis cs h =
      bind_same (asked_docked m axis basis cs) (asked_docked n axis basis cs) _ _ (asked_docked_same axis basis cs h)
      (λ ds is. ap (λ r. r >>= (λ k. Ok (edges_along axis (edges_of ds) + k))) (flow_extent_same kind grid axis (flow_basis basis ds) (flow cs) (every_kept (Below count) is_in_flow cs h)))

  layers_same : (kind : LayoutKind) (grid : GridStyle) (align : AlignX × AlignY) (basis : Basis) (places : ℕ) (ls : List (List Child)) → Every (λ l. Every (Below count) l) ls
      → arranged_layers m kind grid align basis places ls ≡ arranged_layers n kind grid align basis places ls
  layers_same kind grid align basis places ls h =
      ap (λ r. r >>= (λ laid. Ok (together places laid)))
      (each_same (arranged_layer m kind grid align basis) (arranged_layer n kind grid align basis) ls
      (every_map (λ l. Every (Below count) l) (λ l. arranged_layer m kind grid align basis l ≡ arranged_layer n kind grid align basis l) (layer_same kind grid align basis) ls h))

  asked_layers_same : (kind : LayoutKind) (grid : GridStyle) (axis : Axis) (basis : Basis) (ls : List (List Child)) → Every (λ l. Every (Below count) l) ls → asked_layers m kind grid axis basis ls ≡ asked_layers n kind grid axis basis ls
  asked_layers_same kind grid axis basis ls h =
      ap (λ r. r >>= (λ ns. Ok (greatest ns)) >>= (λ k. Ok (min k 65535)))
      (each_same (asked_layer m kind grid axis basis) (asked_layer n kind grid axis basis) ls
      (every_map (λ l. Every (Below count) l) (λ l. asked_layer m kind grid axis basis l ≡ asked_layer n kind grid axis basis l) (asked_same kind grid axis basis) ls h))

pub meanings_decide : MeaningsDecide
meanings_decide = record {
  arrangement = λ m n kind grid align styles area screen agree.
      layers_same (length styles) m n agree kind grid align (basis_of area screen) (length styles) (layers (numbered 0 styles)) (below_layers styles);
  width = λ m n kind grid styles area screen agree.
      asked_layers_same (length styles) m n agree kind grid Width (basis_of area screen) (layers (numbered 0 styles)) (below_layers styles);
  height = λ m n kind grid styles width area screen agree.
      asked_layers_same (length styles) m n agree kind grid Height (basis_of (record { width = width; height = area.height }) screen) (layers (numbered 0 styles)) (below_layers styles);
}
