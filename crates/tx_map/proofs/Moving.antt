-- What moves with a row, and what a scroll moves.
use Rattle.std.proofs.Common.{◌≡◌, ℕ, ◌+◌, Bool, true, false, cond, List, [], ◌∷◌, ◌++◌, drop, Option, Some, None, Result, Ok, Err, ◌∙◌, refl, sym, ap, ap₂, subst, arith}
use Rattle.std.proofs.lemmas.Int.{ints}
use Rattle.std.specs.Prelude.{ℤ, pos, neg_ℤ, ◌+ℤ◌}
use Rattle.tx_geom.specs.Along.{region_of}
use Rattle.tx_geom.specs.Region.{corner, moved, shrunk}
use Rattle.tx_geom.specs.declared.choices.Axis.{Axis}
use Rattle.tx_geom.specs.declared.choices.Edge.{Edge}
use Rattle.tx_geom.specs.declared.places.Offset.{Offset}
use Rattle.tx_geom.specs.declared.places.Region.{Region}
use Rattle.tx_geom.specs.declared.places.Size.{Size}
use Rattle.tx_geom.specs.declared.places.Spacing.{Spacing}
use Rattle.tx_layout.specs.declared.styles.BoxStyle.{BoxStyle}
use Rattle.tx_look.specs.Layers.{layer_number}
use Rattle.tx_map.specs.LayoutMap.{Mapped, Place, Container, at_node, barred_row, child_place, container, content_size, docked_number, entries, entries_if, entries_with, entry_at, first_region, row_entries, scrolled_by, viewport_region}
use Rattle.tx_map.specs.Moving.{AreMoved, Moves, ScrollsMove, SubtreesMove, elsewhere, unscrolled}
use Rattle.tx_map.specs.Scene.{Scene}
use Rattle.tx_map.specs.Subtrees.{place_at, rows_below, subtree_entries}
use Rattle.tx_map.specs.declared.entry.Entry.{Entry}
use Rattle.tx_read.specs.Reading.{◌>>=◌}
use Rattle.tx_scroll.specs.declared.trials.Barred.{Barred}
use Rattle.tx_sizes.specs.Forest.{Styled, Forest, Empty, Grown}
use Rattle.tx_sizes.specs.Measures.{Measure, boxes, is_taking_part, measures}
use Rattle.tx_value.specs.StyleReads.{dock, gutter}
use Rattle.tx_value.specs.declared.value.Value.{Value}

-- ---- regions

abbrev region_at : ℕ → ℕ → ℤ → ℤ → Region
region_at w h x y = record { x = x; y = y; width = w; height = h }

same_region : (a b c d : ℤ) (w h : ℕ) → a ≡ c → b ≡ d → region_at w h a b ≡ region_at w h c d
same_region a b c d w h p q = ap₂ (region_at w h) p q

-- a viewport moves with its row
view_moves : (region : Region) (by : Offset) (g : Spacing) (size : Size) → region_of (corner (shrunk (moved region by) g)) size ≡ moved (region_of (corner (shrunk region g)) size) by
view_moves region by g size =
    same_region ((region.x +ℤ by.x) +ℤ pos g.left) ((region.y +ℤ by.y) +ℤ pos g.top) ((region.x +ℤ pos g.left) +ℤ by.x) ((region.y +ℤ pos g.top) +ℤ by.y) size.width size.height (omega (arith, ints)) (omega (arith, ints))

-- a child moves with the viewport
child_moves : (region view : Region) (by s : Offset) → moved (moved region (corner (moved view by))) s ≡ moved (moved (moved region (corner view)) s) by
child_moves region view by s =
    same_region ((region.x +ℤ (view.x +ℤ by.x)) +ℤ s.x) ((region.y +ℤ (view.y +ℤ by.y)) +ℤ s.y) (((region.x +ℤ view.x) +ℤ s.x) +ℤ by.x) (((region.y +ℤ view.y) +ℤ s.y) +ℤ by.y) region.width region.height
    (omega (arith, ints)) (omega (arith, ints))

scroll_moves : (region : Region) (edge : Option Edge) (scroll : ℕ × ℕ) → moved region (scrolled_by edge scroll) ≡ moved (moved region (scrolled_by edge (0, 0))) (scrolled_by edge scroll)
scroll_moves region None scroll =
    same_region (region.x +ℤ neg_ℤ (pos scroll.0)) (region.y +ℤ neg_ℤ (pos scroll.1)) ((region.x +ℤ neg_ℤ (pos 0)) +ℤ neg_ℤ (pos scroll.0)) ((region.y +ℤ neg_ℤ (pos 0)) +ℤ neg_ℤ (pos scroll.1)) region.width region.height
    (omega (arith, ints)) (omega (arith, ints))
scroll_moves region (Some edge) scroll =
    same_region (region.x +ℤ pos 0) (region.y +ℤ pos 0) ((region.x +ℤ pos 0) +ℤ pos 0) ((region.y +ℤ pos 0) +ℤ pos 0) region.width region.height (omega (arith, ints)) (omega (arith, ints))

-- ---- lists of entries

moved_both : (by : Offset) (xs ys us vs : List Entry) → AreMoved by xs us → AreMoved by ys vs → AreMoved by (xs ++ ys) (us ++ vs)
moved_both by [] ys [] vs a b = b
moved_both by [] ys (u ∷ us) vs a b = absurd a
moved_both by (x ∷ xs) ys [] vs a b = absurd a
moved_both by (x ∷ xs) ys (u ∷ us) vs a b = (a.0, moved_both by xs ys us vs a.1 b)

both_move : (by : Offset) (own rest mine others : Mapped (List Entry)) → Moves by own mine → Moves by rest others
    → Moves by (own >>= (λ xs. rest >>= (λ ys. Ok (xs ++ ys)))) (mine >>= (λ xs. others >>= (λ ys. Ok (xs ++ ys))))
both_move by (Ok xs) (Ok ys) (Ok us) (Ok vs) a b = moved_both by xs ys us vs a b
both_move by (Ok xs) (Ok ys) (Ok us) (Err fault) a b = absurd b
both_move by (Ok xs) (Err fault) (Ok us) (Ok vs) a b = absurd b
both_move by (Ok xs) (Err fault) (Ok us) (Err other) a b = b
both_move by (Ok xs) rest (Err fault) others a b = absurd a
both_move by (Err fault) rest (Ok us) others a b = absurd a
both_move by (Err fault) rest (Err other) others a b = a

entry_moves : (by : Offset) (e f : Entry) (own others : Mapped (List Entry)) → f ≡ elsewhere by f.clip e → Moves by own others → Moves by (own >>= (λ es. Ok (e ∷ es))) (others >>= (λ fs. Ok (f ∷ fs)))
entry_moves by e f (Ok es) (Ok fs) is a = (is, a)
entry_moves by e f (Ok es) (Err fault) is a = absurd a
entry_moves by e f (Err fault) (Ok fs) is a = absurd a
entry_moves by e f (Err fault) (Err other) is a = a

part_moves : (by : Offset) (part : Bool) (own rest others mine later skipped : Mapped (List Entry)) → Moves by own mine → Moves by rest later → Moves by others skipped
    → Moves by (cond part (own >>= (λ xs. rest >>= (λ ys. Ok (xs ++ ys)))) others) (cond part (mine >>= (λ xs. later >>= (λ ys. Ok (xs ++ ys)))) skipped)
part_moves by true own rest others mine later skipped a b c = both_move by own rest mine later a b
part_moves by false own rest others mine later skipped a b c = c

-- ---- rows

-- a container stands elsewhere
record IsElsewhere (by : Offset) (still other : Container) : Type 0 where
  pub style : other.style ≡ still.style
  pub viewport : other.viewport ≡ moved still.viewport by
  pub scroll : other.scroll ≡ still.scroll
  pub key : other.key ≡ still.key

-- and so does a row
record IsPlacedElsewhere (by : Offset) (still other : Place) : Type 0 where
  pub region : other.region ≡ moved still.region by
  pub key : other.key ≡ still.key

abbrev Children : Type 0
Children = Container → List (Option Region) → Mapped (List Entry)

abbrev ChildrenMove : Offset → Children → Type 0
ChildrenMove by children = (still other : Container) (regions : List (Option Region)) → IsElsewhere by still other → Moves by (children still regions) (children other regions)

within_moves : (scene : Scene) (row : Styled) (by : Offset) (p q : Place) (bars : Barred) → IsPlacedElsewhere by p q → IsElsewhere by (container scene row p bars) (container scene row q bars)
within_moves scene row by p q bars at = record {
  style = refl;
  viewport = ap (λ (r : Region). viewport_region row r bars.viewport) at.region ∙ view_moves p.region by (gutter row.style) bars.viewport;
  scroll = refl;
  key = at.key;
}

own_moves : (scene : Scene) (row : Styled) (by : Offset) (p q : Place) (bars : Barred) → IsPlacedElsewhere by p q → entry_at scene row q bars ≡ elsewhere by q.clip (entry_at scene row p bars)
own_moves scene row by p q bars at = ap₂ (λ (r : Region) (k : List ℕ). entry_at scene row (record { region = r; clip = q.clip; key = k }) bars) at.region at.key

bars_move : (scene : Scene) (row : Styled) (by : Offset) (p q : Place) (children : Children) → IsPlacedElsewhere by p q → ChildrenMove by children → (r : Result Barred Axis)
    → Moves by (at_node row.row.node r >>= entries_with scene row p children) (at_node row.row.node r >>= entries_with scene row q children)
bars_move scene row by p q children at so (Ok bars) =
    entry_moves by (entry_at scene row p bars) (entry_at scene row q bars) (children (container scene row p bars) bars.arrangement.placed) (children (container scene row q bars) bars.arrangement.placed)
    (own_moves scene row by p q bars at) (so (container scene row p bars) (container scene row q bars) bars.arrangement.placed (within_moves scene row by p q bars at))
bars_move scene row by p q children at so (Err axis) = refl

row_moves : (scene : Scene) (row : Styled) (bs : List BoxStyle) (ms : List Measure) (by : Offset) (p q : Place) (children : Children) → IsPlacedElsewhere by p q → ChildrenMove by children
    → Moves by (row_entries scene row bs ms children p) (row_entries scene row bs ms children q)
unfolding row_entries
row_moves scene row bs ms by p q children at so =
    let size : content_size row q.region ≡ content_size row p.region = ap (content_size row) at.region in
    subst (λ (s : Size). Moves by (at_node row.row.node (barred_row scene.size row bs ms (content_size row p.region)) >>= entries_with scene row p children)
    (at_node row.row.node (barred_row scene.size row bs ms s) >>= entries_with scene row q children)) (sym size)
    (bars_move scene row by p q children at so (barred_row scene.size row bs ms (content_size row p.region)))

child_elsewhere : (row : Styled) (by : Offset) (still other : Container) (place : ℕ) (region : Region) → IsElsewhere by still other → IsPlacedElsewhere by (child_place still row place region) (child_place other row place region)
child_elsewhere row by still other place region at = record {
  region =
      ap₂ (λ (view : Region) (scroll : ℕ × ℕ). moved (moved region (corner view)) (scrolled_by (dock row.style) scroll)) at.viewport at.scroll
      ∙ child_moves region still.viewport by (scrolled_by (dock row.style) still.scroll);
  key = ap₂ (λ (style : List Value) (key : List ℕ). key ++ layer_number style row.style ∷ (docked_number (dock row.style) ∷ (place ∷ []))) at.style at.key;
}

region_moves : (scene : Scene) (row : Styled) (bs : List BoxStyle) (ms : List Measure) (by : Offset) (still other : Container) (place : ℕ) (children : Children) → IsElsewhere by still other → ChildrenMove by children
    → (region : Option Region)
    → Moves by (entries_if (λ r. row_entries scene row bs ms children (child_place still row place r)) region) (entries_if (λ r. row_entries scene row bs ms children (child_place other row place r)) region)
region_moves scene row bs ms by still other place children at so None = tt
region_moves scene row bs ms by still other place children at so (Some region) =
    row_moves scene row bs ms by (child_place still row place region) (child_place other row place region) children (child_elsewhere row by still other place region at) so

all_move : (scene : Scene) (f : Forest) (by : Offset) (still other : Container) (place : ℕ) (regions : List (Option Region)) → IsElsewhere by still other
    → Moves by (entries scene f still place regions) (entries scene f other place regions)
unfolding entries
all_move scene Empty by still other place regions at = tt
all_move scene (Grown row below beside) by still other place regions at =
    part_moves by (is_taking_part row) _ _ _ _ _ _
    (region_moves scene row (boxes row.style below) (measures scene.pictures scene.size below) by still other place (λ within. entries scene below within 0) at
    (λ here there rs inner. all_move scene below by here there 0 rs inner) (first_region regions))
    (all_move scene beside by still other (place + 1) (drop 1 regions) at)
    (all_move scene beside by still other (place + 1) regions at)

subtree_moves : (scene : Scene) (row : Styled) (behind : List Styled) (by : Offset) (p q : Place) → IsPlacedElsewhere by p q → Moves by (subtree_entries scene row behind p) (subtree_entries scene row behind q)
subtree_moves scene row behind by p q at =
    let f = rows_below row behind in
    row_moves scene row (boxes row.style f) (measures scene.pictures scene.size f) by p q (λ within. entries scene f within 0) at (λ here there rs inner. all_move scene f by here there 0 rs inner)

pub subtrees_move : SubtreesMove
subtrees_move scene row behind region clip seen key by =
    subtree_moves scene row behind by (place_at region clip key) (place_at (moved region by) seen key) (record { region = refl; key = refl })

scrolled_child : (scene : Scene) (row : Styled) (behind : List Styled) (above : Container) (place : ℕ) (region : Option Region) (part : Bool)
    → Moves (scrolled_by (dock row.style) above.scroll) (cond part (entries_if (λ r. subtree_entries scene row behind (child_place (unscrolled above) row place r)) region) (Ok []))
    (cond part (entries_if (λ r. subtree_entries scene row behind (child_place above row place r)) region) (Ok []))
scrolled_child scene row behind above place region false = tt
scrolled_child scene row behind above place None true = tt
scrolled_child scene row behind above place (Some region) true =
    subtree_moves scene row behind (scrolled_by (dock row.style) above.scroll) (child_place (unscrolled above) row place region) (child_place above row place region)
    (record { region = scroll_moves (moved region (corner above.viewport)) (dock row.style) above.scroll; key = refl })

pub scrolls_move : ScrollsMove
scrolls_move scene row behind above place regions = scrolled_child scene row behind above place (first_region regions) (is_taking_part row)
