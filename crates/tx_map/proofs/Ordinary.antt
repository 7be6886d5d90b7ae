-- The map of an ordinary scene is defined.
use Rattle.std.proofs.Common.{◌≡◌, ℕ, ◌+◌, ◌^◌, ◌≤◌, Bool, true, false, cond, List, [], ◌∷◌, ◌++◌, drop, length, Option, Some, None, Result, Ok, Err, ◌∙◌, refl, sym, ap, subst, arith}
use Rattle.std.proofs.lemmas.List.Elements.{All-drop, All-head, All-nil}
use Rattle.std.specs.Prelude.{All, IfSome, IsOk, IsOkAnd}
use Rattle.tx_box.specs.Ordinary.{IsOrdinarySize}
use Rattle.tx_geom.specs.declared.choices.AlignX.{AlignX}
use Rattle.tx_geom.specs.declared.choices.AlignY.{AlignY}
use Rattle.tx_geom.specs.declared.choices.Axis.{Axis}
use Rattle.tx_geom.specs.declared.choices.LayoutKind.{LayoutKind}
use Rattle.tx_geom.specs.declared.choices.Overflow.{Overflow}
use Rattle.tx_geom.specs.declared.places.Region.{Region}
use Rattle.tx_geom.specs.declared.places.Size.{Size}
use Rattle.tx_layout.specs.Ordinary.{AnswersOrdinary, AreOrdinaryChildren, HasShortRegions, IsShortRegion, OrdinaryChildren}
use Rattle.tx_layout.specs.declared.styles.Arrangement.{Arrangement}
use Rattle.tx_layout.specs.declared.styles.Ask.{Ask}
use Rattle.tx_layout.specs.declared.styles.BoxStyle.{BoxStyle}
use Rattle.tx_layout.specs.declared.styles.GridStyle.{GridStyle}
use Rattle.tx_look.specs.Boxes.{grid_style}
use Rattle.tx_map.specs.LayoutMap.{Mapped, Place, Container, at_node, barred_row, child_place, container, content_size, entries, entries_from, entries_if, entries_with, entry_at, first_region, row_entries, screen_place, without_children}
use Rattle.tx_map.specs.Ordinary.{OrdinaryScenes}
use Rattle.tx_map.specs.Scene.{Scene, rows_of}
use Rattle.tx_map.specs.declared.entry.Entry.{Entry}
use Rattle.tx_read.specs.Reading.{◌>>=◌}
use Rattle.tx_scroll.specs.Bars.{arranged_in, barred_by, viewport}
use Rattle.tx_scroll.specs.Laws.{Arranges, DefinedWhereArranged, ShowsArrangement, bars_of}
use Rattle.tx_scroll.specs.declared.trials.Barred.{Barred}
use Rattle.tx_scroll.specs.declared.trials.Trial.{Trial}
use Rattle.tx_sizes.specs.Forest.{Styled, Forest, Empty, Grown}
use Rattle.tx_sizes.specs.Measures.{answer_of, boxes, is_taking_part, measures}
use Rattle.tx_sizes.specs.Ordinary.{AreOrdinary, AreOrdinaryPictures, IsOrdinaryStyled, OrdinaryRows, count_beside}
use Rattle.tx_tree.specs.Kind.{holds_children}
use Rattle.tx_value.specs.StyleReads as style

-- what is known of the layers below
pub record LowerLaws : Type 0 where
  pub children : OrdinaryChildren
  pub bars : DefinedWhereArranged
  pub shown : ShowsArrangement
  pub rows : OrdinaryRows

-- ---- bars

ok_of : {A F : Type 0} (P : A → Type 0) (r : Result A F) → IsOkAnd r P → IsOk r
ok_of P (Ok x) h = refl
ok_of P (Err fault) h = absurd h

abbrev ShowsShort : Barred → Type 0
ShowsShort b = HasShortRegions b.arrangement

bars_short : LowerLaws → (arrange : Arranges) (x y : Overflow) (content : Size) → ((bars : Trial) → IsOkAnd (arrange (viewport content bars)) HasShortRegions) → IsOkAnd (barred_by arrange x y content) ShowsShort
bars_short laws arrange x y content each =
    by (barred_by arrange x y content) refl (laws.bars arrange x y content (λ bars. ok_of HasShortRegions (arrange (viewport content bars)) (each bars)))
  where
    by : (r : Result Barred Axis) → barred_by arrange x y content ≡ r → IsOk r → IsOkAnd r ShowsShort
    by (Ok b) is h =
        let beside = laws.shown arrange x y content b is in
        subst (λ (r : Result Arrangement Axis). IsOkAnd r HasShortRegions) (ap arrange (sym beside.viewport) ∙ beside.arrangement) (each (bars_of b))
    by (Err axis) is h = absurd (let e : ⊥ = cc in e)

less_by : (down across : Bool) (content : Size) → IsOrdinarySize content → IsOrdinarySize (viewport content (record { across = across; down = down }))
less_by down across content h = let w = h.width in let t = h.height in record { width = omega (arith, w); height = omega (arith, t) }

arranged_short : LowerLaws → (m : Ask → Option ℕ) (kind : LayoutKind) (grid : GridStyle) (align : AlignX × AlignY) (children : List BoxStyle) (screen content : Size) → AreOrdinaryChildren children grid screen
    → AnswersOrdinary (length children) m → IsOrdinarySize content → (bars : Trial) → IsOkAnd (arranged_in m kind grid align children screen (viewport content bars)) HasShortRegions
unfolding arranged_in
arranged_short laws m kind grid align children screen content o answers h bars =
    laws.children.arrangement m kind grid align children (viewport content bars) screen o answers (less_by bars.down bars.across content h)

row_bars : LowerLaws → (scene : Scene) (row : Styled) (below : Forest) (content : Size) → AreOrdinaryPictures scene.pictures → IsOrdinarySize scene.size → IsOrdinaryStyled row.style → count_beside below ≤ 1000
    → AreOrdinary below → IsOrdinarySize content → IsOkAnd (barred_row scene.size row (boxes row.style below) (measures scene.pictures scene.size below) content) ShowsShort
unfolding barred_row
row_bars laws scene row below content p s o few h c = by (holds_children row.row.kind)
  where
    bars : Result Barred Axis
    bars = barred_by (arranged_in (answer_of (measures scene.pictures scene.size below)) (style.layout row.style) (grid_style row.style) (style.align row.style) (boxes row.style below) scene.size)
        (style.overflow_x row.style) (style.overflow_y row.style) content

    by : (b : Bool) → IsOkAnd (cond b bars (Ok (without_children content))) ShowsShort
    by true =
        bars_short laws (arranged_in (answer_of (measures scene.pictures scene.size below)) (style.layout row.style) (grid_style row.style) (style.align row.style) (boxes row.style below) scene.size)
        (style.overflow_x row.style) (style.overflow_y row.style) content
        (arranged_short laws (answer_of (measures scene.pictures scene.size below)) (style.layout row.style) (grid_style row.style) (style.align row.style) (boxes row.style below) scene.size content
        (laws.rows.children scene.size row.style below s o few h) (laws.rows.answers scene.pictures scene.size row.style below p s h) c)
    by false = All-nil (λ r. IfSome r IsShortRegion)

-- ---- entries

-- the children of a container are mapped wherever they have such regions
abbrev AreMapped : (Container → List (Option Region) → Mapped (List Entry)) → Type 0
AreMapped children = (above : Container) (regions : List (Option Region)) → All (λ r. IfSome r IsShortRegion) regions → IsOk (children above regions)

then_ok : {A B F : Type 0} (r : Result A F) (f : A → B) → IsOk r → IsOk (r >>= (λ x. let y : Result B F = Ok (f x) in y))
then_ok (Ok x) f h = refl
then_ok (Err fault) f h = h

both_ok : (own others : Mapped (List Entry)) → IsOk own → IsOk others → IsOk (own >>= (λ xs. others >>= (λ ys. let r : Mapped (List Entry) = Ok (xs ++ ys) in r)))
both_ok (Ok xs) (Ok ys) a b = refl
both_ok (Ok xs) (Err fault) a b = b
both_ok (Err fault) others a b = a

row_by : (scene : Scene) (row : Styled) (place : Place) (children : Container → List (Option Region) → Mapped (List Entry)) → AreMapped children → (r : Result Barred Axis) → IsOkAnd r ShowsShort
    → IsOk (at_node row.row.node r >>= entries_with scene row place children)
row_by scene row place children mapped (Ok b) h =
    then_ok (children (container scene row place b) b.arrangement.placed) (λ below. entry_at scene row place b ∷ below) (mapped (container scene row place b) b.arrangement.placed h)
row_by scene row place children mapped (Err axis) h = absurd h

-- a region of at most 2^23 columns and rows
record IsNearRegion (r : Region) : Type 0 where
  width : r.width ≤ 2 ^ 23
  height : r.height ≤ 2 ^ 23

near_of : (r : Region) → IsShortRegion r → IsNearRegion r
near_of r h = let w = h.width in let t = h.height in record { width = omega (arith, w); height = omega (arith, t) }

content_small : (row : Styled) (r : Region) → IsNearRegion r → IsOrdinarySize (content_size row r)
content_small row r h = let w = h.width in let t = h.height in record { width = omega (arith, w); height = omega (arith, t) }

row_ok : LowerLaws → (scene : Scene) (row : Styled) (below : Forest) (place : Place) → AreOrdinaryPictures scene.pictures → IsOrdinarySize scene.size → IsOrdinaryStyled row.style → count_beside below ≤ 1000
    → AreOrdinary below → IsNearRegion place.region → AreMapped (λ within. entries scene below within 0)
    → IsOk (row_entries scene row (boxes row.style below) (measures scene.pictures scene.size below) (λ within. entries scene below within 0) place)
unfolding row_entries
row_ok laws scene row below place p s o few h near mapped =
    row_by scene row place (λ within. entries scene below within 0) mapped (barred_row scene.size row (boxes row.style below) (measures scene.pictures scene.size below) (content_size row place.region))
    (row_bars laws scene row below (content_size row place.region) p s o few h (content_small row place.region near))

if_region : (f : Region → Mapped (List Entry)) (r : Option Region) → IfSome r IsShortRegion → ((one : Region) → IsShortRegion one → IsOk (f one)) → IsOk (entries_if f r)
if_region f None h k = refl
if_region f (Some one) h k = k one h

first_short : (regions : List (Option Region)) → All (λ r. IfSome r IsShortRegion) regions → IfSome (first_region regions) IsShortRegion
first_short [] h = tt
first_short (r ∷ regions) h = All-head (λ r. IfSome r IsShortRegion) r regions h

part_ok : (part : Bool) (own rest others : Mapped (List Entry)) → IsOk own → IsOk rest → IsOk others → IsOk (cond part (own >>= (λ xs. rest >>= (λ ys. let r : Mapped (List Entry) = Ok (xs ++ ys) in r))) others)
part_ok true own rest others a b c = both_ok own rest a b
part_ok false own rest others a b c = c

all_ok : LowerLaws → (scene : Scene) (f : Forest) (above : Container) (place : ℕ) (regions : List (Option Region)) → AreOrdinaryPictures scene.pictures → IsOrdinarySize scene.size → AreOrdinary f
    → All (λ r. IfSome r IsShortRegion) regions → IsOk (entries scene f above place regions)
unfolding entries
all_ok laws scene Empty above place regions p s h short = refl
all_ok laws scene (Grown row below beside) above place regions p s h short =
    part_ok (is_taking_part row) _ _ _
    (if_region (λ region. row_entries scene row (boxes row.style below) (measures scene.pictures scene.size below) (λ within. entries scene below within 0) (child_place above row place region)) (first_region regions)
    (first_short regions short)
    (λ region one. row_ok laws scene row below (child_place above row place region) p s h.0 h.1.0 h.1.1.0 (let n = near_of region one in record { width = n.width; height = n.height })
    (λ within rs inner. all_ok laws scene below within 0 rs p s h.1.1.0 inner)))
    (all_ok laws scene beside above (place + 1) (drop 1 regions) p s h.1.1.1 (All-drop (λ r. IfSome r IsShortRegion) 1 regions short))
    (all_ok laws scene beside above (place + 1) regions p s h.1.1.1 short)

map_ok : LowerLaws → (scene : Scene) (f : Forest) → AreOrdinaryPictures scene.pictures → IsOrdinarySize scene.size → AreOrdinary f → IsOk (entries_from scene f)
map_ok laws scene Empty p s h = refl
map_ok laws scene (Grown row below beside) p s h =
    row_ok laws scene row below (screen_place scene.size) p s h.0 h.1.0 h.1.1.0 (record { width = s.width; height = s.height }) (λ within rs inner. all_ok laws scene below within 0 rs p s h.1.1.0 inner)

pub ordinary_scenes : LowerLaws → OrdinaryScenes
ordinary_scenes laws scene o = map_ok laws scene (rows_of scene) o.pictures o.screen o.tree
