-- What holds of every map.
use Rattle.std.proofs.Common.{◌≡◌, ℕ, ◌+◌, Bool, true, false, cond, List, [], ◌∷◌, ◌++◌, drop, Option, Some, None, Result, Ok, Err, ◌∙◌, refl, sym, ap, subst, arith}
use Rattle.std.proofs.lemmas.Int.{ints, clamps}
use Rattle.std.proofs.lemmas.List.Elements.{All-append, All-cons, All-nil, All-weaker}
use Rattle.std.specs.Int.{int_max, int_min}
use Rattle.std.specs.Prelude.{ℤ, pos, negsuc, ◌+ℤ◌, ◌-ℤ◌, ◌==◌, ◌||◌, All}
use Rattle.tx_geom.specs.Region.{Holds, IsAmong, nothing_at}
use Rattle.tx_geom.specs.declared.choices.Axis.{Axis}
use Rattle.tx_geom.specs.declared.places.Offset.{Offset}
use Rattle.tx_geom.specs.declared.places.Region.{Region}
use Rattle.tx_layout.specs.Sides.{count_of}
use Rattle.tx_layout.specs.declared.styles.BoxStyle.{BoxStyle}
use Rattle.tx_map.specs.LayoutMap.{Mapped, Place, Container, at_node, barred_row, container, content_size, entries, entries_if, entries_from, entries_with, entry_at, first_region, row_entries, child_place, screen_place}
use Rattle.tx_map.specs.Laws.{FillsScreen, ScreenFills, IsClippedTo, SubtreesAreClipped}
use Rattle.tx_map.specs.Scene.{Scene, rows_of}
use Rattle.tx_map.specs.Subtrees.{rows_below, setting}
use Rattle.tx_map.specs.declared.entry.Entry.{Entry}
use Rattle.tx_map.proofs.Settings.{set_row, set_entries}
use Rattle.tx_read.specs.Reading.{◌>>=◌}
use Rattle.tx_scroll.specs.Clip.{clipped, common, common_columns, common_rows, overlap}
use Rattle.tx_scroll.specs.declared.trials.Barred.{Barred}
use Rattle.tx_sizes.specs.Forest.{Styled, Forest, Empty, Grown, depth, forest}
use Rattle.tx_sizes.specs.Laws.{AreDeeper, BeginsBeside, SubtreesStandAlone}
use Rattle.tx_sizes.specs.Measures.{Measure, boxes, is_taking_part, measures}

-- ---- subtrees

abbrev first_below : Forest → Forest
first_below Empty = Empty
first_below (Grown row below beside) = below

-- the rows below a row are the deeper ones behind it
pub alone : SubtreesStandAlone → (row : Styled) (below after : List Styled) → AreDeeper (depth row) below → BeginsBeside (depth row) after → rows_below row (below ++ after) ≡ forest below
unfolding forest
alone law row below after deeper beside = ap first_below (law row below after deeper beside)

abbrev pub entries_over : Scene → Styled → Forest → Place → Mapped (List Entry)
entries_over scene row f place = row_entries scene row (boxes row.style f) (measures scene.pictures scene.size f) (λ within. entries scene f within 0) place

-- only the setting counts
pub set_over : (scene : Scene) (row : Styled) (f : Forest) (place : Place) → entries_over scene row f place ≡ entries_over (setting scene.pictures scene.scrolls scene.size) row f place
set_over scene row f place =
    set_row scene row (boxes row.style f) (measures scene.pictures scene.size f) (λ within. entries scene f within 0) place
    ∙ ap (λ (es : Container → ℕ → List (Option Region) → Mapped (List Entry)). row_entries (setting scene.pictures scene.scrolls scene.size) row (boxes row.style f) (measures scene.pictures scene.size f) (λ within. es within 0) place) (set_entries scene f)

-- ---- what stands at the front

-- the entries of a row that is mapped are its own and those below it
pub record IsMapped (scene : Scene) (row : Styled) (bs : List BoxStyle) (ms : List Measure) (place : Place) (children : Container → List (Option Region) → Mapped (List Entry)) (es : List Entry) : Type 0 where
  pub bars : Barred
  pub rest : List Entry
  pub barred : barred_row scene.size row bs ms (content_size row place.region) ≡ Ok bars
  pub below : children (container scene row place bars) bars.arrangement.placed ≡ Ok rest
  pub all : es ≡ entry_at scene row place bars ∷ rest

mapped_below : (scene : Scene) (row : Styled) (bs : List BoxStyle) (ms : List Measure) (place : Place) (children : Container → List (Option Region) → Mapped (List Entry)) (es : List Entry) (bars : Barred)
    (r : Mapped (List Entry)) → barred_row scene.size row bs ms (content_size row place.region) ≡ Ok bars → children (container scene row place bars) bars.arrangement.placed ≡ r
    → (r >>= (λ below. Ok (entry_at scene row place bars ∷ below))) ≡ Ok es → IsMapped scene row bs ms place children es
mapped_below scene row bs ms place children es bars (Ok rest) barred below is = record { bars = bars; rest = rest; barred = barred; below = below; all = cc }
mapped_below scene row bs ms place children es bars (Err fault) barred below is = cc

mapped_row : (scene : Scene) (row : Styled) (bs : List BoxStyle) (ms : List Measure) (place : Place) (children : Container → List (Option Region) → Mapped (List Entry)) (es : List Entry) (r : Result Barred Axis)
    → barred_row scene.size row bs ms (content_size row place.region) ≡ r → (at_node row.row.node r >>= entries_with scene row place children) ≡ Ok es → IsMapped scene row bs ms place children es
mapped_row scene row bs ms place children es (Ok bars) eq is = mapped_below scene row bs ms place children es bars (children (container scene row place bars) bars.arrangement.placed) eq refl is
mapped_row scene row bs ms place children es (Err axis) eq is = cc

pub is_mapped : (scene : Scene) (row : Styled) (bs : List BoxStyle) (ms : List Measure) (place : Place) (children : Container → List (Option Region) → Mapped (List Entry)) (es : List Entry)
    → row_entries scene row bs ms children place ≡ Ok es → IsMapped scene row bs ms place children es
unfolding row_entries
is_mapped scene row bs ms place children es is = mapped_row scene row bs ms place children es (barred_row scene.size row bs ms (content_size row place.region)) refl is

-- ---- the Screen

filled : (scene : Scene) (entry : Entry) (entries : List Entry) (f : Forest) → entries_from scene f ≡ Ok (entry ∷ entries) → FillsScreen scene.size entry
filled scene entry rest Empty is = cc
filled scene entry rest (Grown row below beside) is =
    let m = is_mapped scene row (boxes row.style below) (measures scene.pictures scene.size below) (screen_place scene.size) (λ within. entries scene below within 0) (entry ∷ rest) is in
    let e : entry ≡ entry_at scene row (screen_place scene.size) m.bars = head_is _ _ rest m.rest m.all in
    record { region = ap (λ (x : Entry). x.region) e; clip = ap (λ (x : Entry). x.clip) e; key = ap (λ (x : Entry). x.key) e }
  where
    head_is : (a b : Entry) (xs ys : List Entry) → a ∷ xs ≡ b ∷ ys → a ≡ b
    head_is a b xs ys p = cc

pub screen_fills : ScreenFills
screen_fills scene entry rest is = filled scene entry rest (rows_of scene) is

-- ---- clips

among_later : (a b : ℤ) (m n : ℕ) (z : ℤ) → IsAmong (int_max a b) (common a m b n) z → IsAmong b n z
among_later a b m n z h = by (int_min (a +ℤ pos m) (b +ℤ pos n) -ℤ int_max a b) refl
  where
    by : (w : ℤ) → (int_min (a +ℤ pos m) (b +ℤ pos n) -ℤ int_max a b) ≡ w → IsAmong b n z
    by (pos k) is =
        let count : common a m b n ≡ k = ap count_of is in
        record { from_on = omega (arith, ints, clamps, h.from_on); before = omega (arith, ints, clamps, h.before, count, is) }
    by (negsuc k) is =
        let count : common a m b n ≡ 0 = ap count_of is in
        absurd (omega (arith, ints, h.from_on, h.before, count))

shown_by : (region by : Region) (none : Bool) (p : Offset) → Holds (cond none (nothing_at region) (overlap region by)) p → Holds by p
shown_by region by true p h = absurd (omega (arith, ints, h.column.from_on, h.column.before))
shown_by region by false p h = record {
  column = among_later region.x by.x region.width by.width p.x h.column;
  row = among_later region.y by.y region.height by.height p.y h.row;
}

clip_within : (region by : Region) (p : Offset) → Holds (clipped region by) p → Holds by p
clip_within region by p h = shown_by region by ((common_columns region by == 0) || (common_rows region by == 0)) p h

-- a list of entries shows nothing but in a region
abbrev pub AreClipped : Region → Mapped (List Entry) → Type 0
AreClipped region r = (es : List Entry) → r ≡ Ok es → All (IsClippedTo region) es

both_clipped : (region : Region) (own others : Mapped (List Entry)) → AreClipped region own → AreClipped region others → AreClipped region (own >>= (λ xs. others >>= (λ ys. Ok (xs ++ ys))))
both_clipped region (Ok xs) (Ok ys) a b es is = subst (All (IsClippedTo region)) (let e : xs ++ ys ≡ es = cc in e) (All-append (IsClippedTo region) xs ys (a xs refl) (b ys refl))
both_clipped region (Ok xs) (Err fault) a b es is = cc
both_clipped region (Err fault) others a b es is = cc

row_clipped : (scene : Scene) (row : Styled) (bs : List BoxStyle) (ms : List Measure) (place : Place) (children : Container → List (Option Region) → Mapped (List Entry))
    → ((above : Container) (regions : List (Option Region)) → AreClipped above.clip (children above regions)) → AreClipped place.clip (row_entries scene row bs ms children place)
row_clipped scene row bs ms place children clipped_so es is =
    let m = is_mapped scene row bs ms place children es is in
    let inner = clipped_so (container scene row place m.bars) m.bars.arrangement.placed m.rest m.below in
    let lower : All (IsClippedTo place.clip) m.rest = All-weaker (IsClippedTo (container scene row place m.bars).clip) (IsClippedTo place.clip)
    (λ e shown p h. clip_within (container scene row place m.bars).viewport place.clip p (shown p h)) m.rest inner in
    subst (All (IsClippedTo place.clip)) (sym m.all) (All-cons (IsClippedTo place.clip) (entry_at scene row place m.bars) m.rest (λ p h. h) lower)

region_clipped : (scene : Scene) (row : Styled) (bs : List BoxStyle) (ms : List Measure) (above : Container) (place : ℕ) (children : Container → List (Option Region) → Mapped (List Entry))
    → ((within : Container) (regions : List (Option Region)) → AreClipped within.clip (children within regions)) → (region : Option Region)
    → AreClipped above.clip (entries_if (λ r. row_entries scene row bs ms children (child_place above row place r)) region)
region_clipped scene row bs ms above place children so None es is = subst (All (IsClippedTo above.clip)) (let e : [] ≡ es = cc in e) (All-nil (IsClippedTo above.clip))
region_clipped scene row bs ms above place children so (Some region) es is = row_clipped scene row bs ms (child_place above row place region) children so es is

part_clipped : (region : Region) (part : Bool) (own rest others : Mapped (List Entry)) → AreClipped region own → AreClipped region rest → AreClipped region others
    → AreClipped region (cond part (own >>= (λ xs. rest >>= (λ ys. Ok (xs ++ ys)))) others)
part_clipped region true own rest others a b c = both_clipped region own rest a b
part_clipped region false own rest others a b c = c

pub all_clipped : (scene : Scene) (f : Forest) (above : Container) (place : ℕ) (regions : List (Option Region)) → AreClipped above.clip (entries scene f above place regions)
unfolding entries
all_clipped scene Empty above place regions es is = subst (All (IsClippedTo above.clip)) (let e : [] ≡ es = cc in e) (All-nil (IsClippedTo above.clip))
all_clipped scene (Grown row below beside) above place regions es is =
    part_clipped above.clip (is_taking_part row) _ _ _
    (region_clipped scene row (boxes row.style below) (measures scene.pictures scene.size below) above place (λ within. entries scene below within 0) (λ within rs. all_clipped scene below within 0 rs) (first_region regions))
    (all_clipped scene beside above (place + 1) (drop 1 regions))
    (all_clipped scene beside above (place + 1) regions) es is

pub subtrees_are_clipped : SubtreesAreClipped
subtrees_are_clipped scene row behind place es is =
    row_clipped scene row (boxes row.style (rows_below row behind)) (measures scene.pictures scene.size (rows_below row behind)) place (λ within. entries scene (rows_below row behind) within 0)
    (λ above regions. all_clipped scene (rows_below row behind) above 0 regions) es is
