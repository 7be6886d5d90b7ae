-- What the entries of a subtree depend on, and what is at the front of a map.
use Rattle.std.proofs.Common.{◌≡◌, ℕ, Bool, true, false, cond, List, [], ◌∷◌, ◌++◌, Option, Some, Ok, ◌∙◌, refl, sym, ap, ap₂, subst, arith}
use Rattle.std.proofs.lemmas.Int.{ints, clamps}
use Rattle.std.proofs.lemmas.List.Elements.{All-cons, All-head, All-nil, All-tail, All-weaker}
use Rattle.std.specs.Int.{int_max, int_min}
use Rattle.std.specs.Prelude.{ℤ, pos, negsuc, ◌+ℤ◌, ◌-ℤ◌, ◌==◌, ◌||◌, All}
use Rattle.tx_geom.specs.Region.{Holds, IsAmong, nothing_at}
use Rattle.tx_geom.specs.declared.places.Offset.{Offset}
use Rattle.tx_geom.specs.declared.places.Region.{Region}
use Rattle.tx_geom.specs.declared.places.Size.{Size}
use Rattle.tx_layout.specs.Sides.{count_of}
use Rattle.tx_layout.specs.declared.styles.BoxStyle.{BoxStyle}
use Rattle.tx_map.specs.LayoutMap.{Mapped, Place, Container, barred_row, container, entries, entries_from, entry_at, row_entries, screen_place, viewport_region}
use Rattle.tx_map.specs.Laws.{BeginsWithScreen, IsClippedTo, ScreenIsFirst, SubtreesArrange, SubtreesAreMapped, ViewportsClip}
use Rattle.tx_map.specs.Scene.{Scene, scroll_of}
use Rattle.tx_map.specs.Subtrees.{rows_below, setting}
use Rattle.tx_map.specs.declared.entry.Entry.{Entry}
use Rattle.tx_map.proofs.Settings.{Walk, step}
use Rattle.tx_map.proofs.Wholes.{all_clipped, alone, entries_over, is_mapped}
use Rattle.tx_node_map.specs.Held.{nothing}
use Rattle.tx_scroll.specs.Clip.{clipped, common, common_columns, common_rows, overlap}
use Rattle.tx_sizes.specs.Forest.{Styled, Forest, Empty, Grown, behind, depth, forest, preorder, styled, styled_rows, under}
use Rattle.tx_sizes.specs.Laws.{KeepsRows, SubtreesStandAlone}
use Rattle.tx_sizes.specs.Measures.{Measure, Pictures, boxes, container_measure, measures, own_measure, picture_of, row_measure, with_part}
use Rattle.tx_tree.specs.Kind.{holds_children}
use Rattle.tx_tree.specs.declared.row.Row.{Row}

-- ---- measures

-- the rows of two lists one behind the other
pub split : {A : Type 0} (P : A → Type 0) (xs ys : List A) → All P (xs ++ ys) → All P xs × All P ys
split P [] ys all = (All-nil P, all)
split P (x ∷ xs) ys all =
    let parts = split P xs ys (All-tail P x (xs ++ ys) all) in
    (All-cons P x xs (All-head P x (xs ++ ys) all) parts.0, parts.1)

module _ (pictures others : Pictures) (screen : Size) where
  abbrev IsSame : Styled → Type 0
  IsSame row = picture_of pictures row.row ≡ picture_of others row.row

  same_row : (row : Styled) (below : Forest) → IsSame row → measures pictures screen below ≡ measures others screen below
      → row_measure pictures screen row (boxes row.style below) (measures pictures screen below) ≡ row_measure others screen row (boxes row.style below) (measures others screen below)
  unfolding row_measure
  same_row row below same inner = by (holds_children row.row.kind)
    where
      by : (b : Bool)
          → cond b (container_measure screen row.style (boxes row.style below) (measures pictures screen below)) (own_measure (picture_of pictures row.row) row.row)
          ≡ cond b (container_measure screen row.style (boxes row.style below) (measures others screen below)) (own_measure (picture_of others row.row) row.row)
      by true = ap (λ ms. container_measure screen row.style (boxes row.style below) ms) inner
      by false = ap (λ picture. own_measure picture row.row) same

  same_measures : (f : Forest) → All IsSame (preorder f) → measures pictures screen f ≡ measures others screen f
  unfolding measures
  same_measures Empty all = refl
  same_measures (Grown row below beside) all =
      let same = All-head IsSame row (preorder below ++ preorder beside) all in
      let parts = split IsSame (preorder below) (preorder beside) (All-tail IsSame row (preorder below ++ preorder beside) all) in
      ap₂ (λ (m : Measure) (ms : List Measure). with_part row m ms) (same_row row below same (same_measures below parts.0)) (same_measures beside parts.1)

-- ---- bars

pub subtrees_arrange : SubtreesStandAlone → KeepsRows → SubtreesArrange
subtrees_arrange law keeps row below after other deeper a b pictures others same screen content =
    let f = forest below in
    let all : All (λ (one : Styled). picture_of pictures one.row ≡ picture_of others one.row) (preorder f) = subst (All (λ (one : Styled). picture_of pictures one.row ≡ picture_of others one.row)) (sym (keeps below)) same in
    ap (λ g. barred_row screen row (boxes row.style g) (measures pictures screen g) content) (alone law row below after deeper a)
    ∙ ap (λ ms. barred_row screen row (boxes row.style f) ms content) (same_measures pictures others screen f all)
    ∙ sym (ap (λ g. barred_row screen row (boxes row.style g) (measures others screen g) content) (alone law row below other deeper b))

-- ---- entries

-- all rows are scrolled so far
abbrev scrolled : ℕ × ℕ → Size → Scene
scrolled scroll size = setting nothing (λ n. Some scroll) size

-- a row's entries depend on its own scroll and the size of the screen alone
own_row : (scene : Scene) (row : Styled) (bs : List BoxStyle) (ms : List Measure) (children : Container → List (Option Region) → Mapped (List Entry)) (place : Place)
    → row_entries scene row bs ms children place ≡ row_entries (scrolled (scroll_of scene row) scene.size) row bs ms children place
unfolding row_entries
own_row scene row bs ms children place = refl

own_step : (scene : Scene) (row : Styled) (bs : List BoxStyle) (ms : List Measure) (below beside : Walk)
    → step scene row bs ms below beside ≡ step (scrolled (scroll_of scene row) scene.size) row bs ms below beside
unfolding row_entries
own_step scene row bs ms below beside = refl

grown : (scene : Scene) (row : Styled) (below beside : Forest)
    → entries scene (Grown row below beside) ≡ step scene row (boxes row.style below) (measures scene.pictures scene.size below) (entries scene below) (entries scene beside)
unfolding entries
grown scene row below beside = refl

none : (first second : Scene) → entries first Empty ≡ entries second Empty
unfolding entries
none first second = refl

module _ (first second : Scene) (size : first.size ≡ second.size) where
  abbrev AsDrawn : Styled → Type 0
  AsDrawn row = picture_of first.pictures row.row ≡ picture_of second.pictures row.row

  abbrev AsScrolled : Styled → Type 0
  AsScrolled row = scroll_of first row ≡ scroll_of second row

  both_measure : (f : Forest) → All AsDrawn (preorder f) → measures first.pictures first.size f ≡ measures second.pictures second.size f
  both_measure f drawn = same_measures first.pictures second.pictures first.size f drawn ∙ ap (λ (s : Size). measures second.pictures s f) size

  same_entries : (f : Forest) → All AsDrawn (preorder f) → All AsScrolled (preorder f) → entries first f ≡ entries second f
  same_entries Empty drawn moved = none first second
  same_entries (Grown row below beside) drawn moved =
      let bs = boxes row.style below in
      let d = split AsDrawn (preorder below) (preorder beside) (All-tail AsDrawn row (preorder below ++ preorder beside) drawn) in
      let m = split AsScrolled (preorder below) (preorder beside) (All-tail AsScrolled row (preorder below ++ preorder beside) moved) in
      let own = All-head AsScrolled row (preorder below ++ preorder beside) moved in
      grown first row below beside
      ∙ own_step first row bs (measures first.pictures first.size below) (entries first below) (entries first beside)
      ∙ ap (λ (scroll : ℕ × ℕ). step (scrolled scroll first.size) row bs (measures first.pictures first.size below) (entries first below) (entries first beside)) own
      ∙ ap (λ (s : Size). step (scrolled (scroll_of second row) s) row bs (measures first.pictures first.size below) (entries first below) (entries first beside)) size
      ∙ ap (λ (ms : List Measure). step (scrolled (scroll_of second row) second.size) row bs ms (entries first below) (entries first beside)) (both_measure below d.0)
      ∙ ap (λ (w : Walk). step (scrolled (scroll_of second row) second.size) row bs (measures second.pictures second.size below) w (entries first beside)) (same_entries below d.0 m.0)
      ∙ ap (λ (w : Walk). step (scrolled (scroll_of second row) second.size) row bs (measures second.pictures second.size below) (entries second below) w) (same_entries beside d.1 m.1)
      ∙ sym (own_step second row bs (measures second.pictures second.size below) (entries second below) (entries second beside))
      ∙ sym (grown second row below beside)

  same_over : (row : Styled) (f : Forest) (place : Place) → AsScrolled row → All AsDrawn (preorder f) → All AsScrolled (preorder f) → entries_over first row f place ≡ entries_over second row f place
  same_over row f place own drawn moved =
      let bs = boxes row.style f in
      own_row first row bs (measures first.pictures first.size f) (λ within. entries first f within 0) place
      ∙ ap (λ (scroll : ℕ × ℕ). row_entries (scrolled scroll first.size) row bs (measures first.pictures first.size f) (λ within. entries first f within 0) place) own
      ∙ ap (λ (s : Size). row_entries (scrolled (scroll_of second row) s) row bs (measures first.pictures first.size f) (λ within. entries first f within 0) place) size
      ∙ ap (λ (ms : List Measure). row_entries (scrolled (scroll_of second row) second.size) row bs ms (λ within. entries first f within 0) place) (both_measure f drawn)
      ∙ ap (λ (w : Walk). row_entries (scrolled (scroll_of second row) second.size) row bs (measures second.pictures second.size f) (λ within. w within 0) place) (same_entries f drawn moved)
      ∙ sym (own_row second row bs (measures second.pictures second.size f) (λ within. entries second f within 0) place)

pub subtrees_are_mapped : SubtreesStandAlone → KeepsRows → SubtreesAreMapped
subtrees_are_mapped law keeps row below after other deeper a b first second pictures scrolls size place =
    let f = forest below in
    let drawn : All (λ (one : Styled). picture_of first.pictures one.row ≡ picture_of second.pictures one.row) (preorder f) = subst (All (λ (one : Styled). picture_of first.pictures one.row ≡ picture_of second.pictures one.row)) (sym (keeps below)) pictures in
    let later : All (λ (one : Styled). scroll_of first one ≡ scroll_of second one) below = All-tail (λ (one : Styled). scroll_of first one ≡ scroll_of second one) row below scrolls in
    let moved : All (λ (one : Styled). scroll_of first one ≡ scroll_of second one) (preorder f) = subst (All (λ (one : Styled). scroll_of first one ≡ scroll_of second one)) (sym (keeps below)) later in
    ap (λ g. entries_over first row g place) (alone law row below after deeper a)
    ∙ same_over first second size row f place (All-head (λ (one : Styled). scroll_of first one ≡ scroll_of second one) row below scrolls) drawn moved
    ∙ sym (ap (λ g. entries_over second row g place) (alone law row below other deeper b))

-- ---- the Screen

filled : (scene : Scene) (row : Styled) (below beside : Forest) (es : List Entry) → entries_from scene (Grown row below beside) ≡ Ok es → BeginsWithScreen scene.size row.row es
filled scene row below beside es is =
    let m = is_mapped scene row (boxes row.style below) (measures scene.pictures scene.size below) (screen_place scene.size) (λ within. entries scene below within 0) es is in
    record {
      entry = entry_at scene row (screen_place scene.size) m.bars;
      others = m.rest;
      begins = m.all;
      node = refl;
      fills = record { region = refl; clip = refl; key = refl };
    }

first_row : (scene : Scene) (row : Styled) (rest : List Styled) (es : List Entry) → entries_from scene (forest (row ∷ rest)) ≡ Ok es → BeginsWithScreen scene.size row.row es
unfolding forest
first_row scene row rest es is = filled scene row (under (depth row) (forest rest)) (behind (depth row) (forest rest)) es is

pub screen_is_first : ScreenIsFirst
screen_is_first scene row rest es rows is =
    first_row scene (styled scene.styles row) (styled_rows scene.styles rest) es (sym (ap (λ (rs : List Row). entries_from scene (forest (styled_rows scene.styles rs))) rows) ∙ is)

-- ---- viewports

among_first : (a b : ℤ) (m n : ℕ) (z : ℤ) → IsAmong (int_max a b) (common a m b n) z → IsAmong a m z
among_first a b m n z h = by (int_min (a +ℤ pos m) (b +ℤ pos n) -ℤ int_max a b) refl
  where
    by : (w : ℤ) → (int_min (a +ℤ pos m) (b +ℤ pos n) -ℤ int_max a b) ≡ w → IsAmong a m z
    by (pos k) is =
        let count : common a m b n ≡ k = ap count_of is in
        record { from_on = omega (arith, ints, clamps, h.from_on); before = omega (arith, ints, clamps, h.before, count, is) }
    by (negsuc k) is =
        let count : common a m b n ≡ 0 = ap count_of is in
        absurd (omega (arith, ints, h.from_on, h.before, count))

shown_of : (region by : Region) (none : Bool) (p : Offset) → Holds (cond none (nothing_at region) (overlap region by)) p → Holds region p
shown_of region by true p h = absurd (omega (arith, ints, h.column.from_on, h.column.before))
shown_of region by false p h = record {
  column = among_first region.x by.x region.width by.width p.x h.column;
  row = among_first region.y by.y region.height by.height p.y h.row;
}

of_viewport : (region by : Region) (p : Offset) → Holds (clipped region by) p → Holds region p
of_viewport region by p h = shown_of region by ((common_columns region by == 0) || (common_rows region by == 0)) p h

same_head : (a b : Entry) (xs ys : List Entry) → a ∷ xs ≡ b ∷ ys → a ≡ b
same_head a b xs ys p = cc

same_tail : (a b : Entry) (xs ys : List Entry) → a ∷ xs ≡ b ∷ ys → xs ≡ ys
same_tail a b xs ys p = cc

pub viewports_clip : ViewportsClip
viewports_clip scene row behind place own below is =
    let f = rows_below row behind in
    let m = is_mapped scene row (boxes row.style f) (measures scene.pictures scene.size f) place (λ within. entries scene f within 0) (own ∷ below) is in
    let inner = all_clipped scene f (container scene row place m.bars) 0 m.bars.arrangement.placed m.rest m.below in
    let shown : All (IsClippedTo (viewport_region row place.region m.bars.viewport)) m.rest = All-weaker (IsClippedTo (container scene row place m.bars).clip) (IsClippedTo (viewport_region row place.region m.bars.viewport))
    (λ e shows p h. of_viewport (viewport_region row place.region m.bars.viewport) place.clip p (shows p h)) m.rest inner in
    let e : entry_at scene row place m.bars ≡ own = sym (same_head own (entry_at scene row place m.bars) below m.rest m.all) in
    let rest : m.rest ≡ below = sym (same_tail own (entry_at scene row place m.bars) below m.rest m.all) in
    subst (λ (x : Entry). All (IsClippedTo (viewport_region row x.region x.viewport)) below) e (subst (All (IsClippedTo (viewport_region row place.region m.bars.viewport))) rest shown)
