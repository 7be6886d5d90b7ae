-- Which rows have entries.
use Rattle.std.proofs.Common.{◌≡◌, ℕ, suc, ◌+◌, ◌<◌, ◌&&◌, ◌==◌, Bool, true, false, cond, List, [], ◌∷◌, ◌++◌, length, map, drop, get_or, Option, Some, None, is_some, Ok, Err, Result, ◌∙◌, refl, sym, ap, ap₂, subst, arith}
use Rattle.std.proofs.lemmas.List.{map-append}
use Rattle.std.specs.List.{flat_map, list_any}
use Rattle.tx_geom.specs.declared.choices.Axis.{Axis}
use Rattle.tx_geom.specs.declared.places.Region.{Region}
use Rattle.tx_geom.specs.declared.places.Size.{Size}
use Rattle.tx_layout.specs.Children.{layers, numbered}
use Rattle.tx_layout.specs.Laws.{CelledHaveRegions, celled}
use Rattle.tx_layout.specs.declared.children.Child.{Child}
use Rattle.tx_layout.specs.declared.styles.BoxStyle.{BoxStyle}
use Rattle.tx_look.specs.Boxes.{box_style, grid_style}
use Rattle.tx_map.specs.LayoutMap.{Mapped, Place, Container, barred_row, child_place, container, entries, entries_from, entries_if, first_region, row_entries, screen_place, without_children}
use Rattle.tx_map.specs.Laws.{ShownHaveEntries}
use Rattle.tx_map.specs.Scene.{Scene, rows_of}
use Rattle.tx_map.specs.Shown.{has_room, shown, shown_rows}
use Rattle.tx_map.specs.declared.entry.Entry.{Entry}
use Rattle.tx_map.proofs.Wholes.{is_mapped}
use Rattle.tx_read.specs.Reading.{◌>>=◌}
use Rattle.tx_scroll.specs.Bars.{arranged_in, barred}
use Rattle.tx_scroll.specs.Laws.{ShowsArrangement}
use Rattle.tx_scroll.specs.declared.trials.Barred.{Barred}
use Rattle.tx_sizes.specs.Forest.{Styled, Forest, Empty, Grown}
use Rattle.tx_sizes.specs.Measures.{Measure, answer_of, boxes, is_taking_part, measures}
use Rattle.tx_tree.specs.Kind.{holds_children}
use Rattle.tx_tree.specs.declared.row.NodeId.{NodeId}
use Rattle.tx_value.specs.StyleReads as style
use Rattle.tx_value.specs.declared.value.Value.{Value}

-- ---- regions

-- so many regions are there where there is room, from a number on
abbrev AreThere : ℕ → (ℕ → Bool) → ℕ → List (Option Region) → Type 0
AreThere count room k regions = (n : ℕ) → n < count → is_some (get_or regions n None) ≡ room (k + n)

no_region : (screen : Size) (content : Size) (b : Barred) → ◌≡◌ {A = Result Barred Axis} (Ok (without_children content)) (Ok b) → b.arrangement.placed ≡ []
no_region screen content b is = ap (λ (x : Barred). x.arrangement.placed) (sym (let e : without_children content ≡ b = cc in e))

module _ (celled_law : CelledHaveRegions) (shows_law : ShowsArrangement) where
  there_by : (screen : Size) (row : Styled) (bs : List BoxStyle) (ms : List Measure) (content : Size) (b : Barred) (n : ℕ) → n < length bs → (has : Bool)
      → cond has (barred (answer_of ms) (style.overflow_x row.style) (style.overflow_y row.style) (style.layout row.style) (grid_style row.style) (style.align row.style) bs content screen)
      (Ok (without_children content)) ≡ Ok b
      → is_some (get_or b.arrangement.placed n None) ≡ (has && list_any (λ (c : Child). c.place == n) (flat_map (celled (style.layout row.style) (grid_style row.style)) (layers (numbered 0 bs))))
  unfolding arranged_in
  there_by screen row bs ms content b n less true is =
      let arrange = arranged_in (answer_of ms) (style.layout row.style) (grid_style row.style) (style.align row.style) bs screen in
      let beside = shows_law arrange (style.overflow_x row.style) (style.overflow_y row.style) content b is in
      celled_law (answer_of ms) (style.layout row.style) (grid_style row.style) (style.align row.style) bs b.viewport screen b.arrangement beside.arrangement n less
  there_by screen row bs ms content b n less false is = ap (λ (regions : List (Option Region)). is_some (get_or regions n None)) (no_region screen content b is)

  there_at : (screen : Size) (row : Styled) (bs : List BoxStyle) (ms : List Measure) (content : Size) (b : Barred) → barred_row screen row bs ms content ≡ Ok b
      → (n : ℕ) → n < length bs → is_some (get_or b.arrangement.placed n None) ≡ has_room row bs n
  unfolding barred_row has_room
  there_at screen row bs ms content b is n less = there_by screen row bs ms content b n less (holds_children row.row.kind) is

  there : (screen : Size) (row : Styled) (bs : List BoxStyle) (ms : List Measure) (content : Size) (b : Barred) → barred_row screen row bs ms content ≡ Ok b
      → AreThere (length bs) (has_room row bs) 0 b.arrangement.placed
  there screen row bs ms content b is n less = there_at screen row bs ms content b is n less ∙ ap (has_room row bs) (let e : n ≡ 0 + n = omega arith in e)

  -- ---- entries

  abbrev nodes : List Entry → List NodeId
  nodes es = map (λ (e : Entry). e.node) es

  abbrev nodes_of : List Styled → List NodeId
  nodes_of rows = map (λ (row : Styled). row.row.node) rows

  -- a list of entries is of these rows
  abbrev Shows : List Styled → Mapped (List Entry) → Type 0
  Shows rows r = (es : List Entry) → r ≡ Ok es → nodes es ≡ nodes_of rows

  both_show : (front rows : List Styled) (own others : Mapped (List Entry)) → Shows front own → Shows rows others → Shows (front ++ rows) (own >>= (λ xs. others >>= (λ ys. Ok (xs ++ ys))))
  both_show front rows (Ok xs) (Ok ys) a b es is =
      ap nodes (sym (let e : xs ++ ys ≡ es = cc in e)) ∙ map-append (λ (e : Entry). e.node) xs ys ∙ ap₂ (λ (m n : List NodeId). m ++ n) (a xs refl) (b ys refl)
      ∙ sym (map-append (λ (row : Styled). row.row.node) front rows)
  both_show front rows (Ok xs) (Err fault) a b es is = cc
  both_show front rows (Err fault) others a b es is = cc

  none_shows : Shows [] (Ok [])
  none_shows es is = ap nodes (sym (let e : [] ≡ es = cc in e))

  first_is : (regions : List (Option Region)) → get_or regions 0 None ≡ first_region regions
  first_is [] = refl
  first_is (r ∷ rs) = refl

  later_is : (regions : List (Option Region)) (n : ℕ) → get_or (drop 1 regions) n None ≡ get_or regions (suc n) None
  later_is [] n = refl
  later_is (r ∷ rs) n = refl

  part_shows : (part : Bool) (box : BoxStyle) (bs : List BoxStyle) (room : ℕ → Bool) (k : ℕ) (regions : List (Option Region)) (front rows skipped : List Styled) (own rest others : Mapped (List Entry))
      → AreThere (length (cond part (box ∷ bs) bs)) room k regions
      → (is_some (first_region regions) ≡ room k → Shows front own)
      → (AreThere (length bs) room (k + 1) (drop 1 regions) → Shows rows rest)
      → (AreThere (length bs) room k regions → Shows skipped others)
      → Shows (cond part (front ++ rows) skipped) (cond part (own >>= (λ xs. rest >>= (λ ys. Ok (xs ++ ys)))) others)
  part_shows true box bs room k regions front rows skipped own rest others fits a b c =
      both_show front rows own rest
      (a (ap (λ (r : Option Region). is_some r) (sym (first_is regions)) ∙ fits 0 (omega arith) ∙ ap room (let e : k + 0 ≡ k = omega arith in e)))
      (b (λ n less. ap (λ (r : Option Region). is_some r) (later_is regions n) ∙ fits (suc n) (omega (arith, less)) ∙ ap room (let e : k + suc n ≡ (k + 1) + n = omega arith in e)))
  part_shows false box bs room k regions front rows skipped own rest others fits a b c = c fits

  row_shows : (scene : Scene) (row : Styled) (bs : List BoxStyle) (ms : List Measure) (place : Place) (children : Container → List (Option Region) → Mapped (List Entry)) (below : List Styled)
      → ((above : Container) (regions : List (Option Region)) → AreThere (length bs) (has_room row bs) 0 regions → Shows below (children above regions))
      → Shows (row ∷ below) (row_entries scene row bs ms children place)
  row_shows scene row bs ms place children below so es is =
      let m = is_mapped scene row bs ms place children es is in
      ap nodes m.all
      ∙ ap (λ (l : List NodeId). row.row.node ∷ l)
      (so (container scene row place m.bars) m.bars.arrangement.placed (there scene.size row bs ms _ m.bars m.barred) m.rest m.below)

  region_shows : (scene : Scene) (row : Styled) (bs : List BoxStyle) (ms : List Measure) (above : Container) (place : ℕ) (children : Container → List (Option Region) → Mapped (List Entry)) (below : List Styled)
      → ((within : Container) (regions : List (Option Region)) → AreThere (length bs) (has_room row bs) 0 regions → Shows below (children within regions))
      → (region : Option Region) (room : Bool) → is_some region ≡ room
      → Shows (cond room (row ∷ below) []) (entries_if (λ r. row_entries scene row bs ms children (child_place above row place r)) region)
  region_shows scene row bs ms above place children below so None room is = subst (λ (b : Bool). Shows (cond b (row ∷ below) []) (Ok [])) is none_shows
  region_shows scene row bs ms above place children below so (Some region) room is =
      subst (λ (b : Bool). Shows (cond b (row ∷ below) []) (row_entries scene row bs ms children (child_place above row place region))) is
      (row_shows scene row bs ms (child_place above row place region) children below so)

  all_show : (scene : Scene) (f : Forest) (own : List Value) (room : ℕ → Bool) (k : ℕ) (above : Container) (place : ℕ) (regions : List (Option Region))
      → AreThere (length (boxes own f)) room k regions → Shows (shown room k f) (entries scene f above place regions)
  unfolding entries
  all_show scene Empty own room k above place regions fits = none_shows
  all_show scene (Grown row below beside) own room k above place regions fits =
      part_shows (is_taking_part row) (box_style own row.style) (boxes own beside) room k regions _ _ _ _ _ _ fits
      (λ first. region_shows scene row (boxes row.style below) (measures scene.pictures scene.size below) above place (λ within. entries scene below within 0)
      (shown (has_room row (boxes row.style below)) 0 below) (λ within rs inner. all_show scene below row.style (has_room row (boxes row.style below)) 0 within 0 rs inner) (first_region regions) (room k) first)
      (λ rest. all_show scene beside own room (k + 1) above (place + 1) (drop 1 regions) rest)
      (λ rest. all_show scene beside own room k above (place + 1) regions rest)

  map_shows : (scene : Scene) (f : Forest) → Shows (shown_rows f) (entries_from scene f)
  map_shows scene Empty = none_shows
  map_shows scene (Grown row below beside) =
      row_shows scene row (boxes row.style below) (measures scene.pictures scene.size below) (screen_place scene.size) (λ within. entries scene below within 0)
      (shown (has_room row (boxes row.style below)) 0 below) (λ within rs inner. all_show scene below row.style (has_room row (boxes row.style below)) 0 within 0 rs inner)

pub shown_have_entries : CelledHaveRegions → ShowsArrangement → ShownHaveEntries
shown_have_entries celled_law shows_law scene es is = map_shows celled_law shows_law scene (rows_of scene) es is
