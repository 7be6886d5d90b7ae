-- How far entries are scrolled.
use Rattle.std.proofs.Common.{◌≡◌, ℕ, ◌+◌, ◌≤◌, Bool, true, false, cond, List, [], ◌∷◌, ◌++◌, drop, Option, Some, None, Ok, Err, ◌∙◌, refl, sym, ap, subst, arith}
use Rattle.std.proofs.lemmas.List.Elements.{All-append, All-cons, All-head, All-nil, All-tail}
use Rattle.std.specs.Prelude.{All}
use Rattle.tx_geom.specs.declared.choices.Overflow.{Overflow}
use Rattle.tx_geom.specs.declared.choices.Overflow.TheVariants.{Auto, Hidden, Scroll}
use Rattle.tx_geom.specs.declared.places.Region.{Region}
use Rattle.tx_layout.specs.declared.styles.BoxStyle.{BoxStyle}
use Rattle.tx_map.specs.LayoutMap.{Mapped, Place, Container, child_place, container, entries, entries_from, entries_if, entry_at, first_region, row_entries, screen_place}
use Rattle.tx_map.specs.Laws.{KeepsScroll, ScrollsAreKept, style_at}
use Rattle.tx_map.specs.Scene.{Scene, rows_of, scroll_of}
use Rattle.tx_map.specs.declared.entry.Entry.{Entry}
use Rattle.tx_map.proofs.Subtrees.{split}
use Rattle.tx_map.proofs.Wholes.{is_mapped}
use Rattle.tx_read.specs.Reading.{◌>>=◌}
use Rattle.tx_scroll.specs.Scroll.{kept_along}
use Rattle.tx_scroll.specs.declared.trials.Barred.{Barred}
use Rattle.tx_sizes.specs.Forest.{Styled, Forest, Empty, Grown, preorder, styled, styled_rows}
use Rattle.tx_sizes.specs.Laws.{KeepsRows}
use Rattle.tx_sizes.specs.Measures.{Measure, boxes, is_taking_part, measures}
use Rattle.tx_tree.specs.declared.row.Row.{Row}
use Rattle.tx_value.specs.StyleReads.{overflow_x, overflow_y}
use Rattle.tx_value.specs.declared.value.Value.{Value}

at_most : (o : Overflow) (over scroll : ℕ) → kept_along o over scroll ≤ over
at_most Auto over scroll = omega arith
at_most Hidden over scroll = omega arith
at_most Scroll over scroll = omega arith

stays : (o : Overflow) (over scroll : ℕ) → o ≡ Hidden → kept_along o over scroll ≡ 0
stays o over scroll is = ap (λ (x : Overflow). kept_along x over scroll) is

module _ (scene : Scene) where
  -- a row has the style of its node
  abbrev IsStyled : Styled → Type 0
  IsStyled row = style_at scene row.row.node ≡ row.style

  abbrev Kept : Mapped (List Entry) → Type 0
  Kept r = (es : List Entry) → r ≡ Ok es → All (KeepsScroll scene) es

  own_kept : (row : Styled) (place : Place) (bars : Barred) → IsStyled row → KeepsScroll scene (entry_at scene row place bars)
  own_kept row place bars is = record {
    across = at_most (overflow_x row.style) bars.arrangement.over.width (scroll_of scene row).0;
    down = at_most (overflow_y row.style) bars.arrangement.over.height (scroll_of scene row).1;
    across_hidden = λ h. stays (overflow_x row.style) bars.arrangement.over.width (scroll_of scene row).0 (sym (ap (λ (own : List Value). overflow_x own) is) ∙ h);
    down_hidden = λ h. stays (overflow_y row.style) bars.arrangement.over.height (scroll_of scene row).1 (sym (ap (λ (own : List Value). overflow_y own) is) ∙ h);
  }

  none_kept : Kept (Ok [])
  none_kept es is = subst (All (KeepsScroll scene)) (let e : [] ≡ es = cc in e) (All-nil (KeepsScroll scene))

  both_kept : (own others : Mapped (List Entry)) → Kept own → Kept others → Kept (own >>= (λ xs. others >>= (λ ys. Ok (xs ++ ys))))
  both_kept (Ok xs) (Ok ys) a b es is = subst (All (KeepsScroll scene)) (let e : xs ++ ys ≡ es = cc in e) (All-append (KeepsScroll scene) xs ys (a xs refl) (b ys refl))
  both_kept (Ok xs) (Err fault) a b es is = cc
  both_kept (Err fault) others a b es is = cc

  row_kept : (row : Styled) (bs : List BoxStyle) (ms : List Measure) (place : Place) (children : Container → List (Option Region) → Mapped (List Entry))
      → IsStyled row → ((above : Container) (regions : List (Option Region)) → Kept (children above regions)) → Kept (row_entries scene row bs ms children place)
  row_kept row bs ms place children own so es is =
      let m = is_mapped scene row bs ms place children es is in
      subst (All (KeepsScroll scene)) (sym m.all)
      (All-cons (KeepsScroll scene) (entry_at scene row place m.bars) m.rest (own_kept row place m.bars own) (so (container scene row place m.bars) m.bars.arrangement.placed m.rest m.below))

  region_kept : (row : Styled) (bs : List BoxStyle) (ms : List Measure) (above : Container) (place : ℕ) (children : Container → List (Option Region) → Mapped (List Entry))
      → IsStyled row → ((within : Container) (regions : List (Option Region)) → Kept (children within regions)) → (region : Option Region)
      → Kept (entries_if (λ r. row_entries scene row bs ms children (child_place above row place r)) region)
  region_kept row bs ms above place children own so None = none_kept
  region_kept row bs ms above place children own so (Some region) = row_kept row bs ms (child_place above row place region) children own so

  part_kept : (part : Bool) (own rest others : Mapped (List Entry)) → Kept own → Kept rest → Kept others → Kept (cond part (own >>= (λ xs. rest >>= (λ ys. Ok (xs ++ ys)))) others)
  part_kept true own rest others a b c = both_kept own rest a b
  part_kept false own rest others a b c = c

  all_kept : (f : Forest) → All IsStyled (preorder f) → (above : Container) (place : ℕ) (regions : List (Option Region)) → Kept (entries scene f above place regions)
  unfolding entries
  all_kept Empty own above place regions = none_kept
  all_kept (Grown row below beside) own above place regions =
      let parts = split IsStyled (preorder below) (preorder beside) (All-tail IsStyled row (preorder below ++ preorder beside) own) in
      part_kept (is_taking_part row) _ _ _
      (region_kept row (boxes row.style below) (measures scene.pictures scene.size below) above place (λ within. entries scene below within 0) (All-head IsStyled row (preorder below ++ preorder beside) own) (λ within rs. all_kept below parts.0 within 0 rs) (first_region regions))
      (all_kept beside parts.1 above (place + 1) (drop 1 regions))
      (all_kept beside parts.1 above (place + 1) regions)

  map_kept : (f : Forest) → All IsStyled (preorder f) → Kept (entries_from scene f)
  map_kept Empty own = none_kept
  map_kept (Grown row below beside) own =
      let parts = split IsStyled (preorder below) (preorder beside) (All-tail IsStyled row (preorder below ++ preorder beside) own) in
      row_kept row (boxes row.style below) (measures scene.pictures scene.size below) (screen_place scene.size) (λ within. entries scene below within 0)
      (All-head IsStyled row (preorder below ++ preorder beside) own) (λ above rs. all_kept below parts.0 above 0 rs)

  all_styled : (rows : List Row) → All IsStyled (styled_rows scene.styles rows)
  all_styled [] = All-nil IsStyled
  all_styled (row ∷ rows) = All-cons IsStyled (styled scene.styles row) (styled_rows scene.styles rows) refl (all_styled rows)

pub scrolls_are_kept : KeepsRows → ScrollsAreKept
scrolls_are_kept keeps scene es is =
    let own : All (λ (row : Styled). style_at scene row.row.node ≡ row.style) (preorder (rows_of scene)) = subst (All (λ (row : Styled). style_at scene row.row.node ≡ row.style)) (sym (keeps (styled_rows scene.styles scene.rows))) (all_styled scene scene.rows) in
    map_kept scene (rows_of scene) own es is
