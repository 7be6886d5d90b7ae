-- The entries of the map of a tree.
use Rattle.std.proofs.Common.{◌≡◌, ℕ, List, [], ◌∷◌, ◌++◌, Option, Some, None, Result, Ok, Err, ◌∙◌, refl, sym, ap, subst}
use Rattle.tx_compose.specs.Presented.{Presented, map_of, styles_of, styling}
use Rattle.tx_compose.proofs.Owning.{HasEntries}
use Rattle.tx_map.specs.Laws.{NodesHaveOneEntry, ScreenFills}
use Rattle.tx_map.specs.LayoutMap.{Mapped, at_node, barred_row, container, content_size, entries, entries_from, entry_at, layout_map, row_entries, screen_place}
use Rattle.tx_map.specs.Present.{scene_of}
use Rattle.tx_map.specs.Scene.{Scene}
use Rattle.tx_map.specs.declared.entry.Entry.{Entry}
use Rattle.tx_node_map.specs.Held.{held}
use Rattle.tx_read.specs.Reading.{◌>>=◌}
use Rattle.tx_scroll.specs.declared.trials.Barred.{Barred}
use Rattle.tx_sizes.specs.Forest.{Forest, Empty, Grown, Styled, Styles, behind, depth, forest, styled, styled_rows, under}
use Rattle.tx_sizes.specs.Measures.{boxes, measures}
use Rattle.tx_tree.specs.WellFormed.{IsPreorder, IsTree}
use Rattle.tx_tree.specs.TreeValue.{TreeValue}
use Rattle.tx_tree.specs.declared.row.Row.{Row}

-- some entries are a first one and others
record HasFirst (all : List Entry) : Type 0 where
  first : Entry
  rest : List Entry
  is : all ≡ first ∷ rest

first_with : (below : Mapped (List Entry)) (entry : Entry) (all : List Entry) → (below >>= (λ others. Ok (entry ∷ others))) ≡ Ok all → HasFirst all
first_with (Ok others) entry all is = record { first = entry; rest = others; is = (let e : all ≡ entry ∷ others = cc in e) }
first_with (Err fault) entry all is = absurd (let e : Err fault ≡ Ok all = is in cc)

first_by : (bars : Mapped Barred) (below : Barred → Mapped (List Entry)) (entry : Barred → Entry) (all : List Entry)
    → (bars >>= (λ b. below b >>= (λ others. Ok (entry b ∷ others)))) ≡ Ok all → HasFirst all
first_by (Ok b) below entry all is = first_with (below b) (entry b) all is
first_by (Err fault) below entry all is = absurd (let e : Err fault ≡ Ok all = is in cc)

first_in : (scene : Scene) (row : Styled) (below beside : Forest) (all : List Entry) → entries_from scene (Grown row below beside) ≡ Ok all → HasFirst all
unfolding row_entries
first_in scene row below beside all is =
    first_by (at_node row.row.node (barred_row scene.size row (boxes row.style below) (measures scene.pictures scene.size below) (content_size row (screen_place scene.size).region)))
    (λ bars. entries scene below (container scene row (screen_place scene.size) bars) 0 bars.arrangement.placed) (entry_at scene row (screen_place scene.size)) all is

first_of : (scene : Scene) (row : Styled) (rows : List Styled) (all : List Entry) → entries_from scene (forest (row ∷ rows)) ≡ Ok all → HasFirst all
unfolding forest
first_of scene row rows all is = first_in scene row (under (depth row) (forest rows)) (behind (depth row) (forest rows)) all is

some_first : (shown : Presented) (rows : List Row) → shown.rows ≡ rows → (row : Row) (others : List Row) → rows ≡ row ∷ others → (all : List Entry) → map_of shown ≡ Ok all → HasFirst all
unfolding map_of
some_first shown rows same row others is all mapped =
    first_of (scene_of (styling shown) (held shown.scrolls) shown.size) (styled (styles_of shown) row) (styled_rows (styles_of shown) others) all
    (ap (λ (rs : List Row). entries_from (scene_of (styling shown) (held shown.scrolls) shown.size) (forest (styled_rows (styles_of shown) rs))) (sym (same ∙ is)) ∙ mapped)

tree_first : (tree : TreeValue) (rows : List Row) → tree.rows ≡ rows → IsTree tree → (row : Row) × (others : List Row) × (rows ≡ row ∷ others)
tree_first tree [] same is = absurd (subst IsPreorder same is.preorder)
tree_first tree (row ∷ others) same is = (row, others, refl)

pub has_entries : ScreenFills → NodesHaveOneEntry → (shown : Presented) (tree : TreeValue) → shown.rows ≡ tree.rows → IsTree tree → (all : List Entry) → map_of shown ≡ Ok all
    → HasEntries shown all
unfolding map_of
has_entries fills one shown tree same is all mapped =
    let t = tree_first tree tree.rows refl is in
    let f = some_first shown tree.rows same t.0 t.1 t.2 all mapped in
    record {
      first = f.first;
      rest = f.rest;
      all = f.is;
      fills = fills (scene_of (styling shown) (held shown.scrolls) shown.size) f.first f.rest (mapped ∙ ap (λ (l : List Entry). Ok l) f.is);
      one_each = one (scene_of (styling shown) (held shown.scrolls) shown.size) all (rw same is.once) mapped;
    }
