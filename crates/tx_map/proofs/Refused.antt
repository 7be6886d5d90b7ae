-- Which container is named where a map is undefined.
use Rattle.std.proofs.Common.{◌≡◌, ℕ, ◌+◌, Bool, true, false, cond, List, ◌∷◌, ◌++◌, drop, Option, Some, None, Result, Ok, Err, ◌∙◌, refl, ap, inl, inr}
use Rattle.tx_geom.specs.declared.choices.Axis.{Axis}
use Rattle.tx_geom.specs.declared.places.Region.{Region}
use Rattle.tx_map.specs.LayoutMap.{Mapped, Place, Container, at_node, barred_row, child_place, container, content_size, entries, entries_from, entries_if, entries_with, entry_at, first_region, row_entries, screen_place}
use Rattle.tx_map.specs.Laws.{IsRefused, RefusedAreNamed}
use Rattle.tx_map.specs.Scene.{Scene, rows_of}
use Rattle.tx_map.specs.declared.entry.Entry.{Entry}
use Rattle.tx_read.specs.Reading.{◌>>=◌}
use Rattle.tx_scroll.specs.declared.trials.Barred.{Barred}
use Rattle.tx_sizes.specs.Forest.{Styled, Forest, Empty, Grown}
use Rattle.tx_sizes.specs.Measures.{boxes, is_taking_part, measures}
use Rattle.tx_tree.specs.declared.row.NodeId.{NodeId}

same_fault : (a b : NodeId × Axis) → ◌≡◌ {A = Mapped (List Entry)} (Err a) (Err b) → a ≡ b
same_fault a b is = cc

-- adding an entry to some refuses nothing
under_entry : (e : Entry) (r : Mapped (List Entry)) (fault : NodeId × Axis) → (r >>= (λ below. Ok (e ∷ below))) ≡ Err fault → r ≡ Err fault
under_entry e (Ok es) fault is = cc
under_entry e (Err other) fault is = cc

module _ (scene : Scene) where
  abbrev Names : Forest → Mapped (List Entry) → Type 0
  Names f r = (node : NodeId) (axis : Axis) → r ≡ Err (node, axis) → IsRefused scene f node axis

  below_it : (row : Styled) (below beside : Forest) (node : NodeId) (axis : Axis) → IsRefused scene below node axis → IsRefused scene (Grown row below beside) node axis
  below_it row below beside node axis r = record { row = r.row; below = r.below; region = r.region; stands = inr (inl r.stands); is = r.is; refused = r.refused }

  beside_it : (row : Styled) (below beside : Forest) (node : NodeId) (axis : Axis) → IsRefused scene beside node axis → IsRefused scene (Grown row below beside) node axis
  beside_it row below beside node axis r = record { row = r.row; below = r.below; region = r.region; stands = inr (inr r.stands); is = r.is; refused = r.refused }

  row_by : (row : Styled) (below beside : Forest) (place : Place) (children : Container → List (Option Region) → Mapped (List Entry))
      → ((above : Container) (regions : List (Option Region)) → Names below (children above regions)) → (node : NodeId) (axis : Axis) (r : Result Barred Axis)
      → barred_row scene.size row (boxes row.style below) (measures scene.pictures scene.size below) (content_size row place.region) ≡ r
      → (at_node row.row.node r >>= entries_with scene row place children) ≡ Err (node, axis) → IsRefused scene (Grown row below beside) node axis
  row_by row below beside place children so node axis (Ok bars) eq is =
      below_it row below beside node axis (so (container scene row place bars) bars.arrangement.placed node axis
      (under_entry (entry_at scene row place bars) (children (container scene row place bars) bars.arrangement.placed) (node, axis) is))
  row_by row below beside place children so node axis (Err other) eq is =
      let same : ◌≡◌ {A = NodeId × Axis} (row.row.node, other) (node, axis) = same_fault (row.row.node, other) (node, axis) is in
      let along : other ≡ axis = ap (λ (p : NodeId × Axis). p.1) same in
      record { row = row; below = below; region = place.region; stands = inl (refl, refl); is = ap (λ (p : NodeId × Axis). p.0) same; refused = eq ∙ ap (λ (a : Axis). Err a) along }

  row_names : (row : Styled) (below beside : Forest) (place : Place) (children : Container → List (Option Region) → Mapped (List Entry))
      → ((above : Container) (regions : List (Option Region)) → Names below (children above regions))
      → Names (Grown row below beside) (row_entries scene row (boxes row.style below) (measures scene.pictures scene.size below) children place)
  unfolding row_entries
  row_names row below beside place children so node axis is =
      row_by row below beside place children so node axis (barred_row scene.size row (boxes row.style below) (measures scene.pictures scene.size below) (content_size row place.region)) refl is

  region_names : (row : Styled) (below beside : Forest) (above : Container) (place : ℕ) (children : Container → List (Option Region) → Mapped (List Entry))
      → ((within : Container) (regions : List (Option Region)) → Names below (children within regions)) → (region : Option Region)
      → Names (Grown row below beside) (entries_if (λ r. row_entries scene row (boxes row.style below) (measures scene.pictures scene.size below) children (child_place above row place r)) region)
  region_names row below beside above place children so None node axis is = cc
  region_names row below beside above place children so (Some region) node axis is = row_names row below beside (child_place above row place region) children so node axis is

  both_name : (f : Forest) (own others : Mapped (List Entry)) → Names f own → Names f others → Names f (own >>= (λ xs. others >>= (λ ys. Ok (xs ++ ys))))
  both_name f (Ok xs) (Ok ys) a b node axis is = cc
  both_name f (Ok xs) (Err fault) a b node axis is = b node axis is
  both_name f (Err fault) others a b node axis is = a node axis is

  part_names : (f : Forest) (part : Bool) (own rest others : Mapped (List Entry)) → Names f own → Names f rest → Names f others
      → Names f (cond part (own >>= (λ xs. rest >>= (λ ys. Ok (xs ++ ys)))) others)
  part_names f true own rest others a b c = both_name f own rest a b
  part_names f false own rest others a b c = c

  all_name : (f : Forest) (above : Container) (place : ℕ) (regions : List (Option Region)) → Names f (entries scene f above place regions)
  unfolding entries
  all_name Empty above place regions node axis is = cc
  all_name (Grown row below beside) above place regions node axis is =
      part_names (Grown row below beside) (is_taking_part row) _ _ _
      (region_names row below beside above place (λ within. entries scene below within 0) (λ within rs. all_name below within 0 rs) (first_region regions))
      (λ node axis is. beside_it row below beside node axis (all_name beside above (place + 1) (drop 1 regions) node axis is))
      (λ node axis is. beside_it row below beside node axis (all_name beside above (place + 1) regions node axis is)) node axis is

  map_names : (f : Forest) → Names f (entries_from scene f)
  map_names Empty node axis is = cc
  map_names (Grown row below beside) node axis is =
      row_names row below beside (screen_place scene.size) (λ within. entries scene below within 0) (λ above rs. all_name below above 0 rs) node axis is

pub refused_are_named : RefusedAreNamed
refused_are_named scene node axis is = map_names scene (rows_of scene) node axis is
