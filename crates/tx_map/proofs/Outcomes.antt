-- Which container is the first that is undefined.
use Rattle.std.proofs.Common.{◌≡◌, ℕ, ◌+◌, Bool, true, false, cond, List, [], ◌∷◌, ◌++◌, drop, Option, Some, None, Result, Ok, Err, ◌∙◌, refl, sym, ap, ap₂}
use Rattle.tx_geom.specs.declared.choices.Axis.{Axis}
use Rattle.tx_geom.specs.declared.places.Region.{Region}
use Rattle.tx_layout.specs.Steps.{each_of}
use Rattle.tx_map.specs.LayoutMap.{Mapped, Place, Container, at_node, barred_row, child_place, container, content_size, entries, entries_from, entries_if, entries_with, entry_at, first_region, row_entries, screen_place}
use Rattle.tx_map.specs.Outcomes.{FirstIsNamed, Outcome, all_outcomes, outcomes, outcomes_if, outcomes_with, row_outcomes}
use Rattle.tx_map.specs.Scene.{Scene, rows_of}
use Rattle.tx_map.specs.declared.entry.Entry.{Entry}
use Rattle.tx_read.specs.Reading.{◌>>=◌}
use Rattle.tx_scroll.specs.declared.trials.Barred.{Barred}
use Rattle.tx_sizes.specs.Forest.{Styled, Forest, Empty, Grown}
use Rattle.tx_sizes.specs.Measures.{boxes, is_taking_part, measures}

-- all entries, or the first that is none
abbrev gathered : List Outcome → Mapped (List Entry)
gathered all = each_of (λ (one : Outcome). one) all

again : (r : Mapped (List Entry)) → r ≡ (r >>= (λ ys. Ok ys))
again (Ok es) = refl
again (Err fault) = refl

first_of_both : (e : Entry) (r s : Mapped (List Entry)) → ((r >>= (λ xs. s >>= (λ ys. Ok (xs ++ ys)))) >>= (λ zs. Ok (e ∷ zs))) ≡ ((r >>= (λ zs. Ok (e ∷ zs))) >>= (λ xs. s >>= (λ ys. Ok (xs ++ ys))))
first_of_both e (Ok xs) (Ok ys) = refl
first_of_both e (Ok xs) (Err fault) = refl
first_of_both e (Err fault) s = refl

gathered_both : (xs ys : List Outcome) → gathered (xs ++ ys) ≡ (gathered xs >>= (λ es. gathered ys >>= (λ fs. Ok (es ++ fs))))
gathered_both [] ys = again (gathered ys)
gathered_both (Ok e ∷ xs) ys = ap (λ (r : Mapped (List Entry)). r >>= (λ zs. Ok (e ∷ zs))) (gathered_both xs ys) ∙ first_of_both e (gathered xs) (gathered ys)
gathered_both (Err fault ∷ xs) ys = refl

module _ (scene : Scene) where
  with_gathered : (row : Styled) (place : Place) (children : Container → List (Option Region) → Mapped (List Entry)) (below : Container → List (Option Region) → List Outcome)
      → ((within : Container) (regions : List (Option Region)) → children within regions ≡ gathered (below within regions)) → (r : Result Barred Axis)
      → (at_node row.row.node r >>= entries_with scene row place children) ≡ gathered (outcomes_with scene row place below r)
  with_gathered row place children below so (Ok bars) =
      ap (λ (r : Mapped (List Entry)). r >>= (λ es. Ok (entry_at scene row place bars ∷ es))) (so (container scene row place bars) bars.arrangement.placed)
  with_gathered row place children below so (Err axis) = refl

  row_gathered : (row : Styled) (f : Forest) (place : Place) (children : Container → List (Option Region) → Mapped (List Entry)) (below : Container → List (Option Region) → List Outcome)
      → ((within : Container) (regions : List (Option Region)) → children within regions ≡ gathered (below within regions))
      → row_entries scene row (boxes row.style f) (measures scene.pictures scene.size f) children place ≡ gathered (row_outcomes scene row f below place)
  unfolding row_entries
  row_gathered row f place children below so =
      with_gathered row place children below so (barred_row scene.size row (boxes row.style f) (measures scene.pictures scene.size f) (content_size row place.region))

  region_gathered : (row : Styled) (f : Forest) (above : Container) (place : ℕ) (children : Container → List (Option Region) → Mapped (List Entry)) (below : Container → List (Option Region) → List Outcome)
      → ((within : Container) (regions : List (Option Region)) → children within regions ≡ gathered (below within regions)) → (region : Option Region)
      → entries_if (λ r. row_entries scene row (boxes row.style f) (measures scene.pictures scene.size f) children (child_place above row place r)) region
      ≡ gathered (outcomes_if (λ r. row_outcomes scene row f below (child_place above row place r)) region)
  region_gathered row f above place children below so None = refl
  region_gathered row f above place children below so (Some region) = row_gathered row f (child_place above row place region) children below so

  part_gathered : (part : Bool) (own rest others : Mapped (List Entry)) (xs ys zs : List Outcome) → own ≡ gathered xs → rest ≡ gathered ys → others ≡ gathered zs
      → cond part (own >>= (λ es. rest >>= (λ fs. Ok (es ++ fs)))) others ≡ gathered (cond part (xs ++ ys) zs)
  part_gathered true own rest others xs ys zs a b c =
      ap₂ (λ (r s : Mapped (List Entry)). r >>= (λ es. s >>= (λ fs. Ok (es ++ fs)))) a b ∙ sym (gathered_both xs ys)
  part_gathered false own rest others xs ys zs a b c = c

  all_gathered : (f : Forest) (above : Container) (place : ℕ) (regions : List (Option Region)) → entries scene f above place regions ≡ gathered (outcomes scene f above place regions)
  unfolding entries
  all_gathered Empty above place regions = refl
  all_gathered (Grown row below beside) above place regions =
      part_gathered (is_taking_part row) _ _ _
      (outcomes_if (λ region. row_outcomes scene row below (λ within. outcomes scene below within 0) (child_place above row place region)) (first_region regions))
      (outcomes scene beside above (place + 1) (drop 1 regions)) (outcomes scene beside above (place + 1) regions)
      (region_gathered row below above place (λ within. entries scene below within 0) (λ within. outcomes scene below within 0) (λ within rs. all_gathered below within 0 rs) (first_region regions))
      (all_gathered beside above (place + 1) (drop 1 regions))
      (all_gathered beside above (place + 1) regions)

  map_gathered : (f : Forest) → entries_from scene f ≡ gathered (all_outcomes scene f)
  map_gathered Empty = refl
  map_gathered (Grown row below beside) =
      row_gathered row below (screen_place scene.size) (λ within. entries scene below within 0) (λ within. outcomes scene below within 0) (λ within rs. all_gathered below within 0 rs)

pub first_is_named : FirstIsNamed
first_is_named scene = map_gathered scene (rows_of scene)
