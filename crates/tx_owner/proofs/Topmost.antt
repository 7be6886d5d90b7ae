-- Panes that are sorted by their keys are topmost first.
use Rattle.std.proofs.Common.{◌≡◌, ℕ, ◌<◌, ◌∙◌, sym, ap, refl, Bool, true, false, not, ◌&&◌, ◌==◌, cond, nat_lt, List, [], ◌∷◌, map, ⊎_elim, arith, nat_cmp, is_lt, Ordering, Less, Equal, Greater}
use Rattle.std.specs.Prelude.{Option, Some, None, option_map, IsPermutation, IsSortedBy, if◌then◌else◌}
use Rattle.std.specs.Cmp.{IsStrictWeakOrder}
use Rattle.std.specs.Cmp.Lexicographic.{slice_cmp}
use Rattle.std.specs.List.{filter, find, list_any}
use Rattle.std.specs.List.Sorted.{IsStableBy}
use Rattle.std.specs.Ordering.{ordering_then}
use Rattle.std.proofs.lemmas.Bool.{cases_Bool, false≢true}
use Rattle.std.proofs.lemmas.Bool.Decides.{nat_tests}
use Rattle.std.proofs.lemmas.Cmp.{nat_list_cmp_total}
use Rattle.std.proofs.lemmas.List.MinMax.{IsStrictWeakOrder-flip, ranks_by}
use Rattle.tx_cascade.specs.Key.{exceeds, greatest, is_greatest}
use Rattle.tx_geom.specs.declared.places.Size.{Size}
use Rattle.tx_map.specs.declared.entry.Entry.{Entry}
use Rattle.tx_owner.specs.Owner.{Placed, all_at, is_seen, owner, placed_from, shows_at, topmost}
use Rattle.tx_owner.specs.Panes.{PaneValue, covers, first_at, has_cells, pane_of, panes, panes_of}
use Rattle.tx_owner.specs.Topmost.{AreTopmostFirst}
use Rattle.tx_sizes.specs.Forest.{Styles}
use Rattle.tx_owner.proofs.Filters.{any-mapped, any-same, find-mapped, find-same}
use Rattle.tx_owner.proofs.Greatest.{first_leads, leads, same_leader}
use Rattle.tx_owner.proofs.Cells.{covers-has, covers-shows}

-- ---- the order

-- one stands before another where its key is the greater
abbrev pub before : PaneValue → PaneValue → Bool
before one other = is_lt (slice_cmp nat_cmp other.key one.key)

pub before-order : IsStrictWeakOrder before
before-order = IsStrictWeakOrder-flip (λ one other. is_lt (slice_cmp nat_cmp one.key other.key)) (ranks_by nat_list_cmp_total (λ pane. pane.key))

exceeds-step : (x y : ℕ) (p : Bool) (o : Ordering) → p ≡ is_lt o → (if x == y then p else nat_lt y x) ≡ is_lt (ordering_then (nat_cmp y x) o)
exceeds-step x y p o same = by (nat_lt y x) (y == x) (x == y) refl refl refl
  where
    by : (l e f : Bool) → nat_lt y x ≡ l → (y == x) ≡ e → (x == y) ≡ f → (if f then p else l) ≡ is_lt (ordering_then (cond l Less (cond e Equal Greater)) o)
    by true e true a b c = absurd (grind (arith, nat_tests))
    by true e false a b c = refl
    by false true true a b c = same
    by false true false a b c = absurd (grind (arith, nat_tests))
    by false false true a b c = absurd (grind (arith, nat_tests))
    by false false false a b c = refl

pub exceeds-cmp : (xs ys : List ℕ) → exceeds xs ys ≡ is_lt (slice_cmp nat_cmp ys xs)
exceeds-cmp [] [] = refl
exceeds-cmp [] (y ∷ ys) = refl
exceeds-cmp (x ∷ xs) [] = refl
exceeds-cmp (x ∷ xs) (y ∷ ys) = exceeds-step x y (exceeds xs ys) (slice_cmp nat_cmp ys xs) (exceeds-cmp xs ys)

-- ---- the panes that cover a cell

module _ (styles : Styles) (size : Size) (x y : ℕ) (wide : x < size.width) (tall : y < size.height) where
  abbrev shows : Placed → Bool
  shows placed = shows_at styles x y placed.entry

  shown-step : (s h k : Bool) (a : Placed) (l : List Placed) (r : List PaneValue) → is_seen styles a.entry ≡ s → has_cells (pane_of size a) ≡ h → covers x y (pane_of size a) ≡ k
      → filter (covers x y) (panes_of styles size l) ≡ r
      → filter (covers x y) (panes_of styles size (a ∷ l)) ≡ cond (s && k) (pane_of size a ∷ r) r
  shown-step false h k a l r e f g rest = rw e rest
  shown-step true true true a l r e f g rest = rw e (rw f (rw g (ap (λ m. pane_of size a ∷ m) rest)))
  shown-step true true false a l r e f g rest = rw e (rw f (rw g rest))
  shown-step true false true a l r e f g rest = absurd (false≢true (sym f ∙ covers-has size x y a g))
  shown-step true false false a l r e f g rest = rw e (rw f rest)

  mapped : (b : Bool) (a : Placed) (l : List Placed) → cond b (pane_of size a ∷ map (pane_of size) l) (map (pane_of size) l) ≡ map (pane_of size) (cond b (a ∷ l) l)
  mapped true a l = refl
  mapped false a l = refl

  shown : (l : List Placed) → filter (covers x y) (panes_of styles size l) ≡ map (pane_of size) (filter shows l)
  shown [] = refl
  shown (a ∷ l) =
      shown-step (is_seen styles a.entry) (has_cells (pane_of size a)) (covers x y (pane_of size a)) a l (map (pane_of size) (filter shows l)) refl refl refl (shown l)
      ∙ (ap (λ b. cond b (pane_of size a ∷ map (pane_of size) (filter shows l)) (map (pane_of size) (filter shows l))) (sym (covers-shows styles size x y a wide tall))
      ∙ mapped (shows a) a (filter shows l))

  -- the greatest of those that show
  leader : (l : List Placed) → find (leads before before-order (map (pane_of size) l)) (map (pane_of size) l) ≡ option_map (pane_of size) (greatest (λ placed. placed.entry.key) l)
  leader l =
      find-mapped (pane_of size) (leads before before-order (map (pane_of size) l)) l
      ∙ ap (option_map (pane_of size)) (find-same (λ a. leads before before-order (map (pane_of size) l) (pane_of size a)) (is_greatest (λ placed. placed.entry.key) l) l
      (λ a. ap not (any-mapped (pane_of size) (λ b. before b (pane_of size a)) l
      ∙ any-same (λ b. before (pane_of size b) (pane_of size a)) (λ b. exceeds b.entry.key a.entry.key) l (λ b. sym (exceeds-cmp b.entry.key a.entry.key)))))

  places : (o : Option Placed) → option_map (λ pane. pane.place) (option_map (pane_of size) o) ≡ option_map (λ placed. placed.place) o
  places None = refl
  places (Some placed) = refl

  pub first_owner : (entries : List Entry) (ys : List PaneValue) → IsPermutation (panes styles entries size) ys → IsSortedBy before ys → IsStableBy before (panes styles entries size) ys
      → first_at x y ys ≡ option_map (λ placed. placed.place) (topmost styles entries x y)
  first_owner entries ys moved sorted stable =
      let xs : List PaneValue = panes styles entries size in
      ap (option_map (λ pane. pane.place))
      (first_leads before before-order (covers x y) ys sorted
      ∙ (same_leader before before-order (covers x y) xs ys moved stable
      ∙ (ap (λ l. find (leads before before-order l) l) (shown (placed_from 0 entries))
      ∙ leader (all_at styles entries x y))))
      ∙ places (topmost styles entries x y)

pub sorted_topmost : (styles : Styles) (entries : List Entry) (size : Size) (ys : List PaneValue) → IsPermutation (panes styles entries size) ys → IsSortedBy before ys → IsStableBy before (panes styles entries size) ys
    → AreTopmostFirst styles entries size ys
unfolding owner
sorted_topmost styles entries size ys moved sorted stable = λ x y wide tall. first_owner styles size x y wide tall entries ys moved sorted stable
