-- The loop over the children of a container.
use Rattle.std.proofs.Common.{◌≡◌, ℕ, suc, ◌+◌, ◌*◌, ◌≤◌, Bool, true, false, cond, List, [], ◌∷◌, drop, Option, ◌∙◌, refl, sym, ap, arith}
use Rattle.std.proofs.lemmas.List.{drop-drop}
use Rattle.tx_geom.specs.declared.places.Region.{Region}
use Rattle.tx_io.specs.declared.steps.Tick.{Tick}
use Rattle.tx_map.specs.Faults.{told, IsBehind}
use Rattle.tx_map.specs.LayoutMap.{Container, entries, first_region}
use Rattle.tx_map.specs.Scene.{Scene}
use Rattle.tx_map.specs.Subtrees.{child_entries, children_entries, regions_taken}
use Rattle.tx_map.specs.Ticks.{ArrangedAtMost, container_number, containers_below}
use Rattle.tx_map.specs.declared.entry.Entry.{Entry}
use Rattle.tx_map.specs.declared.fault.ComposeFault.{ComposeFault}
use Rattle.tx_map.proofs.Adding.{ahead, IsSoFar, none_so_far, more_so_far, refused_so_far, all_so_far, next_entries}
use Rattle.tx_map.proofs.Rows.{Child, Passed, containers_next, from, passed_none, passed_next}
use Rattle.tx_map.proofs.Ticking.{arranged_none, arranged_both, arranged_more}
use Rattle.tx_read.specs.Answer.{Tells}
use Rattle.tx_read.specs.Reading.{◌>>=◌}
use Rattle.tx_sizes.specs.Forest.{Styled, Empty, depth}
use Rattle.tx_sizes.specs.Measures.{is_taking_part}

-- the children before a place were gone over: their entries were added, and so many of the regions were theirs
pub record IsGoneOver {L : Type 0} (ticked : L → Tick → L → Type 0) (scene : Scene) (d : ℕ) (rows : List Styled) (above : Container) (regions : List (Option Region))
    (old new : List Entry) (before after : L) (at next place : ℕ) : Type 0 where
  pub so_far : IsSoFar old new (children_entries scene d rows above regions) (entries scene (from d rows at) above place (drop next regions))
  pub passed : Passed d rows at
  pub containers : ℕ
  pub counted : containers_below d rows ≡ containers + containers_below d (drop at rows)
  pub ticks : ArrangedAtMost ticked (4 * containers) before after
  pub placed : place ≤ at
  pub taken : next ≤ at

pub gone_none : {L : Type 0} (ticked : L → Tick → L → Type 0) (scene : Scene) (d : ℕ) (rows : List Styled) (above : Container) (regions : List (Option Region)) (old : List Entry) (before : L)
    → IsGoneOver ticked scene d rows above regions old old before before 0 0 0
gone_none ticked scene d rows above regions old before = record {
  so_far = none_so_far old (children_entries scene d rows above regions);
  passed = passed_none d rows;
  containers = 0;
  counted = omega arith;
  ticks = arranged_none ticked 0 before;
  placed = omega arith;
  taken = omega arith;
}

few_taken : (row : Styled) (taken : ℕ) → taken ≡ regions_taken row → taken ≤ 1
few_taken row taken is = few_by (is_taking_part row) taken is
  where
    few_by : (part : Bool) (n : ℕ) → n ≡ cond part 1 0 → n ≤ 1
    few_by true n e = omega (arith, e)
    few_by false n e = omega (arith, e)

-- the entries of the next child, by the region that is its own
child_next : (scene : Scene) {d at then : ℕ} {rows : List Styled} {row : Styled} (above : Container) (place next : ℕ) (regions : List (Option Region)) (region : Option Region) (taken : ℕ)
    → Child d rows at row then → region ≡ first_region (drop next regions) → taken ≡ regions_taken row
    → entries scene (from d rows at) above place (drop next regions)
    ≡ (child_entries scene row (drop (suc at) rows) above place (region ∷ []) >>= (λ es. ahead es (entries scene (from d rows then) above (place + 1) (drop (next + taken) regions))))
child_next scene {d} {at} {then} {rows} {row} above place next regions region taken child is count =
    let later : drop (regions_taken row) (drop next regions) ≡ drop (next + taken) regions =
    drop-drop (regions_taken row) next regions ∙ ap (λ n. drop (next + n) regions) (sym count) in
    next_entries scene above place (drop next regions) child
    ∙ ap (λ r. child_entries scene row (drop (suc at) rows) above place (r ∷ []) >>= (λ es. ahead es (entries scene (from d rows then) above (place + 1) (drop (regions_taken row) (drop next regions))))) (sym is)
    ∙ ap (λ rs. child_entries scene row (drop (suc at) rows) above place (region ∷ []) >>= (λ es. ahead es (entries scene (from d rows then) above (place + 1) rs))) later

pub gone_next : {L : Type 0} {ticked : L → Tick → L → Type 0} {scene : Scene} {d : ℕ} {rows : List Styled} {above : Container} {regions : List (Option Region)} {old new newer : List Entry}
    {before after later : L} {at next place then : ℕ} {row : Styled} (region : Option Region) (taken : ℕ)
    → IsGoneOver ticked scene d rows above regions old new before after at next place → Child d rows at row then
    → region ≡ first_region (drop next regions) → taken ≡ regions_taken row
    → IsBehind new newer (child_entries scene row (drop (suc at) rows) above place (region ∷ []))
    → ArrangedAtMost ticked (4 * (container_number row.row + containers_below (depth row) (drop (suc at) rows))) after later
    → IsGoneOver ticked scene d rows above regions old newer before later then (next + taken) (place + 1)
gone_next {ticked = ticked} {scene = scene} {d = d} {rows = rows} {above = above} {regions = regions} {at = at} {next = next} {place = place} {then = then} {row = row} region taken gone child is count own ticks =
    let some : taken ≤ 1 = few_taken row taken count in
    record {
      so_far = more_so_far gone.so_far (child_next scene above place next regions region taken child is count) own;
      passed = passed_next gone.passed child;
      containers = gone.containers + (container_number row.row + containers_below (depth row) (drop (suc at) rows));
      counted = let next = containers_next child in omega (arith, gone.counted, next);
      ticks = arranged_more (arranged_both gone.ticks ticks) (omega arith);
      placed = omega (arith, gone.placed, child.then);
      taken = omega (arith, gone.taken, child.then, some);
    }

-- at the end all are there
pub gone_all : {L : Type 0} {ticked : L → Tick → L → Type 0} {scene : Scene} {d : ℕ} {rows : List Styled} {above : Container} {regions : List (Option Region)} {old new : List Entry}
    {before after : L} {at next place : ℕ} → IsGoneOver ticked scene d rows above regions old new before after at next place → from d rows at ≡ Empty
    → IsBehind old new (children_entries scene d rows above regions)
unfolding entries
gone_all {scene = scene} {above = above} {regions = regions} {next = next} {place = place} gone none =
    all_so_far gone.so_far (ap (λ f. entries scene f above place (drop next regions)) none)

pub gone_ticks : {L : Type 0} {ticked : L → Tick → L → Type 0} {scene : Scene} {d : ℕ} {rows : List Styled} {above : Container} {regions : List (Option Region)} {old new : List Entry}
    {before after : L} {at next place : ℕ} → IsGoneOver ticked scene d rows above regions old new before after at next place
    → ArrangedAtMost ticked (4 * containers_below d rows) before after
gone_ticks gone = arranged_more gone.ticks (omega (arith, gone.counted))

-- a child is refused
pub gone_refused : {L : Type 0} {ticked : L → Tick → L → Type 0} {scene : Scene} {d : ℕ} {rows : List Styled} {above : Container} {regions : List (Option Region)} {old new : List Entry}
    {before after : L} {at next place then : ℕ} {row : Styled} (region : Option Region) (fault : ComposeFault)
    → IsGoneOver ticked scene d rows above regions old new before after at next place → Child d rows at row then
    → region ≡ first_region (drop next regions)
    → Tells (told fault) (child_entries scene row (drop (suc at) rows) above place (region ∷ []))
    → Tells (told fault) (children_entries scene d rows above regions)
gone_refused {scene = scene} {above = above} {regions = regions} {next = next} {place = place} {row = row} region fault gone child is said =
    refused_so_far _ _ fault gone.so_far (child_next scene above place next regions region (regions_taken row) child is refl) said

pub gone_refused_ticks : {L : Type 0} {ticked : L → Tick → L → Type 0} {scene : Scene} {d : ℕ} {rows : List Styled} {above : Container} {regions : List (Option Region)} {old new : List Entry}
    {before after later : L} {at next place then : ℕ} {row : Styled}
    → IsGoneOver ticked scene d rows above regions old new before after at next place → Child d rows at row then
    → ArrangedAtMost ticked (4 * (container_number row.row + containers_below (depth row) (drop (suc at) rows))) after later
    → ArrangedAtMost ticked (4 * containers_below d rows) before later
gone_refused_ticks {d = d} {rows = rows} gone child ticks =
    let next = containers_next child in
    arranged_more (arranged_both gone.ticks ticks) (omega (arith, gone.counted, next))
