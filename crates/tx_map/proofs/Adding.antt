-- Entries that are added one behind another.
use Rattle.std.proofs.Common.{◌≡◌, ℕ, suc, ◌+◌, Bool, true, false, cond, List, [], ◌∷◌, ◌++◌, drop, Option, Some, None, Result, Ok, Err, ◌∙◌, refl, sym, ap, subst, append_assoc, append-nil}
use Rattle.tx_box.specs.declared.items.LayoutFault.{LayoutFault}
use Rattle.tx_box.specs.declared.items.LayoutFault.TheVariants as layout
use Rattle.tx_geom.specs.Along.{region_of}
use Rattle.tx_geom.specs.Region.{corner}
use Rattle.tx_geom.specs.declared.places.Region.{Region}
use Rattle.tx_geom.specs.declared.places.Size.{Size}
use Rattle.tx_map.specs.Faults.{told, fault_at, IsBehind, Adds}
use Rattle.tx_map.specs.LayoutMap.{Mapped, Place, Container, at_node, container, content_size, entries, entries_if, entries_with, entry_at, first_region, row_entries, child_place, child_region, child_key, scroll_in}
use Rattle.tx_map.specs.Scene.{Scene}
use Rattle.tx_map.specs.Subtrees.{barred_in, child_entries, children_entries, place_at, regions_taken, rows_below, seen_container, subtree_entries}
use Rattle.tx_map.specs.declared.entry.Entry.{Entry}
use Rattle.tx_map.specs.declared.fault.ComposeFault.{ComposeFault}
use Rattle.tx_map.specs.declared.fault.ComposeFault.TheVariants.{Fraction, NoMemory}
use Rattle.tx_map.specs.declared.places.Frame.{Frame}
use Rattle.tx_map.proofs.Rows.{Child, from, tops}
use Rattle.tx_layout.specs.Ask.{told as layout_told}
use Rattle.tx_look.specs.Content.{content_region}
use Rattle.tx_read.specs.Answer.{Tells}
use Rattle.tx_read.specs.Reading.{◌>>=◌}
use Rattle.tx_scroll.specs.Clip.{clipped}
use Rattle.tx_scroll.specs.declared.trials.Barred.{Barred}
use Rattle.tx_sizes.specs.Forest.{Styled, depth}
use Rattle.tx_sizes.specs.Measures.{is_taking_part}
use Rattle.tx_tree.specs.declared.row.NodeId.{NodeId}
use Rattle.tx_value.specs.declared.value.Value.{Value}

-- entries ahead of others
abbrev pub ahead : List Entry → Mapped (List Entry) → Mapped (List Entry)
ahead front others = others >>= (λ es. Ok (front ++ es))

none_ahead : (r : Mapped (List Entry)) → ahead [] r ≡ r
none_ahead (Ok es) = refl
none_ahead (Err fault) = refl

ahead_ahead : (first second : List Entry) (r : Mapped (List Entry)) → ahead first (ahead second r) ≡ ahead (first ++ second) r
ahead_ahead first second (Ok es) = ap (λ es. Ok es) (sym (append_assoc first second es))
ahead_ahead first second (Err fault) = refl

-- ---- one child and those behind it

next_by : (place : ℕ) (regions : List (Option Region)) (part : Bool) (own : Mapped (List Entry)) (others : ℕ → List (Option Region) → Mapped (List Entry))
    → cond part (own >>= (λ es. ahead es (others (place + 1) (drop 1 regions)))) (others (place + 1) regions)
    ≡ (cond part own (Ok []) >>= (λ es. ahead es (others (place + 1) (drop (cond part 1 0) regions))))
next_by place regions true own others = refl
next_by place regions false own others = sym (none_ahead (others (place + 1) regions))

-- the entries from a child on are its own, and then those from the next one on
pub next_entries : (scene : Scene) {d at next : ℕ} {rows : List Styled} {row : Styled} (above : Container) (place : ℕ) (regions : List (Option Region)) → Child d rows at row next
    → entries scene (from d rows at) above place regions
    ≡ (child_entries scene row (drop (suc at) rows) above place (first_region regions ∷ []) >>= (λ es. ahead es (entries scene (from d rows next) above (place + 1) (drop (regions_taken row) regions))))
unfolding entries
next_entries scene {d} {at} {next} {rows} {row} above place regions child =
    let own : Mapped (List Entry) = entries_if (λ region. subtree_entries scene row (drop (suc at) rows) (child_place above row place region)) (first_region regions) in
    let later : ℕ → List (Option Region) → Mapped (List Entry) = λ n rs. entries scene (from d rows next) above n rs in
    ap (λ f. entries scene f above place regions) (tops child)
    ∙ next_by place regions (is_taking_part row) own later

-- ---- a loop over children

-- what was found was added behind what there was, and is ahead of what is to come
pub record IsSoFar (old new : List Entry) (whole rest : Mapped (List Entry)) : Type 0 where
  pub done : List Entry
  pub behind : new ≡ old ++ done
  pub all : whole ≡ ahead done rest

pub none_so_far : (old : List Entry) (all : Mapped (List Entry)) → IsSoFar old old all all
none_so_far old all = record { done = []; behind = sym (append-nil old); all = sym (none_ahead all) }

-- one child more
pub more_so_far : {old new newer : List Entry} {whole rest later child : Mapped (List Entry)} → IsSoFar old new whole rest
    → rest ≡ (child >>= (λ es. ahead es later)) → IsBehind new newer child → IsSoFar old newer whole later
more_so_far {old} {new} {newer} {whole} {rest} {later} {child} so is own =
    record {
      done = so.done ++ own.added;
      behind = own.behind ∙ ap (λ es. es ++ own.added) so.behind ∙ append_assoc old so.done own.added;
      all = so.all ∙ ap (ahead so.done) (is ∙ ap (λ r. r >>= (λ es. ahead es later)) own.all) ∙ ahead_ahead so.done own.added later;
    }

-- a child that is refused
pub refused_so_far : {old new : List Entry} {whole rest : Mapped (List Entry)} (later child : Mapped (List Entry)) (fault : ComposeFault) → IsSoFar old new whole rest
    → rest ≡ (child >>= (λ es. ahead es later)) → Tells (told fault) child → Tells (told fault) whole
refused_so_far later child (Fraction node axis) so is own = so.all ∙ ap (ahead so.done) (is ∙ ap (λ r. r >>= (λ es. ahead es later)) own)
refused_so_far later child NoMemory so is own = tt

-- no child more
pub all_so_far : {old new : List Entry} {whole rest : Mapped (List Entry)} → IsSoFar old new whole rest → rest ≡ Ok [] → IsBehind old new whole
all_so_far {old} so none = record {
  added = so.done ++ [];
  all = so.all ∙ ap (ahead so.done) none;
  behind = so.behind ∙ ap (λ es. old ++ es) (sym (append-nil so.done));
}

-- ---- one row

-- the entry of a row ahead of those below it
pub one_more : (old new : List Entry) (entry : Entry) (below whole : Mapped (List Entry)) → whole ≡ (below >>= (λ es. Ok (entry ∷ es)))
    → IsBehind (old ++ entry ∷ []) new below → IsBehind old new whole
one_more old new entry below whole is rest = record {
  added = entry ∷ rest.added;
  all = is ∙ ap (λ r. r >>= (λ es. Ok (entry ∷ es))) rest.all;
  behind = rest.behind ∙ append_assoc old (entry ∷ []) rest.added;
}

-- where those below it are refused, so is the whole
pub refused_below : (entry : Entry) (below whole : Mapped (List Entry)) (fault : ComposeFault) → whole ≡ (below >>= (λ es. Ok (entry ∷ es))) → Tells (told fault) below → Tells (told fault) whole
refused_below entry below whole (Fraction node axis) is said = is ∙ ap (λ r. r >>= (λ es. Ok (entry ∷ es))) said
refused_below entry below whole NoMemory is said = tt

-- the entries of a row with these bars
pub with_bars : (scene : Scene) (row : Styled) (behind : List Styled) (place : Place) (bars : Barred)
    → barred_in scene.pictures scene.size row behind (content_size row place.region) ≡ Ok bars
    → subtree_entries scene row behind place
    ≡ (entries scene (rows_below row behind) (container scene row place bars) 0 bars.arrangement.placed >>= (λ es. Ok (entry_at scene row place bars ∷ es)))
unfolding row_entries
with_bars scene row behind place bars is =
    ap (λ r. at_node row.row.node r >>= entries_with scene row place (λ within. entries scene (rows_below row behind) within 0)) is

-- a row whose bars are refused
pub without_bars : (scene : Scene) (row : Styled) (behind : List Styled) (place : Place) (fault : LayoutFault)
    → Tells (layout_told fault) (barred_in scene.pictures scene.size row behind (content_size row place.region))
    → Tells (told (fault_at row.row.node fault)) (subtree_entries scene row behind place)
unfolding row_entries
without_bars scene row behind place (layout.Fraction axis) is =
    ap (λ r. at_node row.row.node r >>= entries_with scene row place (λ within. entries scene (rows_below row behind) within 0)) is
without_bars scene row behind place layout.NoMemory is = tt

-- what a row hands down
abbrev pub frame_for : Scene → Styled → Place → Barred → Frame
frame_for scene own place bars =
    record {
      depth = depth own;
      viewport = (container scene own place bars).viewport;
      clip = (container scene own place bars).clip;
      scroll = (container scene own place bars).scroll;
    }

done_by : {R : Type 0} (old new : List Entry) (entry : Entry) (below whole : Mapped (List Entry)) (result : Result R ComposeFault) → whole ≡ (below >>= (λ es. Ok (entry ∷ es)))
    → Adds (old ++ entry ∷ []) new result below → Adds old new result whole
done_by old new entry below whole (Ok value) is added = one_more old new entry below whole is added
done_by old new entry below whole (Err fault) is added = refused_below entry below whole fault is added

-- a row is done with what its children gave
pub row_done : {R : Type 0} (scene : Scene) (own : Styled) (behind : List Styled) (place : Place) (bars : Barred) (frame : Frame) (style : List Value) (entry : Entry) (old new : List Entry) (result : Result R ComposeFault)
    → barred_in scene.pictures scene.size own behind (content_size own place.region) ≡ Ok bars → frame ≡ frame_for scene own place bars → style ≡ own.style → entry ≡ entry_at scene own place bars
    → Adds (old ++ entry ∷ []) new result (children_entries scene frame.depth behind (seen_container style frame place.key) bars.arrangement.placed)
    → Adds old new result (subtree_entries scene own behind place)
row_done scene own behind place bars frame style entry old new result is framed styled made added =
    let placed = bars.arrangement.placed in
    let below = entries scene (rows_below own behind) (container scene own place bars) 0 placed in
    let children : children_entries scene frame.depth behind (seen_container style frame place.key) placed ≡ below =
    ap (λ (f : Frame). children_entries scene f.depth behind (seen_container style f place.key) placed) framed
    ∙ ap (λ s. children_entries scene (depth own) behind (seen_container s (frame_for scene own place bars) place.key) placed) styled in
    let whole : subtree_entries scene own behind place ≡ (below >>= (λ es. Ok (entry ∷ es))) =
    with_bars scene own behind place bars is ∙ ap (λ (e : Entry). below >>= (λ es. Ok (e ∷ es))) (sym made) in
    done_by old new entry below (subtree_entries scene own behind place) result whole (subst (λ (m : Mapped (List Entry)). Adds (old ++ entry ∷ []) new result m) children added)

-- where a child stands
pub same_place : (above : Container) (own : Styled) (place : ℕ) (r region : Region) (key : List ℕ) → region ≡ child_region above own r → key ≡ child_key above own place
    → place_at region above.clip key ≡ child_place above own place r
same_place above own place r region key e f = ap (λ x. place_at x above.clip key) e ∙ ap (λ k. place_at (child_region above own r) above.clip k) f

-- a child that takes part and has a region gives what it gives as a row
pub child_part : (scene : Scene) (own : Styled) (behind : List Styled) (above : Container) (place : ℕ) (r : Region) → is_taking_part own ≡ true
    → child_entries scene own behind above place (Some r ∷ []) ≡ subtree_entries scene own behind (child_place above own place r)
child_part scene own behind above place r is = rw is refl

-- one without a region, or one that takes no part, gives nothing
pub child_apart : (scene : Scene) (own : Styled) (behind : List Styled) (above : Container) (place : ℕ) (region : Option Region) → is_taking_part own ≡ false
    → child_entries scene own behind above place (region ∷ []) ≡ Ok []
child_apart scene own behind above place region is = rw is refl

pub child_nowhere : (scene : Scene) (own : Styled) (behind : List Styled) (above : Container) (place : ℕ) → is_taking_part own ≡ true
    → child_entries scene own behind above place (None ∷ []) ≡ Ok []
child_nowhere scene own behind above place is = rw is refl

pub nothing_added : (es : List Entry) (meant : Mapped (List Entry)) → meant ≡ Ok [] → IsBehind es es meant
nothing_added es meant is = record { added = []; all = is; behind = sym (append-nil es) }

-- ---- what a row is made of

abbrev pub sides : Region → Size
sides r = record { width = r.width; height = r.height }

pub row_size : (own : Styled) (region content : Region) (size : Size) → size ≡ sides content → content ≡ content_region own.style region → size ≡ content_size own region
row_size own region content size is at = is ∙ ap sides at

abbrev pub frame_with : Styled → Place → Barred → Region → ℕ × ℕ → Frame
frame_with own place bars content scroll =
    record {
      depth = depth own;
      viewport = region_of (corner content) bars.viewport;
      clip = clipped (region_of (corner content) bars.viewport) place.clip;
      scroll = scroll;
    }

pub frame_made : (scene : Scene) (own : Styled) (place : Place) (bars : Barred) (content : Region) (scroll : ℕ × ℕ) (frame : Frame) → frame ≡ frame_with own place bars content scroll
    → content ≡ content_region own.style place.region → scroll ≡ scroll_in scene own bars → frame ≡ frame_for scene own place bars
frame_made scene own place bars content scroll frame is at scrolled =
    is ∙ ap (λ r. frame_with own place bars r scroll) at ∙ ap (frame_with own place bars (content_region own.style place.region)) scrolled

abbrev pub entry_with : Place → Barred → NodeId → ℕ × ℕ → Entry
entry_with place bars node scroll =
    record {
      node = node;
      region = place.region;
      clip = place.clip;
      viewport = bars.viewport;
      across = bars.across;
      down = bars.down;
      over = bars.arrangement.over;
      scroll = scroll;
      key = place.key;
    }

pub entry_made : (scene : Scene) (own : Styled) (place : Place) (bars : Barred) (node : NodeId) (scroll : ℕ × ℕ) (entry : Entry) → entry ≡ entry_with place bars node scroll
    → node ≡ own.row.node → scroll ≡ scroll_in scene own bars → entry ≡ entry_at scene own place bars
entry_made scene own place bars node scroll entry is at scrolled = is ∙ ap (λ n. entry_with place bars n scroll) at ∙ ap (entry_with place bars own.row.node) scrolled
