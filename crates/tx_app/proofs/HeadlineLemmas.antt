-- What a run shows, by what it did.
use Rattle.std.proofs.Common.{◌≡◌, ℕ, Bool, true, false, cond, List, [], ◌∷◌, ◌++◌, length, take, Option, None, Some, Result, Ok, Err, refl, inl, inr, ap, sym, ◌∙◌, append-nil, arith, subst, true≢false}
use Rattle.std.proofs.Math.Seq.{take-length}
use Rattle.std.specs.Io.KnownBytes.{append_known}
use Rattle.tx_compose.specs.Presented.{Presented}
use Rattle.tx_geom.specs.declared.places.Size.{Size}
use Rattle.tx_io.specs.Loading.{FilesSeen, after_loads, load_of}
use Rattle.tx_io.specs.Sink.{SinkSeen}
use Rattle.tx_io.specs.Store.{Answer}
use Rattle.tx_io.specs.declared.send.Sent.{Sent}
use Rattle.tx_parse.specs.Default.{sheet_value}
use Rattle.tx_parse.specs.Grammar.{Found}
use Rattle.tx_parse.specs.Texts.{Report, sheet_of}
use Rattle.tx_select.specs.SelectorValue.{SelectorValue}
use Rattle.tx_term.specs.Laws.{IsScreen, WholeUpdatesLead}
use Rattle.tx_term.specs.Machine.{Machine, screen}
use Rattle.tx_term.specs.Update.{closing}
use Rattle.tx_tree.specs.declared.row.Row.{Row}
use Rattle.tx_app.specs.Course.{Act, Unmade, Undefined, Updates, Closes, Writes, CanBeSent, IsCourse, IsRefresh, IsUpdate, bytes_of}
use Rattle.tx_app.specs.FirstShown.{at_first, first_shown}
use Rattle.tx_app.specs.Headline.{AreRead, IfAccepted, IfTaken, ShowsPicture}
use Rattle.tx_app.specs.Journal.{entries_of}
use Rattle.tx_app.specs.Loads.{file_limit, load_cause}
use Rattle.tx_app.specs.Openings.{Opening, Stops, Opens, Prints, Finds}
use Rattle.tx_app.specs.Plan.{Plan, opening_of, loads_of, AreOfFiles}
use Rattle.tx_app.specs.Plans.{IsPlanned, Planned, counted, plan_of, rows_plan, shown_plan, tree_plan}
use Rattle.tx_app.specs.Run.{Runs}
use Rattle.tx_app.specs.Trees.{Fault, rows_of}
use Rattle.tx_app.specs.Words.{Show, Task, Shows, Checks, Queries, asked}
use Rattle.tx_app.specs.declared.causes.Cause.{Cause}
use Rattle.tx_app.specs.declared.causes.Cause.TheVariants.{Usage, NoMemory}
use Rattle.tx_app.specs.declared.journal.Entry.{Entry}
use Rattle.tx_app.specs.declared.journal.Refreshed.TheVariants.{Accepted, SinkFault}
use Rattle.tx_app.proofs.ShownLemmas.{size-at_first, sized}

-- ---- what was read, where a picture was opened

abbrev is_shown : Opening → Bool
is_shown (Stops cause) = false
is_shown (Opens shown) = true
is_shown (Prints lines) = false
is_shown (Finds rows selector) = false

isnt : (opening : Opening) (shown : Presented) → is_shown opening ≡ false → opening ≡ Opens shown → ⊥
isnt opening shown none is = true≢false (ap is_shown (sym is) ∙ none)

counted-isnt : (name bytes : List ℕ) (read : Result Found Report) (answers : List Answer) → is_shown (opening_of (counted name bytes read) answers) ≡ false
counted-isnt name bytes (Ok found) answers = refl
counted-isnt name bytes (Err report) answers = refl

rows-isnt : (name : List ℕ) (selector : SelectorValue) (found : Result (List Row) Fault) (answers : List Answer) → is_shown (opening_of (rows_plan name selector found) answers) ≡ false
rows-isnt name selector (Ok rows) answers = refl
rows-isnt name selector (Err fault) answers = refl

module _ (words : List (List ℕ)) (before after : FilesSeen) (shown : Presented) where
  of_sheet : (show : Show) → asked words ≡ Some (Shows show) → (tree sheet : List ℕ) (rows : List Row) → rows_of tree ≡ Ok rows
      → (read : Result Found Report) → sheet_of sheet ≡ read → (answers : List Answer)
      → opening_of (shown_plan show.size show.sheet rows sheet read) answers ≡ Opens shown
      → after ≡ after_loads before (load_of show.tree file_limit (Ok tree) ∷ load_of show.sheet file_limit (Ok sheet) ∷ loads_of (shown_plan show.size show.sheet rows sheet read) answers)
      → AreOfFiles before.contents (load_of show.tree file_limit (Ok tree) ∷ load_of show.sheet file_limit (Ok sheet) ∷ loads_of (shown_plan show.size show.sheet rows sheet read) answers)
      → AreRead words before after shown
  of_sheet show asks tree sheet rows tree_is (Ok found) sheet_is answers is loads of_files = record {
    show = show;
    asks = asks;
    tree = tree;
    sheet = sheet;
    loads = loads;
    of_files = of_files;
    rows = rows;
    found = found;
    tree_is = tree_is;
    sheet_is = sheet_is;
    is = opened_same (first_shown rows (sheet_value found) show.size) is;
  }
    where
      opened_same : (first : Presented) → Opens first ≡ Opens shown → shown ≡ first
      opened_same first same = cc
  of_sheet show asks tree sheet rows tree_is (Err report) sheet_is answers is loads of_files = absurd (isnt _ shown refl is)

  of_tree : (show : Show) → asked words ≡ Some (Shows show) → (tree : List ℕ) (found : Result (List Row) Fault) → rows_of tree ≡ found → (answers : List Answer)
      → opening_of (tree_plan show.size show.tree show.sheet found) answers ≡ Opens shown
      → after ≡ after_loads before (load_of show.tree file_limit (Ok tree) ∷ loads_of (tree_plan show.size show.tree show.sheet found) answers)
      → AreOfFiles before.contents (load_of show.tree file_limit (Ok tree) ∷ loads_of (tree_plan show.size show.tree show.sheet found) answers)
      → AreRead words before after shown
  of_tree show asks tree (Ok rows) tree_is [] is loads of_files = absurd (isnt (Stops NoMemory) shown refl is)
  of_tree show asks tree (Ok rows) tree_is (Ok sheet ∷ answers) is loads of_files = of_sheet show asks tree sheet rows tree_is (sheet_of sheet) refl answers is loads of_files
  of_tree show asks tree (Ok rows) tree_is (Err fault ∷ answers) is loads of_files = absurd (isnt (Stops (load_cause show.sheet fault)) shown refl is)
  of_tree show asks tree (Err fault) tree_is answers is loads of_files = absurd (isnt _ shown refl is)

  of_task : (task : Option Task) → asked words ≡ task → (answers : List Answer) → opening_of (plan_of task) answers ≡ Opens shown
      → after ≡ after_loads before (loads_of (plan_of task) answers) → AreOfFiles before.contents (loads_of (plan_of task) answers) → AreRead words before after shown
  of_task None asks answers is loads of_files = absurd (isnt (Stops Usage) shown refl is)
  of_task (Some (Shows show)) asks [] is loads of_files = absurd (isnt (Stops NoMemory) shown refl is)
  of_task (Some (Shows show)) asks (Ok tree ∷ answers) is loads of_files = of_tree show asks tree (rows_of tree) refl answers is loads of_files
  of_task (Some (Shows show)) asks (Err fault ∷ answers) is loads of_files = absurd (isnt (Stops (load_cause show.tree fault)) shown refl is)
  of_task (Some (Checks sheet)) asks [] is loads of_files = absurd (isnt (Stops NoMemory) shown refl is)
  of_task (Some (Checks sheet)) asks (Ok bytes ∷ answers) is loads of_files = absurd (isnt _ shown (counted-isnt sheet bytes (sheet_of bytes) answers) is)
  of_task (Some (Checks sheet)) asks (Err fault ∷ answers) is loads of_files = absurd (isnt (Stops (load_cause sheet fault)) shown refl is)
  of_task (Some (Queries tree selector)) asks [] is loads of_files = absurd (isnt (Stops NoMemory) shown refl is)
  of_task (Some (Queries tree selector)) asks (Ok bytes ∷ answers) is loads of_files = absurd (isnt _ shown (rows-isnt tree selector (rows_of bytes) answers) is)
  of_task (Some (Queries tree selector)) asks (Err fault ∷ answers) is loads of_files = absurd (isnt (Stops (load_cause tree fault)) shown refl is)

  of_plan : (plan : Plan) → IsPlanned words plan → (answers : List Answer) → opening_of plan answers ≡ Opens shown
      → after ≡ after_loads before (loads_of plan answers) → AreOfFiles before.contents (loads_of plan answers) → AreRead words before after shown
  of_plan plan (inl planned) answers is loads of_files =
      of_task (asked words) refl answers (subst (λ p. opening_of p answers ≡ Opens shown) planned is) (subst (λ p. after ≡ after_loads before (loads_of p answers)) planned loads)
      (subst (λ p. AreOfFiles before.contents (loads_of p answers)) planned of_files)
  of_plan plan (inr unjudged) answers is loads of_files = absurd (isnt (Stops NoMemory) shown refl (subst (λ p. opening_of p answers ≡ Opens shown) unjudged is))

  of_opening : (b : Bool) (expected : Opening) → Opens shown ≡ cond b (Stops NoMemory) expected → expected ≡ Opens shown
  of_opening true expected is = absurd (isnt (Stops NoMemory) shown refl (sym is))
  of_opening false expected is = sym is

  pub AreRead-of : Planned words before after (Opens shown) → AreRead words before after shown
  AreRead-of p =
      let f = p.reads.follows in
      of_plan p.plan p.planned f.answers (of_opening f.comes.wanting (opening_of p.plan f.answers) f.comes.is) f.loads f.of_files

-- ---- what is shown

module _ (lead : WholeUpdatesLead) (words : List (List ℕ)) (files_before files_after : FilesSeen) (before after : SinkSeen) where
  abbrev Shows_ : ℕ → Type 0
  Shows_ = ShowsPicture words files_before files_after before after

  leads : (shown : Presented) (bytes : List ℕ) (u : IsUpdate shown bytes) (machine : Machine) → machine.canvas.grid.size ≡ shown.size → screen machine bytes ≡ u.picture
  leads shown bytes u machine same =
      let size : u.picture.size ≡ shown.size = sized shown u.picture u.is in
      let fits : IsScreen u.picture = record {
        formed = u.formed;
        height = omega (arith, ap (λ (s : Size). s.height) size, u.limits.height);
        width = omega (arith, ap (λ (s : Size). s.width) size, u.limits.width);
      } in
      ap (screen machine) u.bytes_are ∙ (lead machine (at_first shown.size) u.picture u.blank fits (size-at_first shown.size ∙ sym size) (same ∙ sym size)).0

  of_update : (shown : Presented) (bytes : List ℕ) (sent closed : Sent) → AreRead words files_before files_after shown → IsUpdate shown bytes → CanBeSent bytes sent
      → after.told ≡ append_known before.told (bytes_of (Updates bytes sent ∷ Closes closed ∷ [])) → (b : Bool) → sent.failed ≡ b
      → IfTaken (cond b SinkFault Accepted) (Shows_ sent.taken)
  of_update shown bytes sent closed read u can told true failed = tt
  of_update shown bytes sent closed read u can told false failed =
      let taken : sent.taken ≡ length bytes = can.all failed in
      record {
        shown = shown;
        read = read;
        picture = u.picture;
        defined = u.is;
        refresh = bytes;
        all = sym taken;
        closed = closed.taken;
        told = told
            ∙ ap (λ front. append_known before.told (front ++ (take closed.taken closing ++ []))) (ap (λ n. take n bytes) taken ∙ take-length bytes)
            ∙ ap (λ back. append_known before.told (bytes ++ back)) (append-nil (take closed.taken closing));
        shows = leads shown bytes u;
      }

  of_refresh : (shown : Presented) (refresh : Act) (closed : Sent) → AreRead words files_before files_after shown → IsRefresh shown refresh
      → after.told ≡ append_known before.told (bytes_of (refresh ∷ Closes closed ∷ [])) → IfAccepted (entries_of (refresh ∷ Closes closed ∷ [])) Shows_
  of_refresh shown Unmade closed read is told = tt
  of_refresh shown (Undefined node axis) closed read is told = tt
  of_refresh shown (Updates bytes sent) closed read is told = of_update shown bytes sent closed read is.0 is.1 told sent.failed refl
  of_refresh shown (Closes sent) closed read is told = absurd is
  of_refresh shown (Writes lines sent) closed read is told = absurd is

  of_course : (opening : Opening) (acts : List Act) → IsCourse opening acts → Planned words files_before files_after opening
      → after.told ≡ append_known before.told (bytes_of acts) → IfAccepted (entries_of acts) Shows_
  of_course (Stops cause) acts course planned told = subst (λ (all : List Act). IfAccepted (entries_of all) Shows_) (sym course) tt
  of_course (Opens shown) acts course planned told =
      subst (λ (all : List Act). IfAccepted (entries_of all) Shows_) (sym course.is)
      (of_refresh shown course.refresh course.closed (AreRead-of words files_before files_after shown planned) course.refreshes
      (told ∙ ap (λ (all : List Act). append_known before.told (bytes_of all)) course.is))
  of_course (Prints lines) acts course planned told = subst (λ (all : List Act). IfAccepted (entries_of all) Shows_) (sym course.is) tt
  of_course (Finds rows selector) acts course planned told = subst (λ (all : List Act). IfAccepted (entries_of all) Shows_) (sym course.printed.is) tt

  pub Runs-shows : (journal : List Entry) (cause : Option Cause) → Runs words files_before files_after before after journal cause → IfAccepted journal Shows_
  Runs-shows journal cause r =
      subst (λ entries. IfAccepted entries Shows_) (sym r.done.journal)
      (of_course r.opening r.done.acts r.done.course (record { plan = r.plan; planned = r.planned; reads = r.reads }) r.done.told)
