-- What the causes of a run say.
use Rattle.std.proofs.Common.{◌≡◌, ℕ, zero, suc, Bool, true, false, cond, List, [], ◌∷◌, Option, None, Some, refl, inl, inr, ap, sym, ◌∙◌, arith, subst, zero-add, IfSome, IsOk, Result, Ok, Err}
use Rattle.std.proofs.lemmas.Bool.{false≢true}
use Rattle.std.proofs.Math.Dec.{eqb-suc-zero}
use Rattle.tx_cell.specs.Grid.{GridValue}
use Rattle.tx_compose.specs.Presented.{Presented, composed}
use Rattle.tx_io.specs.declared.files.LoadFault.TheVariants.{Failed, TooLong as PastLimit, NoMemory as NoRoom}
use Rattle.tx_io.specs.declared.send.Sent.{Sent}
use Rattle.tx_io.specs.Faults.{raised, Rose}
use Rattle.tx_io.specs.Loading.{FilesSeen, failed_loads, after_loads}
use Rattle.tx_io.specs.Sink.{SinkSeen}
use Rattle.tx_io.specs.Store.{Answer, LoadGives}
use Rattle.tx_parse.specs.Texts.{sheet_of}
use Rattle.tx_parse.proofs.lemmas.TextLaws.{text_sheet}
use Rattle.tx_app.specs.Openings.{Opening, Stops, Opens, Prints, Finds, ComesTo}
use Rattle.tx_app.specs.Loads.{file_limit}
use Rattle.tx_app.specs.Plan.{Plan, Misuse, Unjudged, Refuse, Read, Open, Print, Find, opening_of, loads_of, AreOfFiles}
use Rattle.tx_app.specs.Plans.{plan_of, plan_of_words, IsPlanned, counted}
use Rattle.tx_app.specs.Course.{Act, Unmade, Undefined, Updates, Closes, Writes, IsRefresh, IsPrinted, IsCourse, faults_of}
use Rattle.tx_app.specs.Causes.{End, Wanting, Broken, Failures, end_of, end_cause, sink_cause, cause_of}
use Rattle.tx_app.specs.Faults.{CausedBy, IsHeld, Accepts, IsComplete, IsNoneOrMemory, SheetsAreAccepted, read_faults, sink_faults}
use Rattle.tx_app.specs.Run.{Runs}
use Rattle.tx_app.specs.declared.causes.Cause.{Cause}
use Rattle.tx_app.specs.declared.causes.Cause.TheVariants.{Usage, Refused, ReadFault, Fraction, SinkFault, NoMemory}
use Rattle.tx_app.specs.declared.journal.Entry.{Entry}

-- ---- loads that failed

-- how many, by what the reading comes to
abbrev read_failures : Opening → ℕ
read_failures (Stops Usage) = 0
read_failures (Stops (Refused file line column kind)) = 0
read_failures (Stops (ReadFault rose)) = rose
read_failures (Stops (Fraction node axis)) = 0
read_failures (Stops (SinkFault rose)) = 0
read_failures (Stops NoMemory) = 0
read_failures (Opens shown) = 0
read_failures (Prints lines) = 0
read_failures (Finds rows selector) = 0

loads-failures : (plan : Plan) (answers : List Answer) → failed_loads (loads_of plan answers) ≡ read_failures (opening_of plan answers)
loads-failures Misuse answers = refl
loads-failures Unjudged answers = refl
loads-failures (Refuse file line column kind) answers = refl
loads-failures (Read name limit next) [] = refl
loads-failures (Read name limit next) (Ok bytes ∷ answers) = zero-add (failed_loads (loads_of (next bytes) answers)) ∙ loads-failures (next bytes) answers
loads-failures (Read name limit next) (Err Failed ∷ answers) = refl
loads-failures (Read name limit next) (Err PastLimit ∷ answers) = refl
loads-failures (Read name limit next) (Err NoRoom ∷ answers) = refl
loads-failures (Open shown) answers = refl
loads-failures (Print lines) answers = refl
loads-failures (Find rows selector) answers = refl

-- the count of the files rose by these
faults-of_loads : (plan : Plan) (answers : List Answer) (before after : FilesSeen) → after ≡ after_loads before (loads_of plan answers)
    → after.faults ≡ raised before.faults (read_failures (opening_of plan answers))
faults-of_loads plan answers before after is = ap (λ (seen : FilesSeen). seen.faults) is ∙ ap (raised before.faults) (loads-failures plan answers)

-- the reading stops for a failure only where one load failed
abbrev OfReading : Opening → Type 0
OfReading (Stops Usage) = Unit {0}
OfReading (Stops (Refused file line column kind)) = Unit {0}
OfReading (Stops (ReadFault rose)) = rose ≡ 1
OfReading (Stops (Fraction node axis)) = ⊥
OfReading (Stops (SinkFault rose)) = ⊥
OfReading (Stops NoMemory) = Unit {0}
OfReading (Opens shown) = Unit {0}
OfReading (Prints lines) = Unit {0}
OfReading (Finds rows selector) = Unit {0}

opening-of_reading : (plan : Plan) (answers : List Answer) → OfReading (opening_of plan answers)
opening-of_reading Misuse answers = tt
opening-of_reading Unjudged answers = tt
opening-of_reading (Refuse file line column kind) answers = tt
opening-of_reading (Read name limit next) [] = tt
opening-of_reading (Read name limit next) (Ok bytes ∷ answers) = opening-of_reading (next bytes) answers
opening-of_reading (Read name limit next) (Err Failed ∷ answers) = refl
opening-of_reading (Read name limit next) (Err PastLimit ∷ answers) = tt
opening-of_reading (Read name limit next) (Err NoRoom ∷ answers) = tt
opening-of_reading (Open shown) answers = tt
opening-of_reading (Print lines) answers = tt
opening-of_reading (Find rows selector) answers = tt

-- ---- a count that rose

sink_cause-some : (n : ℕ) → sink_cause (suc n) ≡ Some (SinkFault (suc n))
sink_cause-some n = rw (eqb-suc-zero n) refl

sink_cause-no_read : (n before after : ℕ) → CausedBy (read_faults (sink_cause n)) before after
sink_cause-no_read zero before after = tt
sink_cause-no_read (suc n) before after = rw (sink_cause-some n) tt

rises : (n before after : ℕ) → after ≡ raised before (suc n) → Rose before after
rises n before after is = omega (arith, is)

sink_cause-caused : (n before after : ℕ) → after ≡ raised before n → CausedBy (sink_faults (sink_cause n)) before after
sink_cause-caused zero before after is = tt
sink_cause-caused (suc n) before after is = rw (sink_cause-some n) (omega arith, is, rises n before after is)

sink_cause-free : (n before after : ℕ) → after ≡ raised before n → (Rose before after → ⊥) → IsNoneOrMemory (sink_cause n)
sink_cause-free zero before after is none = tt
sink_cause-free (suc n) before after is none = absurd (none (rises n before after is))

-- the count of the sink rose by what the end says
abbrev EndsAt : End → ℕ → ℕ → Type 0
EndsAt Wanting before after = Unit {0}
EndsAt (Broken node axis) before after = Unit {0}
EndsAt (Failures n) before after = after ≡ raised before n

shown-ends : (shown : Presented) (refresh : Act) (closed : Sent) (before after : ℕ) → IsRefresh shown refresh
    → after ≡ raised before (faults_of (refresh ∷ Closes closed ∷ [])) → EndsAt (end_of (Failures 0) (refresh ∷ Closes closed ∷ [])) before after
shown-ends shown Unmade closed before after is faults = tt
shown-ends shown (Undefined node axis) closed before after is faults = tt
shown-ends shown (Updates update sent) closed before after is faults = faults ∙ ap (raised before) (omega arith)
shown-ends shown (Closes sent) closed before after is faults = absurd is
shown-ends shown (Writes lines sent) closed before after is faults = absurd is

printed-ends : (lines : List ℕ) (acts : List Act) (before after : ℕ) → IsPrinted lines acts → after ≡ raised before (faults_of acts)
    → EndsAt (end_of (Failures 0) acts) before after
printed-ends lines acts before after printed faults =
    subst (λ (all : List Act). EndsAt (end_of (Failures 0) all) before after) (sym printed.is)
    (faults ∙ ap (λ (all : List Act). raised before (faults_of all)) printed.is ∙ ap (raised before) (omega arith))

-- what was opened, and is no stop
abbrev IsOpen : Opening → Type 0
IsOpen (Stops cause) = ⊥
IsOpen (Opens shown) = Unit {0}
IsOpen (Prints lines) = Unit {0}
IsOpen (Finds rows selector) = Unit {0}

course-ends : (opening : Opening) (acts : List Act) (before after : ℕ) → IsOpen opening → IsCourse opening acts → after ≡ raised before (faults_of acts)
    → EndsAt (end_of (Failures 0) acts) before after
course-ends (Stops cause) acts before after opened course faults = absurd opened
course-ends (Opens shown) acts before after opened course faults =
    subst (λ (all : List Act). EndsAt (end_of (Failures 0) all) before after) (sym course.is)
    (shown-ends shown course.refresh course.closed before after course.refreshes (faults ∙ ap (λ (all : List Act). raised before (faults_of all)) course.is))
course-ends (Prints lines) acts before after opened course faults = printed-ends lines acts before after course faults
course-ends (Finds rows selector) acts before after opened course faults = printed-ends course.lines acts before after course.printed faults

-- ---- a load that failed is the cause

end-no_read : (end : End) (before after : ℕ) → CausedBy (read_faults (end_cause end)) before after
end-no_read Wanting before after = tt
end-no_read (Broken node axis) before after = tt
end-no_read (Failures n) before after = sink_cause-no_read n before after

opening-read : (opening : Opening) (acts : List Act) (before after : ℕ) → OfReading opening → after ≡ raised before (read_failures opening)
    → CausedBy (read_faults (cause_of opening acts)) before after
opening-read (Stops Usage) acts before after of is = tt
opening-read (Stops (Refused file line column kind)) acts before after of is = tt
opening-read (Stops (ReadFault rose)) acts before after of is = (omega (arith, of), is, omega (arith, of, is))
opening-read (Stops (Fraction node axis)) acts before after of is = absurd of
opening-read (Stops (SinkFault rose)) acts before after of is = absurd of
opening-read (Stops NoMemory) acts before after of is = tt
opening-read (Opens shown) acts before after of is = end-no_read (end_of (Failures 0) acts) before after
opening-read (Prints lines) acts before after of is = end-no_read (end_of (Failures 0) acts) before after
opening-read (Finds rows selector) acts before after of is = end-no_read (end_of (Failures 0) acts) before after

-- out of memory has no such cause, and else it is what was expected
either : (P : Opening → Type 0) (expected actual : Opening) → ComesTo expected actual → P expected → P (Stops NoMemory) → P actual
either P expected actual comes here wanting = of comes.wanting comes.is
  where
    of : (b : Bool) → actual ≡ cond b (Stops NoMemory) expected → P actual
    of false is = subst P (sym is) here
    of true is = subst P (sym is) wanting

pub Runs-read_fault : (words : List (List ℕ)) (files_before files_after : FilesSeen) (before after : SinkSeen) (journal : List Entry) (cause : Option Cause)
    → Runs words files_before files_after before after journal cause → CausedBy (read_faults cause) files_before.faults files_after.faults
Runs-read_fault words files_before files_after before after journal cause r =
    let answers : List Answer = r.reads.follows.answers in
    rw r.done.cause_is (either (λ opening. CausedBy (read_faults (cause_of opening r.done.acts)) files_before.faults files_after.faults)
    (opening_of r.plan answers) r.opening r.reads.follows.comes
    (opening-read (opening_of r.plan answers) r.done.acts files_before.faults files_after.faults (opening-of_reading r.plan answers)
    (faults-of_loads r.plan answers files_before files_after r.reads.follows.loads)) tt)

-- ---- a put that failed is the cause

end-sink : (end : End) (before after : ℕ) → EndsAt end before after → CausedBy (sink_faults (end_cause end)) before after
end-sink Wanting before after at = tt
end-sink (Broken node axis) before after at = tt
end-sink (Failures n) before after at = sink_cause-caused n before after at

opening-sink : (opening : Opening) (acts : List Act) (before after : ℕ) → OfReading opening → IsCourse opening acts → after ≡ raised before (faults_of acts)
    → CausedBy (sink_faults (cause_of opening acts)) before after
opening-sink (Stops Usage) acts before after of course is = tt
opening-sink (Stops (Refused file line column kind)) acts before after of course is = tt
opening-sink (Stops (ReadFault rose)) acts before after of course is = tt
opening-sink (Stops (Fraction node axis)) acts before after of course is = absurd of
opening-sink (Stops (SinkFault rose)) acts before after of course is = absurd of
opening-sink (Stops NoMemory) acts before after of course is = tt
opening-sink (Opens shown) acts before after of course is = end-sink (end_of (Failures 0) acts) before after (course-ends (Opens shown) acts before after tt course is)
opening-sink (Prints lines) acts before after of course is = end-sink (end_of (Failures 0) acts) before after (course-ends (Prints lines) acts before after tt course is)
opening-sink (Finds rows selector) acts before after of course is = end-sink (end_of (Failures 0) acts) before after (course-ends (Finds rows selector) acts before after tt course is)

pub Runs-sink_fault : (words : List (List ℕ)) (files_before files_after : FilesSeen) (before after : SinkSeen) (journal : List Entry) (cause : Option Cause)
    → Runs words files_before files_after before after journal cause → CausedBy (sink_faults cause) before.faults after.faults
Runs-sink_fault words files_before files_after before after journal cause r =
    rw r.done.cause_is (opening-sink r.opening r.done.acts before.faults after.faults
    (either OfReading (opening_of r.plan r.reads.follows.answers) r.opening r.reads.follows.comes (opening-of_reading r.plan r.reads.follows.answers) tt) r.done.course r.done.faults)

-- ---- files that hold all that a plan asks for

-- a reading of such files: no stop but for a failed load or out of memory
abbrev Fine : Opening → Type 0
Fine (Stops Usage) = ⊥
Fine (Stops (Refused file line column kind)) = ⊥
Fine (Stops (ReadFault rose)) = rose ≡ 1
Fine (Stops (Fraction node axis)) = ⊥
Fine (Stops (SinkFault rose)) = ⊥
Fine (Stops NoMemory) = Unit {0}
Fine (Opens shown) = IsOk (composed shown)
Fine (Prints lines) = Unit {0}
Fine (Finds rows selector) = Unit {0}

held-bytes : (content : Option (List ℕ)) (limit : ℕ) (P : List ℕ → Type 0) (bytes : List ℕ) → IsHeld content limit P → LoadGives content limit (Ok bytes) → P bytes
held-bytes None limit P bytes held gives = absurd held
held-bytes (Some all) limit P bytes held gives = subst P (sym gives.0) held.1

held-short : (content : Option (List ℕ)) (limit : ℕ) (P : List ℕ → Type 0) → IsHeld content limit P → LoadGives content limit (Err PastLimit) → ⊥
held-short None limit P held gives = held
held-short (Some all) limit P held gives = omega (arith, held.0, gives)

accepts-fine : (told : List ℕ → Option (List ℕ)) (plan : Plan) (answers : List Answer) → Accepts told plan → AreOfFiles (Some told) (loads_of plan answers)
    → Fine (opening_of plan answers)
accepts-fine told Misuse answers accepts of_files = accepts
accepts-fine told Unjudged answers accepts of_files = tt
accepts-fine told (Refuse file line column kind) answers accepts of_files = accepts
accepts-fine told (Read name limit next) [] accepts of_files = tt
accepts-fine told (Read name limit next) (Ok bytes ∷ answers) accepts of_files =
    accepts-fine told (next bytes) answers (held-bytes (told name) limit (λ all. Accepts told (next all)) bytes accepts of_files.0) of_files.1
accepts-fine told (Read name limit next) (Err Failed ∷ answers) accepts of_files = refl
accepts-fine told (Read name limit next) (Err PastLimit ∷ answers) accepts of_files =
    absurd (held-short (told name) limit (λ all. Accepts told (next all)) accepts of_files.0)
accepts-fine told (Read name limit next) (Err NoRoom ∷ answers) accepts of_files = tt
accepts-fine told (Open shown) answers accepts of_files = accepts
accepts-fine told (Print lines) answers accepts of_files = tt
accepts-fine told (Find rows selector) answers accepts of_files = tt

-- the picture was defined
abbrev IsWhole : End → Type 0
IsWhole Wanting = Unit {0}
IsWhole (Broken node axis) = ⊥
IsWhole (Failures n) = Unit {0}

undefined-none : {K : Type 0} (picture : Result GridValue K) (fault : K) → IsOk picture → picture ≡ Err fault → ⊥
undefined-none (Ok value) fault defined is = absurd (let e : ◌≡◌ {A = Result GridValue _} (Ok value) (Err fault) = is in cc)
undefined-none (Err other) fault defined is = false≢true defined

shown-whole : (shown : Presented) (refresh : Act) (closed : Sent) → IsOk (composed shown) → IsRefresh shown refresh
    → IsWhole (end_of (Failures 0) (refresh ∷ Closes closed ∷ []))
shown-whole shown Unmade closed defined is = tt
shown-whole shown (Undefined node axis) closed defined is = undefined-none (composed shown) (node, axis) defined is
shown-whole shown (Updates update sent) closed defined is = tt
shown-whole shown (Closes sent) closed defined is = absurd is
shown-whole shown (Writes lines sent) closed defined is = absurd is

printed-whole : (lines : List ℕ) (acts : List Act) → IsPrinted lines acts → IsWhole (end_of (Failures 0) acts)
printed-whole lines acts printed = subst (λ (all : List Act). IsWhole (end_of (Failures 0) all)) (sym printed.is) tt

course-whole : (opening : Opening) (acts : List Act) → IsOpen opening → Fine opening → IsCourse opening acts → IsWhole (end_of (Failures 0) acts)
course-whole (Stops cause) acts opened fine course = absurd opened
course-whole (Opens shown) acts opened fine course =
    subst (λ (all : List Act). IsWhole (end_of (Failures 0) all)) (sym course.is) (shown-whole shown course.refresh course.closed fine course.refreshes)
course-whole (Prints lines) acts opened fine course = printed-whole lines acts course
course-whole (Finds rows selector) acts opened fine course = printed-whole course.lines acts course.printed

end-free : (end : End) (before after : ℕ) → IsWhole end → EndsAt end before after → (Rose before after → ⊥) → IsNoneOrMemory (end_cause end)
end-free Wanting before after whole at none = tt
end-free (Broken node axis) before after whole at none = absurd whole
end-free (Failures n) before after whole at none = sink_cause-free n before after at none

opening-free : (opening : Opening) (acts : List Act) (files_before files_after before after : ℕ) → Fine opening → IsCourse opening acts
    → files_after ≡ raised files_before (read_failures opening) → after ≡ raised before (faults_of acts)
    → (Rose files_before files_after → ⊥) → (Rose before after → ⊥) → IsNoneOrMemory (cause_of opening acts)
opening-free (Stops Usage) acts files_before files_after before after fine course loads faults no_read no_sink = absurd fine
opening-free (Stops (Refused file line column kind)) acts files_before files_after before after fine course loads faults no_read no_sink = absurd fine
opening-free (Stops (ReadFault rose)) acts files_before files_after before after fine course loads faults no_read no_sink = absurd (no_read (omega (arith, fine, loads)))
opening-free (Stops (Fraction node axis)) acts files_before files_after before after fine course loads faults no_read no_sink = absurd fine
opening-free (Stops (SinkFault rose)) acts files_before files_after before after fine course loads faults no_read no_sink = absurd fine
opening-free (Stops NoMemory) acts files_before files_after before after fine course loads faults no_read no_sink = tt
opening-free (Opens shown) acts files_before files_after before after fine course loads faults no_read no_sink =
    end-free (end_of (Failures 0) acts) before after (course-whole (Opens shown) acts tt fine course) (course-ends (Opens shown) acts before after tt course faults) no_sink
opening-free (Prints lines) acts files_before files_after before after fine course loads faults no_read no_sink =
    end-free (end_of (Failures 0) acts) before after (course-whole (Prints lines) acts tt fine course) (course-ends (Prints lines) acts before after tt course faults) no_sink
opening-free (Finds rows selector) acts files_before files_after before after fine course loads faults no_read no_sink =
    end-free (end_of (Failures 0) acts) before after (course-whole (Finds rows selector) acts tt fine course) (course-ends (Finds rows selector) acts before after tt course faults) no_sink

-- where it comes to out of memory nothing is owed, and else it is what was expected
comes-free : (expected actual : Opening) (acts : List Act) (files_before files_after before after : ℕ) → Fine expected → ComesTo expected actual → IsCourse actual acts
    → files_after ≡ raised files_before (read_failures expected) → after ≡ raised before (faults_of acts)
    → (Rose files_before files_after → ⊥) → (Rose before after → ⊥) → IsNoneOrMemory (cause_of actual acts)
comes-free expected actual acts files_before files_after before after fine comes course loads faults no_read no_sink = of comes.wanting comes.is
  where
    of : (b : Bool) → actual ≡ cond b (Stops NoMemory) expected → IsNoneOrMemory (cause_of actual acts)
    of true is = rw is tt
    of false is = rw is (opening-free expected acts files_before files_after before after fine (subst (λ opening. IsCourse opening acts) is course) loads faults no_read no_sink)

planned-fine : (words : List (List ℕ)) (plan : Plan) (told : List ℕ → Option (List ℕ)) (answers : List Answer) → IsPlanned words plan
    → Accepts told (plan_of_words words) → AreOfFiles (Some told) (loads_of plan answers) → Fine (opening_of plan answers)
planned-fine words plan told answers (inl is) accepts of_files = accepts-fine told plan answers (subst (Accepts told) (sym is) accepts) of_files
planned-fine words plan told answers (inr unjudged) accepts of_files = subst (λ p. Fine (opening_of p answers)) (sym unjudged) tt

complete-of : (contents : Option (List ℕ → Option (List ℕ))) (words : List (List ℕ)) (plan : Plan) (answers : List Answer) (actual : Opening) (acts : List Act)
    (files_before files_after before after : ℕ) (cause : Option Cause)
    → IsPlanned words plan → AreOfFiles contents (loads_of plan answers) → ComesTo (opening_of plan answers) actual → IsCourse actual acts
    → files_after ≡ raised files_before (read_failures (opening_of plan answers)) → after ≡ raised before (faults_of acts)
    → cause ≡ cause_of actual acts → IfSome contents (λ told. IsComplete words told files_before files_after before after cause)
complete-of None words plan answers actual acts files_before files_after before after cause planned of_files comes course loads faults is = tt
complete-of (Some told) words plan answers actual acts files_before files_after before after cause planned of_files comes course loads faults is = λ accepts no_read no_sink.
    rw is (comes-free (opening_of plan answers) actual acts files_before files_after before after
    (planned-fine words plan told answers planned accepts of_files) comes course loads faults no_read no_sink)

pub Runs-complete : (words : List (List ℕ)) (files_before files_after : FilesSeen) (before after : SinkSeen) (journal : List Entry) (cause : Option Cause)
    → Runs words files_before files_after before after journal cause
    → IfSome files_before.contents (λ told. IsComplete words told files_before.faults files_after.faults before.faults after.faults cause)
Runs-complete words files_before files_after before after journal cause r =
    complete-of files_before.contents words r.plan r.reads.follows.answers r.opening r.done.acts files_before.faults files_after.faults before.faults after.faults cause
    r.planned r.reads.follows.of_files r.reads.follows.comes r.done.course (faults-of_loads r.plan r.reads.follows.answers files_before files_after r.reads.follows.loads) r.done.faults r.done.cause_is

-- ---- a sheet in the grammar

pub sheets_are_accepted : SheetsAreAccepted
sheets_are_accepted words told h =
    subst (λ task. Accepts told (plan_of task)) (sym h.asks)
    (subst (λ content. IsHeld content file_limit (λ bytes. Accepts told (counted h.name bytes (sheet_of bytes)))) (sym h.sheet_told)
    (h.sheet_short, subst (λ read. Accepts told (counted h.name h.sheet read)) (sym (text_sheet h.sheet h.found h.grammar)) tt))
