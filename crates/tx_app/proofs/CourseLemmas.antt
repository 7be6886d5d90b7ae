-- What is done for an opening, from its parts.
use Rattle.std.proofs.Common.{◌≡◌, ◌≤◌, ◌+◌, ◌-◌, ◌^◌, min, ℕ, Bool, true, false, cond, List, [], ◌∷◌, ◌++◌, take, Option, None, Some, refl, ap, sym, ◌∙◌, append_assoc, append-nil, arith, subst, zero-add, Ok, Err}
use Rattle.std.specs.Io.KnownBytes.{append_known}
use Rattle.tx_cell.specs.Grid.{GridValue, IsGrid}
use Rattle.tx_compose.specs.Presented.{Presented, IsScreen, composed}
use Rattle.tx_geom.specs.declared.choices.Axis.{Axis}
use Rattle.tx_io.specs.declared.send.Sent.{Sent}
use Rattle.tx_io.specs.Faults.{raised}
use Rattle.tx_io.specs.Loading.{FilesSeen}
use Rattle.tx_io.specs.Sending.{Sends, failed_puts}
use Rattle.tx_io.specs.Sink.{SinkSeen}
use Rattle.tx_term.specs.Update.{update, closing}
use Rattle.tx_tree.specs.declared.row.NodeId.{NodeId}
use Rattle.tx_tree.specs.declared.row.Row.{Row}
use Rattle.tx_select.specs.SelectorValue.{SelectorValue}
use Rattle.tx_app.specs.Listing.{ListsMatches}
use Rattle.tx_app.specs.FirstShown.{at_first}
use Rattle.tx_app.specs.Openings.{Opening, Stops, Opens, Prints, Finds, MayWant, ComesTo}
use Rattle.tx_app.specs.Plan.{opening_of}
use Rattle.tx_app.specs.Plans.{Planned}
use Rattle.tx_app.specs.Course.{Act, Unmade, Undefined, Updates, Closes, Writes, IsRefresh, act_bytes, act_faults, IsCourse}
use Rattle.tx_app.specs.Journal.{act_entries}
use Rattle.tx_app.specs.Causes.{Failures, end_cause, end_of, sink_cause, cause_of}
use Rattle.tx_app.specs.Refreshing.{Refreshes, entry_cause}
use Rattle.tx_app.specs.Run.{IsDone, Does, Runs}
use Rattle.tx_app.specs.declared.causes.Cause.{Cause}
use Rattle.tx_app.specs.declared.causes.Cause.TheVariants.{NoMemory}
use Rattle.tx_app.specs.declared.journal.Entry.{Entry}
use Rattle.tx_app.specs.declared.journal.Entry.TheVariants.{Refresh}
use Rattle.tx_app.specs.declared.journal.Refreshed.TheVariants.{Accepted, SinkFault as SinkFailed}

-- ---- one refresh

append_known-nothing : (known : Option (List ℕ)) → known ≡ append_known known []
append_known-nothing None = refl
append_known-nothing (Some xs) = ap Some (sym (append-nil xs))

append_known-append : (known : Option (List ℕ)) (a b : List ℕ) → append_known (append_known known a) b ≡ append_known known (a ++ b)
append_known-append None a b = refl
append_known-append (Some xs) a b = ap Some (append_assoc xs a b)

raised-none : (n : ℕ) → n ≡ raised n 0
raised-none n = omega arith

raised-twice : (n a b : ℕ) → raised (raised n a) b ≡ raised n (a + b)
raised-twice n a b = omega arith

-- memory ran out
pub Refreshes-unmade : (before : SinkSeen) (shown : Presented) (entry : Entry) → entry ∷ [] ≡ act_entries Unmade → Refreshes before before shown entry
Refreshes-unmade before shown entry is = record {
  act = Unmade;
  is = tt;
  told = append_known-nothing before.told;
  faults = raised-none before.faults;
  entry_is = is;
}

-- the picture is undefined
pub Refreshes-undefined : (before : SinkSeen) (shown : Presented) (node : NodeId) (axis : Axis) (entry : Entry) → composed shown ≡ Err (node, axis)
    → entry ∷ [] ≡ act_entries (Undefined node axis) → Refreshes before before shown entry
Refreshes-undefined before shown node axis entry is entry_is = record {
  act = Undefined node axis;
  is = is;
  told = append_known-nothing before.told;
  faults = raised-none before.faults;
  entry_is = entry_is;
}

-- its update was sent
pub Refreshes-made : (before after : SinkSeen) (shown : Presented) (past next : GridValue) (sent : Sent) (entry : Entry)
    → IsScreen shown.size → IsGrid past → IsGrid next
    → past ≡ at_first shown.size → composed shown ≡ Ok next → Sends before after (update past next true) sent → entry ∷ [] ≡ act_entries (Updates [] sent)
    → Refreshes before after shown entry
Refreshes-made before after shown past next sent entry limits past_formed next_formed fresh made sends is =
    record {
      act = Updates (update past next true) sent;
      is = (record { picture = next; is = made; bytes_are = ap (λ s. update s next true) fresh; limits = limits; blank = subst IsGrid fresh past_formed; formed = next_formed }, record { all = sends.all; part = sends.part });
      told = sends.content;
      faults = sends.faults;
      entry_is = is;
    }

-- ---- the show

-- nothing is done
IsDone-stopped : (before : SinkSeen) (journal : List Entry) (cause : Cause) → IsDone (Stops cause) before before journal journal (Some cause)
IsDone-stopped before journal cause = record {
  acts = [];
  course = refl;
  told = append_known-nothing before.told;
  faults = raised-none before.faults;
  journal = sym (append-nil journal);
  cause_is = refl;
}

-- memory ran out before the refresh
pub Does-wanting : (before : SinkSeen) (shown : Presented) (journal : List Entry) → Does (Opens shown) before before journal journal (Some NoMemory)
Does-wanting before shown journal = record {
  actual = Stops NoMemory;
  comes = record { wanting = true; is = refl; may = tt };
  done = IsDone-stopped before journal NoMemory;
}

-- a refresh, and then the closing bytes
pub Does-refresh : (before mid after : SinkSeen) (shown : Presented) (journal : List Entry) (entry : Entry) (closed : Sent) (cause : Option Cause)
    → (r : Refreshes before mid shown entry) → Sends mid after closing closed
    → cause ≡ end_cause (end_of (Failures 0) (r.act ∷ Closes closed ∷ []))
    → Does (Opens shown) before after journal (journal ++ entry ∷ []) cause
Does-refresh before mid after shown journal entry closed cause r sends is =
    let front : List ℕ = act_bytes r.act in
    let back : List ℕ = take closed.taken closing in
    record {
      actual = Opens shown;
      comes = record { wanting = false; is = refl; may = tt };
      done = record {
        acts = r.act ∷ Closes closed ∷ [];
        course = record { refresh = r.act; closed = closed; is = refl; refreshes = r.is; closes = record { all = sends.all; part = sends.part } };
        told = sends.content ∙ ap (λ t. append_known t back) r.told
            ∙ append_known-append before.told front back
            ∙ ap (λ b. append_known before.told (front ++ b)) (sym (append-nil back));
        faults = sends.faults ∙ ap (λ n. raised n (failed_puts closed)) r.faults ∙ raised-twice before.faults (act_faults r.act) (failed_puts closed)
            ∙ ap (raised before.faults) (omega arith);
        journal = ap (λ e. journal ++ e) (r.entry_is ∙ sym (append-nil (act_entries r.act)));
        cause_is = is;
      };
    }

-- lines are sent
pub Does-print : (before after : SinkSeen) (lines : List ℕ) (sent : Sent) (cause : Option Cause)
    → Sends before after lines sent → cause ≡ sink_cause (failed_puts sent) → Does (Prints lines) before after [] [] cause
Does-print before after lines sent cause sends is = record {
  actual = Prints lines;
  comes = record { wanting = false; is = refl; may = tt };
  done = record {
    acts = Writes lines sent ∷ [];
    course = record { sent = sent; is = refl; writes = record { all = sends.all; part = sends.part } };
    told = sends.content ∙ ap (append_known before.told) (sym (append-nil (take sent.taken lines)));
    faults = sends.faults ∙ ap (raised before.faults) (omega arith);
    journal = refl;
    cause_is = is ∙ ap sink_cause (sym (zero-add (failed_puts sent)));
  };
}

-- the lines of all matches are sent
pub Does-list : (before after : SinkSeen) (rows : List Row) (selector : SelectorValue) (lines given : List ℕ) (cause : Option Cause)
    → ListsMatches rows selector lines → given ≡ lines → Does (Prints given) before after [] [] cause → Does (Finds rows selector) before after [] [] cause
Does-list before after rows selector lines given cause lists same d = of d.comes.wanting d.comes.is
  where
    of : (b : Bool) → d.actual ≡ cond b (Stops NoMemory) (Prints given) → Does (Finds rows selector) before after [] [] cause
    of true is = record {
      actual = Stops NoMemory;
      comes = record { wanting = true; is = refl; may = tt };
      done = subst (λ o. IsDone o before after [] [] cause) is d.done;
    }
    of false is = record {
      actual = Finds rows selector;
      comes = record { wanting = false; is = refl; may = tt };
      done = record {
        acts = d.done.acts;
        course = record { lines = given; lists = subst (ListsMatches rows selector) (sym same) lists; printed = subst (λ o. IsCourse o d.done.acts) is d.done.course };
        told = d.done.told;
        faults = d.done.faults;
        journal = d.done.journal;
        cause_is = d.done.cause_is ∙ ap (λ o. cause_of o d.done.acts) is;
      };
    }

-- memory ran out for them
pub Does-unlisted : (before : SinkSeen) (rows : List Row) (selector : SelectorValue) → Does (Finds rows selector) before before [] [] (Some NoMemory)
Does-unlisted before rows selector = record {
  actual = Stops NoMemory;
  comes = record { wanting = true; is = refl; may = tt };
  done = IsDone-stopped before [] NoMemory;
}

-- what stopped the run
pub Does-nothing : (before : SinkSeen) (cause : Cause) → Does (Stops cause) before before [] [] (Some cause)
Does-nothing before cause = record {
  actual = Stops cause;
  comes = record { wanting = false; is = refl; may = tt };
  done = IsDone-stopped before [] cause;
}

-- ---- the whole

ComesTo-then : (first second third : Opening) → ComesTo first second → ComesTo second third → ComesTo first third
ComesTo-then first second third a b = of a.wanting b.wanting a.is a.may b.is b.may
  where
    of : (x y : Bool) → second ≡ cond x (Stops NoMemory) first → MayWant x first → third ≡ cond y (Stops NoMemory) second → MayWant y second → ComesTo first third
    of false false is may next may_next = record { wanting = false; is = next ∙ is; may = tt }
    of false true is may next may_next = record { wanting = true; is = next; may = subst (MayWant true) is may_next }
    of true false is may next may_next = record { wanting = true; is = next ∙ is; may = may }
    of true true is may next may_next = record { wanting = true; is = next; may = may }

pub Runs-done : (words : List (List ℕ)) (files_before files_after : FilesSeen) (before after : SinkSeen) (opening : Opening) (journal : List Entry) (cause : Option Cause)
    → Planned words files_before files_after opening → Does opening before after [] journal cause
    → Runs words files_before files_after before after journal cause
Runs-done words files_before files_after before after opening journal cause p d = record {
  plan = p.plan;
  planned = p.planned;
  opening = d.actual;
  reads = record {
    follows = record {
      answers = p.reads.follows.answers;
      of_files = p.reads.follows.of_files;
      loads = p.reads.follows.loads;
      comes = ComesTo-then (opening_of p.plan p.reads.follows.answers) opening d.actual p.reads.follows.comes d.comes;
    };
    begins = p.reads.begins;
  };
  done = d.done;
}

-- ---- the cause

one_at_most : (b : Bool) → cond b 1 0 ≤ 1
one_at_most true = omega arith
one_at_most false = omega arith

uncapped : (a b : Bool) → min (cond a 1 0 + cond b 1 0) (2 ^ 64 - 1) ≡ cond a 1 0 + cond b 1 0
uncapped a b = omega (arith, one_at_most a, one_at_most b)

made_cause : (failed : Bool) (taken : ℕ) (closed : Sent)
    → entry_cause (Refresh (cond failed SinkFailed Accepted) taken (cond failed 1 0)) closed ≡ sink_cause (cond failed 1 0 + failed_puts closed)
made_cause true taken closed = ap sink_cause (uncapped true closed.failed)
made_cause false taken closed = ap sink_cause (uncapped false closed.failed)

head-same : {x y : Entry} → x ∷ [] ≡ y ∷ [] → x ≡ y
head-same {x} same = ap (λ (all : List Entry). first_of_list x all) same
  where
    first_of_list : Entry → List Entry → Entry
    first_of_list other [] = other
    first_of_list other (entry ∷ entries) = entry

-- the entry says the cause
pub entry_cause-of : (act : Act) (shown : Presented) (entry : Entry) (closed : Sent) → IsRefresh shown act → entry ∷ [] ≡ act_entries act
    → entry_cause entry closed ≡ end_cause (end_of (Failures 0) (act ∷ Closes closed ∷ []))
entry_cause-of Unmade shown entry closed is same = ap (λ e. entry_cause e closed) (head-same same)
entry_cause-of (Undefined node axis) shown entry closed is same = ap (λ e. entry_cause e closed) (head-same same)
entry_cause-of (Updates update sent) shown entry closed is same = ap (λ e. entry_cause e closed) (head-same same) ∙ made_cause sent.failed sent.taken closed
entry_cause-of (Closes sent) shown entry closed is same = absurd is
entry_cause-of (Writes lines sent) shown entry closed is same = absurd is

-- ---- the run of a picture

-- memory ran out before the refresh, and nothing stands in the journal
pub Does-unbegun : (before : SinkSeen) (shown : Presented) (items : List Entry) → items ≡ [] → Does (Opens shown) before before [] items (Some NoMemory)
Does-unbegun before shown items none = subst (λ (all : List Entry). Does (Opens shown) before before [] all (Some NoMemory)) (sym none) (Does-wanting before shown [])

-- its refresh, and then the closing bytes
pub Does-shown : (before mid after : SinkSeen) (shown other : Presented) (items : List Entry) (entry : Entry) (closed : Sent) (cause : Option Cause)
    → shown ≡ other → items ≡ entry ∷ [] → Refreshes before mid shown entry → Sends mid after closing closed → cause ≡ entry_cause entry closed
    → Does (Opens other) before after [] items cause
Does-shown before mid after shown other items entry closed cause same journal r sends is =
    subst (λ (o : Presented). Does (Opens o) before after [] items cause) same
    (subst (λ (all : List Entry). Does (Opens shown) before after [] all cause) (sym journal)
    (Does-refresh before mid after shown [] entry closed cause r sends (is ∙ entry_cause-of r.act shown entry closed r.is r.entry_is)))
