-- How a plan is followed, load by load.
use Rattle.std.proofs.Common.{◌≡◌, ℕ, ◌+◌, List, [], ◌∷◌, ◌++◌, Option, None, Some, Result, Ok, Err, Vec, true, false, refl, inl, inr, ap, sym, ◌∙◌, arith, subst, append_assoc, IfSome}
use Rattle.std.proofs.lemmas.List.{append-nil}
use Rattle.std.specs.declared.alloc.Global.{Global}
use Rattle.tx_io.specs.Faults.{raised}
use Rattle.tx_io.specs.Loading.{FilesSeen, Load, load_of, append_loads, failed_loads, after_loads}
use Rattle.tx_io.specs.Store.{Answer, LoadGives}
use Rattle.tx_geom.specs.declared.places.Size.{Size}
use Rattle.tx_tree.specs.declared.row.Row.{Row}
use Rattle.tx_select.specs.SelectorValue.{SelectorValue}
use Rattle.tx_app.specs.Trees.{Fault}
use Rattle.tx_app.specs.Openings.{Opening, Stops, ComesTo}
use Rattle.tx_app.specs.Loads.{file_limit, GivesLoaded, Loads}
use Rattle.tx_app.specs.Plan.{Plan, Misuse, Unjudged, Refuse, Read, Open, Print, Find, opening_of, loads_of, AreOfFiles, Begun, Follows}
use Rattle.tx_app.specs.Plans.{plan_of, rows_plan, tree_plan, Planned}
use Rattle.tx_app.specs.Words.{Task, asked}
use Rattle.tx_app.specs.declared.causes.Cause.{Cause}
use Rattle.tx_app.specs.declared.causes.Cause.TheVariants.{Usage, NoMemory}

-- ---- loads, one behind another

failed_loads-append : (xs ys : List Load) → failed_loads (xs ++ ys) ≡ failed_loads xs + failed_loads ys
failed_loads-append [] ys = omega arith
failed_loads-append (load ∷ xs) ys = omega (arith, failed_loads-append xs ys)

append_loads-append : (told : Option (List Load)) (xs ys : List Load) → append_loads (append_loads told xs) ys ≡ append_loads told (xs ++ ys)
append_loads-append None xs ys = refl
append_loads-append (Some past) xs ys = ap Some (append_assoc past xs ys)

append_loads-none : (told : Option (List Load)) → told ≡ append_loads told []
append_loads-none None = refl
append_loads-none (Some past) = ap Some (sym (append-nil past))

raised-raised : (n j k : ℕ) → raised (raised n j) k ≡ raised n (j + k)
raised-raised n j k = omega arith

raised-none : (n : ℕ) → n ≡ raised n 0
raised-none n = omega arith

-- what files tell, from its parts
abbrev files_seen : Option (List ℕ → Option (List ℕ)) → Option (List Load) → ℕ → FilesSeen
files_seen contents loads faults = record { contents = contents; loads = loads; faults = faults }

after_loads-append : (before : FilesSeen) (xs ys : List Load) → after_loads (after_loads before xs) ys ≡ after_loads before (xs ++ ys)
after_loads-append before xs ys =
    ap (λ told. files_seen before.contents told (raised (raised before.faults (failed_loads xs)) (failed_loads ys))) (append_loads-append before.loads xs ys)
    ∙ ap (files_seen before.contents (append_loads before.loads (xs ++ ys)))
    (raised-raised before.faults (failed_loads xs) (failed_loads ys) ∙ ap (raised before.faults) (sym (failed_loads-append xs ys)))

after_loads-none : (before : FilesSeen) → before ≡ after_loads before []
after_loads-none before =
    ap (λ told. files_seen before.contents told before.faults) (append_loads-none before.loads)
    ∙ ap (files_seen before.contents (append_loads before.loads [])) (raised-none before.faults)

-- answers of files, one behind another
one_of_files : (contents : Option (List ℕ → Option (List ℕ))) (name : List ℕ) (answer : Answer) → IfSome contents (λ told. LoadGives (told name) file_limit answer)
    → AreOfFiles contents (load_of name file_limit answer ∷ [])
one_of_files None name answer h = tt
one_of_files (Some told) name answer h = (h, tt)

more_of_files : (contents : Option (List ℕ → Option (List ℕ))) (name : List ℕ) (answer : Answer) (loads : List Load)
    → IfSome contents (λ told. LoadGives (told name) file_limit answer) → AreOfFiles contents loads → AreOfFiles contents (load_of name file_limit answer ∷ loads)
more_of_files None name answer loads h rest = tt
more_of_files (Some told) name answer loads h rest = (h, rest)

-- ---- a load of a plan

-- the file was loaded, and the plan was followed with its bytes
pub Begun-read : (before mid after : FilesSeen) (name : List ℕ) (next : List ℕ → Plan) (bytes : Vec ℕ Global) (given : List ℕ) (actual : Opening)
    → Loads before mid name (Ok bytes) → given ≡ bytes.items → Follows mid after (next given) actual → Begun before after (Read name file_limit next) actual
Begun-read before mid after name next bytes given actual load same rest = of load.answer load.of_files load.loads load.gives
  where
    of : (answer : Answer) → IfSome before.contents (λ told. LoadGives (told name) file_limit answer) → mid ≡ after_loads before (load_of name file_limit answer ∷ [])
        → GivesLoaded name answer (Ok bytes) → Begun before after (Read name file_limit next) actual
    of (Ok read) of_files loads gives =
        let is : given ≡ read = same ∙ gives.0 in
        let follows : Follows mid after (next read) actual = subst (λ all. Follows mid after (next all) actual) is rest in
        record {
          follows = record {
            answers = Ok read ∷ follows.answers;
            of_files = more_of_files before.contents name (Ok read) (loads_of (next read) follows.answers) of_files
                (subst (λ (seen : FilesSeen). AreOfFiles seen.contents (loads_of (next read) follows.answers)) loads follows.of_files);
            loads = follows.loads ∙ ap (λ seen. after_loads seen (loads_of (next read) follows.answers)) loads
                ∙ after_loads-append before (load_of name file_limit (Ok read) ∷ []) (loads_of (next read) follows.answers);
            comes = follows.comes;
          };
          begins = tt;
        }
    of (Err fault) of_files loads gives = absurd gives

-- the file wasn't loaded
pub Begun-unread : (before after : FilesSeen) (name : List ℕ) (next : List ℕ → Plan) (cause : Cause)
    → Loads before after name (Err cause) → Begun before after (Read name file_limit next) (Stops cause)
Begun-unread before after name next cause load = of load.answer load.of_files load.loads load.gives
  where
    of : (answer : Answer) → IfSome before.contents (λ told. LoadGives (told name) file_limit answer) → after ≡ after_loads before (load_of name file_limit answer ∷ [])
        → GivesLoaded name answer (Err cause) → Begun before after (Read name file_limit next) (Stops cause)
    of (Ok read) of_files loads gives = absurd gives
    of (Err fault) of_files loads gives = record {
      follows = record { answers = Err fault ∷ []; of_files = one_of_files before.contents name (Err fault) of_files; loads = loads; comes = gives };
      begins = tt;
    }

-- no load is made without an answer
no_loads : (plan : Plan) → loads_of plan [] ≡ []
no_loads Misuse = refl
no_loads Unjudged = refl
no_loads (Refuse file line column kind) = refl
no_loads (Read name limit next) = refl
no_loads (Open shown) = refl
no_loads (Print lines) = refl
no_loads (Find rows selector) = refl

none_of_files : (contents : Option (List ℕ → Option (List ℕ))) (loads : List Load) → loads ≡ [] → AreOfFiles contents loads
none_of_files None loads is = tt
none_of_files (Some told) loads is = rw is tt

-- nothing further is loaded
pub Follows-here : (before : FilesSeen) (plan : Plan) (actual : Opening) → ComesTo (opening_of plan []) actual → Follows before before plan actual
Follows-here before plan actual comes = record {
  answers = [];
  of_files = none_of_files before.contents (loads_of plan []) (no_loads plan);
  loads = after_loads-none before ∙ ap (after_loads before) (sym (no_loads plan));
  comes = comes;
}

-- ---- the words

-- the plan of the words
pub Planned-task : (before after : FilesSeen) (words : List (List ℕ)) (task : Option Task) (actual : Opening) → task ≡ asked words
    → Begun before after (plan_of task) actual → Planned words before after actual
Planned-task before after words task actual asks b = record { plan = plan_of task; planned = inl (ap plan_of asks); reads = b }

-- memory ran out to judge the words
pub Planned-unjudged : (before : FilesSeen) (words : List (List ℕ)) → Planned words before before (Stops NoMemory)
Planned-unjudged before words = record {
  plan = Unjudged;
  planned = inr refl;
  reads = record { follows = Follows-here before Unjudged (Stops NoMemory) (record { wanting = false; is = refl; may = tt }); begins = tt };
}

-- refused words
pub Begun-misuse : (before : FilesSeen) → Begun before before (plan_of None) (Stops Usage)
Begun-misuse before = record { follows = Follows-here before (plan_of None) (Stops Usage) (record { wanting = false; is = refl; may = tt }); begins = tt }

-- memory ran out for a tree that a selector is for
pub ComesTo-rows : (name : List ℕ) (selector : SelectorValue) (found : Result (List Row) Fault) → ComesTo (opening_of (rows_plan name selector found) []) (Stops NoMemory)
ComesTo-rows name selector (Ok rows) = record { wanting = true; is = refl; may = tt }
ComesTo-rows name selector (Err fault) = record { wanting = true; is = refl; may = tt }

-- memory ran out for a tree or for a sheet that is shown
pub Follows-untree : (before : FilesSeen) (size : Size) (tree sheet : List ℕ) (found : Result (List Row) Fault) → Follows before before (tree_plan size tree sheet found) (Stops NoMemory)
Follows-untree before size tree sheet (Ok rows) = Follows-here before (tree_plan size tree sheet (Ok rows)) (Stops NoMemory) (record { wanting = false; is = refl; may = tt })
Follows-untree before size tree sheet (Err fault) = Follows-here before (tree_plan size tree sheet (Err fault)) (Stops NoMemory) (record { wanting = true; is = refl; may = tt })
