-- A plan: what a run reads, file by file, and what that comes to. The opening and the loads both follow from it.
use Rattle.std.specs.Prelude.{◌≡◌, ℕ, List, [], ◌∷◌, Option, Ok, Err, IfSome}
use Rattle.std.specs.List.{AllByRecursion}
use Rattle.tx_io.specs.Loading.{FilesSeen, Load, load_of, after_loads}
use Rattle.tx_io.specs.Store.{Answer, LoadGives}
use Rattle.tx_tree.specs.declared.row.Row.{Row}
use Rattle.tx_select.specs.SelectorValue.{SelectorValue}
use Rattle.tx_compose.specs.Presented.{Presented}
use Rattle.tx_app.specs.Openings.{Opening, Stops, Opens, Prints, Finds, ComesTo}
use Rattle.tx_app.specs.Loads.{load_cause}
use Rattle.tx_app.specs.declared.causes.Cause.TheVariants.{Usage, Refused, NoMemory}
use Rattle.tx_app.specs.declared.causes.Refusal.{Refusal}

pub data Plan : Type 0 where
  -- stop: the words are refused
  Misuse : Plan
  -- stop: memory ran out to judge the words
  Unjudged : Plan
  -- stop: a file is at fault, at this line and column, by this
  Refuse : List ℕ → ℕ → ℕ → Refusal → Plan
  -- load this name with this limit, and go on with the bytes that it gives
  Read : List ℕ → ℕ → (List ℕ → Plan) → Plan
  -- show this
  Open : Presented → Plan
  -- print lines
  Print : List ℕ → Plan
  -- print those of these rows that a selector matches
  Find : List Row → SelectorValue → Plan

-- What it comes to, by what the loads answer in their order. Where a further load is to be made and there is no answer,
-- memory ran out before it.
abbrev pub opening_of : Plan → List Answer → Opening
opening_of Misuse answers = Stops Usage
opening_of Unjudged answers = Stops NoMemory
opening_of (Refuse file line column kind) answers = Stops (Refused file line column kind)
opening_of (Read name limit next) [] = Stops NoMemory
opening_of (Read name limit next) (Ok bytes ∷ answers) = opening_of (next bytes) answers
opening_of (Read name limit next) (Err fault ∷ answers) = Stops (load_cause name fault)
opening_of (Open shown) answers = Opens shown
opening_of (Print lines) answers = Prints lines
opening_of (Find rows selector) answers = Finds rows selector

-- The loads that are made, in their order. Further answers decide nothing.
abbrev pub loads_of : Plan → List Answer → List Load
loads_of Misuse answers = []
loads_of Unjudged answers = []
loads_of (Refuse file line column kind) answers = []
loads_of (Read name limit next) [] = []
loads_of (Read name limit next) (Ok bytes ∷ answers) = load_of name limit (Ok bytes) ∷ loads_of (next bytes) answers
loads_of (Read name limit next) (Err fault ∷ answers) = load_of name limit (Err fault) ∷ []
loads_of (Open shown) answers = []
loads_of (Print lines) answers = []
loads_of (Find rows selector) answers = []

-- where the files tell what they hold, the answers are those of their contents
abbrev pub AreOfFiles : Option (List ℕ → Option (List ℕ)) → List Load → Type 0
AreOfFiles contents loads = IfSome contents (λ told. AllByRecursion (λ (load : Load). LoadGives (told load.name) load.limit load.answer) loads)

-- a first load isn't left out where memory runs out
abbrev pub Begins : Plan → List Answer → Type 0
Begins Misuse answers = Unit {0}
Begins Unjudged answers = Unit {0}
Begins (Refuse file line column kind) answers = Unit {0}
Begins (Read name limit next) [] = ⊥
Begins (Read name limit next) (answer ∷ answers) = Unit {0}
Begins (Open shown) answers = Unit {0}
Begins (Print lines) answers = Unit {0}
Begins (Find rows selector) answers = Unit {0}

-- The files were read by this plan: the loads were made, and this is what it came to.
pub record Follows (before after : FilesSeen) (plan : Plan) (actual : Opening) : Type 0 where
  pub answers : List Answer
  pub of_files : AreOfFiles before.contents (loads_of plan answers)
  pub loads : after ≡ after_loads before (loads_of plan answers)
  pub comes : ComesTo (opening_of plan answers) actual

-- the same, from a first load on
pub record Begun (before after : FilesSeen) (plan : Plan) (actual : Opening) : Type 0 where
  pub follows : Follows before after plan actual
  pub begins : Begins plan follows.answers
