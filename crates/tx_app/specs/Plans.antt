-- The plan of each task.
use Rattle.std.specs.Prelude.{◌≡◌, ◌⊎◌, ℕ, List, ◌++◌, length, Option, Some, None, Result, Ok, Err, codes, decimal}
use Rattle.tx_parse.specs.Default.{sheet_value}
use Rattle.tx_parse.specs.Grammar.{Found}
use Rattle.tx_parse.specs.Places.{line_of, column_of}
use Rattle.tx_parse.specs.Texts.{Report, sheet_of}
use Rattle.tx_tree.specs.declared.row.Row.{Row}
use Rattle.tx_select.specs.SelectorValue.{SelectorValue}
use Rattle.tx_geom.specs.declared.places.Size.{Size}
use Rattle.tx_app.specs.Words.{Task, Shows, Checks, Queries, asked}
use Rattle.tx_app.specs.FirstShown.{first_shown}
use Rattle.tx_app.specs.Trees.{Fault, rows_of}
use Rattle.tx_io.specs.Loading.{FilesSeen}
use Rattle.tx_app.specs.Openings.{Opening}
use Rattle.tx_app.specs.Loads.{file_limit}
use Rattle.tx_app.specs.Plan.{Plan, Misuse, Unjudged, Refuse, Read, Open, Print, Find, Begun}
use Rattle.tx_app.specs.declared.causes.Refusal.TheVariants.{Sheet}

-- what stands in a file, or its first line that is at fault
abbrev pub in_form : {A : Type 0} → List ℕ → Result A Fault → (A → Plan) → Plan
in_form name (Ok value) next = next value
in_form name (Err fault) next = Refuse name fault.0 1 fault.1

-- the sheet in these bytes of a file, or its first fault
abbrev pub in_grammar : List ℕ → List ℕ → Result Found Report → (Found → Plan) → Plan
in_grammar name bytes (Ok found) next = next found
in_grammar name bytes (Err report) next = Refuse name (line_of bytes report.1) (column_of bytes report.1) (Sheet report.0)

-- ---- a picture: the tree, and then the sheet

abbrev pub shown_plan : Size → List ℕ → List Row → List ℕ → Result Found Report → Plan
shown_plan size sheet rows bytes read = in_grammar sheet bytes read (λ found. Open (first_shown rows (sheet_value found) size))

abbrev pub sheet_plan : Size → List ℕ → List Row → Plan
sheet_plan size sheet rows = Read sheet file_limit (λ bytes. shown_plan size sheet rows bytes (sheet_of bytes))

abbrev pub tree_plan : Size → List ℕ → List ℕ → Result (List Row) Fault → Plan
tree_plan size tree sheet found = in_form tree found (sheet_plan size sheet)

abbrev pub show_plan : Size → List ℕ → List ℕ → Plan
show_plan size tree sheet = Read tree file_limit (λ bytes. tree_plan size tree sheet (rows_of bytes))

-- ---- the counts of a sheet

-- how many rules, declarations and variables there are, in one line
abbrev pub counts_of : ℕ → ℕ → ℕ → List ℕ
counts_of rules declarations variables =
    codes "rules " ++ decimal rules ++ codes ", declarations " ++ decimal declarations ++ codes ", variables " ++ decimal variables ++ codes "\n"

abbrev pub counts_line : Found → List ℕ
counts_line found = counts_of (length found.rules) found.written found.variables

-- the counts, or the first fault
abbrev pub counted : List ℕ → List ℕ → Result Found Report → Plan
counted name bytes read = in_grammar name bytes read (λ found. Print (counts_line found))

abbrev pub check_plan : List ℕ → Plan
check_plan name = Read name file_limit (λ bytes. counted name bytes (sheet_of bytes))

-- ---- the rows that a selector matches

abbrev pub rows_plan : List ℕ → SelectorValue → Result (List Row) Fault → Plan
rows_plan name selector found = in_form name found (λ rows. Find rows selector)

abbrev pub query_plan : List ℕ → SelectorValue → Plan
query_plan name selector = Read name file_limit (λ bytes. rows_plan name selector (rows_of bytes))

-- ---- all tasks

abbrev pub task_plan : Task → Plan
task_plan (Shows show) = show_plan show.size show.tree show.sheet
task_plan (Checks sheet) = check_plan sheet
task_plan (Queries tree selector) = query_plan tree selector

abbrev pub plan_of : Option Task → Plan
plan_of None = Misuse
plan_of (Some task) = task_plan task

-- the words, then the files
abbrev pub plan_of_words : List (List ℕ) → Plan
plan_of_words words = plan_of (asked words)

-- the plan that is followed: that of the words, or memory ran out to judge them, also where they are refused
abbrev pub IsPlanned : List (List ℕ) → Plan → Type 0
IsPlanned words plan = (plan ≡ plan_of_words words) ⊎ (plan ≡ Unjudged)

-- the files were read as the words ask for
pub record Planned (words : List (List ℕ)) (before after : FilesSeen) (actual : Opening) : Type 0 where
  pub plan : Plan
  pub planned : IsPlanned words plan
  pub reads : Begun before after plan actual
