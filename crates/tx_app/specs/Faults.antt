-- What the statuses stand for: risen counts, and when there is no cause but that memory ran out.
use Rattle.std.specs.Prelude.{◌≡◌, ◌≤◌, ◌<◌, ◌^◌, ℕ, List, [], ◌∷◌, length, All, Option, Some, None, codes, IsOk}
use Rattle.tx_io.specs.Faults.{raised, Rose}
use Rattle.tx_compose.specs.Presented.{IsScreen, composed}
use Rattle.tx_map.specs.OrdinarySheets.{AreOrdinaryTexts, IsOrdinarySheet, IsOrdinaryTree}
use Rattle.tx_opening.specs.OpeningFaults.{IsInline}
use Rattle.tx_parse.specs.Default.{sheet_value}
use Rattle.tx_parse.specs.Grammar.{Found}
use Rattle.tx_parse.specs.Texts.{IsSheetText}
use Rattle.tx_picture.specs.Given.{AreBuiltIn}
use Rattle.tx_select.specs.SelectorValue.{SelectorValue}
use Rattle.tx_select.specs.Texts.{IsSelectorText}
use Rattle.tx_tree.specs.TreeValue.{TreeValue}
use Rattle.tx_tree.specs.WellFormed.{IsTree}
use Rattle.tx_tree_file.specs.TreeFile.{IsReading}
use Rattle.tx_app.specs.FirstShown.{first_shown}
use Rattle.tx_app.specs.Words.{Checks, Show, Shows, asked, given}
use Rattle.tx_app.specs.Loads.{file_limit}
use Rattle.tx_app.specs.Plan.{Plan, Misuse, Unjudged, Refuse, Read, Open, Print, Find}
use Rattle.tx_app.specs.Plans.{plan_of_words}
use Rattle.tx_app.specs.declared.causes.Cause.{Cause}
use Rattle.tx_app.specs.declared.causes.Cause.TheVariants.{ReadFault, SinkFault, NoMemory}

-- how many loads failed, where that is the cause
abbrev pub read_faults : Option Cause → Option ℕ
read_faults (Some (ReadFault rose)) = Some rose
read_faults _ = None

-- how many puts failed, where that is the cause
abbrev pub sink_faults : Option Cause → Option ℕ
sink_faults (Some (SinkFault rose)) = Some rose
sink_faults _ = None

-- these failures, at least one, are those by which the count rose
abbrev pub CausedBy : Option ℕ → ℕ → ℕ → Type 0
CausedBy None before after = Unit {0}
CausedBy (Some rose) before after = (1 ≤ rose) × (after ≡ raised before rose) × Rose before after

-- no cause, or out of memory
abbrev pub IsNoneOrMemory : Option Cause → Type 0
IsNoneOrMemory None = Unit {0}
IsNoneOrMemory (Some NoMemory) = Unit {0}
IsNoneOrMemory _ = ⊥

-- there is a file, within a limit, whose bytes are so
abbrev pub IsHeld : Option (List ℕ) → ℕ → (List ℕ → Type 0) → Type 0
IsHeld None limit rest = ⊥
IsHeld (Some bytes) limit rest = (length bytes ≤ limit) × rest bytes

-- the files hold all that the plan asks for, nothing there is at fault, and the picture is defined
abbrev pub Accepts : (List ℕ → Option (List ℕ)) → Plan → Type 0
Accepts told Misuse = ⊥
Accepts told Unjudged = ⊥
Accepts told (Refuse file line column kind) = ⊥
Accepts told (Read name limit next) = IsHeld (told name) limit (λ bytes. Accepts told (next bytes))
Accepts told (Open shown) = IsOk (composed shown)
Accepts told (Print lines) = Unit {0}
Accepts told (Find rows selector) = Unit {0}

abbrev pub IsComplete : List (List ℕ) → (List ℕ → Option (List ℕ)) → ℕ → ℕ → ℕ → ℕ → Option Cause → Type 0
IsComplete words told files_before files_after out_before out_after cause =
    Accepts told (plan_of_words words) → (Rose files_before files_after → ⊥) → (Rose out_before out_after → ⊥) → IsNoneOrMemory cause

-- the words ask for the counts of a sheet, and the file holds one, within the limit
pub record HoldsSheet (words : List (List ℕ)) (told : List ℕ → Option (List ℕ)) : Type 0 where
  pub name : List ℕ
  pub sheet : List ℕ
  pub found : Found
  pub asks : asked words ≡ Some (Checks name)
  pub sheet_told : told name ≡ Some sheet
  pub sheet_short : length sheet ≤ file_limit
  pub grammar : IsSheetText sheet found

-- such files hold all that the plan asks for
abbrev pub SheetsAreAccepted : Type 0
SheetsAreAccepted = (words : List (List ℕ)) (told : List ℕ → Option (List ℕ)) → HoldsSheet words told → Accepts told (plan_of_words words)

-- The words ask for the rows of a tree that a selector matches, the selector is one by its grammar, and the file spells a
-- tree, within the limit, of built-in kinds and with inline texts in the grammar.
pub record HoldsTree (words : List (List ℕ)) (told : List ℕ → Option (List ℕ)) : Type 0 where
  pub program : List ℕ
  pub rest : List (List ℕ)
  pub name : List ℕ
  pub text : List ℕ
  pub asks : words ≡ program ∷ codes "query" ∷ rest
  pub gives : given [] rest ≡ Some (record { options = []; others = name ∷ text ∷ [] })
  pub selector : SelectorValue
  pub text_short : length text < 2 ^ 32
  pub selects : IsSelectorText text selector
  pub bytes : List ℕ
  pub tree : TreeValue
  pub bytes_told : told name ≡ Some bytes
  pub bytes_short : length bytes ≤ file_limit
  pub sound : IsTree tree
  pub spells : IsReading bytes tree
  pub built_in : AreBuiltIn tree.rows
  pub inline : All IsInline tree.rows

abbrev pub TreesAreAccepted : Type 0
TreesAreAccepted = (words : List (List ℕ)) (told : List ℕ → Option (List ℕ)) → HoldsTree words told → Accepts told (plan_of_words words)

-- The words ask for a picture, and the files that they name spell a tree, of built-in kinds and with inline texts in the grammar, and a
-- sheet, each within the limit.
pub record HoldsBoth (words : List (List ℕ)) (told : List ℕ → Option (List ℕ)) : Type 0 where
  pub show : Show
  pub asks : asked words ≡ Some (Shows show)
  pub tree_bytes : List ℕ
  pub tree : TreeValue
  pub tree_told : told show.tree ≡ Some tree_bytes
  pub tree_short : length tree_bytes ≤ file_limit
  pub sound : IsTree tree
  pub spells : IsReading tree_bytes tree
  pub built_in : AreBuiltIn tree.rows
  pub inline : All IsInline tree.rows
  pub sheet_bytes : List ℕ
  pub found : Found
  pub sheet_told : told show.sheet ≡ Some sheet_bytes
  pub sheet_short : length sheet_bytes ≤ file_limit
  pub grammar : IsSheetText sheet_bytes found

-- such files hold all that the plan asks for, where the picture is defined
abbrev pub PicturesAreAccepted : Type 0
PicturesAreAccepted =
    (words : List (List ℕ)) (told : List ℕ → Option (List ℕ)) (h : HoldsBoth words told)
    → IsOk (composed (first_shown h.tree.rows (sheet_value h.found) h.show.size)) → Accepts told (plan_of_words words)

-- The picture is defined, on a screen within the limits, where the sizes of the sheet and of the inline texts have at most 9 whole digits
-- and 3 decimals, and no row has more than 1,000 children.
abbrev pub OrdinaryPicturesAreAccepted : Type 0
OrdinaryPicturesAreAccepted =
    (words : List (List ℕ)) (told : List ℕ → Option (List ℕ)) (h : HoldsBoth words told)
    → IsScreen h.show.size → IsOrdinarySheet (sheet_value h.found) → AreOrdinaryTexts h.tree.rows → IsOrdinaryTree h.tree.rows → Accepts told (plan_of_words words)
