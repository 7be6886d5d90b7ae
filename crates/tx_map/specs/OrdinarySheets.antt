-- Sheets, inline texts and trees whose numbers are as stylesheets write them, and that their maps are defined.
use Rattle.std.specs.Prelude.{◌≡◌, ℕ, ◌≤◌, All, IsOk, List, length, Option}
use Rattle.tx_box.specs.Ordinary.{IsOrdinarySize}
use Rattle.tx_cascade.specs.Reaching.{inline_declarations}
use Rattle.tx_cascade.specs.Styles.{StylesValue}
use Rattle.tx_geom.specs.declared.places.Size.{Size}
use Rattle.tx_look.specs.Ordinary.{IsOrdinaryValue}
use Rattle.tx_map.specs.LayoutMap.{layout_map}
use Rattle.tx_map.specs.Present.{scene_of}
use Rattle.tx_parse.specs.DefaultRules.{default_rules}
use Rattle.tx_parse.specs.Values.{DeclarationValue, RuleValue, SheetValue}
use Rattle.tx_tree.specs.Rows.{children_of}
use Rattle.tx_tree.specs.Walk.{NumbersDiffer}
use Rattle.tx_tree.specs.WellFormed.{IsPreorder}
use Rattle.tx_tree.specs.declared.row.Row.{Row}

-- the sizes that are declared have at most 9 whole digits and 3 decimals
abbrev pub AreOrdinaryDeclarations : List DeclarationValue → Type 0
AreOrdinaryDeclarations declarations = All (λ declaration. IsOrdinaryValue declaration.value) declarations

-- so they have in each rule
abbrev pub AreOrdinaryRules : List RuleValue → Type 0
AreOrdinaryRules rules = All (λ rule. AreOrdinaryDeclarations rule.declarations) rules

-- so they have in a sheet, which brings the rules of the default sheet with it
pub record IsOrdinarySheet (sheet : SheetValue) : Type 0 where
  pub rules : AreOrdinaryRules sheet.rules
  pub defaults : sheet.defaults ≡ default_rules

-- so they have in the inline text of each row
abbrev pub AreOrdinaryTexts : List Row → Type 0
AreOrdinaryTexts rows = All (λ row. AreOrdinaryDeclarations (inline_declarations row.inline)) rows

-- the rows of a tree, of which none has more than 1,000 children
pub record IsOrdinaryTree (rows : List Row) : Type 0 where
  pub preorder : IsPreorder rows
  pub differ : NumbersDiffer rows
  pub few : (n : ℕ) → length (children_of n rows) ≤ 1000

-- With such a sheet, such inline texts and such a tree, on a screen with sides of at most 2^23 cells, there is a map, however rows are
-- scrolled and whichever pseudo-classes hold.
abbrev pub OrdinarySheets : Type 0
OrdinarySheets =
    (styles : StylesValue) (scrolls : ℕ → Option (ℕ × ℕ)) (size : Size) → IsOrdinarySheet styles.sheet → AreOrdinaryTexts styles.rows → IsOrdinaryTree styles.rows
    → IsOrdinarySize size → IsOk (layout_map (scene_of styles scrolls size))
