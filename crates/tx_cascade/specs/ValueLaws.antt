-- What a row has of a property, in the words of declarations and of its parent.
use Rattle.std.specs.Prelude.{◌≡◌, ◌⊎◌, ℕ, true, false, List, Some, None}
use Rattle.tx_geom.specs.Marks.{no_marks, with_marks}
use Rattle.tx_tree.specs.Row.{number as number_of}
use Rattle.tx_tree.specs.Rows.{row_at, parent_of}
use Rattle.tx_tree.specs.Walk.{NumbersDiffer}
use Rattle.tx_tree.specs.declared.row.Row.{Row}
use Rattle.tx_value.specs.Inheritance.{inheritance_of}
use Rattle.tx_value.specs.Initial.{initial}
use Rattle.tx_value.specs.Style.{number, style_value, initial_style}
use Rattle.tx_value.specs.ValueReads.{marks_in}
use Rattle.tx_value.specs.declared.inheritance.Inheritance.TheVariants.{NotInherited, Inherited, Added}
use Rattle.tx_value.specs.declared.property.Property.{Property}
use Rattle.tx_value.specs.declared.value.Value.{Value}
use Rattle.tx_value.specs.declared.value.Value.TheVariants.{Marks}
use Rattle.tx_select.specs.declared.value.Pseudo.{Pseudo as State}
use Rattle.tx_parse.specs.Values.{SheetValue}
use Rattle.tx_cascade.specs.Cascade.{is_initial, IsStyleOf}
use Rattle.tx_cascade.specs.Laws.{IsIn, Beats}
use Rattle.tx_cascade.specs.Matchers.{Matcher, AreMatchers}
use Rattle.tx_cascade.specs.Reaching.{reaching}
use Rattle.tx_cascade.specs.declared.key.Origin.TheVariants.{Default}
use Rattle.tx_cascade.specs.declared.reaching.Reached.{Reached}

-- ---- winners

abbrev pub IsOf : Property → Reached → Type 0
IsOf property one = number one.property ≡ number property

-- of some declarations one of a property that beats every other one of it
pub record Wins (all : List Reached) (property : Property) (one : Reached) : Type 0 where
  pub among : IsIn one all
  pub own : IsOf property one
  pub beats : (other : Reached) → IsIn other all → IsOf property other → (one ≡ other) ⊎ Beats one.key other.key

-- the same among those of the default sheet
pub record WinsBelow (all : List Reached) (property : Property) (one : Reached) : Type 0 where
  pub among : IsIn one all
  pub own : IsOf property one
  pub default : one.key.origin ≡ Default
  pub beats : (other : Reached) → IsIn other all → IsOf property other → other.key.origin ≡ Default → (one ≡ other) ⊎ Beats one.key other.key

-- ---- which value counts

-- A winner that isn't `initial` counts, and in place of one that is, the winner of the default sheet, where that isn't `initial`.
pub record CountsAsDeclared (all : List Reached) (property : Property) (value : Value) : Type 0 where
  pub winner : Reached
  pub wins : Wins all property winner
  pub value_is : ((is_initial winner.value ≡ false) × (winner.value ≡ value))
      ⊎ ((is_initial winner.value ≡ true) × ((below : Reached) × WinsBelow all property below × (is_initial below.value ≡ false) × (below.value ≡ value)))

-- No declaration counts: there is none of the property, or the winner is `initial`, and of the default sheet there is none, or its
-- winner is `initial` too.
abbrev pub NoneCounts : List Reached → Property → Type 0
NoneCounts all property =
    ((one : Reached) → IsIn one all → IsOf property one → ⊥)
    ⊎ ((winner : Reached) × Wins all property winner × (is_initial winner.value ≡ true)
    × (((one : Reached) → IsIn one all → IsOf property one → one.key.origin ≡ Default → ⊥)
    ⊎ ((below : Reached) × WinsBelow all property below × (is_initial below.value ≡ true))))

-- ---- what is above

-- the style of the row's parent, or the initial values above the Screen, which has none
pub record IsStyleAbove (sheet : SheetValue) (state : State) (rows : List Row) (n : ℕ) (above : List Value) : Type 0 where
  pub screen : parent_of n rows ≡ None → above ≡ initial_style
  pub child : (parent : Row) → parent_of n rows ≡ Some parent → IsStyleOf sheet state rows (number_of parent) above

-- ---- laws

-- What counts as declared is the row's value. Where nothing does, the row has its parent's value of an inherited property, and of
-- every other one the initial value. The marks that are declared add up with the parent's.
pub record ValuesAre (all : List Reached) (style above : List Value) (property : Property) : Type 0 where
  pub declared : (value : Value) → CountsAsDeclared all property value → (inheritance_of property ≡ Added → ⊥) → style_value style property ≡ value
  pub inherited : NoneCounts all property → inheritance_of property ≡ Inherited → style_value style property ≡ style_value above property
  pub initial_value : NoneCounts all property → inheritance_of property ≡ NotInherited → style_value style property ≡ initial property
  pub added : (value : Value) → CountsAsDeclared all property value → inheritance_of property ≡ Added
      → style_value style property ≡ Marks (with_marks (marks_in value) (marks_in (style_value above property)))
  pub passed_on : NoneCounts all property → inheritance_of property ≡ Added → style_value style property ≡ Marks (with_marks no_marks (marks_in (style_value above property)))

abbrev pub ValuesAreThose : Type 0
ValuesAreThose = (sheet : SheetValue) (state : State) (rows : List Row) (n : ℕ) (row : Row) (matchers : ℕ → Matcher) (style above : List Value) (property : Property)
    → NumbersDiffer rows → row_at n rows ≡ Some row → AreMatchers state rows matchers → IsStyleOf sheet state rows n style → IsStyleAbove sheet state rows n above
    → ValuesAre (reaching (matchers n) sheet row.inline) style above property

-- Of a property of which some declaration reaches a row, one wins.
abbrev pub SomeWins : Type 0
SomeWins = (matcher : Matcher) (sheet : SheetValue) (inline : List ℕ) (property : Property) (one : Reached) → IsIn one (reaching matcher sheet inline) → IsOf property one
    → (winner : Reached) × Wins (reaching matcher sheet inline) property winner
