-- The cascade: what declarations and the parent's style make of a row.
use Rattle.std.specs.Prelude.{◌≡◌, ℕ, ◌==◌, ◌&&◌, Bool, true, false, List, [], ◌∷◌, map, filter, Option, Some, None, unwrap_or}
use Rattle.std.specs.Option.{option_map_or}
use Rattle.tx_tree.specs.Row.{number as number_of}
use Rattle.tx_tree.specs.Rows.{row_at, ancestors_of}
use Rattle.tx_tree.specs.declared.row.Row.{Row}
use Rattle.tx_geom.specs.Marks.{no_marks, with_marks}
use Rattle.tx_geom.specs.declared.styles.TextStyle.{TextStyle}
use Rattle.tx_value.specs.Inheritance.{inheritance_of}
use Rattle.tx_value.specs.Initial.{initial}
use Rattle.tx_value.specs.Style.{number, every_property, style_value, initial_style}
use Rattle.tx_value.specs.ValueReads.{marks_in}
use Rattle.tx_value.specs.declared.inheritance.Inheritance.{Inheritance}
use Rattle.tx_value.specs.declared.inheritance.Inheritance.TheVariants.{NotInherited, Inherited, Added}
use Rattle.tx_value.specs.declared.property.Property.{Property}
use Rattle.tx_value.specs.declared.value.Value.{Value}
use Rattle.tx_value.specs.declared.value.Value.TheVariants.{Initial, Marks}
use Rattle.tx_select.specs.declared.value.Pseudo.{Pseudo as State}
use Rattle.tx_parse.specs.Values.{SheetValue}
use Rattle.tx_cascade.specs.Key.{key_parts, greatest}
use Rattle.tx_cascade.specs.Matchers.{Matcher, AreMatchers}
use Rattle.tx_cascade.specs.Reaching.{reaching}
use Rattle.tx_cascade.specs.declared.key.Origin.{Origin}
use Rattle.tx_cascade.specs.declared.key.Origin.TheVariants.{Default, Sheet, Inline}
use Rattle.tx_cascade.specs.declared.reaching.Reached.{Reached}

-- ---- winners

abbrev pub is_default : Origin → Bool
is_default Default = true
is_default Sheet = false
is_default Inline = false

-- a declaration is one of this property
abbrev pub is_of : Property → Reached → Bool
is_of property one = number one.property == number property

-- a declaration is one of this property, and where it is asked for, of the default sheet
abbrev pub counts : Property → Bool → Reached → Bool
counts property false one = is_of property one
counts property true one = is_default one.key.origin && is_of property one

-- Of all declarations of a property the one with the greatest key; or of all those of the default sheet.
unfoldable pub winner : Property → Bool → List Reached → Option Reached
winner property only_default all = greatest (λ one. key_parts one.key) (filter (counts property only_default) all)

-- ---- values

abbrev pub is_initial : Value → Bool
is_initial Initial = true
is_initial _ = false

abbrev pub unless_initial : Value → Bool → Option Value
unless_initial value false = Some value
unless_initial value true = None

-- what a winner gives, where it isn't `initial`
abbrev pub given : Option Reached → Option Value
given None = None
given (Some one) = unless_initial one.value (is_initial one.value)

-- a winner that isn't `initial` gives its value; in place of one that is, the winner of the default sheet does
abbrev pub or_default : Option Reached → Option Reached → Option Value
or_default None below = None
or_default (Some one) below = option_map_or (λ value. Some value) (given (Some one)) (given below)

-- the value that is declared for a property, if there is one
abbrev pub declared : Property → List Reached → Option Value
declared property all = or_default (winner property false all) (winner property true all)

-- the marks that are declared, if any
abbrev pub marks_of : Option Value → TextStyle
marks_of None = no_marks
marks_of (Some value) = marks_in value

-- what a value that is declared, or none, makes beside the parent's value
abbrev pub valued : Inheritance → Property → Value → Option Value → Value
valued NotInherited property above value = unwrap_or value (initial property)
valued Inherited property above value = unwrap_or value above
valued Added property above value = Marks (with_marks (marks_of value) (marks_in above))

-- a row's value of a property, by its parent's style
abbrev pub value_below : List Value → List Reached → Property → Value
value_below above all property = valued (inheritance_of property) property (style_value above property) (declared property all)

-- a row's style, by its parent's
unfoldable pub style_below : List Value → List Reached → List Value
style_below above all = map (value_below above all) every_property

-- ---- rows

-- The style of a row, which stands first, its ancestors after it: each has its parent's style above it, and the Screen has
-- the initial values there. The matchers tell which selectors match the row with a number.
abbrev pub styled : (ℕ → Matcher) → SheetValue → List Row → List Value
styled matchers sheet [] = initial_style
styled matchers sheet (row ∷ above) = style_below (styled matchers sheet above) (reaching (matchers (number_of row)) sheet row.inline)

-- the row with a number and its ancestors
abbrev pub up_from : List Row → ℕ → List Row
up_from rows n = option_map_or (λ row. row ∷ ancestors_of n rows) (row_at n rows) []

-- this is the style of the row with a number, which is there
pub record IsStyleOf (sheet : SheetValue) (state : State) (rows : List Row) (n : ℕ) (style : List Value) : Type 0 where
  pub row : Row
  pub there : row_at n rows ≡ Some row
  pub matchers : ℕ → Matcher
  pub agree : AreMatchers state rows matchers
  pub is : style ≡ styled matchers sheet (row ∷ ancestors_of n rows)
