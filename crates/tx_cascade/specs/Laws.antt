-- What holds of the cascade.
use Rattle.std.specs.Prelude.{◌≡◌, ◌⊎◌, ℕ, ◌<◌, true, false, List, [], ◌∷◌, Some}
use Rattle.tx_tree.specs.Rows.{row_at}
use Rattle.tx_tree.specs.Walk.{NumbersDiffer}
use Rattle.tx_tree.specs.declared.row.Row.{Row}
use Rattle.tx_value.specs.Inheritance.{inheritance_of}
use Rattle.tx_value.specs.Style.{number, style_value}
use Rattle.tx_value.specs.declared.inheritance.Inheritance.TheVariants.{Added}
use Rattle.tx_value.specs.declared.value.Value.{Value}
use Rattle.tx_select.specs.declared.value.Pseudo.{Pseudo as State}
use Rattle.tx_parse.specs.Values.{SheetValue}
use Rattle.tx_cascade.specs.Cascade.{is_initial, IsStyleOf}
use Rattle.tx_cascade.specs.Key.{key_parts, exceeds}
use Rattle.tx_cascade.specs.Matchers.{Matcher, AreMatchers, matchers_of}
use Rattle.tx_cascade.specs.Reaching.{reaching}
use Rattle.tx_cascade.specs.Styles.{all_styles}
use Rattle.tx_cascade.specs.declared.key.Origin.TheVariants.{Default, Sheet, Inline}
use Rattle.tx_cascade.specs.declared.key.Key.{Key}
use Rattle.tx_cascade.specs.declared.key.Weight.{Weight}
use Rattle.tx_cascade.specs.declared.reaching.Reached.{Reached}

-- a declaration beats another
abbrev pub Beats : Key → Key → Type 0
Beats one other = exceeds (key_parts one) (key_parts other) ≡ true

-- one selector is more specific than another: by its ids, or else by its classes, or else by its types
abbrev pub IsMoreSpecific : Weight → Weight → Type 0
IsMoreSpecific one other =
    (other.ids < one.ids)
    ⊎ (((one.ids ≡ other.ids) × (other.classes < one.classes))
    ⊎ ((one.ids ≡ other.ids) × (one.classes ≡ other.classes) × (other.types < one.types)))

-- one declaration stands later than another: in a later rule, or later in the same one
abbrev pub StandsLater : Key → Key → Type 0
StandsLater one other = (other.rule < one.rule) ⊎ ((one.rule ≡ other.rule) × (other.place < one.place))

-- a declaration of the sheet that isn't important
abbrev pub IsOrdinary : Key → Type 0
IsOrdinary key = (key.origin ≡ Sheet) × (key.important ≡ false)

-- An important declaration beats every one that isn't.
abbrev pub ImportantWins : Type 0
ImportantWins = (one other : Key) → one.important ≡ true → other.important ≡ false → Beats one other

-- Of two declarations of the sheet, neither of them important, the one whose rule counts with the higher specificity wins, and of
-- equally specific ones the one that stands later.
abbrev pub SpecificWins : Type 0
SpecificWins = (one other : Key) → IsOrdinary one → IsOrdinary other → IsMoreSpecific one.weight other.weight → Beats one other

abbrev pub LaterWins : Type 0
LaterWins = (one other : Key) → IsOrdinary one → IsOrdinary other → one.weight ≡ other.weight → StandsLater one other → Beats one other

-- Of two that are equally important, a row's own declaration beats one of the sheet or of the default sheet, and one of the sheet beats
-- one of the default sheet.
abbrev pub NearerWins : Type 0
NearerWins = (one other : Key) → one.important ≡ other.important
    → ((one.origin ≡ Inline) × (other.origin ≡ Sheet)) ⊎ (((one.origin ≡ Inline) × (other.origin ≡ Default)) ⊎ ((one.origin ≡ Sheet) × (other.origin ≡ Default)))
    → Beats one other

-- one of some things
abbrev pub IsIn : {A : Type 0} → A → List A → Type 0
IsIn one [] = ⊥
IsIn one (first ∷ all) = (first ≡ one) ⊎ IsIn one all

-- Of all declarations that reach a row at most one is the greatest: where neither of two beats the other, they are one.
abbrev pub AtMostOneGreatest : Type 0
AtMostOneGreatest = (matcher : Matcher) (sheet : SheetValue) (inline : List ℕ) (one other : Reached) → IsIn one (reaching matcher sheet inline) → IsIn other (reaching matcher sheet inline)
    → exceeds (key_parts one.key) (key_parts other.key) ≡ false → exceeds (key_parts other.key) (key_parts one.key) ≡ false → one ≡ other

-- ---- styles

-- Looking for a match from each row upwards tells which selectors match it.
abbrev pub MatchersAgree : Type 0
MatchersAgree = (state : State) (rows : List Row) → NumbersDiffer rows → AreMatchers state rows (matchers_of state rows)

-- A row has at most one style.
abbrev pub OneStyle : Type 0
OneStyle = (sheet : SheetValue) (state : State) (rows : List Row) (n : ℕ) (style other : List Value)
    → IsStyleOf sheet state rows n style → IsStyleOf sheet state rows n other → style ≡ other

-- The style at a number is the style of the row with that number, and each row that is there has one.
abbrev pub StylesAreThose : Type 0
StylesAreThose = (sheet : SheetValue) (state : State) (rows : List Row) → NumbersDiffer rows → (n : ℕ)
    → ((style : List Value) → all_styles sheet state rows n ≡ Some style → IsStyleOf sheet state rows n style)
    × ((style : List Value) → IsStyleOf sheet state rows n style → all_styles sheet state rows n ≡ Some style)
    × ((row : Row) → row_at n rows ≡ Some row → (style : List Value) × (all_styles sheet state rows n ≡ Some style))

-- A declaration that reaches a row and beats every other one of its property gives the row its value, unless that is `initial`, or the
-- property adds up with the parent's.
abbrev pub WinnersCount : Type 0
WinnersCount = (sheet : SheetValue) (state : State) (rows : List Row) (n : ℕ) (row : Row) (matchers : ℕ → Matcher) (style : List Value) (one : Reached)
    → row_at n rows ≡ Some row → AreMatchers state rows matchers → IsStyleOf sheet state rows n style
    → IsIn one (reaching (matchers n) sheet row.inline)
    → ((other : Reached) → IsIn other (reaching (matchers n) sheet row.inline) → number other.property ≡ number one.property → (one ≡ other) ⊎ Beats one.key other.key)
    → is_initial one.value ≡ false → (inheritance_of one.property ≡ Added → ⊥)
    → style_value style one.property ≡ one.value
