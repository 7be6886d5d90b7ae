-- What beats all others of its property gives the value.
use Rattle.std.proofs.Common.{◌≡◌, ◌⊎◌, ℕ, Bool, true, false, List, ◌∷◌, filter, Option, Some, refl, sym, ap, subst, ◌∙◌, inl, inr}
use Rattle.std.specs.Option.{option_map_or}
use Rattle.std.proofs.lemmas.Bool.{eq-eqb, eqb-true, false≢true}
use Rattle.tx_tree.specs.Rows.{ancestors_of}
use Rattle.tx_tree.specs.declared.row.Row.{Row}
use Rattle.tx_value.specs.Inheritance.{inheritance_of}
use Rattle.tx_value.specs.Style.{number, style_value, ValuesMakeStyles}
use Rattle.tx_value.specs.declared.inheritance.Inheritance.{Inheritance}
use Rattle.tx_value.specs.declared.inheritance.Inheritance.TheVariants.{NotInherited, Inherited, Added}
use Rattle.tx_value.specs.declared.property.Property.{Property}
use Rattle.tx_value.specs.declared.value.Value.{Value}
use Rattle.tx_cascade.specs.Cascade.{counts, winner, is_initial, unless_initial, given, or_default, declared, valued, value_below, style_below, styled}
use Rattle.tx_cascade.specs.Key.{key_parts, exceeds}
use Rattle.tx_cascade.specs.Laws.{IsIn, Beats, WinnersCount}
use Rattle.tx_cascade.specs.Matchers.{Matcher}
use Rattle.tx_cascade.specs.Reaching.{reaching}
use Rattle.tx_cascade.specs.declared.reaching.Reached.{Reached}
use Rattle.tx_cascade.proofs.Greatest.{itself, turned}
use Rattle.tx_cascade.proofs.Lists.{in-filter, of-filter, the-greatest}
use Rattle.tx_cascade.proofs.OneStyle.{one-matcher}
use Rattle.tx_cascade.proofs.lemmas.Parents.{row-number}

abbrev parts : Reached → List ℕ
parts one = key_parts one.key

-- it beats every other of its property
abbrev BeatsAll : List Reached → Reached → Type 0
BeatsAll all one = (other : Reached) → IsIn other all → number other.property ≡ number one.property → (one ≡ other) ⊎ Beats one.key other.key

module _ (all : List Reached) (one : Reached) (here : IsIn one all) (beats : BeatsAll all one) where
  abbrev own : List Reached
  own = filter (counts one.property false) all

  none-over : (other : Reached) → IsIn other own → exceeds (parts other) (parts one) ≡ false
  none-over other is =
      let found = of-filter (counts one.property false) other all is in
      elim (beats other found.0 (eqb-true _ _ found.1)) [
        | inl e ↦ subst (λ (r : Reached). exceeds (parts r) (parts one) ≡ false) e (itself (parts one))
        | inr over ↦ turned (parts one) (parts other) over
      ]

  no-equal : (other : Reached) → IsIn other own → parts one ≡ parts other → one ≡ other
  no-equal other is same =
      let found = of-filter (counts one.property false) other all is in
      elim (beats other found.0 (eqb-true _ _ found.1)) [
        | inl e ↦ e
        | inr over ↦ absurd (false≢true (sym (itself (parts one)) ∙ (ap (λ (ps : List ℕ). exceeds (parts one) ps) same ∙ over)))
      ]

  it-wins : winner one.property false all ≡ Some one
  unfolding winner
  it-wins = the-greatest parts own one (in-filter (counts one.property false) one all here (eq-eqb (number one.property) (number one.property) refl)) none-over no-equal

  it-is-declared : is_initial one.value ≡ false → declared one.property all ≡ Some one.value
  it-is-declared plain =
      ap (λ (w : Option Reached). or_default w (winner one.property true all)) it-wins
      ∙ ap (λ (b : Bool). option_map_or (λ value. Some value) (unless_initial one.value b) (given (winner one.property true all))) plain

  it-counts : (above : List Value) → is_initial one.value ≡ false → (inheritance_of one.property ≡ Added → ⊥) → value_below above all one.property ≡ one.value
  it-counts above plain alone =
      ap (valued (inheritance_of one.property) one.property (style_value above one.property)) (it-is-declared plain) ∙ by (inheritance_of one.property) alone
    where
      by : (i : Inheritance) → (i ≡ Added → ⊥) → valued i one.property (style_value above one.property) (Some one.value) ≡ one.value
      by NotInherited alone = refl
      by Inherited alone = refl
      by Added alone = absurd (alone refl)

module _ (make : ValuesMakeStyles) where
  pub in-style : (above : List Value) (all : List Reached) (property : Property) → style_value (style_below above all) property ≡ value_below above all property
  unfolding style_below
  in-style above all property = (make (value_below above all)).1 property

  pub winners-count : WinnersCount
  winners-count sheet state rows n row matchers style one there agree is here beats plain alone =
      let same : is.row ≡ row = let e : Some is.row ≡ Some row = sym is.there ∙ there in cc in
      let up = ancestors_of n rows in
      let all = reaching (matchers n) sheet row.inline in
      let made : style ≡ styled matchers sheet (row ∷ up) =
      is.is ∙ (ap (λ (ms : ℕ → Matcher). styled ms sheet (is.row ∷ up)) (one-matcher state rows is.matchers matchers is.agree agree) ∙ ap (λ (r : Row). styled matchers sheet (r ∷ up)) same) in
      let own : styled matchers sheet (row ∷ up) ≡ style_below (styled matchers sheet up) all = ap (λ (m : ℕ). style_below (styled matchers sheet up) (reaching (matchers m) sheet row.inline)) (row-number n rows row there) in
      ap (λ (s : List Value). style_value s one.property) (made ∙ own)
      ∙ (in-style (styled matchers sheet up) all one.property ∙ it-counts all one here beats (styled matchers sheet up) plain alone)
