-- Which value counts, of declarations and of a row's parent.
use Rattle.std.proofs.Common.{◌≡◌, ◌⊎◌, ℕ, ◌&&◌, Bool, true, false, List, [], ◌∷◌, filter, Option, Some, None, refl, sym, ap, ◌∙◌, inl, inr}
use Rattle.std.specs.List.{fold}
use Rattle.std.specs.Option.{option_map_or}
use Rattle.std.specs.Prelude.{if◌then◌else◌}
use Rattle.std.proofs.lemmas.Bool.{cases_Bool, and_parts, eq-eqb, eqb-true, false≢true}
use Rattle.tx_tree.specs.Row.{number as number_of}
use Rattle.tx_tree.specs.Rows.{row_at, parent_of, ancestors_of}
use Rattle.tx_tree.specs.Walk.{NumbersDiffer}
use Rattle.tx_tree.specs.declared.row.Row.{Row}
use Rattle.tx_value.specs.Inheritance.{inheritance_of}
use Rattle.tx_value.specs.Style.{number, style_value, ValuesMakeStyles}
use Rattle.tx_value.specs.declared.inheritance.Inheritance.{Inheritance}
use Rattle.tx_value.specs.declared.inheritance.Inheritance.TheVariants.{NotInherited, Inherited, Added}
use Rattle.tx_value.specs.declared.property.Property.{Property}
use Rattle.tx_value.specs.declared.value.Value.{Value}
use Rattle.tx_select.specs.declared.value.Pseudo.{Pseudo as State}
use Rattle.tx_select.proofs.lemmas.Ancestry.{up-parent, up-none}
use Rattle.tx_parse.specs.Values.{SheetValue}
use Rattle.tx_cascade.specs.Cascade.{is_default, is_of, counts, winner, is_initial, unless_initial, given, or_default, declared, valued, value_below, style_below, styled, IsStyleOf}
use Rattle.tx_cascade.specs.Key.{key_parts, exceeds, greatest, greater}
use Rattle.tx_cascade.specs.Laws.{IsIn, Beats}
use Rattle.tx_cascade.specs.Matchers.{Matcher, AreMatchers}
use Rattle.tx_cascade.specs.Reaching.{reaching}
use Rattle.tx_cascade.specs.ValueLaws.{IsOf, Wins, WinsBelow, CountsAsDeclared, NoneCounts, IsStyleAbove, ValuesAreThose, SomeWins}
use Rattle.tx_cascade.specs.declared.key.Origin.{Origin}
use Rattle.tx_cascade.specs.declared.key.Origin.TheVariants.{Default, Sheet, Inline}
use Rattle.tx_cascade.specs.declared.reaching.Reached.{Reached}
use Rattle.tx_cascade.proofs.Greatest.{itself, turned, fold-greatest}
use Rattle.tx_cascade.proofs.Lists.{in-filter, of-filter, the-greatest, greatest-of}
use Rattle.tx_cascade.proofs.OneKey.{at-most-one}
use Rattle.tx_cascade.proofs.OneStyle.{one-matcher}
use Rattle.tx_cascade.proofs.lemmas.Parents.{parent-at, row-number}
use Rattle.tx_cascade.proofs.Winners.{in-style}

abbrev parts : Reached → List ℕ
parts one = key_parts one.key

-- ---- the greatest of those that are kept

module _ (keep : Reached → Bool) (all : List Reached) where
  abbrev kept : List Reached
  kept = filter keep all

  module _ (one : Reached) (is-kept : keep one ≡ true) (among : IsIn one all) (beats : (other : Reached) → IsIn other all → keep other ≡ true → (one ≡ other) ⊎ Beats one.key other.key) where
    none-over : (other : Reached) → IsIn other kept → exceeds (parts other) (parts one) ≡ false
    none-over other is =
        let found = of-filter keep other all is in
        elim (beats other found.0 found.1) [
          | inl e ↦ ap (λ (r : Reached). exceeds (parts r) (parts one)) (sym e) ∙ itself (parts one)
          | inr over ↦ turned (parts one) (parts other) over
        ]

    no-equal : (other : Reached) → IsIn other kept → parts one ≡ parts other → one ≡ other
    no-equal other is same =
        let found = of-filter keep other all is in
        elim (beats other found.0 found.1) [
          | inl e ↦ e
          | inr over ↦ absurd (false≢true (sym (itself (parts one)) ∙ (ap (λ (ps : List ℕ). exceeds (parts one) ps) same ∙ over)))
        ]

    pub greatest-kept : greatest parts kept ≡ Some one
    greatest-kept = the-greatest parts kept one (in-filter keep one all among is-kept) none-over no-equal

none-kept : (keep : Reached → Bool) (all : List Reached) → ((one : Reached) → IsIn one all → keep one ≡ true → ⊥) → filter keep all ≡ []
none-kept keep [] none = refl
none-kept keep (one ∷ all) none = elim (cases_Bool (keep one)) [
  | inl is ↦ absurd (none one (inl refl) is)
  | inr other ↦ rw other (none-kept keep all (λ r more. none r (inr more)))
]

-- ---- winners

is-of : (property : Property) (one : Reached) → IsOf property one → is_of property one ≡ true
is-of property one own = eq-eqb (number one.property) (number property) own

of-is : (property : Property) (one : Reached) → is_of property one ≡ true → IsOf property one
of-is property one is = eqb-true (number one.property) (number property) is

default-is : (origin : Origin) → is_default origin ≡ true → origin ≡ Default
default-is Default is = refl
default-is Sheet is = absurd (false≢true is)
default-is Inline is = absurd (false≢true is)

both : (a b : Bool) → a ≡ true → b ≡ true → (a && b) ≡ true
both a b first second = ap (λ z. z && b) first ∙ second

module _ (all : List Reached) (property : Property) where
  wins : (one : Reached) → Wins all property one → winner property false all ≡ Some one
  unfolding winner
  wins one is = greatest-kept (counts property false) all one (is-of property one is.own) is.among (λ other among own. is.beats other among (of-is property other own))

  no-winner : ((one : Reached) → IsIn one all → IsOf property one → ⊥) → winner property false all ≡ None
  unfolding winner
  no-winner none = ap (λ (rs : List Reached). greatest parts rs) (none-kept (counts property false) all (λ one among own. none one among (of-is property one own)))

  wins-below : (one : Reached) → WinsBelow all property one → winner property true all ≡ Some one
  unfolding winner
  wins-below one is =
      greatest-kept (counts property true) all one (both (is_default one.key.origin) (is_of property one) (ap is_default is.default) (is-of property one is.own)) is.among
      (λ other among own.
      let two = and_parts (is_default other.key.origin) (is_of property other) own in
      is.beats other among (of-is property other two.1) (default-is other.key.origin two.0))

  none-below : ((one : Reached) → IsIn one all → IsOf property one → one.key.origin ≡ Default → ⊥) → winner property true all ≡ None
  unfolding winner
  none-below none =
      ap (λ (rs : List Reached). greatest parts rs)
      (none-kept (counts property true) all
      (λ one among own.
      let two = and_parts (is_default one.key.origin) (is_of property one) own in
      none one among (of-is property one two.1) (default-is one.key.origin two.0)))

  given-plain : (one : Reached) → is_initial one.value ≡ false → given (Some one) ≡ Some one.value
  given-plain one plain = ap (unless_initial one.value) plain

  given-initial : (one : Reached) → is_initial one.value ≡ true → given (Some one) ≡ None
  given-initial one is = ap (unless_initial one.value) is

  declared-by : (one : Reached) → winner property false all ≡ Some one → declared property all ≡ option_map_or (λ value. Some value) (given (Some one)) (given (winner property true all))
  declared-by one is = ap (λ (w : Option Reached). or_default w (winner property true all)) is

  or-else : (first : Option Value) (rest : Option Value) → Option Value
  or-else first rest = option_map_or (λ value. Some value) first rest

  is-declared : (value : Value) → CountsAsDeclared all property value → declared property all ≡ Some value
  is-declared value is = declared-by is.winner (wins is.winner is.wins) ∙ elim is.value_is [
    | inl plain ↦
        ap (λ (o : Option Value). option_map_or (λ value. Some value) o (given (winner property true all))) (given-plain is.winner plain.0)
        ∙ ap (λ (v : Value). Some v) plain.1
    | inr below ↦
        ap (λ (o : Option Value). option_map_or (λ value. Some value) o (given (winner property true all))) (given-initial is.winner below.0)
        ∙ (ap given (wins-below below.1.0 below.1.1) ∙ (given-plain below.1.0 below.1.2 ∙ ap (λ (v : Value). Some v) below.1.3))
  ]

  none-declared : NoneCounts all property → declared property all ≡ None
  none-declared (inl none) = ap (λ (w : Option Reached). or_default w (winner property true all)) (no-winner none)
  none-declared (inr fallen) =
      declared-by fallen.0 (wins fallen.0 fallen.1)
      ∙ (ap (λ (o : Option Value). option_map_or (λ value. Some value) o (given (winner property true all))) (given-initial fallen.0 fallen.2) ∙ elim fallen.3 [
        | inl none ↦ ap given (none-below none)
        | inr below ↦ ap given (wins-below below.0 below.1) ∙ given-initial below.0 below.2
      ])

-- ---- the style above

module _ (sheet : SheetValue) (state : State) (rows : List Row) (once : NumbersDiffer rows) (matchers : ℕ → Matcher) (agree : AreMatchers state rows matchers) where
  styled-of : (n : ℕ) (row : Row) (style : List Value) → row_at n rows ≡ Some row → IsStyleOf sheet state rows n style → style ≡ styled matchers sheet (row ∷ ancestors_of n rows)
  styled-of n row style there is =
      let same : is.row ≡ row = let e : Some is.row ≡ Some row = sym is.there ∙ there in cc in
      is.is
      ∙ (ap (λ (ms : ℕ → Matcher). styled ms sheet (is.row ∷ ancestors_of n rows)) (one-matcher state rows is.matchers matchers is.agree agree)
      ∙ ap (λ (r : Row). styled matchers sheet (r ∷ ancestors_of n rows)) same)

  above-is : (n : ℕ) (above : List Value) → IsStyleAbove sheet state rows n above → above ≡ styled matchers sheet (ancestors_of n rows)
  above-is n above is = by (parent_of n rows) refl
    where
      by : (found : Option Row) → parent_of n rows ≡ found → above ≡ styled matchers sheet (ancestors_of n rows)
      by None none = is.screen none ∙ sym (ap (styled matchers sheet) (up-none rows n none))
      by (Some parent) up =
          styled-of (number_of parent) parent above (parent-at rows once n parent up) (is.child parent up)
          ∙ sym (ap (styled matchers sheet) (up-parent rows once n parent up))

-- ---- laws

module _ (make : ValuesMakeStyles) where
  pub values-are : ValuesAreThose
  values-are sheet state rows n row matchers style above property once there agree is over = record {
    declared = λ value counts alone. own ∙ (ap (valued (inheritance_of property) property (style_value above property)) (is-declared all property value counts) ∙ taken (inheritance_of property) value alone);
    inherited = λ none inherited. own ∙ (ap (valued (inheritance_of property) property (style_value above property)) (none-declared all property none) ∙ ap (λ (i : Inheritance). valued i property (style_value above property) None) inherited);
    initial_value = λ none alone. own ∙ (ap (valued (inheritance_of property) property (style_value above property)) (none-declared all property none) ∙ ap (λ (i : Inheritance). valued i property (style_value above property) None) alone);
    added = λ value counts added. own ∙ (ap (valued (inheritance_of property) property (style_value above property)) (is-declared all property value counts) ∙ ap (λ (i : Inheritance). valued i property (style_value above property) (Some value)) added);
    passed_on = λ none added. own ∙ (ap (valued (inheritance_of property) property (style_value above property)) (none-declared all property none) ∙ ap (λ (i : Inheritance). valued i property (style_value above property) None) added);
  }
    where
      all : List Reached
      all = reaching (matchers n) sheet row.inline

      up : List Value
      up = styled matchers sheet (ancestors_of n rows)

      own : style_value style property ≡ value_below above (reaching (matchers n) sheet row.inline) property
      own =
          ap (λ (s : List Value). style_value s property) (styled-of sheet state rows once matchers agree n row style there is)
          ∙ (ap (λ (m : ℕ). style_value (style_below (styled matchers sheet (ancestors_of n rows)) (reaching (matchers m) sheet row.inline)) property) (row-number n rows row there)
          ∙ (in-style make (styled matchers sheet (ancestors_of n rows)) (reaching (matchers n) sheet row.inline) property
          ∙ ap (λ (a : List Value). value_below a (reaching (matchers n) sheet row.inline) property) (sym (above-is sheet state rows once matchers agree n above over))))

      taken : (i : Inheritance) (value : Value) → (i ≡ Added → ⊥) → valued i property (style_value above property) (Some value) ≡ value
      taken NotInherited value alone = refl
      taken Inherited value alone = refl
      taken Added value alone = absurd (alone refl)

-- ---- some declaration wins

some-greater : (best : Reached) (all : List Reached) → (one : Reached) × (fold (greater parts) (Some best) all ≡ Some one)
some-greater best [] = (best, refl)
some-greater best (one ∷ all) = elim (cases_Bool (exceeds (parts one) (parts best))) [
  | inl over ↦ rw over (some-greater one all)
  | inr under ↦ rw under (some-greater best all)
]

some-greatest : (all : List Reached) (one : Reached) → IsIn one all → (best : Reached) × (greatest parts all ≡ Some best)
some-greatest [] one among = absurd among
some-greatest (first ∷ all) one among = let found = some-greater first all in (found.0, sym (fold-greatest parts (first ∷ all)) ∙ found.1)

pub some-wins : SomeWins
some-wins matcher sheet inline property one among own =
    let all = reaching matcher sheet inline in
    let best = some-greatest (filter (counts property false) all) one (in-filter (counts property false) one all among (is-of property one own)) in
    let top = greatest-of parts (filter (counts property false) all) best.0 best.1 in
    let found = of-filter (counts property false) best.0 all top.0 in (
      best.0,
      record {
        among = found.0;
        own = of-is property best.0 found.1;
        beats = λ other other_among other_own. elim (cases_Bool (exceeds (parts best.0) (parts other))) [
          | inl over ↦ inr over
          | inr under ↦ inl (at-most-one matcher sheet inline best.0 other found.0 other_among under (top.1 other (in-filter (counts property false) other all other_among (is-of property other other_own))))
        ];
      },
    )
