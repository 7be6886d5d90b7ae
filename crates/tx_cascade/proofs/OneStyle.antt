-- A row has one style.
use Rattle.std.proofs.Common.{◌≡◌, ℕ, true, false, List, ◌∷◌, Option, Some, None, option_map, refl, sym, ap, ◌∙◌, inl, inr}
use Rattle.std.proofs.lemmas.Bool.{cases_Bool, false≢true}
use Rattle.tx_tree.specs.Rows.{row_at, ancestors_of}
use Rattle.tx_tree.specs.Walk.{NumbersDiffer}
use Rattle.tx_tree.specs.declared.row.Row.{Row}
use Rattle.tx_select.specs.declared.value.Compound.{Compound}
use Rattle.tx_select.specs.declared.value.Pseudo.{Pseudo as State}
use Rattle.tx_parse.specs.Values.{SheetValue}
use Rattle.tx_value.specs.declared.value.Value.{Value}
use Rattle.tx_cascade.specs.Cascade.{styled, IsStyleOf}
use Rattle.tx_cascade.specs.Laws.{MatchersAgree, OneStyle, StylesAreThose}
use Rattle.tx_cascade.specs.Matchers.{Matcher, AreMatchers, matchers_of}
use Rattle.tx_cascade.specs.Styles.{all_styles}
use Rattle.tx_cascade.proofs.Matching.{matchers-agree}

pub agree : MatchersAgree
agree state rows once = matchers-agree rows once state

module _ (state : State) (rows : List Row) (some other : ℕ → Matcher) (first : AreMatchers state rows some) (second : AreMatchers state rows other) where
  same-answer : (n : ℕ) (compounds : List Compound) → some n compounds ≡ other n compounds
  same-answer n compounds = elim (cases_Bool (some n compounds)) [
    | inl is ↦ is ∙ sym (second.whole n compounds (first.sound n compounds is))
    | inr not_so ↦ elim (cases_Bool (other n compounds)) [
      | inl is ↦ absurd (false≢true (sym not_so ∙ first.whole n compounds (second.sound n compounds is)))
      | inr neither ↦ not_so ∙ sym neither
    ]
  ]

  same-at : (n : ℕ) → some n ≡ other n
  same-at n = λ i compounds. same-answer n compounds i

  -- matchers of one tree are equal
  pub one-matcher : some ≡ other
  one-matcher = λ i n. same-at n i

some-is : {A : Type 0} (a b : A) → Some a ≡ Some b → a ≡ b
some-is a b is = cc

pub one-style : OneStyle
one-style sheet state rows n style other first second =
    let same : first.row ≡ second.row = some-is first.row second.row (sym first.there ∙ second.there) in
    first.is
    ∙ (ap (λ (ms : ℕ → Matcher). styled ms sheet (first.row ∷ ancestors_of n rows)) (one-matcher state rows first.matchers second.matchers first.agree second.agree)
    ∙ (ap (λ (row : Row). styled second.matchers sheet (row ∷ ancestors_of n rows)) same ∙ sym second.is))

-- what the styles of all rows are
pub styles-at : (sheet : SheetValue) (state : State) (rows : List Row) (n : ℕ)
    → all_styles sheet state rows n ≡ option_map (λ row. styled (matchers_of state rows) sheet (row ∷ ancestors_of n rows)) (row_at n rows)
unfolding all_styles
styles-at sheet state rows n = refl

module _ (sheet : SheetValue) (state : State) (rows : List Row) (once : NumbersDiffer rows) (n : ℕ) where
  abbrev style-with : Row → List Value
  style-with row = styled (matchers_of state rows) sheet (row ∷ ancestors_of n rows)

  is-style : (at : Option Row) → row_at n rows ≡ at → (style : List Value) → option_map style-with at ≡ Some style → IsStyleOf sheet state rows n style
  is-style None there style is = let clash : None ≡ Some style = is in cc
  is-style (Some row) there style is = record {
    row = row;
    there = there;
    matchers = matchers_of state rows;
    agree = matchers-agree rows once state;
    is = some-is style (style-with row) (sym is);
  }

  pub of-all : (style : List Value) → all_styles sheet state rows n ≡ Some style → IsStyleOf sheet state rows n style
  of-all style is = is-style (row_at n rows) refl style (sym (styles-at sheet state rows n) ∙ is)

  there-is : (row : Row) → row_at n rows ≡ Some row → all_styles sheet state rows n ≡ Some (style-with row)
  there-is row there = styles-at sheet state rows n ∙ ap (option_map style-with) there

  pub to-all : (style : List Value) → IsStyleOf sheet state rows n style → all_styles sheet state rows n ≡ Some style
  to-all style is =
      let own = there-is is.row is.there in
      own ∙ ap (λ (s : List Value). Some s) (one-style sheet state rows n (style-with is.row) style (of-all (style-with is.row) own) is)

pub those : StylesAreThose
those sheet state rows once n =
    (of-all sheet state rows once n, to-all sheet state rows once n, λ row there. (styled (matchers_of state rows) sheet (row ∷ ancestors_of n rows), there-is sheet state rows once n row there))
