-- Styles by number that stand at places.
use Rattle.std.proofs.Common.{◌≡◌, ℕ, zero, suc, ◌+◌, ◌==◌, length, List, [], ◌∷◌, ◌++◌, Option, Some, None, slice_get, refl, sym, subst, inl, inr}
use Rattle.std.specs.Prelude.{option_and_then}
use Rattle.std.proofs.lemmas.Bool.{cases_Bool}
use Rattle.tx_node_map.specs.Held.{with_at}
use Rattle.tx_tree.specs.declared.row.Row.{Row}
use Rattle.tx_parse.specs.Values.{SheetValue}
use Rattle.tx_value.specs.Style.{IsStyle}
use Rattle.tx_value.specs.declared.value.Value.{Value}
use Rattle.tx_cascade.specs.Cascade.{style_below, styled}
use Rattle.tx_cascade.specs.Matchers.{Matcher}
use Rattle.tx_cascade.specs.Styles.{AreWhole, StillStand, StandsAt, ArePlaced, style_placed}

-- a row's style has a value for each property
pub styled-whole : (matchers : ℕ → Matcher) (sheet : SheetValue) (rows : List Row) → IsStyle (styled matchers sheet rows)
unfolding style_below
styled-whole matchers sheet [] = refl
styled-whole matchers sheet (row ∷ above) = refl

-- what stands at a number's place is its style
stands-is : (made : List (List Value)) (place : Option ℕ) (style : Option (List Value)) → StandsAt made place style → option_and_then (slice_get made) place ≡ style
stands-is made None None stands = refl
stands-is made None (Some style) stands = absurd stands
stands-is made (Some place) None stands = absurd stands
stands-is made (Some place) (Some style) stands = stands

pub placed-is : (made : List (List Value)) (places : ℕ → Option ℕ) (styles : ℕ → Option (List Value)) → ArePlaced made places styles → (n : ℕ) → style_placed made places n ≡ styles n
placed-is made places styles placed n = stands-is made (places n) (styles n) (placed n)

still-stands : (old new : List (List Value)) → StillStand old new → (place : Option ℕ) (style : Option (List Value)) → StandsAt old place style → StandsAt new place style
still-stands old new kept None None stands = tt
still-stands old new kept None (Some style) stands = absurd stands
still-stands old new kept (Some place) None stands = absurd stands
still-stands old new kept (Some place) (Some style) stands = kept place style stands

-- with one more
pub placed-more : (old new : List (List Value)) (places next : ℕ → Option ℕ) (styles : ℕ → Option (List Value)) (n place : ℕ) (style : List Value)
    → StillStand old new → slice_get new place ≡ Some style → next ≡ with_at places n (Some place) → ArePlaced old places styles
    → ArePlaced new next (with_at styles n (Some style))
placed-more old new places next styles n place style kept at put placed m =
    subst (λ (f : ℕ → Option ℕ). StandsAt new (f m) (with_at styles n (Some style) m)) (sym put)
    (elim (cases_Bool (m == n)) [
      | inl same ↦ rw same at-place
      | inr other ↦ rw other (still-stands old new kept (places m) (styles m) (placed m))
    ])
  where
    at-place : StandsAt new (Some place) (Some style)
    at-place = at

-- ---- one more style at the end

pub get-front : (xs ys : List (List Value)) (i : ℕ) (x : List Value) → slice_get xs i ≡ Some x → slice_get (xs ++ ys) i ≡ Some x
get-front [] ys i x is = let clash : None ≡ Some x = is in cc
get-front (first ∷ xs) ys zero x is = is
get-front (first ∷ xs) ys (suc i) x is = get-front xs ys i x is

pub get-last : (xs : List (List Value)) (x : List Value) → slice_get (xs ++ (x ∷ [])) (length xs) ≡ Some x
get-last [] x = refl
get-last (first ∷ xs) x = get-last xs x

pub whole-more : (xs : List (List Value)) (x : List Value) → AreWhole xs → IsStyle x → AreWhole (xs ++ (x ∷ []))
whole-more [] x whole one zero style is = let same : x ≡ style = cc in subst IsStyle same one
whole-more [] x whole one (suc place) style is = let clash : None ≡ Some style = is in cc
whole-more (first ∷ xs) x whole one zero style is = whole 0 style is
whole-more (first ∷ xs) x whole one (suc place) style is = whole-more xs x (λ i s at. whole (suc i) s at) one place style is
