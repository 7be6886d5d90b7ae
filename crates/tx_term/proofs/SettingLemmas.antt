-- The numbers of a sequence as parts of a slice.
use Rattle.std.proofs.Common.{◌≡◌, ◌-◌, ◌≤◌, ◌<◌, ℕ, List, [], ◌∷◌, length, take, drop, get_or, true, false, refl, arith, ap, sym, ◌∙◌, Some, option_and_then}
use Rattle.std.proofs.lemmas.Grind.{common_steps}
use Rattle.tx_cell.specs.declared.pen.Pen.{Pen}
use Rattle.tx_term.specs.Sequence.{with_mark, is_colour, with_colour, with_settings}

whole : {A : Type 0} (zs : List A) (n : ℕ) → n ≡ length zs → take n zs ≡ zs
whole zs n e = grind (arith, common_steps)

-- what stands behind the first item
pub behind_first : (number : ℕ) (rest : List ℕ) → take (length (number ∷ rest) - 1) (drop 1 (number ∷ rest)) ≡ rest
behind_first number rest = whole rest _ (omega arith)

-- a number that isn't a colour's, or behind which too few stand
pub with_settings-mark : (number : ℕ) (rest : List ℕ) (pen : Pen) → is_colour number ≡ false
    → with_settings (number ∷ rest) pen ≡ option_and_then (λ next. with_settings rest next) (with_mark number pen)
with_settings-mark number [] pen no_colour = refl
with_settings-mark number (a ∷ []) pen no_colour = refl
with_settings-mark number (a ∷ b ∷ []) pen no_colour = refl
with_settings-mark number (a ∷ b ∷ c ∷ []) pen no_colour = refl
with_settings-mark number (a ∷ b ∷ c ∷ d ∷ rest) pen no_colour = rw no_colour refl

pub with_settings-short : (number : ℕ) (rest : List ℕ) (pen : Pen) → length rest < 4
    → with_settings (number ∷ rest) pen ≡ option_and_then (λ next. with_settings rest next) (with_mark number pen)
with_settings-short number [] pen short = refl
with_settings-short number (a ∷ []) pen short = refl
with_settings-short number (a ∷ b ∷ []) pen short = refl
with_settings-short number (a ∷ b ∷ c ∷ []) pen short = refl
with_settings-short number (a ∷ b ∷ c ∷ d ∷ rest) pen short = absurd (omega arith)

pub with_settings-colour : (number form r g b : ℕ) (rest : List ℕ) (pen : Pen) → is_colour number ≡ true
    → with_settings (number ∷ form ∷ r ∷ g ∷ b ∷ rest) pen ≡ option_and_then (λ next. with_settings rest next) (with_colour number form r g b pen)
with_settings-colour number form r g b rest pen colour = rw colour refl

-- what stands behind the first number of a slice
abbrev pub tail_slice : List ℕ → List ℕ
tail_slice numbers = take (length numbers - 1) (drop 1 numbers)

colour_step : (number : ℕ) (rest tail : List ℕ) (pen next : Pen) → tail ≡ rest → 4 ≤ length tail → is_colour number ≡ true
    → with_colour number (get_or tail 0 0) (get_or tail 1 0) (get_or tail 2 0) (get_or tail 3 0) pen ≡ Some next
    → with_settings (take (length tail - 4) (drop 4 tail)) next ≡ with_settings (number ∷ rest) pen
colour_step number rest [] pen next is long colour made = absurd (omega arith)
colour_step number rest (a ∷ []) pen next is long colour made = absurd (omega arith)
colour_step number rest (a ∷ b ∷ []) pen next is long colour made = absurd (omega arith)
colour_step number rest (a ∷ b ∷ c ∷ []) pen next is long colour made = absurd (omega arith)
colour_step number rest (a ∷ b ∷ c ∷ d ∷ more) pen next is long colour made =
    ap (λ l. with_settings l next) (whole more _ (omega arith))
    ∙ sym (ap (λ o. option_and_then (λ p. with_settings more p) o) made)
    ∙ sym (with_settings-colour number a b c d more pen colour)
    ∙ ap (λ l. with_settings (number ∷ l) pen) is

-- the first numbers of a slice are a colour
pub with_settings-colour_slice : (numbers : List ℕ) (pen next : Pen) → 1 ≤ length numbers → 4 ≤ length (tail_slice numbers) → is_colour (get_or numbers 0 0) ≡ true
    → with_colour (get_or numbers 0 0) (get_or (tail_slice numbers) 0 0) (get_or (tail_slice numbers) 1 0) (get_or (tail_slice numbers) 2 0) (get_or (tail_slice numbers) 3 0) pen ≡ Some next
    → with_settings (take (length (tail_slice numbers) - 4) (drop 4 (tail_slice numbers))) next ≡ with_settings numbers pen
with_settings-colour_slice [] pen next some long colour made = absurd (omega arith)
with_settings-colour_slice (number ∷ rest) pen next some long colour made = colour_step number rest _ pen next (behind_first number rest) long colour made

mark_step : (number : ℕ) (rest : List ℕ) (pen next : Pen) → with_settings (number ∷ rest) pen ≡ option_and_then (λ p. with_settings rest p) (with_mark number pen)
    → with_mark number pen ≡ Some next → with_settings (tail_slice (number ∷ rest)) next ≡ with_settings (number ∷ rest) pen
mark_step number rest pen next is made =
    ap (λ l. with_settings l next) (behind_first number rest) ∙ sym (ap (λ o. option_and_then (λ p. with_settings rest p) o) made) ∙ sym is

-- the first number of a slice is a mark, since it is no colour's
pub with_settings-mark_slice : (numbers : List ℕ) (pen next : Pen) → 1 ≤ length numbers → is_colour (get_or numbers 0 0) ≡ false
    → with_mark (get_or numbers 0 0) pen ≡ Some next → with_settings (tail_slice numbers) next ≡ with_settings numbers pen
with_settings-mark_slice [] pen next some no_colour made = absurd (omega arith)
with_settings-mark_slice (number ∷ rest) pen next some no_colour made = mark_step number rest pen next (with_settings-mark number rest pen no_colour) made

-- or since too few stand behind it
pub with_settings-short_slice : (numbers : List ℕ) (pen next : Pen) → 1 ≤ length numbers → length (tail_slice numbers) < 4
    → with_mark (get_or numbers 0 0) pen ≡ Some next → with_settings (tail_slice numbers) next ≡ with_settings numbers pen
with_settings-short_slice [] pen next some short made = absurd (omega arith)
with_settings-short_slice (number ∷ rest) pen next some short made =
    mark_step number rest pen next (with_settings-short number rest pen (omega (arith, ap length (behind_first number rest)))) made
