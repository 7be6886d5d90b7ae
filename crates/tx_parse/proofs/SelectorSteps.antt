-- The steps of reading the selectors of a rule.
use Rattle.std.proofs.Common.{◌≡◌, ℕ, suc, Bool, true, false, List, [], ◌∷◌, ◌++◌, Option, Ok, ap, sym, ◌∙◌}
use Rattle.tx_read.specs.Answer.{Tells}
use Rattle.tx_read.specs.Reading.{in_turn}
use Rattle.tx_lex.specs.Lexemes.{Lexeme}
use Rattle.tx_select.specs.SelectorValue.{SelectorValue}
use Rattle.tx_lex.specs.Blanks.{past_blanks}
use Rattle.tx_parse.specs.SheetReading.{Reads, Read, expected, spaced_selector_at, goes_on_at, then_selectors, selectors_from}
use Rattle.tx_parse.specs.declared.fault.Wrong.{Wrong}
use Rattle.tx_parse.proofs.Turns.{turn_ok, turn_told, told_same}

abbrev pub behind_one : ℕ → List SelectorValue → SelectorValue → Reads (List SelectorValue)
behind_one most found selector = in_turn goes_on_at (then_selectors (selectors_from most) (found ++ (selector ∷ [])))

-- one selector
one : (most rest : ℕ) (found : List SelectorValue) (start : Read (List SelectorValue)) (here next : List Lexeme) (selector : SelectorValue) → most ≡ suc rest → selectors_from most found here ≡ start
    → spaced_selector_at here ≡ Ok (selector, next) → start ≡ behind_one rest found selector next
unfolding selectors_from
one most rest found start here next selector count so_far is =
    sym so_far ∙ ap (λ n. selectors_from n found here) count ∙ turn_ok spaced_selector_at (behind_one rest found) here next selector is

-- one selector, and what follows it
one_then : (most rest : ℕ) (found : List SelectorValue) (start : Read (List SelectorValue)) (here next behind : List Lexeme) (selector : SelectorValue) (more : Bool) → most ≡ suc rest → selectors_from most found here ≡ start
    → spaced_selector_at here ≡ Ok (selector, next) → goes_on_at next ≡ Ok (more, behind) → start ≡ then_selectors (selectors_from rest) (found ++ (selector ∷ [])) more behind
one_then most rest found start here next behind selector more count so_far is then =
    one most rest found start here next selector count so_far is ∙ turn_ok goes_on_at (then_selectors (selectors_from rest) (found ++ (selector ∷ []))) next behind more then

pub selectors_next : (most rest : ℕ) (found : List SelectorValue) (start : Read (List SelectorValue)) (here next behind : List Lexeme) (selector : SelectorValue) (more : Bool) (all : List SelectorValue) → most ≡ suc rest → selectors_from most found here ≡ start
    → spaced_selector_at here ≡ Ok (selector, next) → goes_on_at next ≡ Ok (more, behind) → more ≡ true → all ≡ found ++ (selector ∷ []) → selectors_from rest all behind ≡ start
selectors_next most rest found start here next behind selector more all count so_far is then yes_more pushed =
    ap (λ f. selectors_from rest f behind) pushed
    ∙ sym (one_then most rest found start here next behind selector more count so_far is then ∙ ap (λ m. then_selectors (selectors_from rest) (found ++ (selector ∷ [])) m behind) yes_more)

pub selectors_last : (most rest : ℕ) (found : List SelectorValue) (start : Read (List SelectorValue)) (here next behind : List Lexeme) (selector : SelectorValue) (more : Bool) (all : List SelectorValue) → most ≡ suc rest → selectors_from most found here ≡ start
    → spaced_selector_at here ≡ Ok (selector, next) → goes_on_at next ≡ Ok (more, behind) → more ≡ false → all ≡ found ++ (selector ∷ []) → start ≡ Ok (all, behind)
selectors_last most rest found start here next behind selector more all count so_far is then no_more pushed =
    one_then most rest found start here next behind selector more count so_far is then ∙ ap (λ m. then_selectors (selectors_from rest) (found ++ (selector ∷ [])) m behind) no_more
    ∙ ap (λ f. Ok (f, behind)) (sym pushed)

pub selectors_bad : (told : Option (Wrong × List Lexeme)) (most rest : ℕ) (found : List SelectorValue) (start : Read (List SelectorValue)) (here : List Lexeme) → most ≡ suc rest → selectors_from most found here ≡ start
    → Tells told (spaced_selector_at here) → Tells told start
unfolding selectors_from
selectors_bad told most rest found start here count so_far is =
    told_same told start (in_turn spaced_selector_at (behind_one rest found) here) (sym so_far ∙ ap (λ n. selectors_from n found here) count)
    (turn_told told spaced_selector_at (behind_one rest found) here is)

pub selectors_stop : (told : Option (Wrong × List Lexeme)) (most rest : ℕ) (found : List SelectorValue) (start : Read (List SelectorValue)) (here next : List Lexeme) (selector : SelectorValue) → most ≡ suc rest → selectors_from most found here ≡ start
    → spaced_selector_at here ≡ Ok (selector, next) → Tells told (goes_on_at next) → Tells told start
selectors_stop told most rest found start here next selector count so_far is then =
    told_same told start (behind_one rest found selector next) (one most rest found start here next selector count so_far is)
    (turn_told told goes_on_at (then_selectors (selectors_from rest) (found ++ (selector ∷ []))) next then)

-- the selector past the last one that is allowed
pub selectors_past : (most : ℕ) (found : List SelectorValue) (start : Read (List SelectorValue)) (here : List Lexeme) → most ≡ 0 → selectors_from most found here ≡ start → start ≡ expected (past_blanks here)
unfolding selectors_from
selectors_past most found start here none so_far = sym so_far ∙ ap (λ n. selectors_from n found here) none
