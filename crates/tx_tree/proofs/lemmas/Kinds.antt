-- What holds of every kind.
use Rattle.std.proofs.Common.{◌≡◌, ℕ, Bool, true, false, List, [], ◌∷◌, Some, refl, sym, ap, ◌∙◌, cond}
use Rattle.std.specs.Prelude.{bytes_eq, find}
use Rattle.std.specs.List.{list_all}
use Rattle.std.proofs.lemmas.Bool.{and_parts, false≢true}
use Rattle.tx_tree.specs.Kind.{kind_name, built_in, kind_named, is_handed, FoundByName}
use Rattle.tx_tree.specs.declared.kind.Kind.{Kind}
use Rattle.tx_tree.specs.declared.kind.Kind.TheVariants.{Screen, Container, Vertical, Horizontal, Grid, VerticalScroll, Static, Label, Button, Checkbox, Input, OptionList, ProgressBar, Header, Footer, Handed}

-- a kind is found by its name, or it is handed in
pub by_name : (Q : Kind → Type 0) → ((kind : Kind) → kind_named (kind_name kind) ≡ Some kind → Q kind) → ((name : List ℕ) → Q (Handed name)) → (kind : Kind) → Q kind
unfolding kind_named
by_name Q built handed Screen = built Screen refl
by_name Q built handed Container = built Container refl
by_name Q built handed Vertical = built Vertical refl
by_name Q built handed Horizontal = built Horizontal refl
by_name Q built handed Grid = built Grid refl
by_name Q built handed VerticalScroll = built VerticalScroll refl
by_name Q built handed Static = built Static refl
by_name Q built handed Label = built Label refl
by_name Q built handed Button = built Button refl
by_name Q built handed Checkbox = built Checkbox refl
by_name Q built handed Input = built Input refl
by_name Q built handed OptionList = built OptionList refl
by_name Q built handed ProgressBar = built ProgressBar refl
by_name Q built handed Header = built Header refl
by_name Q built handed Footer = built Footer refl
by_name Q built handed (Handed name) = handed name

pub found_by_name : FoundByName
found_by_name = by_name (λ kind. is_handed kind ≡ false → kind_named (kind_name kind) ≡ Some kind) (λ kind e h. e) (λ name h. absurd (false≢true (sym h)))

-- what is found in a list of which all pass a test passes it
pub find_passes : {A : Type 0} (test p : A → Bool) (xs : List A) (a : A) → list_all p xs ≡ true → find test xs ≡ Some a → p a ≡ true
find_passes test p [] a all h = absurd cc
find_passes test p (x ∷ xs) a all h = by (test x) (find_passes test p xs a (and_parts (p x) _ all).1) h
  where
    same : Some x ≡ Some a → a ≡ x
    same e = cc

    by : (b : Bool) → (find test xs ≡ Some a → p a ≡ true) → cond b (Some x) (find test xs) ≡ Some a → p a ≡ true
    by true more e = ap p (same e) ∙ (and_parts (p x) _ all).0
    by false more e = more e

-- what a test says of all built-in kinds, and what holds of those that are handed in, holds of every kind
pub of_kinds : (Q : Kind → Type 0) (p : Kind → Bool) → list_all p built_in ≡ true → ((kind : Kind) → kind_named (kind_name kind) ≡ Some kind → p kind ≡ true → Q kind) → ((name : List ℕ) → Q (Handed name)) → (kind : Kind) → Q kind
unfolding kind_named
of_kinds Q p all built handed = by_name Q (λ kind e. built kind e (find_passes (λ k. bytes_eq (kind_name kind) (kind_name k)) p built_in kind all e)) handed
