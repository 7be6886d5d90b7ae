-- Counts that stand still, and what is behind what was found.
use Rattle.std.proofs.Common.{◌≡◌, ℕ, ◌≤◌, List, [], ◌∷◌, ◌++◌, refl, ap, sym, ◌∙◌, arith, append_assoc}
use Rattle.std.proofs.lemmas.List.{append-nil}
use Rattle.tx_parse.specs.Grammar.{counted, Body, nothing, one, joined}
use Rattle.tx_parse.specs.SheetReading.{with_declarations}
use Rattle.tx_parse.specs.Values.{DeclarationValue}

pub counted_none : (a : ℕ) → a ≤ 4294967295 → counted a 0 ≡ a
counted_none a small = omega (arith, small)

pub counted_first : (a : ℕ) → a ≤ 4294967295 → counted 0 a ≡ a
counted_first a small = omega (arith, small)

pub counted_small : (a b : ℕ) → counted a b ≤ 4294967295
counted_small a b = omega arith

pub counted_assoc : (a b c : ℕ) → counted (counted a b) c ≡ counted a (counted b c)
counted_assoc a b c = omega arith

-- what was found, and what is found behind it
abbrev pub with_body : Body → Body → Body
with_body found body = record { declarations = found.declarations ++ body.declarations; written = counted found.written body.written }

abbrev body_by : List DeclarationValue → ℕ → Body
body_by declarations written = record { declarations = declarations; written = written }

pub same_body : (a b : List DeclarationValue) (m n : ℕ) → a ≡ b → m ≡ n → body_by a m ≡ body_by b n
same_body a b m n one two = ap (λ x. body_by x m) one ∙ ap (body_by b) two

pub with_nothing : (found : Body) → found.written ≤ 4294967295 → with_body found nothing ≡ found
with_nothing found small = same_body (found.declarations ++ []) found.declarations (counted found.written 0) found.written (append-nil found.declarations) (counted_none found.written small)

pub nothing_with : (body : Body) → body.written ≤ 4294967295 → with_body nothing body ≡ body
nothing_with body small = same_body body.declarations body.declarations (counted 0 body.written) body.written refl (counted_first body.written small)

pub with_more : (found body : Body) (declarations : List DeclarationValue) → with_body (with_declarations declarations found) body ≡ with_body found (with_body (one declarations) body)
with_more found body declarations = same_body ((found.declarations ++ declarations) ++ body.declarations) (found.declarations ++ (declarations ++ body.declarations))
    (counted (counted found.written 1) body.written) (counted found.written (counted 1 body.written)) (append_assoc found.declarations declarations body.declarations) (counted_assoc found.written 1 body.written)

pub one_alone : (declarations : List DeclarationValue) → one declarations ≡ joined (one declarations ∷ [])
one_alone declarations = same_body declarations (declarations ++ []) 1 1 (sym (append-nil declarations)) refl

pub joined_small : (bodies : List Body) → (joined bodies).written ≤ 4294967295
joined_small [] = omega arith
joined_small (body ∷ bodies) = counted_small body.written (joined bodies).written
