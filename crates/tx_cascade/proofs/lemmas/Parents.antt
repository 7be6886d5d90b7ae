-- Where a row's parent stands, and that a row of a number stands once.
use Rattle.std.proofs.Common.{◌≡◌, ℕ, ◌+◌, ◌≤◌, true, List, [], ◌∷◌, ◌++◌, Option, Some, None, option_map, refl, sym, ap, ◌∙◌, arith, inl, inr}
use Rattle.std.specs.Option.{option_map_or}
use Rattle.std.specs.Prelude.{option_and_then}
use Rattle.std.proofs.lemmas.Bool.{cases_Bool, eq-eqb, eqb-true}
use Rattle.tx_tree.specs.Row.{number, has_number}
use Rattle.tx_tree.specs.Rows.{row_at, before_of, last_above, parent_of, ancestors_of, count_of}
use Rattle.tx_tree.specs.declared.row.Row.{Row}
use Rattle.tx_tree.specs.declared.row.NodeId.{NodeId}
use Rattle.tx_tree.proofs.lemmas.NumbersAndIds.{count_of-append}
use Rattle.tx_select.specs.Match.{IsAmong}
use Rattle.tx_select.proofs.lemmas.Ancestry.{up-parent, up-none, above-none, before-among, row-among}
use Rattle.tx_cascade.specs.Cascade.{up_from}

-- a row's parent stands before it
before-at : (rows : List Row) (n : ℕ) (parent : Row) (at : Option Row) → option_and_then (λ row. last_above row.depth None (before_of n rows)) at ≡ Some parent → IsAmong parent (before_of n rows)
before-at rows n parent None is = cc
before-at rows n parent (Some row) is = (above-none row.depth (before_of n rows) parent is).1

pub parent-before : (rows : List Row) (n : ℕ) (parent : Row) → parent_of n rows ≡ Some parent → IsAmong parent (before_of n rows)
parent-before rows n parent is = before-at rows n parent (row_at n rows) is

pub parent-at : (rows : List Row) → ((n : ℕ) → count_of n rows ≤ 1) → (n : ℕ) (parent : Row) → parent_of n rows ≡ Some parent → row_at (number parent) rows ≡ Some parent
parent-at rows once n parent is = row-among rows parent (once (number parent)) (before-among n rows parent (parent-before rows n parent is))

pub row-number : (n : ℕ) (rows : List Row) (row : Row) → row_at n rows ≡ Some row → number row ≡ n
row-number n [] row h = cc
row-number n (first ∷ rows) row h = elim (cases_Bool (has_number n first)) [
  | inl same-it ↦ let e = rw same-it at h in ap (λ (o : Option Row). option_map_or (λ r. r.node.0) o n) (sym e) ∙ eqb-true first.node.0 n same-it
  | inr other-it ↦ let e = rw other-it at h in row-number n rows row e
]

-- the row behind a node that was answered
pub the-row : (found : Option Row) (node : NodeId) → Some node ≡ option_map (λ row. row.node) found → (row : Row) × (found ≡ Some row) × (row.node ≡ node)
the-row None node is = cc
the-row (Some row) node is = (row, refl, cc)

pub no-row : (found : Option Row) → None ≡ option_map (λ row. row.node) found → found ≡ None
no-row None is = refl
no-row (Some row) is = let clash : None ≡ Some row.node = is in cc

-- a row with the rows above it is the row with its parent and the rows above that
pub up-row : (rows : List Row) → ((n : ℕ) → count_of n rows ≤ 1) → (n : ℕ) (row parent : Row) → row_at n rows ≡ Some row → parent_of n rows ≡ Some parent
    → up_from rows n ≡ row ∷ up_from rows (number parent)
up-row rows once n row parent there is =
    ap (λ (o : Option Row). option_map_or (λ r. r ∷ ancestors_of n rows) o []) there
    ∙ (ap (λ (rs : List Row). row ∷ rs) (up-parent rows once n parent is)
    ∙ sym (ap (λ (o : Option Row). row ∷ option_map_or (λ r. r ∷ ancestors_of (number parent) rows) o []) (parent-at rows once n parent is)))

pub up-top : (rows : List Row) (n : ℕ) (row : Row) → row_at n rows ≡ Some row → parent_of n rows ≡ None → up_from rows n ≡ row ∷ []
up-top rows n row there is =
    ap (λ (o : Option Row). option_map_or (λ r. r ∷ ancestors_of n rows) o []) there
    ∙ ap (λ (rs : List Row). row ∷ rs) (up-none rows n is)

pub some-same : {A : Type 0} (a b : A) → Some a ≡ Some b → a ≡ b
some-same a b is = cc

-- ---- rows after others

count-first : (row : Row) (rest : List Row) → count_of (number row) (row ∷ rest) ≡ 1 + count_of (number row) rest
count-first row rest = let own : has_number (number row) row ≡ true = eq-eqb (number row) (number row) refl in rw own refl

pub none-before : (rows : List Row) → ((n : ℕ) → count_of n rows ≤ 1) → (done rest : List Row) (row : Row) → done ++ (row ∷ rest) ≡ rows → count_of (number row) done ≡ 0
none-before rows once done rest row whole =
    omega (arith, once (number row), ap (count_of (number row)) whole, count_of-append (number row) done (row ∷ rest), count-first row rest)
