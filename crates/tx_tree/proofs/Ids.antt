-- Ids by the map and by the rows.
use Rattle.std.proofs.Common.{◌≡◌, ℕ, zero, suc, ◌<◌, Bool, true, List, [], ◌∷◌, ◌++◌, Option, Some, None, refl, sym, ap, ◌∙◌, is_some, ◌⊎◌, inl, inr}
use Rattle.std.specs.Prelude.{flat_map}
use Rattle.std.specs.List.{list_any}
use Rattle.std.specs.Option.{option_eq}
use Rattle.std.specs.Str.{bytes_eq}
use Rattle.std.proofs.lemmas.Bool.{cases_Bool, or_cases, or_left, or_right, false≢true}
use Rattle.std.proofs.lemmas.Slice.Eq.{bytes_eq-Decides}
use Rattle.tx_tree.proofs.Numbers.{times-head, times-tail}
use Rattle.tx_tree.proofs.Linked.{rows_at-node, rows_at-zero, rows_of-is, node_of_place, children_live}
use Rattle.tx_tree.proofs.lemmas.NumbersAndIds.{id_from_test}
use Rattle.tx_tree.proofs.Context.{cut_at}
use Rattle.tx_tree.specs.Row.{plain}
use Rattle.tx_tree.specs.Rows.{has_id}
use Rattle.tx_tree.specs.Links.{Slots, rows_at, rows_of, times, id_in, IsLinked, KeepsIds}
use Rattle.tx_tree.specs.declared.row.Row.{Row}
use Rattle.tx_tree.specs.declared.tree.node.Node.{Node}

pub test_from_id : (id : Option (List ℕ)) (name : List ℕ) → id ≡ Some name → option_eq bytes_eq id (Some name) ≡ true
test_from_id id name h = ap (λ (o : Option (List ℕ)). option_eq bytes_eq o (Some name)) h ∙ (bytes_eq-Decides name name).1 refl

-- a slot with an id has a node
node_of_id : (slot : Option Node) (name : List ℕ) → id_in slot ≡ Some name → (node : Node) × (slot ≡ Some node) × (node.row.id ≡ Some name)
node_of_id None name h = cc
node_of_id (Some node) name h = (node, refl, h)

-- a test holds of some row of two lists where it does in one of them
any-left : (test : Row → Bool) (xs ys : List Row) → list_any test xs ≡ true → list_any test (xs ++ ys) ≡ true
any-left test [] ys h = absurd (false≢true h)
any-left test (row ∷ xs) ys h = elim (or_cases (test row) (list_any test xs) h) [
  | inl here ↦ or_left _ _ here
  | inr rest ↦ or_right _ _ (any-left test xs ys rest)
]

any-right : (test : Row → Bool) (xs ys : List Row) → list_any test ys ≡ true → list_any test (xs ++ ys) ≡ true
any-right test [] ys h = h
any-right test (row ∷ xs) ys h = or_right _ _ (any-right test xs ys h)

any-either : (test : Row → Bool) (xs ys : List Row) → list_any test (xs ++ ys) ≡ true → (list_any test xs ≡ true) ⊎ (list_any test ys ≡ true)
any-either test [] ys h = inr h
any-either test (row ∷ xs) ys h = elim (or_cases (test row) (list_any test (xs ++ ys)) h) [
  | inl here ↦ inl (or_left _ _ here)
  | inr rest ↦ elim (any-either test xs ys rest) [
    | inl front ↦ inl (or_right _ _ front)
    | inr back ↦ inr back
  ]
]

any-piece : (test : Row → Bool) (F : ℕ → List Row) (ks : List ℕ) → list_any test (flat_map F ks) ≡ true
    → (k : ℕ) × (0 < times k ks) × (list_any test (F k) ≡ true)
any-piece test F [] h = absurd (false≢true h)
any-piece test F (k ∷ ks) h = elim (any-either test (F k) (flat_map F ks) h) [
  | inl here ↦ (k, times-head k ks, here)
  | inr rest ↦ let (m, among, there) = any-piece test F ks rest in (m, times-tail m k ks among, there)
]

module _ {at : Slots} (linked : IsLinked at) where
  -- a row of a node is the row of some node
  any-node : (test : Row → Bool) (levels n : ℕ) (node : Node) → at n ≡ Some node → list_any test (rows_at levels at n) ≡ true
      → (j : ℕ) × (found : Node) × (at j ≡ Some found) × (test (plain found.row) ≡ true)
  any-node test zero n node h some = let none = rw rows_at-zero at some in absurd (false≢true none)
  any-node test (suc levels) n node h some =
      let some2 = rw (rows_at-node levels at n node h) at some in
      elim (or_cases (test (plain node.row)) (list_any test (flat_map (rows_at levels at) node.children)) some2) [
        | inl here ↦ (n, node, h, here)
        | inr rest ↦
            let (k, among, there) = any-piece test (rows_at levels at) node.children rest in
            let (child, is, parent, depth) = children_live linked n node h k among in
            any-node test levels k child is there
      ]

  -- what holds of some row holds of the row of some node, and the other way round
  pub any-row : (test : Row → Bool) → list_any test (rows_of at) ≡ true → (j : ℕ) × (found : Node) × (at j ≡ Some found) × (test (plain found.row) ≡ true)
  any-row test h =
      let (top, is, parent, depth) = node_of_place (at 1) 0 0 linked.root in
      any-node test 64 1 top is (rw rows_of-is at h)

  pub row-any : (test : Row → Bool) (j : ℕ) (found : Node) → at j ≡ Some found → test (plain found.row) ≡ true → list_any test (rows_of at) ≡ true
  row-any test j found h holds =
      let (l, before, after, sum, ctx, s) = cut_at linked j found h in
      rw s.whole (any-right test before _ (or_left _ _ holds))

  -- an id is that of some row exactly where the map finds it
  pub taken-found : (find : List ℕ → Option ℕ) → KeepsIds at find → (name : List ℕ) → list_any (has_id name) (rows_of at) ≡ is_some (find name)
  taken-found find keeps name = by_find (find name) refl where
    by_find : (o : Option ℕ) → find name ≡ o → list_any (has_id name) (rows_of at) ≡ is_some o
    by_find None e = elim (cases_Bool (list_any (has_id name) (rows_of at))) [
      | inl some ↦
          let (j, found, is, holds) = any-row (has_id name) some in
          let there : find name ≡ Some j = keeps.found name j (ap id_in is ∙ id_from_test found.row.id name holds) in
          let bad : None ≡ Some j = sym e ∙ there in cc
      | inr none ↦ none
    ]
    by_find (Some j) e = let (found, is, same) = node_of_id (at j) name (keeps.known name j e) in row-any (has_id name) j found is (test_from_id found.row.id name same)
