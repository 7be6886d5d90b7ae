-- The children of a row, and a test of all rows.
use Rattle.std.proofs.Common.{◌≡◌, ℕ, zero, suc, ◌+◌, ◌<◌, ◌==◌, Bool, true, false, not, ◌&&◌, ◌||◌, cond, List, [], ◌∷◌, ◌++◌, map, filter, Option, Some, None, refl, sym, ap, subst, ◌∙◌, arith, inl, inr}
use Rattle.std.specs.Prelude.{flat_map}
use Rattle.std.specs.List.{list_all, list_any}
use Rattle.std.proofs.lemmas.Bool.{cases_Bool, eq-eqb, ne_eqb, or_cases, or_left, or_right, false≢true}
use Rattle.tx_tree.proofs.Numbers.{times-head, times-tail}
use Rattle.tx_tree.proofs.RowLists.{AllDeeper, deeper-append, from_of-split}
use Rattle.tx_tree.proofs.Linked.{rows_at-node, children_live}
use Rattle.tx_tree.proofs.Context.{cut_at, deep-children}
use Rattle.tx_tree.proofs.Lookups.{below_more}
use Rattle.tx_tree.proofs.Ids.{any-row, row-any}
use Rattle.tx_tree.specs.Row.{plain}
use Rattle.tx_tree.specs.Rows.{children_of, first_children}
use Rattle.tx_tree.specs.Spelled.{is_spelled}
use Rattle.tx_tree.specs.Links.{Slots, slots, rows_at, rows_of, times, node_id, slot_is_spelled, IsLinked}
use Rattle.tx_tree.specs.declared.row.Row.{Row}
use Rattle.tx_tree.specs.declared.row.NodeId.{NodeId}
use Rattle.tx_tree.specs.declared.tree.node.Node.{Node}

filter-append : (p : Row → Bool) (xs ys : List Row) → filter p (xs ++ ys) ≡ filter p xs ++ filter p ys
filter-append p [] ys = refl
filter-append p (row ∷ xs) ys = elim (cases_Bool (p row)) [
  | inl yes-it ↦ rw yes-it (ap (λ (z : List Row). row ∷ z) (filter-append p xs ys))
  | inr no-it ↦ rw no-it (filter-append p xs ys)
]

-- no row that is deeper than a depth has it
filter-deep : (depth : ℕ) (xs : List Row) → AllDeeper depth xs → filter (λ row. row.depth == depth) xs ≡ []
filter-deep depth [] h = refl
filter-deep depth (row ∷ xs) h =
    let test : (row.depth == depth) ≡ false = ne_eqb row.depth depth (λ e. let lt = h.0 in omega (arith, lt, e)) in
    rw test (filter-deep depth xs h.1)

module _ {at : Slots} (linked : IsLinked at) where
  -- of the rows below a node those one deeper are those of its children
  pieces : (l n : ℕ) (node : Node) → at n ≡ Some node → (ks : List ℕ) → ((k : ℕ) → 0 < times k ks → 0 < times k node.children)
      → map (λ row. row.node) (filter (λ row. row.depth == node.row.depth + 1) (flat_map (rows_at (suc l) at) ks)) ≡ map node_id ks
  pieces l n node h [] had = refl
  pieces l n node h (k ∷ ks) had =
      let p : Row → Bool = λ row. row.depth == node.row.depth + 1 in
      let (child, is, parent, depth) = children_live linked n node h k (had k (times-head k ks)) in
      let kids : List Row = flat_map (rows_at l at) child.children in
      let own : p (plain child.row) ≡ true = eq-eqb child.row.depth (node.row.depth + 1) (omega (arith, depth)) in
      let none : filter p kids ≡ [] =
      (let P : ℕ → Type 0 = λ d. filter (λ row. row.depth == d) kids ≡ [] in
      subst P (let d = depth in omega (arith, d)) (filter-deep child.row.depth kids (deep-children linked l k child is))) in
      ap (λ (z : List Row). map (λ row. row.node) (filter p (z ++ flat_map (rows_at (suc l) at) ks))) (rows_at-node l at k child is)
      ∙ (ap (map (λ row. row.node)) (filter-append p (plain child.row ∷ kids) (flat_map (rows_at (suc l) at) ks))
      ∙ (ap (λ (t : Bool). map (λ (row : Row). row.node) (cond t (plain child.row ∷ filter p kids) (filter p kids) ++ filter p (flat_map (rows_at (suc l) at) ks))) own
      ∙ (ap (λ (z : List Row). child.row.node ∷ map (λ (row : Row). row.node) (z ++ filter p (flat_map (rows_at (suc l) at) ks))) none
      ∙ (ap (λ (z : ℕ). record { 0 = z } ∷ map (λ (row : Row). row.node) (filter p (flat_map (rows_at (suc l) at) ks))) (linked.nodes k child is).numbered
      ∙ ap (λ (z : List NodeId). node_id k ∷ z) (pieces l n node h ks (λ m a. had m (times-tail m k ks a)))))))

  by_children : (l n : ℕ) (node : Node) → at n ≡ Some node → suc l + node.row.depth ≡ 64 → (ks : List ℕ) → node.children ≡ ks
      → map (λ row. row.node) (filter (λ row. row.depth == node.row.depth + 1) (flat_map (rows_at l at) ks)) ≡ map node_id ks
  by_children l n node h sum [] whole = refl
  by_children l n node h sum (k ∷ ks) whole =
      let (child, is, parent, depth) = children_live linked n node h k (rw whole (times-head k ks)) in
      let (m, more) = below_more l node.row.depth sum (let lt = (linked.nodes k child is).shallow in omega (arith, lt, depth)) in
      let P : ℕ → Type 0 = λ z. map (λ row. row.node) (filter (λ row. row.depth == node.row.depth + 1) (flat_map (rows_at z at) (k ∷ ks))) ≡ map node_id (k ∷ ks) in
      subst P (sym more) (pieces m n node h (k ∷ ks) (λ j a. let e = ap (times j) whole in omega (arith, a, e)))

  pub children_of-node : (n : ℕ) (node : Node) → at n ≡ Some node → map (λ row. row.node) (children_of n (rows_of at)) ≡ map node_id node.children
  children_of-node n node h =
      let (l, before, after, sum, ctx, s) = cut_at linked n node h in
      ap (λ (z : List Row). map (λ row. row.node) (first_children z)) (from_of-split s)
      ∙ (ap (λ (z : List Row). map (λ (row : Row). row.node) (filter (λ row. row.depth == node.row.depth + 1) z)) (deeper-append node.row.depth (flat_map (rows_at l at) node.children) after s.deep s.end)
      ∙ by_children l n node h sum node.children refl)

-- a test of all, by a test that some fails it
all-any : {X : Type 0} (p : X → Bool) (xs : List X) → list_all p xs ≡ not (list_any (λ x. not (p x)) xs)
all-any p [] = refl
all-any p (x ∷ xs) = by_test (p x) (all-any p xs) where
  by_test : (b : Bool) → list_all p xs ≡ not (list_any (λ y. not (p y)) xs) → (b && list_all p xs) ≡ not (not b || list_any (λ y. not (p y)) xs)
  by_test true rest = rest
  by_test false rest = refl

-- a slot that fails a test, by its number, and the other way round
any-slot : (q : Option Node → Bool) (nodes : List (Option Node)) → list_any q nodes ≡ true → (j : ℕ) × (q (slots nodes j) ≡ true)
any-slot q [] h = absurd (false≢true h)
any-slot q (slot ∷ nodes) h = elim (or_cases (q slot) (list_any q nodes) h) [
  | inl here ↦ (0, here)
  | inr rest ↦ let (j, holds) = any-slot q nodes rest in (suc j, holds)
]

slot-any : (q : Option Node → Bool) → q None ≡ false → (nodes : List (Option Node)) (j : ℕ) → q (slots nodes j) ≡ true → list_any q nodes ≡ true
slot-any q none [] j h = absurd (false≢true (sym none ∙ h))
slot-any q none (slot ∷ nodes) zero h = or_left _ _ h
slot-any q none (slot ∷ nodes) (suc j) h = or_right _ _ (slot-any q none nodes j h)

-- all rows have a spelling where the rows of all nodes do
pub all_spelled-rows : (nodes : List (Option Node)) → IsLinked (slots nodes) → list_all slot_is_spelled nodes ≡ list_all is_spelled (rows_of (slots nodes))
all_spelled-rows nodes linked =
    all-any slot_is_spelled nodes ∙ (ap not same ∙ sym (all-any is_spelled (rows_of (slots nodes)))) where
      node_fails : (slot : Option Node) → not (slot_is_spelled slot) ≡ true → (node : Node) × (slot ≡ Some node) × (not (is_spelled (plain node.row)) ≡ true)
      node_fails None h = absurd (false≢true h)
      node_fails (Some node) h = (node, refl, h)

      same : list_any (λ slot. not (slot_is_spelled slot)) nodes ≡ list_any (λ row. not (is_spelled row)) (rows_of (slots nodes))
      same = elim (cases_Bool (list_any (λ slot. not (slot_is_spelled slot)) nodes)) [
        | inl some ↦
            let (j, fails) = any-slot (λ slot. not (slot_is_spelled slot)) nodes some in
            let (node, is, bad) = node_fails (slots nodes j) fails in
            some ∙ sym (row-any linked (λ row. not (is_spelled row)) j node is bad)
        | inr none ↦ elim (cases_Bool (list_any (λ row. not (is_spelled row)) (rows_of (slots nodes)))) [
          | inl some ↦
              let (j, node, is, bad) = any-row linked (λ row. not (is_spelled row)) some in
              absurd (false≢true (sym none ∙ slot-any (λ slot. not (slot_is_spelled slot)) refl nodes j (ap (λ (o : Option Node). not (slot_is_spelled o)) is ∙ bad)))
          | inr nothing ↦ none ∙ sym nothing
        ]
      ]
