-- What walks go over: rows behind each other, subtrees, ancestors, siblings and first children.
use Rattle.std.proofs.Common.{◌≡◌, ◌≢◌, ℕ, zero, suc, ◌+◌, ◌<◌, ◌≤◌, ◌==◌, Bool, true, false, cond, nat_lt, List, [], ◌∷◌, ◌++◌, Option, Some, None, refl, sym, ap, ◌∙◌, arith, append_assoc, append-nil, inl, inr}
use Rattle.std.specs.Prelude.{flat_map, map, option_map, unwrap_or, slice_index, slice_get}
use Rattle.std.specs.Option.{option_eq, option_map_or}
use Rattle.std.proofs.lemmas.Bool.{cases_Bool, cases_eq, cases_lt, eq-eqb, eqb-true, ne_eqb, lt-ltb, false≢true}
use Rattle.tx_tree.proofs.lemmas.NumbersAndIds.{count_of-append}
use Rattle.tx_tree.proofs.Numbers.{times-head, times-tail, times-append}
use Rattle.tx_tree.proofs.NextSiblings.{behind_in-at}
use Rattle.tx_tree.proofs.RowLists.{before_of-skip, from_of-skip, after_of-split}
use Rattle.tx_tree.proofs.Context.{parent_live}
use Rattle.tx_tree.proofs.Lookups.{row_at-slot, parent_of-node, parent_of-root, parent_of-none, none_of, from_of-none, not_nowhere, root_split, Below, below}
use Rattle.tx_tree.proofs.Linked.{rows_at-node, node_of_place, children_live}
use Rattle.tx_tree.proofs.Listings.{children_of-node}
use Rattle.tx_tree.specs.Row.{plain, has_number}
use Rattle.tx_tree.specs.Rows.{row_at, depth_of, before_of, from_of, after_of, subtree_of, first_row, second_row, next_of, parent_of, deeper, past, first_subtree, past_subtree, ancestors_within, ancestors_of, first_at, next_sibling_of, children_of, first_children, count_of}
use Rattle.tx_tree.specs.Walk.{rest_from, rest_between, rest_up_from, NumbersDiffer, WalksOn, ClimbsOn}
use Rattle.tx_tree.specs.Links.{Slots, rows_at, rows_of, times, first_or_zero, depth_in, parent_in, place_in, children_in, behind_in, node_id, IsLinked, KeepsNext}
use Rattle.tx_tree.specs.declared.row.Row.{Row}
use Rattle.tx_tree.specs.declared.row.NodeId.{NodeId}
use Rattle.tx_tree.specs.declared.tree.node.Node.{Node}

-- ---- a walk

-- the row with a number has it
row_at-number : (n : ℕ) (rows : List Row) (row : Row) → row_at n rows ≡ Some row → row.node.0 ≡ n
row_at-number n [] row h = cc
row_at-number n (first ∷ rows) row h = elim (cases_Bool (has_number n first)) [
  | inl same-it ↦ let e = rw same-it at h in ap (λ (o : Option Row). option_map_or (λ r. r.node.0) o n) (sym e) ∙ eqb-true first.node.0 n same-it
  | inr other-it ↦ let e = rw other-it at h in row_at-number n rows row e
]

-- the row with a number is the first of those from it on
row_at-from : (n : ℕ) (rows : List Row) → row_at n rows ≡ first_row (from_of n rows)
row_at-from n [] = refl
row_at-from n (row ∷ rows) = elim (cases_Bool (has_number n row)) [
  | inl same-it ↦ rw same-it refl
  | inr other-it ↦ rw other-it (row_at-from n rows)
]

-- rows from a number on begin somewhere in the rows
from_of-part : (n : ℕ) (rows : List Row) → (front : List Row) × (rows ≡ front ++ from_of n rows)
from_of-part n [] = ([], refl)
from_of-part n (row ∷ rows) = elim (cases_Bool (has_number n row)) [
  | inl same-it ↦ ([], rw same-it refl)
  | inr other-it ↦ let (front, e) = from_of-part n rows in (row ∷ front, rw other-it (ap (λ (z : List Row). row ∷ z) e))
]

-- the rows from the next row on are those behind this one
rest_from-next : (n : ℕ) (rows : List Row) → ((k : ℕ) → count_of k rows ≤ 1) → (row : Row) (tail : List Row) → from_of n rows ≡ row ∷ tail
    → rest_from (option_map (λ r. r.node) (next_of n rows)) rows ≡ tail
rest_from-next n rows once row [] e = ap (λ (z : List Row). rest_from (option_map (λ r. r.node) (second_row z)) rows) e
rest_from-next n rows once row (next ∷ tail) e =
    let (front, part) = from_of-part n rows in
    let whole : rows ≡ (front ++ (row ∷ [])) ++ (next ∷ tail) = part ∙ (ap (λ (z : List Row). front ++ z) e ∙ sym (append_assoc front (row ∷ []) (next ∷ tail))) in
    let k : ℕ = next.node.0 in
    let most = once k in
    let all = ap (count_of k) whole in
    let sum = count_of-append k (front ++ (row ∷ [])) (next ∷ tail) in
    let test : has_number k next ≡ true = eq-eqb next.node.0 k refl in
    let own : count_of k (next ∷ tail) ≡ 1 + count_of k tail = rw test refl in
    let none : count_of k (front ++ (row ∷ [])) ≡ 0 = omega (arith, most, all, sum, own) in
    ap (λ (z : List Row). rest_from (option_map (λ r. r.node) (second_row z)) rows) e
    ∙ (ap (from_of k) whole ∙ (from_of-skip k (front ++ (row ∷ [])) (next ∷ tail) none ∙ rw test refl))

-- what is known of a list by its first row
found_first : (r : Row) (xs : List Row) → Some r ≡ first_row xs → (tail : List Row) × (xs ≡ r ∷ tail)
found_first r [] h = cc
found_first r (x ∷ xs) h = (xs, ap (λ (o : Option Row). unwrap_or o r ∷ xs) (sym h))

none_first : (xs : List Row) → first_row xs ≡ None → xs ≡ []
none_first [] h = refl
none_first (x ∷ xs) h = cc

-- the rows from a node on are its own row and then those from the next one on
pub walks_on : WalksOn
walks_on rows once n row is =
    let (tail, e) = found_first row (from_of n rows) (sym is ∙ row_at-from n rows) in
    e ∙ ap (λ (z : List Row). row ∷ z) (sym (rest_from-next n rows once row tail e))

-- a subtree and the rows behind it are the rows from its first on
deeper-past : (depth : ℕ) (rows : List Row) → deeper depth rows ++ past depth rows ≡ rows
deeper-past depth [] = refl
deeper-past depth (row ∷ rows) = elim (cases_Bool (nat_lt depth row.depth)) [
  | inl lt ↦ rw lt (ap (λ (z : List Row). row ∷ z) (deeper-past depth rows))
  | inr le ↦ rw le refl
]

subtree-past : (rows : List Row) → first_subtree rows ++ past_subtree rows ≡ rows
subtree-past [] = refl
subtree-past (row ∷ rows) = ap (λ (z : List Row). row ∷ z) (deeper-past row.depth rows)

-- a walk that ends at the first row behind a subtree goes over the subtree
pub subtree-between : (rows : List Row) → NumbersDiffer rows → (n : NodeId) (end : Option NodeId) → end ≡ option_map (λ row. row.node) (first_row (after_of n.0 rows))
    → rest_between (Some n) end rows ≡ subtree_of n.0 rows
subtree-between rows differ n end is =
    ap (λ (o : Option NodeId). rest_between (Some n) o rows) is
    ∙ by (after_of n.0 rows) (subtree-past (from_of n.0 rows))
  where
    by : (after : List Row) → subtree_of n.0 rows ++ after ≡ from_of n.0 rows
        → rest_between (Some n) (option_map (λ row. row.node) (first_row after)) rows ≡ subtree_of n.0 rows
    by [] whole = sym whole ∙ append-nil _
    by (next ∷ after) whole =
        let (front, part) = from_of-part n.0 rows in
        let k : ℕ = next.node.0 in
        let test : has_number k next ≡ true = eq-eqb k k refl in
        let own : count_of k (next ∷ after) ≡ 1 + count_of k after = rw test refl in
        let sum = count_of-append k (subtree_of n.0 rows) (next ∷ after) in
        let all = ap (count_of k) whole in
        let most = differ k in
        let parts = ap (count_of k) part ∙ count_of-append k front (from_of n.0 rows) in
        let none : count_of k (subtree_of n.0 rows) ≡ 0 = omega (arith, own, sum, all, most, parts) in
        ap (before_of k) (sym whole)
        ∙ (before_of-skip k (subtree_of n.0 rows) (next ∷ after) none ∙ (ap (λ (b : Bool). subtree_of n.0 rows ++ cond b [] (next ∷ before_of k after)) test ∙ append-nil _))

before_of-from : (n : ℕ) (rows : List Row) → before_of n (from_of n rows) ≡ []
before_of-from n [] = refl
before_of-from n (row ∷ rows) = elim (cases_Bool (has_number n row)) [
  | inl same-it ↦ rw (same-it, same-it) refl
  | inr other-it ↦ rw other-it (before_of-from n rows)
]

-- whether both are one node, or none
abbrev pub same : Option NodeId → Option NodeId → Bool
same here end = option_eq (λ a b. a.0 == b.0) here end

-- no row is left at the end
pub walk-end : (rows : List Row) (n : NodeId) (here end : Option NodeId) → here ≡ Some n → same here end ≡ true → rest_between here end rows ≡ []
walk-end rows n here end is h = rw is (by end (rw is at h))
  where
    by : (end : Option NodeId) → same (Some n) end ≡ true → rest_between (Some n) end rows ≡ []
    by None g = absurd (false≢true g)
    by (Some e) g = ap (λ (k : ℕ). before_of k (from_of n.0 rows)) (sym (eqb-true n.0 e.0 g)) ∙ before_of-from n.0 rows

-- nor from a number that no row has
pub walk-none : (rows : List Row) (n : NodeId) (here end : Option NodeId) → here ≡ Some n → None ≡ row_at n.0 rows → rest_between here end rows ≡ []
walk-none rows n here end is none = rw is (by end)
  where
    empty : from_of n.0 rows ≡ []
    empty = none_first (from_of n.0 rows) (sym (row_at-from n.0 rows) ∙ sym none)

    by : (end : Option NodeId) → rest_between (Some n) end rows ≡ []
    by None = empty
    by (Some e) = ap (before_of e.0) empty

-- else the rows that are left are this one and those from the next one on
pub walk-step : (rows : List Row) → NumbersDiffer rows → (n : NodeId) (here end next : Option NodeId) (row : Row) → here ≡ Some n → same here end ≡ false
    → Some row ≡ row_at n.0 rows → next ≡ option_map (λ r. r.node) (next_of n.0 rows) → rest_between here end rows ≡ row ∷ rest_between next end rows
walk-step rows differ n here end next row is h found goes = rw is (by end (rw is at h))
  where
    rest : from_of n.0 rows ≡ row ∷ rest_from next rows
    rest = walks_on rows differ n.0 row (sym found) ∙ ap (λ (o : Option NodeId). row ∷ rest_from o rows) (sym goes)

    by : (end : Option NodeId) → same (Some n) end ≡ false → rest_between (Some n) end rows ≡ row ∷ rest_between next end rows
    by None g = rest
    by (Some e) g =
        let test : has_number e.0 row ≡ false = ap (λ (k : ℕ). k == e.0) (row_at-number n.0 rows row (sym found)) ∙ g in
        ap (before_of e.0) rest ∙ ap (λ (b : Bool). cond b [] (row ∷ before_of e.0 (rest_from next rows))) test

-- ---- a climb

module _ {at : Slots} (linked : IsLinked at) where
  depth-live : (n : ℕ) (node : Node) → at n ≡ Some node → depth_of n (rows_of at) ≡ node.row.depth
  depth-live n node h = ap (λ (o : Option Row). option_map_or (λ row. row.depth) o 0) (row_at-slot linked n (Some node) h)

  -- who has no parent has no ancestors
  alone : (count n : ℕ) → parent_of n (rows_of at) ≡ None → ancestors_within count n (rows_of at) ≡ []
  alone zero n none = refl
  alone (suc count) n none = ap (λ (o : Option Row). option_map_or (λ row. row ∷ ancestors_within count row.node.0 (rows_of at)) o []) none

  up-none : (n : ℕ) → parent_of n (rows_of at) ≡ None → ancestors_of n (rows_of at) ≡ rest_up_from (option_map (λ row. row.node) (parent_of n (rows_of at))) (rows_of at)
  up-none n none = alone (depth_of n (rows_of at)) n none ∙ ap (λ (o : Option Row). rest_up_from (option_map (λ row. row.node) o) (rows_of at)) (sym none)

  up-node : (n : ℕ) (node : Node) → at n ≡ Some node → n ≢ 1 → ancestors_of n (rows_of at) ≡ rest_up_from (option_map (λ row. row.node) (parent_of n (rows_of at))) (rows_of at)
  up-node n node h ne =
      let (above, is, parent) = parent_of-node linked n node h ne in
      let (above2, is2, deep, single) = parent_live linked n node h ne in
      let d : ℕ = above.row.depth in
      let same : above2.row.depth ≡ d = ap depth_in (sym is2 ∙ is) in
      let number : above.row.node.0 ≡ node.parent = (linked.nodes node.parent above is).numbered in
      let there : at above.row.node.0 ≡ Some above = ap at number ∙ is in
      ap (λ (k : ℕ). ancestors_within k n (rows_of at)) (depth-live n node h ∙ (deep ∙ ap suc same))
      ∙ (ap (λ (o : Option Row). option_map_or (λ row. row ∷ ancestors_within d row.node.0 (rows_of at)) o []) parent
      ∙ sym (ap (λ (o : Option Row). rest_up_from (option_map (λ row. row.node) o) (rows_of at)) parent
      ∙ (ap (λ (o : Option Row). option_map_or (λ row. row ∷ ancestors_of above.row.node.0 (rows_of at)) o []) (row_at-slot linked above.row.node.0 (Some above) there)
      ∙ ap (λ (k : ℕ). plain above.row ∷ ancestors_within k above.row.node.0 (rows_of at)) (depth-live above.row.node.0 above there))))

  pub climbs : ClimbsOn (rows_of at)
  climbs n = by (at n) refl
    where
      by : (slot : Option Node) → at n ≡ slot → ancestors_of n (rows_of at) ≡ rest_up_from (option_map (λ row. row.node) (parent_of n (rows_of at))) (rows_of at)
      by None h = up-none n (parent_of-none linked n h)
      by (Some node) h = elim (cases_eq n 1) [
        | inl e ↦
            let (top, is, parent, depth) = node_of_place (at 1) 0 0 linked.root in
            up-none n (ap (λ (z : ℕ). parent_of z (rows_of at)) e ∙ parent_of-root linked top is)
        | inr ne ↦ up-node n node h ne
      ]

-- ---- siblings and children

-- where no row is deeper than a depth at the front, none is one deeper there
first_at-end : (depth : ℕ) (rows : List Row) → deeper depth rows ≡ [] → first_at (suc depth) rows ≡ None
first_at-end depth [] end = refl
first_at-end depth (row ∷ rows) end = elim (cases_lt depth row.depth) [
  | inl lt ↦ let bad = rw (lt-ltb depth row.depth lt) at end in cc
  | inr le ↦ let test : (row.depth == suc depth) ≡ false = ne_eqb row.depth (suc depth) (λ e. omega (arith, e, le)) in rw test refl
]

module _ {at : Slots} (linked : IsLinked at) where
  -- the first row behind a subtree, where it is as deep, is the sibling that is kept
  by-right : (n : ℕ) (node above : Node) (l : ℕ) (left right : List ℕ) (before after : List Row) → Below at n node above l left right before after
      → option_map (λ row. row.node) (first_at (suc above.row.depth) (after_of n (rows_of at))) ≡ cond (first_or_zero right == 0) None (Some (record { 0 = first_or_zero right }))
  by-right n node above l left [] before after b =
      ap (λ (rows : List Row). option_map (λ row. row.node) (first_at (suc above.row.depth) rows)) (after_of-split b.split)
      ∙ ap (option_map (λ row. row.node)) (first_at-end above.row.depth after b.outer.end)
  by-right n node above l left (m ∷ right) before after b =
      let among : 0 < times m above.children = rw b.whole (let sum = times-append m left (n ∷ m ∷ right) in let one = times-tail m n (m ∷ right) (times-head m right) in omega (arith, sum, one)) in
      let (child, is, parent, deep) = children_live linked node.parent above b.is m among in
      let rest : List Row = flat_map (rows_at l at) child.children ++ (flat_map (rows_at (suc l) at) right ++ after) in
      let test : (child.row.depth == suc above.row.depth) ≡ true = eq-eqb _ _ deep in
      ap (λ (rows : List Row). option_map (λ row. row.node) (first_at (suc above.row.depth) rows))
      (after_of-split b.split
      ∙ (append_assoc (rows_at (suc l) at m) (flat_map (rows_at (suc l) at) right) after
      ∙ ap (λ (rows : List Row). rows ++ (flat_map (rows_at (suc l) at) right ++ after)) (rows_at-node l at m child is)))
      ∙ (ap (λ (t : Bool). option_map (λ (row : Row). row.node) (cond t (Some (plain child.row)) None)) test
      ∙ (ap (λ (k : ℕ). Some (record { 0 = k })) (linked.nodes m child is).numbered
      ∙ ap (λ (t : Bool). cond t None (Some (record { 0 = m }))) (sym (ne_eqb m 0 (not_nowhere linked m child is)))))

  by-kept : (n : ℕ) (node : Node) → at n ≡ Some node → (k : ℕ) → behind_in n (children_in (at node.parent)) ≡ k
      → option_map (λ row. row.node) (next_sibling_of n (rows_of at)) ≡ cond (k == 0) None (Some (record { 0 = k }))
  by-kept n node h k kept = elim (cases_eq n 1) [
    | inl e ↦
        let (top, is, parent, depth) = node_of_place (at 1) 0 0 linked.root in
        let up : node.parent ≡ 0 = ap parent_in (sym h ∙ (ap at e ∙ is)) ∙ parent in
        let none : k ≡ 0 = sym kept ∙ ap (λ (o : Option Node). behind_in n (children_in o)) (ap at up ∙ linked.nowhere) in
        ap (λ (rows : List Row). option_map (λ row. row.node) (first_at (depth_of n (rows_of at)) rows)) (ap (λ (z : ℕ). after_of z (rows_of at)) e ∙ after_of-split (root_split linked top is))
        ∙ ap (λ (t : Bool). cond t None (Some (record { 0 = k }))) (sym (eq-eqb k 0 none))
    | inr ne ↦
        let (above, l, left, right, before, after, b) = below linked n node h ne in
        let first : first_or_zero right ≡ k = sym (behind_in-at n left right b.none) ∙ (ap (behind_in n) (sym b.whole) ∙ (ap (λ (o : Option Node). behind_in n (children_in o)) (sym b.is) ∙ kept)) in
        ap (λ (d : ℕ). option_map (λ row. row.node) (first_at d (after_of n (rows_of at)))) (depth-live linked n node h ∙ b.deep)
        ∙ (by-right n node above l left right before after b ∙ ap (λ (z : ℕ). cond (z == 0) None (Some (record { 0 = z }))) first)
  ]

  pub next_sibling-none : (n : ℕ) → at n ≡ None → next_sibling_of n (rows_of at) ≡ None
  next_sibling-none n h = ap (λ (rows : List Row). first_at (depth_of n (rows_of at)) (past_subtree rows)) (from_of-none n (rows_of at) (none_of linked n h))

  pub next_sibling-kept : (behind : List ℕ) → KeepsNext at behind → (n : ℕ) (node : Node) → at n ≡ Some node → (k : ℕ) → k ≡ slice_index behind n
      → cond (k == 0) None (Some (record { 0 = k })) ≡ option_map (λ row. row.node) (next_sibling_of n (rows_of at))
  next_sibling-kept behind keeps n node h k kept = sym (by-kept n node h k (sym (keeps n node.parent node.row.depth (ap place_in h)) ∙ sym kept))

  -- the first child is the node's first
  pub first_child-none : (n : ℕ) → at n ≡ None → first_row (children_of n (rows_of at)) ≡ None
  first_child-none n h = ap (λ (rows : List Row). first_row (first_children rows)) (from_of-none n (rows_of at) (none_of linked n h))

  pub first_child-node : (n : ℕ) (node : Node) → at n ≡ Some node → option_map node_id (slice_get node.children 0) ≡ option_map (λ row. row.node) (first_row (children_of n (rows_of at)))
  first_child-node n node h = by node.children (children_of n (rows_of at)) (children_of-node linked n node h)
    where
      by : (ks : List ℕ) (rows : List Row) → map (λ row. row.node) rows ≡ map node_id ks → option_map node_id (slice_get ks 0) ≡ option_map (λ row. row.node) (first_row rows)
      by [] [] e = refl
      by [] (row ∷ rows) e = cc
      by (k ∷ ks) [] e = cc
      by (k ∷ ks) (row ∷ rows) e = cc
