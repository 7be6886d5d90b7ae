-- Nodes that are linked, and the rows that they stand for.
use Rattle.std.proofs.Common.{◌≡◌, ◌≢◌, ℕ, zero, suc, ◌+◌, ◌<◌, ◌≤◌, List, [], ◌∷◌, ◌++◌, Option, Some, None, refl, sym, ap, ◌∙◌, arith, inl, inr}
use Rattle.std.specs.Prelude.{flat_map, unwrap_or}
use Rattle.std.proofs.lemmas.Bool.{cases_eq, cases_lt, eq-eqb, ne_eqb}
use Rattle.tx_tree.proofs.Numbers.{times-head, times-tail}
use Rattle.tx_tree.proofs.lemmas.NumbersAndIds.{count_of-append}
use Rattle.tx_tree.specs.Row.{plain}
use Rattle.tx_tree.specs.Rows.{count_of}
use Rattle.tx_tree.specs.Links.{Slots, rows_from, rows_at, rows_of, times, children_in, place_in, parent_in, depth_in, IsLinked}
use Rattle.tx_tree.specs.declared.row.Row.{Row}
use Rattle.tx_tree.specs.declared.tree.node.Node.{Node}

-- the rows of a node that is there: its own, then those of its children
pub rows_at-node : (levels : ℕ) (at : Slots) (n : ℕ) (node : Node) → at n ≡ Some node
    → rows_at (suc levels) at n ≡ plain node.row ∷ flat_map (rows_at levels at) node.children
unfolding rows_at
rows_at-node levels at n node h = ap (rows_from (rows_at levels at)) h

pub rows_at-zero : (at : Slots) (n : ℕ) → rows_at zero at n ≡ []
unfolding rows_at
rows_at-zero at n = refl

pub rows_of-is : (at : Slots) → rows_of at ≡ rows_at 64 at 1
unfolding rows_of
rows_of-is at = refl

-- a number that is in use
abbrev pub Live : Slots → ℕ → Type 0
Live at n = (node : Node) × (at n ≡ Some node)

-- what has a place has a node
pub node_of_place : (slot : Option Node) (parent depth : ℕ) → place_in slot ≡ Some (parent, depth)
    → (node : Node) × (slot ≡ Some node) × (node.parent ≡ parent) × (node.row.depth ≡ depth)
node_of_place None parent depth h = cc
node_of_place (Some node) parent depth h =
    (node, refl, ap (λ (o : Option (ℕ × ℕ)). (unwrap_or o (0, 0)).0) h, ap (λ (o : Option (ℕ × ℕ)). (unwrap_or o (0, 0)).1) h)

-- a list in which a number stands is that of a node
pub node_of_child : (slot : Option Node) (n : ℕ) → 0 < times n (children_in slot)
    → (node : Node) × (slot ≡ Some node) × (0 < times n node.children)
node_of_child None n h = absurd (omega (arith, h))
node_of_child (Some node) n h = (node, refl, h)

-- two arrays agree at the numbers of some rows
abbrev pub Agree : Slots → Slots → List Row → Type 0
Agree at to [] = Unit {0}
Agree at to (row ∷ rows) = (to row.node.0 ≡ at row.node.0) × Agree at to rows

pub Agree-refl : (at : Slots) (xs : List Row) → Agree at at xs
Agree-refl at [] = tt
Agree-refl at (row ∷ xs) = (refl, Agree-refl at xs)

pub Agree-left : (at to : Slots) (xs ys : List Row) → Agree at to (xs ++ ys) → Agree at to xs
Agree-left at to [] ys h = tt
Agree-left at to (row ∷ xs) ys h = (h.0, Agree-left at to xs ys h.1)

pub Agree-right : (at to : Slots) (xs ys : List Row) → Agree at to (xs ++ ys) → Agree at to ys
Agree-right at to [] ys h = h
Agree-right at to (row ∷ xs) ys h = Agree-right at to xs ys h.1

-- what holds of each row of a list holds of each row of one of its pieces
pub some_piece : (j : ℕ) (F : ℕ → List Row) (ks : List ℕ) → 0 < count_of j (flat_map F ks)
    → (k : ℕ) × (0 < times k ks) × (0 < count_of j (F k))
some_piece j F [] h = absurd (omega (arith, h))
some_piece j F (k ∷ ks) h = elim (cases_lt 0 (count_of j (F k))) [
  | inl here ↦ (k, times-head k ks, here)
  | inr none ↦
      let rest : 0 < count_of j (flat_map F ks) = omega (arith, h, none, count_of-append j (F k) (flat_map F ks)) in
      let (m, among, there) = some_piece j F ks rest in
      (m, times-tail m k ks among, there)
]

-- a number that only one piece has stands at most once, where that piece stands at most once
count_of-pieces : (j m : ℕ) (F : ℕ → List Row) (ks : List ℕ)
    → ((k : ℕ) → 0 < times k ks → count_of j (F k) ≤ 1)
    → ((k : ℕ) → 0 < times k ks → 0 < count_of j (F k) → k ≡ m)
    → count_of j (flat_map F ks) ≤ times m ks
count_of-pieces j m F [] once same = omega arith
count_of-pieces j m F (k ∷ ks) once same =
    let rest : count_of j (flat_map F ks) ≤ times m ks = count_of-pieces j m F ks (λ l h. once l (times-tail l k ks h)) (λ l h. same l (times-tail l k ks h)) in
    let most : count_of j (F k) ≤ 1 = once k (times-head k ks) in
    let both : count_of j (F k ++ flat_map F ks) ≡ count_of j (F k) + count_of j (flat_map F ks) = count_of-append j (F k) (flat_map F ks) in
    elim (cases_lt 0 (count_of j (F k))) [
      | inl here ↦ rw (eq-eqb k m (same k (times-head k ks) here)) (omega (arith, rest, most, both))
      | inr none ↦ omega (arith, rest, none, both)
    ]

-- the node so many levels above
pub climb : ℕ → Slots → ℕ → ℕ
climb zero at j = j
climb (suc levels) at j = parent_in (at (climb levels at j))

module _ {at : Slots} (linked : IsLinked at) where
  -- the children of a node are there
  pub children_live : (n : ℕ) (node : Node) → at n ≡ Some node → (k : ℕ) → 0 < times k node.children
      → (child : Node) × (at k ≡ Some child) × (child.parent ≡ n) × (child.row.depth ≡ suc node.row.depth)
  children_live n node h k among = node_of_place (at k) n (suc node.row.depth) ((linked.nodes n node h).points_back k among)

  -- only the node 1 has no parent
  pub not_root : (n : ℕ) (node : Node) → at n ≡ Some node → 0 < node.row.depth → n ≢ 1
  not_root n node h deep same =
      let (top, is, parent, depth) = node_of_place (at 1) 0 0 linked.root in
      let e : depth_in (at n) ≡ 0 = rw (same, is) depth in
      let f : depth_in (at n) ≡ node.row.depth = rw h refl in
      omega (arith, e, f, deep)

  -- each child of a node stands once in its list
  pub children_once : (n : ℕ) (node : Node) → at n ≡ Some node → (k : ℕ) → 0 < times k node.children → times k node.children ≡ 1
  children_once n node h k among =
      let (child, is, parent, depth) = children_live n node h k among in
      let e : children_in (at child.parent) ≡ node.children = rw (parent, h) refl in
      rw (← e) ((linked.nodes k child is).listed (not_root k child is (omega (arith, depth))))

  -- a node below another is so many levels below it
  pub reach : (levels n : ℕ) (node : Node) → at n ≡ Some node → (j : ℕ) → 0 < count_of j (rows_at levels at n)
      → (e : ℕ) × (e + node.row.depth ≡ depth_in (at j)) × (climb e at j ≡ n)
  unfolding climb
  reach zero n node h j c = let c2 = rw rows_at-zero at c in absurd (omega (arith, c2))
  reach (suc levels) n node h j c =
      let c2 = rw (rows_at-node levels at n node h) at c in
      elim (cases_eq node.row.node.0 j) [
        | inl e ↦
            let same : j ≡ n = sym e ∙ (linked.nodes n node h).numbered in
            (0, rw (same, h) (omega arith), same)
        | inr ne ↦
            let c3 = rw (ne_eqb _ _ ne) at c2 in
            let (k, among, there) = some_piece j (rows_at levels at) node.children (omega (arith, c3)) in
            let (child, is, parent, depth) = children_live n node h k among in
            let (e, sum, climbed) = reach levels k child is j there in
            (suc e, omega (arith, sum, depth), ap (λ (z : ℕ). parent_in (at z)) climbed ∙ (ap parent_in is ∙ parent))
      ]

  -- a number stands at most once in the rows of a node
  pub once : (levels n : ℕ) (node : Node) → at n ≡ Some node → (j : ℕ) → count_of j (rows_at levels at n) ≤ 1
  once zero n node h j = rw rows_at-zero (omega arith)
  once (suc levels) n node h j = rw (rows_at-node levels at n node h) (elim (cases_eq node.row.node.0 j) [
    | inl e ↦
        let same : j ≡ n = sym e ∙ (linked.nodes n node h).numbered in
        let none : count_of j (flat_map (rows_at levels at) node.children) ≤ 0 = elim (cases_lt 0 (count_of j (flat_map (rows_at levels at) node.children))) [
          | inl some ↦
              let (k, among, there) = some_piece j (rows_at levels at) node.children some in
              let (child, is, parent, depth) = children_live n node h k among in
              let (e2, sum, climbed) = reach levels k child is j there in
              let own : depth_in (at j) ≡ node.row.depth = rw (same, h) refl in
              absurd (omega (arith, sum, depth, own))
          | inr le ↦ le
        ] in
        rw (eq-eqb _ _ e) (omega (arith, none))
    | inr ne ↦
        let below : count_of j (flat_map (rows_at levels at) node.children) ≤ 1 = elim (cases_lt 0 (count_of j (flat_map (rows_at levels at) node.children))) [
          | inl some ↦
              let (m, among, there) = some_piece j (rows_at levels at) node.children some in
              let (child, is, parent, depth) = children_live n node h m among in
              let (e, sum, climbed) = reach levels m child is j there in
              let most : count_of j (flat_map (rows_at levels at) node.children) ≤ times m node.children =
              count_of-pieces j m (rows_at levels at) node.children
              (λ k a. let (c2, is2, parent2, depth2) = children_live n node h k a in once levels k c2 is2 j)
              (λ k a t.
              let (c2, is2, parent2, depth2) = children_live n node h k a in
              let (e2, sum2, climbed2) = reach levels k c2 is2 j t in
              let levels-same : e2 ≡ e = omega (arith, sum, sum2, depth, depth2) in
              sym climbed2 ∙ (ap (λ (z : ℕ). climb z at j) levels-same ∙ climbed)) in
              let single : times m node.children ≡ 1 = children_once n node h m among in
              omega (arith, most, single)
          | inr le ↦ omega (arith, le)
        ] in
        rw (ne_eqb _ _ ne) (omega (arith, below))
  ])
