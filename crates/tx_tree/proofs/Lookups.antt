-- What the rows say of a number: its row, its parent, the next row.
use Rattle.std.proofs.Common.{◌≡◌, ◌≢◌, ℕ, zero, suc, ◌+◌, ◌<◌, ◌≤◌, ◌==◌, Bool, true, false, cond, List, [], ◌∷◌, ◌++◌, Option, Some, None, refl, sym, ap, subst, ◌∙◌, arith, append_assoc, append-nil, inl, inr}
use Rattle.std.specs.Prelude.{flat_map, unwrap_or, option_map, option_and_then, slice_index, slice_get}
use Rattle.std.proofs.lemmas.Bool.{cases_eq, cases_lt, eq-eqb, ne_eqb}
use Rattle.std.proofs.lemmas.List.Concat.{flat_map-append}
use Rattle.tx_tree.proofs.Counting.{none-head, none-tail}
use Rattle.tx_tree.proofs.Numbers.{times-head, times-tail, times-append, cut, past_of-cut}
use Rattle.tx_tree.proofs.NextSiblings.{behind_in-at}
use Rattle.tx_tree.proofs.RowLists.{AllDeeper, Splits, before_of-split, from_of-split, row_at-split, after_of-split}
use Rattle.tx_tree.proofs.Linked.{rows_at-node, rows_at-zero, rows_of-is, Live, node_of_place, children_live, children_once, not_root, some_piece, once}
use Rattle.tx_tree.proofs.Context.{Context, context, context-step, deep-children, split_by, cut_at, parent_live, levels_below}
use Rattle.tx_tree.specs.Row.{plain, has_number}
use Rattle.tx_tree.specs.Rows.{row_at, before_of, from_of, after_of, first_row, second_row, past_subtree, next_of, last_above, parent_of, count_of}
use Rattle.tx_tree.specs.Links.{Slots, rows_at, rows_of, times, children_in, place_in, parent_in, past_of, behind_in, IsLinked, KeepsNext}
use Rattle.tx_tree.specs.declared.row.Row.{Row}
use Rattle.tx_tree.specs.declared.row.NodeId.{NodeId}
use Rattle.tx_tree.specs.declared.tree.node.Node.{Node}

-- the row in a slot
abbrev pub row_in : Option Node → Option Row
row_in None = None
row_in (Some node) = Some (plain node.row)

-- a list by its first number
head_of : (ks : List ℕ) (k : ℕ) → Some k ≡ slice_get ks 0 → (rest : List ℕ) × (ks ≡ k ∷ rest)
head_of [] k h = cc
head_of (m ∷ ks) k h = (ks, ap (λ (o : Option ℕ). unwrap_or o 0 ∷ ks) (sym h))

no_head : (ks : List ℕ) → slice_get ks 0 ≡ None → ks ≡ []
no_head [] h = refl
no_head (m ∷ ks) h = cc

-- how far a node is from above the first
abbrev pub height_in : Option Node → ℕ
height_in None = 0
height_in (Some node) = suc node.row.depth

-- the parent of the node in a slot
abbrev pub parent_id : Option Node → Option NodeId
parent_id None = None
parent_id (Some node) = cond (node.parent == 0) None (Some (record { 0 = node.parent }))

-- no row has a number that is counted nowhere
pub row_at-none : (n : ℕ) (rows : List Row) → count_of n rows ≡ 0 → row_at n rows ≡ None
row_at-none n [] h = refl
row_at-none n (row ∷ rows) h =
    let test : has_number n row ≡ false = none-head _ _ h in
    rw test (row_at-none n rows (none-tail _ _ h))

pub from_of-none : (n : ℕ) (rows : List Row) → count_of n rows ≡ 0 → from_of n rows ≡ []
from_of-none n [] h = refl
from_of-none n (row ∷ rows) h =
    let test : has_number n row ≡ false = none-head _ _ h in
    rw test (from_of-none n rows (none-tail _ _ h))

-- the last row above a depth, past rows that are all deeper
last_above-deeper : (depth : ℕ) (found : Option Row) (rows : List Row) → AllDeeper depth rows → last_above (suc depth) found rows ≡ found
last_above-deeper depth found [] deep = refl
last_above-deeper depth found (row ∷ rows) deep =
    let test : (row.depth + 1 == suc depth) ≡ false = ne_eqb _ _ (λ e. let lt = deep.0 in omega arith) in
    rw test (last_above-deeper depth found rows deep.1)

last_above-append : (depth : ℕ) (xs ys : List Row) (found : Option Row) → last_above depth found (xs ++ ys) ≡ last_above depth (last_above depth found xs) ys
last_above-append depth [] ys found = refl
last_above-append depth (row ∷ xs) ys found = last_above-append depth xs ys (cond (row.depth + 1 == depth) (Some row) found)

last_above-zero : (found : Option Row) (rows : List Row) → last_above 0 found rows ≡ found
last_above-zero found [] = refl
last_above-zero found (row ∷ rows) =
    let test : (row.depth + 1 == 0) ≡ false = ne_eqb _ _ (λ e. omega arith) in
    rw test (last_above-zero found rows)

pub AllDeeper-left : (depth : ℕ) (xs ys : List Row) → AllDeeper depth (xs ++ ys) → AllDeeper depth xs
AllDeeper-left depth [] ys h = tt
AllDeeper-left depth (row ∷ xs) ys h = (h.0, AllDeeper-left depth xs ys h.1)

-- levels that are left below a node with children
pub below_more : (l depth : ℕ) → suc l + depth ≡ 64 → suc depth < 64 → (m : ℕ) × (l ≡ suc m)
below_more zero depth sum lt = absurd (omega arith)
below_more (suc m) depth sum lt = (m, refl)

-- a node and its parent, with the rows around both
pub record Below (at : Slots) (n : ℕ) (node above : Node) (l : ℕ) (left right : List ℕ) (before after : List Row) : Type 0 where
  pub is : at node.parent ≡ Some above
  pub deep : node.row.depth ≡ suc above.row.depth
  pub whole : above.children ≡ left ++ (n ∷ right)
  pub none : times n left ≡ 0
  pub levels : suc l + node.row.depth ≡ 64
  pub outer : Context at node.parent above.row.depth (suc (suc l)) before after
  pub around : Splits node.parent (rows_of at) before (plain above.row) (flat_map (rows_at (suc l) at) above.children) after
  pub split : Splits n (rows_of at) (before ++ (plain above.row ∷ flat_map (rows_at (suc l) at) left)) (plain node.row) (flat_map (rows_at l at) node.children) (flat_map (rows_at (suc l) at) right ++ after)

module _ {at : Slots} (linked : IsLinked at) where
  -- the number 0 has no node
  pub not_nowhere : (n : ℕ) (node : Node) → at n ≡ Some node → n ≢ 0
  not_nowhere n node h e = let bad : None ≡ Some node = sym linked.nowhere ∙ (ap at (sym e) ∙ h) in cc

  -- a number of the rows is that of a node
  live_row : (levels n : ℕ) (node : Node) → at n ≡ Some node → (j : ℕ) → 0 < count_of j (rows_at levels at n) → Live at j
  live_row zero n node h j c = let c2 = rw rows_at-zero at c in absurd (omega (arith, c2))
  live_row (suc levels) n node h j c =
      let c2 = rw (rows_at-node levels at n node h) at c in
      elim (cases_eq node.row.node.0 j) [
        | inl e ↦ (node, rw (sym e ∙ (linked.nodes n node h).numbered) h)
        | inr ne ↦
            let c3 = rw (ne_eqb _ _ ne) at c2 in
            let (k, among, there) = some_piece j (rows_at levels at) node.children (omega (arith, c3)) in
            let (child, is, parent, depth) = children_live linked n node h k among in
            live_row levels k child is j there
      ]

  pub live : (j : ℕ) → 0 < count_of j (rows_of at) → Live at j
  live j c =
      let (top, is, parent, depth) = node_of_place (at 1) 0 0 linked.root in
      live_row 64 1 top is j (rw rows_of-is at c)

  -- no number stands twice
  pub at_most_once : (j : ℕ) → count_of j (rows_of at) ≤ 1
  at_most_once j =
      let (top, is, parent, depth) = node_of_place (at 1) 0 0 linked.root in
      rw (rows_of-is at) (once linked 64 1 top is j)

  -- a number without a node has no row
  pub none_of : (n : ℕ) → at n ≡ None → count_of n (rows_of at) ≡ 0
  none_of n h = elim (cases_lt 0 (count_of n (rows_of at))) [
    | inl some ↦ let (node, is) = live n some in let e = sym is ∙ h in cc
    | inr le ↦ omega (arith, le)
  ]

  -- the row with a number is that of its node
  pub row_at-slot : (n : ℕ) (slot : Option Node) → at n ≡ slot → row_at n (rows_of at) ≡ row_in slot
  row_at-slot n None h = row_at-none n (rows_of at) (none_of n h)
  row_at-slot n (Some node) h = let (l, before, after, sum, ctx, s) = cut_at linked n node h in row_at-split s

  -- the rows around a node and its parent
  pub below : (n : ℕ) (node : Node) → at n ≡ Some node → n ≢ 1
      → (above : Node) × (l : ℕ) × (left : List ℕ) × (right : List ℕ) × (before : List Row) × (after : List Row) × Below at n node above l left right before after
  below n node h ne =
      let (above, is, deep, single) = parent_live linked n node h ne in
      let (l, sum) = levels_below node.row.depth (linked.nodes n node h).shallow in
      let (before, after, outer) = context linked above.row.depth (suc (suc l)) node.parent above (omega (arith, sum, deep)) is refl in
      let (left, right, c) = cut n above.children (omega (arith, single)) in
      let inner : Context at n (suc above.row.depth) (suc l) (before ++ (plain above.row ∷ flat_map (rows_at (suc l) at) left)) (flat_map (rows_at (suc l) at) right ++ after) =
      context-step linked (suc l) above.row.depth node.parent n above before after left right is refl outer c.whole (l, refl) in (
        above,
        l,
        left,
        right,
        before,
        after,
        record {
          is = is;
          deep = deep;
          whole = c.whole;
          none = c.none;
          levels = sum;
          outer = outer;
          around = split_by linked node.parent above is (suc l) before after outer;
          split = split_by linked n node h l _ _ (let P : ℕ → Type 0 = λ d. Context at n d (suc l) (before ++ (plain above.row ∷ flat_map (rows_at (suc l) at) left)) (flat_map (rows_at (suc l) at) right ++ after) in subst P (sym deep) inner);
        },
      )

  -- the parent by the rows is that of the node
  parent_of-below : (n : ℕ) (node above : Node) (l : ℕ) (left right : List ℕ) (before after : List Row) → Below at n node above l left right before after
      → parent_of n (rows_of at) ≡ Some (plain above.row)
  parent_of-below n node above l left right before after b =
      let lefts : AllDeeper above.row.depth (flat_map (rows_at (suc l) at) left) =
      AllDeeper-left above.row.depth _ (flat_map (rows_at (suc l) at) (n ∷ right))
      (rw (← flat_map-append (rows_at (suc l) at) left (n ∷ right), ← b.whole) b.around.deep) in
      let test : (above.row.depth + 1 == suc above.row.depth) ≡ true = eq-eqb _ _ (omega arith) in
      let F : List Row = flat_map (rows_at (suc l) at) left in
      let d : ℕ = above.row.depth in
      ap (λ (o : Option Row). option_and_then (λ row. last_above row.depth None (before_of n (rows_of at))) o) (row_at-split b.split)
      ∙ (ap (λ (xs : List Row). last_above node.row.depth None xs) (before_of-split b.split)
      ∙ (ap (λ (e : ℕ). last_above e None (before ++ (plain above.row ∷ F))) b.deep
      ∙ (last_above-append (suc d) before (plain above.row ∷ F) None
      ∙ (ap (λ (t : Bool). last_above (suc d) (cond t (Some (plain above.row)) (last_above (suc d) None before)) F) test
      ∙ last_above-deeper d (Some (plain above.row)) F lefts))))

  pub parent_of-node : (n : ℕ) (node : Node) → at n ≡ Some node → n ≢ 1
      → (above : Node) × (at node.parent ≡ Some above) × (parent_of n (rows_of at) ≡ Some (plain above.row))
  parent_of-node n node h ne =
      let (above, l, left, right, before, after, b) = below n node h ne in
      (above, b.is, parent_of-below n node above l left right before after b)

  -- the rows, cut at the first
  pub root_split : (top : Node) → at 1 ≡ Some top → Splits 1 (rows_of at) [] (plain top.row) (flat_map (rows_at 63 at) top.children) []
  root_split top is = record {
    whole = rw (rows_of-is at, rows_at-node 63 at 1 top is) (ap (λ (z : List Row). plain top.row ∷ z) (sym (append-nil _)));
    here = (linked.nodes 1 top is).numbered;
    apart = refl;
    deep = deep-children linked 63 1 top is;
    end = refl;
  }

  pub parent_of-root : (top : Node) → at 1 ≡ Some top → parent_of 1 (rows_of at) ≡ None
  parent_of-root top is = rw (row_at-split (root_split top is), before_of-split (root_split top is)) refl

  pub parent_of-none : (n : ℕ) → at n ≡ None → parent_of n (rows_of at) ≡ None
  parent_of-none n h = rw (row_at-none n (rows_of at) (none_of n h)) refl

  -- a child's rows begin with its own
  first_child : (l k : ℕ) (child : Node) (xs : List Row) → at k ≡ Some child
      → option_map (λ row. row.node) (first_row (rows_at (suc l) at k ++ xs)) ≡ Some (record { 0 = k })
  first_child l k child xs is = rw (rows_at-node l at k child is) (ap (λ (z : ℕ). Some (record { 0 = z })) (linked.nodes k child is).numbered)

  -- the row after a node's is the first one below it, or else the first one behind its subtree
  next_of-cut : (n l : ℕ) (node : Node) (before after : List Row) → Splits n (rows_of at) before (plain node.row) (flat_map (rows_at l at) node.children) after
      → (ks : List ℕ) → node.children ≡ ks → next_of n (rows_of at) ≡ first_row (flat_map (rows_at l at) ks ++ after)
  next_of-cut n l node before after s ks whole =
      ap second_row (from_of-split s) ∙ ap (λ (z : List ℕ). first_row (flat_map (rows_at l at) z ++ after)) whole

  -- the next row is the first child
  pub next_of-child : (n : ℕ) (node : Node) → at n ≡ Some node → (k : ℕ) (ks : List ℕ) → node.children ≡ k ∷ ks
      → option_map (λ row. row.node) (next_of n (rows_of at)) ≡ Some (record { 0 = k })
  next_of-child n node h k ks whole =
      let (l, before, after, sum, ctx, s) = cut_at linked n node h in
      let (child, is, parent, deep) = children_live linked n node h k (rw whole (times-head k ks)) in
      let (m, more) = below_more l node.row.depth sum (let lt = (linked.nodes k child is).shallow in omega (arith, lt, deep)) in
      ap (option_map (λ row. row.node))
      (next_of-cut n l node before after s (k ∷ ks) whole
      ∙ ap first_row (append_assoc (rows_at l at k) (flat_map (rows_at l at) ks) after
      ∙ ap (λ (z : ℕ). rows_at z at k ++ (flat_map (rows_at l at) ks ++ after)) more))
      ∙ first_child m k child (flat_map (rows_at l at) ks ++ after) is

  -- or else the first row behind the subtree
  pub next_of-leaf : (n : ℕ) (node : Node) → at n ≡ Some node → node.children ≡ []
      → next_of n (rows_of at) ≡ first_row (after_of n (rows_of at))
  next_of-leaf n node h none =
      let (l, before, after, sum, ctx, s) = cut_at linked n node h in
      next_of-cut n l node before after s [] none ∙ ap first_row (sym (after_of-split s))

  -- behind a node's subtree stand the rows of the siblings behind it
  after_of-right : (n : ℕ) (node above : Node) (l : ℕ) (left right : List ℕ) (before after : List Row) → Below at n node above l left right before after
      → (k : ℕ) → behind_in n (children_in (at node.parent)) ≡ k
      → (0 < k → option_map (λ row. row.node) (first_row (after_of n (rows_of at))) ≡ Some (record { 0 = k }))
      × (k ≡ 0 → first_row (after_of n (rows_of at)) ≡ first_row (after_of node.parent (rows_of at)))
  after_of-right n node above l left [] before after b k kept =
      let none : 0 ≡ k = sym (behind_in-at n left [] b.none) ∙ (ap (behind_in n) (sym b.whole) ∙ (ap (λ (o : Option Node). behind_in n (children_in o)) (sym b.is) ∙ kept)) in
      (λ lt. absurd (omega (arith, lt, none)), λ e. ap first_row (after_of-split b.split ∙ sym (after_of-split b.around)))
  after_of-right n node above l left (m ∷ right) before after b k kept =
      let here : m ≡ k = sym (behind_in-at n left (m ∷ right) b.none) ∙ (ap (behind_in n) (sym b.whole) ∙ (ap (λ (o : Option Node). behind_in n (children_in o)) (sym b.is) ∙ kept)) in
      let among : 0 < times m above.children = rw b.whole (let sum = times-append m left (n ∷ m ∷ right) in let one = times-tail m n (m ∷ right) (times-head m right) in omega (arith, sum, one)) in
      let (child, is, parent, deep) = children_live linked node.parent above b.is m among in (
        λ lt.
            ap (λ (z : List Row). option_map (λ row. row.node) (first_row z))
            (after_of-split b.split ∙ append_assoc (rows_at (suc l) at m) (flat_map (rows_at (suc l) at) right) after)
            ∙ (first_child l m child (flat_map (rows_at (suc l) at) right ++ after) is ∙ ap (λ (z : ℕ). Some (record { 0 = z })) here),
        λ e. absurd (not_nowhere m child is (here ∙ e)),
      )

  -- the first row behind a subtree is the next sibling, or else the first one behind the parent's
  pub after_of-next : (n : ℕ) (node : Node) → at n ≡ Some node → (k : ℕ) → behind_in n (children_in (at node.parent)) ≡ k
      → (0 < k → option_map (λ row. row.node) (first_row (after_of n (rows_of at))) ≡ Some (record { 0 = k }))
      × (k ≡ 0 → first_row (after_of n (rows_of at)) ≡ first_row (after_of node.parent (rows_of at)))
  after_of-next n node h k kept = elim (cases_eq n 1) [
    | inl e ↦
        let (top, is, parent, depth) = node_of_place (at 1) 0 0 linked.root in
        let up : node.parent ≡ 0 = (let f : parent_in (at n) ≡ 0 = rw (e, is) parent in rw h at f) in
        let nobody : children_in (at node.parent) ≡ [] = rw (up, linked.nowhere) refl in
        let zero-behind : behind_in n (children_in (at node.parent)) ≡ 0 = rw nobody refl in (
          λ lt. absurd (let z = zero-behind in omega (arith, z, kept, lt)),
          λ z. rw (e, up) (ap first_row (after_of-split (root_split top is)) ∙ ap (λ (o : List Row). first_row (past_subtree o)) (sym (from_of-none 0 (rows_of at) (none_of 0 linked.nowhere)))),
        )
    | inr ne ↦ let (above, l, left, right, before, after, b) = below n node h ne in after_of-right n node above l left right before after b k kept
  ]

  -- the parent of a node, by its slot
  pub parent_of-slot : (n : ℕ) (slot : Option Node) → at n ≡ slot → parent_id slot ≡ option_map (λ row. row.node) (parent_of n (rows_of at))
  parent_of-slot n None h = ap (option_map (λ row. row.node)) (sym (parent_of-none n h))
  parent_of-slot n (Some node) h = elim (cases_eq n 1) [
    | inl e ↦
        let (top, is, parent, depth) = node_of_place (at 1) 0 0 linked.root in
        let up : node.parent ≡ 0 = ap parent_in (sym h ∙ (ap at e ∙ is)) ∙ parent in
        let none : parent_of n (rows_of at) ≡ None = ap (λ (z : ℕ). parent_of z (rows_of at)) e ∙ parent_of-root top is in
        ap (λ (b : Bool). cond b None (Some (record { 0 = node.parent }))) (eq-eqb node.parent 0 up)
        ∙ ap (option_map (λ row. row.node)) (sym none)
    | inr ne ↦
        let (above, is, same) = parent_of-node n node h ne in
        let number : above.row.node.0 ≡ node.parent = (linked.nodes node.parent above is).numbered in
        ap (λ (b : Bool). cond b None (Some (record { 0 = node.parent }))) (ne_eqb node.parent 0 (not_nowhere node.parent above is))
        ∙ (ap (λ (z : ℕ). Some (record { 0 = z })) (sym number) ∙ ap (option_map (λ row. row.node)) (sym same))
  ]

  -- a parent is one step nearer to the first row
  pub height-up : (n : ℕ) (node : Node) → at n ≡ Some node → height_in (at node.parent) < height_in (at n)
  height-up n node h = elim (cases_eq n 1) [
    | inl e ↦
        let (top, is, parent, depth) = node_of_place (at 1) 0 0 linked.root in
        let up : node.parent ≡ 0 = ap parent_in (sym h ∙ (ap at e ∙ is)) ∙ parent in
        let none : height_in (at node.parent) ≡ 0 = ap (λ (z : ℕ). height_in (at z)) up ∙ ap height_in linked.nowhere in
        let own : height_in (at n) ≡ suc node.row.depth = ap height_in h in
        omega (arith, none, own)
    | inr ne ↦
        let (above, is, deep, single) = parent_live linked n node h ne in
        let up : height_in (at node.parent) ≡ suc above.row.depth = ap height_in is in
        let own : height_in (at n) ≡ suc node.row.depth = ap height_in h in
        omega (arith, up, own, deep)
  ]

  -- the first row behind a subtree, by the sibling that is kept
  pub after_of-kept : (behind : List ℕ) → KeepsNext at behind → (n : ℕ) (node : Node) → at n ≡ Some node → (k : ℕ) → slice_index behind n ≡ k
      → (0 < k → option_map (λ row. row.node) (first_row (after_of n (rows_of at))) ≡ Some (record { 0 = k }))
      × (k ≡ 0 → first_row (after_of n (rows_of at)) ≡ first_row (after_of node.parent (rows_of at)))
  after_of-kept behind keeps n node h k kept =
      after_of-next n node h k (sym (keeps n node.parent node.row.depth (ap place_in h)) ∙ kept)

  -- nothing stands behind a number without a node
  pub after_of-none : (n : ℕ) → at n ≡ None → first_row (after_of n (rows_of at)) ≡ None
  after_of-none n h = ap (λ (z : List Row). first_row (past_subtree z)) (from_of-none n (rows_of at) (none_of n h))

  -- a tree has its first row
  pub first_of : option_map (λ row. row.node) (first_row (rows_of at)) ≡ Some (record { 0 = 1 })
  first_of =
      let (top, is, parent, depth) = node_of_place (at 1) 0 0 linked.root in
      let s = root_split top is in
      ap (λ (z : List Row). option_map (λ row. row.node) (first_row z)) s.whole ∙ ap (λ (z : ℕ). Some (record { 0 = z })) s.here

  -- a number without a node has no next row
  pub next_of-none : (n : ℕ) → at n ≡ None → next_of n (rows_of at) ≡ None
  next_of-none n h = ap second_row (from_of-none n (rows_of at) (none_of n h))

  -- the next row by the first child, or else by what stands behind
  pub next_of-first : (n : ℕ) (node : Node) → at n ≡ Some node → (k : ℕ) → Some k ≡ slice_get node.children 0
      → Some (record { 0 = k }) ≡ option_map (λ row. row.node) (next_of n (rows_of at))
  next_of-first n node h k first = let (ks, e) = head_of node.children k first in sym (next_of-child n node h k ks e)

  pub next_of-past : (n : ℕ) (node : Node) → at n ≡ Some node → None ≡ slice_get node.children 0
      → first_row (after_of n (rows_of at)) ≡ next_of n (rows_of at)
  next_of-past n node h none = sym (next_of-leaf n node h (no_head node.children (sym none)))

  -- behind the subtree of a last child stand the rows behind its parent's
  pub after_of-last : (p k : ℕ) (node : Node) → at p ≡ Some node → (xs : List ℕ) → node.children ≡ xs ++ (k ∷ [])
      → (child : Node) × (at k ≡ Some child) × (child.row.depth ≡ suc node.row.depth) × (after_of k (rows_of at) ≡ after_of p (rows_of at))
  after_of-last p k node h xs whole =
      let among : 0 < times k node.children = (let e = ap (times k) whole in let sum = times-append k xs (k ∷ []) in let one = times-head k [] in omega (arith, e, sum, one)) in
      let (child, is, parent, deep) = children_live linked p node h k among in
      let ne : k ≢ 1 = not_root linked k child is (omega (arith, deep)) in
      let (above, l, left, right, before, after, b) = below k child is ne in
      let up : child.parent ≡ p = parent in
      let same : above.children ≡ node.children = ap children_in (sym b.is ∙ (ap at up ∙ h)) in
      let all : times k node.children ≡ 1 = children_once linked p node h k among in
      let both : xs ++ (k ∷ []) ≡ left ++ (k ∷ right) = sym whole ∙ (sym same ∙ b.whole) in
      let none : times k xs ≡ 0 = (let e = ap (times k) whole in let sum = times-append k xs (k ∷ []) in let one = times-head k [] in omega (arith, e, sum, one, all)) in
      let empty : right ≡ [] = sym (past_of-cut k left right b.none) ∙ (ap (past_of k) (sym both) ∙ past_of-cut k xs [] none) in (
        child,
        is,
        deep,
        after_of-split b.split ∙ (ap (λ (z : List ℕ). flat_map (rows_at (suc l) at) z ++ after) empty ∙ (sym (after_of-split b.around) ∙ ap (λ (z : ℕ). after_of z (rows_of at)) up)),
      )
