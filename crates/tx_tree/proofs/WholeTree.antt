-- The rows that nodes stand for are a tree.
use Rattle.std.proofs.Common.{◌≡◌, ℕ, zero, suc, ◌-◌, ◌<◌, ◌≤◌, true, List, [], ◌∷◌, ◌++◌, Option, Some, None, refl, sym, ap, subst, ◌∙◌, arith, length, append_assoc, append-nil}
use Rattle.std.specs.Prelude.{flat_map, unwrap_or, option_and_then}
use Rattle.tx_tree.proofs.Numbers.{times-head, times-tail}
use Rattle.tx_tree.proofs.Linked.{rows_at-node, rows_at-zero, rows_of-is, node_of_place, children_live, not_root}
use Rattle.tx_tree.proofs.Lookups.{row_at-slot, live, at_most_once, not_nowhere}
use Rattle.tx_tree.proofs.MountedNodes.{in_bounds}
use Rattle.tx_tree.specs.Kind.{holds_children}
use Rattle.tx_tree.specs.Row.{plain}
use Rattle.tx_tree.specs.Rows.{count_of}
use Rattle.tx_tree.specs.TreeValue.{TreeValue}
use Rattle.tx_tree.specs.WellFormed.{MayAllFollow, IsPreorder, id_of, IsTree}
use Rattle.tx_tree.specs.Links.{Slots, slots, rows_at, rows_of, times, id_in, IsLinked, IsKept}
use Rattle.tx_tree.specs.declared.row.Row.{Row}
use Rattle.tx_tree.specs.declared.tree.node.Node.{Node}

-- no row stands below the last level
flat_map-zero : (at : Slots) (ks : List ℕ) → flat_map (rows_at zero at) ks ≡ []
flat_map-zero at [] = refl
flat_map-zero at (k ∷ ks) = rw (rows_at-zero at k) (flat_map-zero at ks)

-- rows that may stand behind every row that is so deep
abbrev Tail : ℕ → List Row → Type 0
Tail depth rows = (last : Row) → depth ≤ last.depth → MayAllFollow last rows

module _ {at : Slots} (linked : IsLinked at) where
  -- the rows of some children, behind any row of the parent's subtree
  pieces : (levels n : ℕ) (node : Node) → at n ≡ Some node
      → ((k : ℕ) (child : Node) → at k ≡ Some child → (ys : List Row) → Tail child.row.depth ys → MayAllFollow (plain child.row) (flat_map (rows_at levels at) child.children ++ ys))
      → (ks : List ℕ) → ((k : ℕ) → 0 < times k ks → 0 < times k node.children)
      → (last : Row) → node.row.depth ≤ last.depth → (node.row.depth ≡ last.depth → 0 < length ks → holds_children last.kind ≡ true)
      → (ys : List Row) → Tail node.row.depth ys → MayAllFollow last (flat_map (rows_at (suc levels) at) ks ++ ys)
  pieces levels n node h each [] had last deep held ys tail = tail last deep
  pieces levels n node h each (k ∷ ks) had last deep held ys tail =
      let among : 0 < times k node.children = had k (times-head k ks) in
      let (child, is, parent, depth) = children_live linked n node h k among in
      let lt = (linked.nodes k child is).shallow in
      let rest : Tail child.row.depth (flat_map (rows_at (suc levels) at) ks ++ ys) =
      λ row under. pieces levels n node h each ks (λ m a. had m (times-tail m k ks a)) row (omega (arith, under, depth)) (λ e some. absurd (omega (arith, e, under, depth))) ys tail in
      let all : MayAllFollow last (plain child.row ∷ (flat_map (rows_at levels at) child.children ++ (flat_map (rows_at (suc levels) at) ks ++ ys))) = (
        record {
          below_first = omega (arith, depth);
          shallow = omega (arith, lt);
          step = omega (arith, depth, deep);
          held = λ e. held (omega (arith, e, depth)) (omega arith);
          no_screen = (linked.nodes k child is).not_screen (not_root linked k child is (omega (arith, depth)));
        },
        each k child is (flat_map (rows_at (suc levels) at) ks ++ ys) rest,
      ) in
      let P : List Row → Type 0 = λ z. MayAllFollow last z in
      subst P (sym (append_assoc (rows_at (suc levels) at k) (flat_map (rows_at (suc levels) at) ks) ys
      ∙ ap (λ (z : List Row). z ++ (flat_map (rows_at (suc levels) at) ks ++ ys)) (rows_at-node levels at k child is))) all

  -- the rows below a node, and others behind them
  under_node : (levels n : ℕ) (node : Node) → at n ≡ Some node → (ys : List Row) → Tail node.row.depth ys
      → MayAllFollow (plain node.row) (flat_map (rows_at levels at) node.children ++ ys)
  under_node zero n node h ys tail =
      let P : List Row → Type 0 = λ z. MayAllFollow (plain node.row) (z ++ ys) in
      subst P (sym (flat_map-zero at node.children)) (tail (plain node.row) (omega arith))
  under_node (suc levels) n node h ys tail =
      pieces levels n node h (λ k child is zs t. under_node levels k child is zs t) node.children (λ k a. a) (plain node.row) (omega arith)
      (λ e some. holds node.children refl some) ys tail
    where
      holds : (ks : List ℕ) → node.children ≡ ks → 0 < length ks → holds_children node.row.kind ≡ true
      holds [] e some = absurd (omega (arith, some))
      holds (k ∷ ks) e some = (linked.nodes n node h).may_hold k (rw e (times-head k ks))

  in_preorder : IsPreorder (rows_of at)
  in_preorder =
      let (top, is, parent, depth) = node_of_place (at 1) 0 0 linked.root in
      let all : MayAllFollow (plain top.row) (flat_map (rows_at 63 at) top.children ++ []) = under_node 63 1 top is [] (λ last deep. tt) in
      let rows : rows_of at ≡ plain top.row ∷ flat_map (rows_at 63 at) top.children = rows_of-is at ∙ rows_at-node 63 at 1 top is in
      let P : List Row → Type 0 = λ z. MayAllFollow (plain top.row) z in
      let Q : List Row → Type 0 = λ z. IsPreorder z in
      subst Q (sym rows) (
        record { number = (linked.nodes 1 top is).numbered; depth = depth; screen = (linked.nodes 1 top is).is_root refl },
        subst P (append-nil (flat_map (rows_at 63 at) top.children)) all,
      )

  -- the id of a row is that of its node
  id_of-slot : (n : ℕ) (slot : Option Node) → at n ≡ slot → id_of n (rows_of at) ≡ id_in slot
  id_of-slot n None h = ap (option_and_then (λ row. row.id)) (row_at-slot linked n None h)
  id_of-slot n (Some node) h = ap (option_and_then (λ row. row.id)) (row_at-slot linked n (Some node) h)

pub whole_tree : (nodes : List (Option Node)) (behind : List ℕ) (find : List ℕ → Option ℕ) → IsKept nodes behind find
    → (tree : TreeValue) → tree.rows ≡ rows_of (slots nodes) → tree.made ≡ length nodes - 1 → IsTree tree
whole_tree nodes behind find kept tree rows made =
    let few = kept.few in
    record {
      preorder = rw rows (in_preorder kept.linked);
      once = λ n. rw rows (at_most_once kept.linked n);
      in_range = λ n some.
          let (node, is) = live kept.linked n (let e = ap (count_of n) rows in omega (arith, some, e)) in
          let lt = in_bounds nodes n node is in
          let z = not_nowhere kept.linked n node is in
          (omega (arith, z), omega (arith, lt, made));
      one_id = λ n m name a b.
          let first : find name ≡ Some n = kept.ids.found name n (sym (id_of-slot kept.linked n (slots nodes n) refl) ∙ (ap (id_of n) (sym rows) ∙ a)) in
          let second : find name ≡ Some m = kept.ids.found name m (sym (id_of-slot kept.linked m (slots nodes m) refl) ∙ (ap (id_of m) (sym rows) ∙ b)) in
          ap (λ (o : Option ℕ). unwrap_or o n) (sym first ∙ second);
      few = omega (arith, few, made);
    }
