-- A node without children goes.
use Rattle.std.proofs.Common.{◌≡◌, ◌≢◌, ℕ, suc, ◌+◌, ◌<◌, List, [], ◌∷◌, ◌++◌, Option, Some, None, refl, sym, ap, ◌∙◌, arith, append_assoc, inl, inr}
use Rattle.std.specs.Prelude.{flat_map}
use Rattle.std.proofs.lemmas.Bool.{cases_eq, eq-eqb}
use Rattle.std.proofs.lemmas.List.Concat.{flat_map-append}
use Rattle.tx_tree.proofs.Numbers.{times-append, times-other}
use Rattle.tx_tree.proofs.lemmas.NumbersAndIds.{count_of-append}
use Rattle.tx_tree.proofs.RowLists.{before_of-split, after_of-split, split-once}
use Rattle.tx_tree.proofs.Linked.{rows_at-node, Live, children_live, Agree}
use Rattle.tx_tree.proofs.Context.{same-children, parent_live}
use Rattle.tx_tree.proofs.Lookups.{not_nowhere, at_most_once, Below}
use Rattle.tx_tree.proofs.Mounting.{Agree-apart, node-same}
use Rattle.tx_tree.specs.Row.{plain}
use Rattle.tx_tree.specs.Rows.{after_of, removed, count_of}
use Rattle.tx_tree.specs.Links.{Slots, rows_at, rows_of, times, children_in, place_in, parent_in, IsNode, IsLinked}
use Rattle.tx_tree.specs.declared.row.Row.{Row}
use Rattle.tx_tree.specs.declared.tree.node.Node.{Node}

-- one array of nodes is another without the node c, which has no children
pub record Drops (at to : Slots) (c : ℕ) (node above : Node) (left right : List ℕ) : Type 0 where
  pub here : at c ≡ Some node
  pub childless : node.children ≡ []
  pub not_first : c ≢ 1
  pub is : at node.parent ≡ Some above
  pub whole : above.children ≡ left ++ (c ∷ right)
  pub none : times c left ≡ 0
  pub at_parent : to node.parent ≡ Some (record above { children = left ++ right })
  pub gone : to c ≡ None
  pub others : (j : ℕ) → j ≢ node.parent → j ≢ c → to j ≡ at j

-- the rows round a subtree that goes
pub regroup : (a : List Row) (row : Row) (b c d : List Row) → a ++ ((row ∷ (b ++ c)) ++ d) ≡ (a ++ (row ∷ b)) ++ (c ++ d)
regroup a row b c d = ap (λ (z : List Row). a ++ (row ∷ z)) (append_assoc b c d) ∙ sym (append_assoc a (row ∷ b) (c ++ d))

module _ {at to : Slots} {c : ℕ} {node above : Node} {left right : List ℕ} (linked : IsLinked at) (d : Drops at to c node above left right) where
  -- the node and its parent
  pub not_own : node.parent ≢ c
  not_own e =
      let (above2, is2, deep, single) = parent_live linked c node d.here d.not_first in
      let same : above2 ≡ node = node-same (sym is2 ∙ (ap at e ∙ d.here)) in
      let f : above2.row.depth ≡ node.row.depth = ap (λ (z : Node). z.row.depth) same in
      omega (arith, deep, f)

  pub once_in : times c (left ++ right) ≡ 0
  once_in =
      let (above2, is2, deep, single) = parent_live linked c node d.here d.not_first in
      let same : above2 ≡ above = node-same (sym is2 ∙ d.is) in
      let all : times c (left ++ (c ∷ right)) ≡ 1 = ap (times c) (sym d.whole) ∙ (ap (λ (z : Node). times c z.children) (sym same) ∙ single) in
      let sum = times-append c left (c ∷ right) in
      let rest = times-append c left right in
      let own : times c (c ∷ right) ≡ 1 + times c right = rw (eq-eqb c c refl) refl in
      let n = d.none in
      omega (arith, all, sum, rest, own, n)

  -- other places are as they were
  pub same-place : (j : ℕ) → j ≢ c → place_in (to j) ≡ place_in (at j)
  same-place j ne = elim (cases_eq j node.parent) [
    | inl e ↦ ap (λ (z : ℕ). place_in (to z)) e ∙ (ap place_in d.at_parent ∙ (ap place_in (sym d.is) ∙ ap (λ (z : ℕ). place_in (at z)) (sym e)))
    | inr np ↦ ap place_in (d.others j np ne)
  ]

  -- other numbers stand in the parent's list as often as they did
  pub times-kept : (j : ℕ) → j ≢ c → times j (left ++ right) ≡ times j above.children
  times-kept j ne =
      let a = times-append j left right in
      let b = times-append j left (c ∷ right) in
      let o = times-other j c right (λ e. ne (sym e)) in
      let w : times j above.children ≡ times j (left ++ (c ∷ right)) = ap (times j) d.whole in
      omega (arith, a, b, o, w)

  -- and in every list
  same-times : (j q : ℕ) → j ≢ c → times j (children_in (to q)) ≡ times j (children_in (at q))
  same-times j q ne = elim (cases_eq q node.parent) [
    | inl e ↦
        ap (λ (z : ℕ). times j (children_in (to z))) e ∙ (ap (λ (o : Option Node). times j (children_in o)) d.at_parent
        ∙ (times-kept j ne
        ∙ (ap (λ (o : Option Node). times j (children_in o)) (sym d.is) ∙ ap (λ (z : ℕ). times j (children_in (at z))) (sym e))))
    | inr np ↦ elim (cases_eq q c) [
      | inl e ↦
          ap (λ (z : ℕ). times j (children_in (to z))) e ∙ (ap (λ (o : Option Node). times j (children_in o)) d.gone
          ∙ (ap (times j) (sym d.childless)
          ∙ (ap (λ (o : Option Node). times j (children_in o)) (sym d.here) ∙ ap (λ (z : ℕ). times j (children_in (at z))) (sym e))))
      | inr nc ↦ ap (λ (o : Option Node). times j (children_in o)) (d.others q np nc)
    ]
  ]

  -- a node that stays, with children that it had
  kept-node : (j : ℕ) (stays : Node) (children : List ℕ) → at j ≡ Some stays → j ≢ c
      → ((k : ℕ) → 0 < times k children → 0 < times k stays.children)
      → ((k : ℕ) → 0 < times k children → k ≢ c)
      → IsNode to j (record stays { children = children })
  kept-node j stays children h ne had other =
      let was = linked.nodes j stays h in
      record {
        numbered = was.numbered;
        shallow = was.shallow;
        points_back = λ k a. same-place k (other k a) ∙ was.points_back k (had k a);
        may_hold = λ k a. was.may_hold k (had k a);
        listed = λ n1. same-times j stays.parent ne ∙ was.listed n1;
        not_screen = was.not_screen;
        is_root = was.is_root;
      }

  -- the node that goes is the child of its parent alone
  not_child : (j : ℕ) (stays : Node) → at j ≡ Some stays → j ≢ node.parent → (k : ℕ) → 0 < times k stays.children → k ≢ c
  not_child j stays h np k a e =
      let (child, is, parent, depth) = children_live linked j stays h k a in
      np (sym parent ∙ ap parent_in (sym is ∙ (ap at e ∙ d.here)))

  pub linked-drop : IsLinked to
  linked-drop = record {
    nowhere = d.others 0 (λ e. not_nowhere linked node.parent above d.is (sym e)) (λ e. not_nowhere linked c node d.here (sym e)) ∙ linked.nowhere;
    root = same-place 1 (λ e. d.not_first (sym e)) ∙ linked.root;
    nodes = λ j stays h. elim (cases_eq j c) [
      | inl e ↦ let bad : None ≡ Some stays = sym d.gone ∙ (ap to (sym e) ∙ h) in cc
      | inr nc ↦ elim (cases_eq j node.parent) [
        | inl e ↦
            let same : record above { children = left ++ right } ≡ stays = node-same (sym d.at_parent ∙ (ap to (sym e) ∙ h)) in
            rw (e, ← same) (kept-node node.parent above (left ++ right) d.is not_own
            (λ k a. elim (cases_eq k c) [ inl f ↦ absurd (let z = ap (λ (y : ℕ). times y (left ++ right)) f in let o = once_in in omega (arith, a, z, o)) | inr nf ↦ (let t = times-kept k nf in omega (arith, a, t)) ])
            (λ k a f. let z = ap (λ (y : ℕ). times y (left ++ right)) f in let o = once_in in omega (arith, a, z, o)))
        | inr np ↦
            let was : at j ≡ Some stays = sym (d.others j np nc) ∙ h in
            kept-node j stays stays.children was nc (λ k a. a) (not_child j stays was np)
      ]
    ];
  }

  -- the rows of the parent's node, without those of the node that goes
  rows-parent : (l : ℕ) → Agree at to (flat_map (rows_at (suc l) at) (left ++ right))
      → rows_at (suc (suc l)) to node.parent ≡ plain above.row ∷ flat_map (rows_at (suc l) at) (left ++ right)
  rows-parent l agree =
      let live : (k : ℕ) → 0 < times k (left ++ right) → Live at k =
      λ k a. elim (cases_eq k c) [
        | inl f ↦ (node, ap at f ∙ d.here)
        | inr nf ↦ let (child, is, parent, depth) = children_live linked node.parent above d.is k (let t = times-kept k nf in omega (arith, a, t)) in (child, is)
      ] in
      rows_at-node (suc l) to node.parent (record above { children = left ++ right }) d.at_parent
      ∙ ap (λ (z : List Row). plain above.row ∷ z) (same-children linked to (suc l) (left ++ right) live agree)

  -- the rows without the row that goes
  pub rows-drop : (l : ℕ) (before after : List Row) → Below at c node above l left right before after → rows_of to ≡ removed c (rows_of at)
  rows-drop l before after b =
      let F : ℕ → List Row = rows_at (suc l) at in
      let p : ℕ = node.parent in
      let own = split-once b.around (at_most_once linked p) in
      let gone = split-once b.split (at_most_once linked c) in
      let all : count_of p (flat_map F left ++ (rows_at (suc l) at c ++ flat_map F right)) ≡ 0 =
      ap (count_of p) (sym (flat_map-append F left (c ∷ right)) ∙ ap (flat_map F) (sym b.whole)) ∙ own.0 in
      let p1 = count_of-append p (flat_map F left) (rows_at (suc l) at c ++ flat_map F right) in
      let p2 = count_of-append p (rows_at (suc l) at c) (flat_map F right) in
      let front = b.split.apart in
      let c1 = count_of-append c before (plain above.row ∷ flat_map F left) in
      let c2 = count_of-append c (flat_map F right) after in
      let g1 = gone.1 in
      let pl = count_of-append p (flat_map F left) (flat_map F right) in
      let cl = count_of-append c (flat_map F left) (flat_map F right) in
      let apart = Agree-apart at to p c d.others in
      let middle : Agree at to (flat_map F left ++ flat_map F right) =
      apart (flat_map F left ++ flat_map F right) (omega (arith, all, p1, p2, pl)) (omega (arith, front, c1, c2, g1, cl)) in
      let siblings : Agree at to (flat_map F (left ++ right)) = rw (flat_map-append F left right) middle in
      b.outer.fills to (apart before b.around.apart (omega (arith, front, c1))) (apart after own.1 (omega (arith, g1, c2)))
      ∙ (ap (λ (z : List Row). before ++ (z ++ after)) (rows-parent l siblings)
      ∙ (ap (λ (z : List Row). before ++ ((plain above.row ∷ z) ++ after)) (flat_map-append F left right)
      ∙ (regroup before (plain above.row) (flat_map F left) (flat_map F right) after
      ∙ sym (ap (λ (z : List Row). z ++ after_of c (rows_of at)) (before_of-split b.split) ∙ ap (λ (z : List Row). (before ++ (plain above.row ∷ flat_map F left)) ++ z) (after_of-split b.split)))))
