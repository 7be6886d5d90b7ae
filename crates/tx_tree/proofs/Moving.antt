-- A node moves among its siblings.
use Rattle.std.proofs.Common.{◌≡◌, ◌≢◌, Bool, true, cond, ℕ, suc, ◌+◌, ◌<◌, List, [], ◌∷◌, ◌++◌, Option, Some, refl, sym, ap, subst, ◌∙◌, arith, append_assoc, append-nil, inl, inr}
use Rattle.std.specs.Prelude.{flat_map}
use Rattle.std.proofs.lemmas.Bool.{cases_eq, eq-eqb}
use Rattle.std.proofs.lemmas.List.Concat.{flat_map-append}
use Rattle.tx_tree.proofs.lemmas.NumbersAndIds.{count_of-append}
use Rattle.tx_tree.proofs.RowLists.{before_of-skip, from_of-skip, before_of-split, after_of-split, subtree_of-split, split-once}
use Rattle.tx_tree.proofs.Linked.{rows_at-node, Live, children_live, Agree}
use Rattle.tx_tree.proofs.Context.{same-children}
use Rattle.tx_tree.proofs.Lookups.{not_nowhere, at_most_once, Below}
use Rattle.tx_tree.proofs.Mounting.{Agree-apart, node-same}
use Rattle.tx_tree.specs.Row.{plain, has_number}
use Rattle.tx_tree.specs.Rows.{before_of, from_of, after_of, subtree_of, removed, moved, count_of}
use Rattle.tx_tree.specs.Links.{Slots, rows_at, rows_of, times, children_in, place_in, IsNode, IsLinked}
use Rattle.tx_tree.specs.declared.row.Row.{Row}
use Rattle.tx_tree.specs.declared.tree.node.Node.{Node}

-- one array of nodes is another with the children of one node in another order
pub record Moves (at to : Slots) (p : ℕ) (above : Node) (children : List ℕ) : Type 0 where
  pub is : at p ≡ Some above
  pub at_parent : to p ≡ Some (record above { children = children })
  pub others : (j : ℕ) → j ≢ p → to j ≡ at j
  pub same : (j : ℕ) → times j children ≡ times j above.children

module _ {at to : Slots} {p : ℕ} {above : Node} {children : List ℕ} (linked : IsLinked at) (m : Moves at to p above children) where
  -- what a node has besides its children is as it was
  pub same-of : {T : Type 0} (f : Option Node → T) → f (Some (record above { children = children })) ≡ f (Some above) → (j : ℕ) → f (to j) ≡ f (at j)
  same-of f same j = elim (cases_eq j p) [
    | inl e ↦ ap (λ (z : ℕ). f (to z)) e ∙ (ap f m.at_parent ∙ (same ∙ (ap f (sym m.is) ∙ ap (λ (z : ℕ). f (at z)) (sym e))))
    | inr np ↦ ap f (m.others j np)
  ]

  same-place : (j : ℕ) → place_in (to j) ≡ place_in (at j)
  same-place j = same-of place_in refl j

  same-times : (j q : ℕ) → times j (children_in (to q)) ≡ times j (children_in (at q))
  same-times j q = same-of (λ o. times j (children_in o)) (m.same j) q

  kept-node : (j : ℕ) (stays : Node) (list : List ℕ) → at j ≡ Some stays → ((k : ℕ) → 0 < times k list → 0 < times k stays.children)
      → IsNode to j (record stays { children = list })
  kept-node j stays list h had =
      let was = linked.nodes j stays h in
      record {
        numbered = was.numbered;
        shallow = was.shallow;
        points_back = λ k a. same-place k ∙ was.points_back k (had k a);
        may_hold = λ k a. was.may_hold k (had k a);
        listed = λ n1. same-times j stays.parent ∙ was.listed n1;
        not_screen = was.not_screen;
        is_root = was.is_root;
      }

  pub linked-move : IsLinked to
  linked-move = record {
    nowhere = m.others 0 (λ e. not_nowhere linked p above m.is (sym e)) ∙ linked.nowhere;
    root = same-place 1 ∙ linked.root;
    nodes = λ j stays h. elim (cases_eq j p) [
      | inl e ↦
          let new : record above { children = children } ≡ stays = node-same (sym m.at_parent ∙ (ap to (sym e) ∙ h)) in
          rw (e, ← new) (kept-node p above children m.is (λ k a. let t = m.same k in omega (arith, a, t)))
      | inr np ↦ let was : at j ≡ Some stays = sym (m.others j np) ∙ h in kept-node j stays stays.children was (λ k a. a)
    ];
  }

-- the rows with a subtree put in before another
regroup : (a : List Row) (row : Row) (b c d e f : List Row) → a ++ ((row ∷ (b ++ (c ++ (d ++ e)))) ++ f) ≡ (a ++ (row ∷ b)) ++ (c ++ (d ++ (e ++ f)))
regroup a row b c d e f =
    ap (λ (z : List Row). a ++ (row ∷ z)) (append_assoc b (c ++ (d ++ e)) f ∙ ap (λ (z : List Row). b ++ z) (append_assoc c (d ++ e) f ∙ ap (λ (z : List Row). c ++ z) (append_assoc d e f)))
    ∙ sym (append_assoc a (row ∷ b) (c ++ (d ++ (e ++ f))))

-- the rows without a subtree, cut at another child
pub recut : (a : List Row) (row : Row) (b c d e f : List Row) → (b ++ c) ≡ (d ++ e) → (a ++ (row ∷ b)) ++ (c ++ f) ≡ (a ++ (row ∷ d)) ++ (e ++ f)
recut a row b c d e f same =
    append_assoc a (row ∷ b) (c ++ f)
    ∙ (ap (λ (z : List Row). a ++ (row ∷ z)) (sym (append_assoc b c f) ∙ (ap (λ (z : List Row). z ++ f) same ∙ append_assoc d e f))
    ∙ sym (append_assoc a (row ∷ d) (e ++ f)))

module _ {at to : Slots} (linked : IsLinked at) (n b : ℕ) (node above : Node) (l : ℕ) (left right first second : List ℕ) (before after : List Row)
    (s : Below at n node above l left right before after) (here : at n ≡ Some node) (cut : left ++ right ≡ first ++ (b ∷ second))
    (m : Moves at to node.parent above (first ++ (n ∷ (b ∷ second)))) where
  abbrev F : ℕ → List Row
  F = rows_at (suc l) at

  -- the rows of the children without the one that moves
  rest : flat_map F left ++ flat_map F right ≡ flat_map F first ++ (F b ++ flat_map F second)
  rest = sym (flat_map-append F left right) ∙ (ap (flat_map F) cut ∙ flat_map-append F first (b ∷ second))

  -- the rows without the subtree that moves
  without : removed n (rows_of at) ≡ (before ++ (plain above.row ∷ flat_map F first)) ++ ((F b ++ flat_map F second) ++ after)
  without =
      (ap (λ (z : List Row). z ++ after_of n (rows_of at)) (before_of-split s.split) ∙ ap (λ (z : List Row). (before ++ (plain above.row ∷ flat_map F left)) ++ z) (after_of-split s.split))
      ∙ recut before (plain above.row) (flat_map F left) (flat_map F right) (flat_map F first) (F b ++ flat_map F second) after rest

  -- the number of the other row stands nowhere ahead of it
  ahead : (bnode : Node) → at b ≡ Some bnode → (xs : List Row) → F b ≡ plain bnode.row ∷ xs → count_of b (before ++ (plain above.row ∷ flat_map F first)) ≡ 0
  ahead bnode is xs head =
      let w = ap (count_of b) s.split.whole in
      let most = at_most_once linked b in
      let c1 = count_of-append b (before ++ (plain above.row ∷ flat_map F left)) (plain node.row ∷ (flat_map (rows_at l at) node.children ++ (flat_map F right ++ after))) in
      let c2 = count_of-append b (flat_map (rows_at l at) node.children) (flat_map F right ++ after) in
      let e = ap (count_of b) (recut before (plain above.row) (flat_map F left) (flat_map F right) (flat_map F first) (F b ++ flat_map F second) after rest) in
      let c3 = count_of-append b (before ++ (plain above.row ∷ flat_map F left)) (flat_map F right ++ after) in
      let c4 = count_of-append b (before ++ (plain above.row ∷ flat_map F first)) ((F b ++ flat_map F second) ++ after) in
      let c5 = count_of-append b (F b ++ flat_map F second) after in
      let c6 = count_of-append b (F b) (flat_map F second) in
      let own : count_of b (F b) ≡ 1 + count_of b xs = ap (count_of b) head ∙ rw (eq-eqb bnode.row.node.0 b (linked.nodes b bnode is).numbered) refl in
      omega (arith, w, most, c1, c2, e, c3, c4, c5, c6, own)

  -- the rows of the parent's node, in the new order
  rows-parent : Agree at to (flat_map F (first ++ (n ∷ (b ∷ second))))
      → rows_at (suc (suc l)) to node.parent ≡ plain above.row ∷ (flat_map F first ++ (F n ++ (F b ++ flat_map F second)))
  rows-parent agree =
      let live : (k : ℕ) → 0 < times k (first ++ (n ∷ (b ∷ second))) → Live at k =
      λ k a. let (child, is, parent, depth) = children_live linked node.parent above s.is k (let t = m.same k in omega (arith, a, t)) in (child, is) in
      rows_at-node (suc l) to node.parent (record above { children = first ++ (n ∷ (b ∷ second)) }) m.at_parent
      ∙ ap (λ (z : List Row). plain above.row ∷ z)
      (same-children linked to (suc l) (first ++ (n ∷ (b ∷ second))) live agree ∙ flat_map-append F first (n ∷ (b ∷ second)))

  -- those rows lie apart from the parent's own
  parts_apart : Agree at to (flat_map F (first ++ (n ∷ (b ∷ second))))
  parts_apart =
      let p : ℕ = node.parent in
      let own = split-once s.around (at_most_once linked p) in
      let all : count_of p (flat_map F left ++ (F n ++ flat_map F right)) ≡ 0 =
      ap (count_of p) (sym (flat_map-append F left (n ∷ right)) ∙ ap (flat_map F) (sym s.whole)) ∙ own.0 in
      let a1 = count_of-append p (flat_map F left) (F n ++ flat_map F right) in
      let a2 = count_of-append p (F n) (flat_map F right) in
      let r = ap (count_of p) rest in
      let r1 = count_of-append p (flat_map F left) (flat_map F right) in
      let r2 = count_of-append p (flat_map F first) (F b ++ flat_map F second) in
      let r3 = count_of-append p (F b) (flat_map F second) in
      let b1 = count_of-append p (flat_map F first) (F n ++ (F b ++ flat_map F second)) in
      let b2 = count_of-append p (F n) (F b ++ flat_map F second) in
      let apart : Agree at to (flat_map F first ++ (F n ++ (F b ++ flat_map F second))) =
      Agree-apart at to p p (λ j np nq. m.others j np) _ (omega (arith, all, a1, a2, r, r1, r2, r3, b1, b2)) (omega (arith, all, a1, a2, r, r1, r2, r3, b1, b2)) in
      let Q : List Row → Type 0 = λ z. Agree at to z in
      subst Q (sym (flat_map-append F first (n ∷ (b ∷ second)))) apart

  pub rows-move : (bnode : Node) → at b ≡ Some bnode → rows_of to ≡ moved n b (rows_of at)
  rows-move bnode is =
      let p : ℕ = node.parent in
      let own = split-once s.around (at_most_once linked p) in
      let xs : List Row = flat_map (rows_at l at) bnode.children in
      let head : F b ≡ plain bnode.row ∷ xs = rows_at-node l at b bnode is in
      let front : List Row = before ++ (plain above.row ∷ flat_map F first) in
      let none : count_of b front ≡ 0 = ahead bnode is xs head in
      let test : has_number b (plain bnode.row) ≡ true = eq-eqb bnode.row.node.0 b (linked.nodes b bnode is).numbered in
      let tail : (F b ++ flat_map F second) ++ after ≡ plain bnode.row ∷ ((xs ++ flat_map F second) ++ after) = ap (λ (z : List Row). (z ++ flat_map F second) ++ after) head in
      let starts : before_of b ((F b ++ flat_map F second) ++ after) ≡ [] =
      ap (before_of b) tail ∙ ap (λ (t : Bool). cond t [] (plain bnode.row ∷ before_of b ((xs ++ flat_map F second) ++ after))) test in
      let goes : from_of b ((F b ++ flat_map F second) ++ after) ≡ (F b ++ flat_map F second) ++ after =
      ap (from_of b) tail ∙ (ap (λ (t : Bool). cond t (plain bnode.row ∷ ((xs ++ flat_map F second) ++ after)) (from_of b ((xs ++ flat_map F second) ++ after))) test ∙ sym tail) in
      let left-part : before_of b (removed n (rows_of at)) ≡ front =
      ap (before_of b) without ∙ (before_of-skip b front _ none ∙ (ap (λ (z : List Row). front ++ z) starts ∙ append-nil front)) in
      let right-part : from_of b (removed n (rows_of at)) ≡ (F b ++ flat_map F second) ++ after =
      ap (from_of b) without ∙ (from_of-skip b front _ none ∙ goes) in
      let middle : subtree_of n (rows_of at) ≡ F n = subtree_of-split s.split ∙ sym (rows_at-node l at n node here) in
      s.outer.fills to (Agree-apart at to p p (λ j np nq. m.others j np) before s.around.apart s.around.apart) (Agree-apart at to p p (λ j np nq. m.others j np) after own.1 own.1)
      ∙ (ap (λ (z : List Row). before ++ (z ++ after)) (rows-parent parts_apart)
      ∙ (regroup before (plain above.row) (flat_map F first) (F n) (F b) (flat_map F second) after
      ∙ sym (ap (λ (z : List Row). z ++ (subtree_of n (rows_of at) ++ from_of b (removed n (rows_of at)))) left-part
      ∙ (ap (λ (z : List Row). front ++ (z ++ from_of b (removed n (rows_of at)))) middle
      ∙ ap (λ (z : List Row). front ++ (F n ++ z)) (right-part ∙ append_assoc (F b) (flat_map F second) after)))))
