-- A new node as the last child of another.
use Rattle.std.proofs.Common.{◌≡◌, ◌≢◌, ℕ, suc, ◌<◌, true, false, List, [], ◌∷◌, ◌++◌, Option, Some, None, refl, sym, ap, subst, ◌∙◌, arith, append_assoc, append-nil, inl, inr}
use Rattle.std.specs.Prelude.{flat_map, unwrap_or}
use Rattle.std.proofs.lemmas.Bool.{cases_eq, cases_lt, eq-eqb}
use Rattle.std.proofs.lemmas.List.Concat.{flat_map-append}
use Rattle.tx_tree.proofs.Numbers.{times-head, times-append, times-other}
use Rattle.tx_tree.proofs.RowLists.{Splits, before_of-split, subtree_of-split, after_of-split, split-none, split-once}
use Rattle.tx_tree.proofs.Linked.{rows_at-node, Live, node_of_place, children_live, Agree}
use Rattle.tx_tree.proofs.Context.{Context, same-children, cut_at}
use Rattle.tx_tree.proofs.Lookups.{none_of, not_nowhere, below_more, at_most_once}
use Rattle.tx_tree.specs.Row.{plain}
use Rattle.tx_tree.specs.Rows.{before_of, subtree_of, after_of, count_of}
use Rattle.tx_tree.specs.Kind.{holds_children, is_screen}
use Rattle.tx_tree.specs.Links.{Slots, rows_at, rows_of, times, children_in, place_in, IsNode, IsLinked}
use Rattle.tx_tree.specs.declared.row.Row.{Row}
use Rattle.tx_tree.specs.declared.tree.node.Node.{Node}

-- one array of nodes is another with a new node n as the last child of p
pub record Mounts (at to : Slots) (p n : ℕ) (above new : Node) : Type 0 where
  pub is : at p ≡ Some above
  pub free : at n ≡ None
  pub not_zero : n ≢ 0
  pub at_parent : to p ≡ Some (record above { children = above.children ++ (n ∷ []) })
  pub at_new : to n ≡ Some new
  pub others : (j : ℕ) → j ≢ p → j ≢ n → to j ≡ at j
  pub parent : new.parent ≡ p
  pub childless : new.children ≡ []
  pub number : new.row.node.0 ≡ n
  pub depth : new.row.depth ≡ suc above.row.depth
  pub shallow : new.row.depth < 64
  pub holds : holds_children above.row.kind ≡ true
  pub no_screen : is_screen new.row.kind ≡ false

-- one slot holds one node
pub node-same : {a b : Node} → Some a ≡ Some b → a ≡ b
node-same {a} {b} h = ap (λ (o : Option Node). unwrap_or o a) h

-- rows in which a number isn't counted are those of other numbers
pub Agree-apart : (at to : Slots) (p n : ℕ) → ((j : ℕ) → j ≢ p → j ≢ n → to j ≡ at j)
    → (rows : List Row) → count_of p rows ≡ 0 → count_of n rows ≡ 0 → Agree at to rows
Agree-apart at to p n others [] hp hn = tt
Agree-apart at to p n others (row ∷ rows) hp hn = (
  others row.node.0 (λ e. let c = rw (eq-eqb row.node.0 p e) at hp in omega (arith, c)) (λ e. let c = rw (eq-eqb row.node.0 n e) at hn in omega (arith, c)),
  Agree-apart at to p n others rows (omega (arith, hp)) (omega (arith, hn)),
)

-- the rows before a subtree, in it and behind it, with one more at its end
regroup : (a : List Row) (row : Row) (b c d : List Row) → a ++ ((row ∷ (b ++ (c ++ []))) ++ d) ≡ a ++ ((row ∷ b) ++ (c ++ d))
regroup a row b c d = ap (λ (z : List Row). a ++ (row ∷ z)) (ap (λ (z : List Row). (b ++ z) ++ d) (append-nil c) ∙ append_assoc b c d)

module _ {at to : Slots} {p n : ℕ} {above new : Node} (linked : IsLinked at) (m : Mounts at to p n above new) where
  -- the number of the new node is that of no child, and not 1
  pub new_number : (j : ℕ) (node : Node) → at j ≡ Some node → j ≢ n
  new_number j node h e = let bad : None ≡ Some node = sym m.free ∙ (ap at (sym e) ∙ h) in cc

  pub no_child : (j : ℕ) (node : Node) → at j ≡ Some node → times n node.children ≡ 0
  no_child j node h = elim (cases_lt 0 (times n node.children)) [
    | inl some ↦ let (child, is, parent, depth) = children_live linked j node h n some in absurd (new_number n child is refl)
    | inr le ↦ omega (arith, le)
  ]

  pub not_first : n ≢ 1
  not_first e =
      let (top, is, parent, depth) = node_of_place (at 1) 0 0 linked.root in
      new_number 1 top is (sym e)

  -- other places are as they were
  pub same-place : (j : ℕ) → j ≢ n → place_in (to j) ≡ place_in (at j)
  same-place j ne = elim (cases_eq j p) [
    | inl e ↦ ap (λ (z : ℕ). place_in (to z)) e ∙ (ap place_in m.at_parent ∙ (ap place_in (sym m.is) ∙ ap (λ (z : ℕ). place_in (at z)) (sym e)))
    | inr np ↦ ap place_in (m.others j np ne)
  ]

  -- other numbers stand in lists of children as often as they did
  same-times : (j q : ℕ) → j ≢ n → times j (children_in (to q)) ≡ times j (children_in (at q))
  same-times j q ne = elim (cases_eq q p) [
    | inl e ↦
        ap (λ (z : ℕ). times j (children_in (to z))) e ∙ (ap (λ (o : Option Node). times j (children_in o)) m.at_parent
        ∙ (times-append j above.children (n ∷ []) ∙ ((let t = times-other j n [] (λ same. ne (sym same)) in omega (arith, t))
        ∙ (ap (λ (o : Option Node). times j (children_in o)) (sym m.is) ∙ ap (λ (z : ℕ). times j (children_in (at z))) (sym e)))))
    | inr np ↦ elim (cases_eq q n) [
      | inl e ↦
          ap (λ (z : ℕ). times j (children_in (to z))) e ∙ (ap (λ (o : Option Node). times j (children_in o)) m.at_new
          ∙ (ap (times j) m.childless
          ∙ (ap (λ (o : Option Node). times j (children_in o)) (sym m.free) ∙ ap (λ (z : ℕ). times j (children_in (at z))) (sym e))))
      | inr nn ↦ ap (λ (o : Option Node). times j (children_in o)) (m.others q np nn)
    ]
  ]

  -- a node that stays, perhaps with a new list of children
  kept-node : (j : ℕ) (node : Node) (children : List ℕ) → at j ≡ Some node
      → ((k : ℕ) → 0 < times k children → place_in (to k) ≡ Some (j, suc node.row.depth))
      → ((k : ℕ) → 0 < times k children → holds_children node.row.kind ≡ true)
      → IsNode to j (record node { children = children })
  kept-node j node children h back holds =
      let was = linked.nodes j node h in
      record {
        numbered = was.numbered;
        shallow = was.shallow;
        points_back = back;
        may_hold = holds;
        listed = λ ne. same-times j node.parent (new_number j node h) ∙ was.listed ne;
        not_screen = was.not_screen;
        is_root = was.is_root;
      }

  new-node : IsNode to n new
  new-node = record {
    numbered = m.number;
    shallow = m.shallow;
    points_back = λ k a. absurd (let none = rw m.childless at a in omega (arith, none));
    may_hold = λ k a. absurd (let none = rw m.childless at a in omega (arith, none));
    listed = λ ne.
        ap (λ (z : ℕ). times n (children_in (to z))) m.parent ∙ (ap (λ (o : Option Node). times n (children_in o)) m.at_parent
        ∙ (times-append n above.children (n ∷ []) ∙ (let none = no_child p above m.is in let one = times-head n [] in omega (arith, none, one, single))));
    not_screen = λ ne. m.no_screen;
    is_root = λ e. absurd (not_first e);
  } where
    single : times n (n ∷ []) ≡ 1
    single = rw (eq-eqb n n refl) refl

  back-kept : (j : ℕ) (node : Node) → at j ≡ Some node → (k : ℕ) → 0 < times k node.children → place_in (to k) ≡ Some (j, suc node.row.depth)
  back-kept j node h k a =
      let (child, is, parent, depth) = children_live linked j node h k a in
      same-place k (new_number k child is) ∙ (linked.nodes j node h).points_back k a

  back-more : (k : ℕ) → 0 < times k (above.children ++ (n ∷ [])) → place_in (to k) ≡ Some (p, suc above.row.depth)
  back-more k a = elim (cases_eq n k) [
    | inl e ↦ rw (← e) (ap place_in m.at_new ∙ rw (m.parent, m.depth) refl)
    | inr ne ↦ back-kept p above m.is k (let sum = times-append k above.children (n ∷ []) in let other = times-other k n [] ne in omega (arith, a, sum, other))
  ]

  pub linked-mount : IsLinked to
  linked-mount = record {
    nowhere = m.others 0 (λ e. not_nowhere linked p above m.is (sym e)) (λ e. m.not_zero (sym e)) ∙ linked.nowhere;
    root = same-place 1 (λ e. not_first (sym e)) ∙ linked.root;
    nodes = λ j node h. elim (cases_eq j n) [
      | inl e ↦ let same : new ≡ node = node-same (sym m.at_new ∙ (ap to (sym e) ∙ h)) in rw (e, ← same) new-node
      | inr nn ↦ elim (cases_eq j p) [
        | inl e ↦
            let same : record above { children = above.children ++ (n ∷ []) } ≡ node = node-same (sym m.at_parent ∙ (ap to (sym e) ∙ h)) in
            rw (e, ← same) (kept-node p above (above.children ++ (n ∷ [])) m.is back-more (λ k a. m.holds))
        | inr np ↦
            let was : at j ≡ Some node = sym (m.others j np nn) ∙ h in
            kept-node j node node.children was (back-kept j node was) (linked.nodes j node was).may_hold
      ]
    ];
  }

  -- the rows of the parent's node, with the new one at the end
  rows-parent : (l : ℕ) → Agree at to (flat_map (rows_at (suc l) at) above.children)
      → rows_at (suc (suc l)) to p ≡ plain above.row ∷ (flat_map (rows_at (suc l) at) above.children ++ ((plain new.row ∷ []) ++ []))
  rows-parent l agree =
      let live : (k : ℕ) → 0 < times k above.children → Live at k = λ k a. let (child, is, parent, depth) = children_live linked p above m.is k a in (child, is) in
      rows_at-node (suc l) to p (record above { children = above.children ++ (n ∷ []) }) m.at_parent
      ∙ ap (λ (z : List Row). plain above.row ∷ z)
      (flat_map-append (rows_at (suc l) to) above.children (n ∷ [])
      ∙ (ap (λ (z : List Row). z ++ (rows_at (suc l) to n ++ [])) (same-children linked to (suc l) above.children live agree)
      ∙ ap (λ (z : List Row). flat_map (rows_at (suc l) at) above.children ++ (z ++ []))
      (rows_at-node l to n new m.at_new ∙ ap (λ (ks : List ℕ). plain new.row ∷ flat_map (rows_at l to) ks) m.childless)))

  -- the new row stands behind its parent's subtree
  rows-cut : (l : ℕ) (before after : List Row) → Context at p above.row.depth (suc (suc l)) before after
      → Splits p (rows_of at) before (plain above.row) (flat_map (rows_at (suc l) at) above.children) after
      → rows_of to ≡ before_of p (rows_of at) ++ (subtree_of p (rows_of at) ++ (plain new.row ∷ after_of p (rows_of at)))
  rows-cut l before after ctx s =
      let own = split-once s (at_most_once linked p) in
      let free = split-none s n (none_of linked n m.free) in
      let apart = Agree-apart at to p n m.others in
      ctx.fills to (apart before s.apart free.0) (apart after own.1 free.2)
      ∙ (ap (λ (z : List Row). before ++ (z ++ after)) (rows-parent l (apart _ own.0 free.1))
      ∙ (regroup before (plain above.row) (flat_map (rows_at (suc l) at) above.children) (plain new.row ∷ []) after
      ∙ sym (rw (before_of-split s, subtree_of-split s, after_of-split s) refl)))

  pub rows-mount : rows_of to ≡ before_of p (rows_of at) ++ (subtree_of p (rows_of at) ++ (plain new.row ∷ after_of p (rows_of at)))
  rows-mount =
      let (l, before, after, sum, ctx, s) = cut_at linked p above m.is in
      let (k, more) = below_more l above.row.depth sum (let d = m.depth in let lt = m.shallow in omega (arith, d, lt)) in
      rows-cut k before after
      (let P : ℕ → Type 0 = λ z. Context at p above.row.depth (suc z) before after in subst P more ctx)
      (let P : ℕ → Type 0 = λ z. Splits p (rows_of at) before (plain above.row) (flat_map (rows_at z at) above.children) after in subst P more s)
