-- The rows around a node's own, whatever is below it.
use Rattle.std.proofs.Common.{◌≡◌, ◌≢◌, ℕ, zero, suc, ◌+◌, ◌-◌, ◌<◌, ◌≤◌, false, nat_lt, List, [], ◌∷◌, ◌++◌, Some, refl, sym, ap, ◌∙◌, arith, append_assoc, append-nil, inl, inr}
use Rattle.std.specs.Prelude.{flat_map}
use Rattle.std.proofs.lemmas.Bool.{cases_eq, cases_lt, eq-eqb, le-ltb, lt-ltb}
use Rattle.std.proofs.lemmas.List.Concat.{flat_map-append}
use Rattle.tx_tree.proofs.Numbers.{times-head, times-tail, times-append, cut}
use Rattle.tx_tree.proofs.lemmas.NumbersAndIds.{count_of-append}
use Rattle.tx_tree.proofs.RowLists.{AllDeeper, AllDeeper-append, Splits}
use Rattle.tx_tree.proofs.Linked.{rows_at-node, rows_at-zero, rows_of-is, Live, node_of_place, node_of_child, Agree, Agree-refl, Agree-left, Agree-right, children_live, not_root, once}
use Rattle.tx_tree.specs.Row.{plain}
use Rattle.tx_tree.specs.Rows.{count_of, deeper}
use Rattle.tx_tree.specs.Links.{Slots, rows_at, rows_of, times, depth_in, IsLinked}
use Rattle.tx_tree.specs.declared.row.Row.{Row}
use Rattle.tx_tree.specs.declared.tree.node.Node.{Node}

-- what is past a depth is past a greater one
deeper-more : (depth : ℕ) (rows : List Row) → deeper depth rows ≡ [] → deeper (suc depth) rows ≡ []
deeper-more depth [] h = refl
deeper-more depth (row ∷ rows) h = elim (cases_lt depth row.depth) [
  | inl lt ↦ let bad = rw (lt-ltb depth row.depth lt) at h in cc
  | inr le ↦ let test : nat_lt (suc depth) row.depth ≡ false = le-ltb (suc depth) row.depth (omega arith) in rw test refl
]

-- what stands before a row's subtree, and behind it, in the subtree of its parent
regroup : (a : List Row) (row : Row) (b x c d : List Row) → a ++ ((row ∷ (b ++ (x ++ c))) ++ d) ≡ (a ++ (row ∷ b)) ++ (x ++ (c ++ d))
regroup a row b x c d =
    ap (λ (z : List Row). a ++ (row ∷ z)) (append_assoc b (x ++ c) d ∙ ap (λ (z : List Row). b ++ z) (append_assoc x c d))
    ∙ sym (append_assoc a (row ∷ b) (x ++ (c ++ d)))

-- a level is left for a node that is at most 63 deep
one_more : (levels depth : ℕ) → levels + suc depth ≡ 64 → suc depth < 64 → (l : ℕ) × (levels ≡ suc l)
one_more zero depth sum lt = absurd (omega arith)
one_more (suc l) depth sum lt = (l, refl)

-- a number that stands at most once doesn't stand before its row
none_before : (n : ℕ) (row : Row) (xs ys : List Row) → row.node.0 ≡ n → count_of n (xs ++ (row ∷ ys)) ≤ 1 → count_of n xs ≡ 0
none_before n row xs ys here most =
    let sum = count_of-append n xs (row ∷ ys) in
    let own : count_of n (row ∷ ys) ≡ 1 + count_of n ys = rw (eq-eqb row.node.0 n here) refl in
    omega (arith, sum, own, most)

-- the levels below a node
pub levels_below : (d : ℕ) → d < 64 → (l : ℕ) × (suc l + d ≡ 64)
levels_below d lt = (63 - d, omega arith)

-- lists of nodes by what holds of each node
same-pieces : (at to : Slots) (F G : ℕ → List Row) (ks : List ℕ)
    → ((k : ℕ) → 0 < times k ks → Agree at to (F k) → G k ≡ F k)
    → Agree at to (flat_map F ks) → flat_map G ks ≡ flat_map F ks
same-pieces at to F G [] each agree = refl
same-pieces at to F G (k ∷ ks) each agree =
    let here : G k ≡ F k = each k (times-head k ks) (Agree-left at to (F k) (flat_map F ks) agree) in
    let rest : flat_map G ks ≡ flat_map F ks = same-pieces at to F G ks (λ l h. each l (times-tail l k ks h)) (Agree-right at to (F k) (flat_map F ks) agree) in
    rw (here, rest) refl

deeper-pieces : (depth : ℕ) (F : ℕ → List Row) (ks : List ℕ)
    → ((k : ℕ) → 0 < times k ks → AllDeeper depth (F k)) → AllDeeper depth (flat_map F ks)
deeper-pieces depth F [] each = tt
deeper-pieces depth F (k ∷ ks) each =
    AllDeeper-append depth (F k) (flat_map F ks) (each k (times-head k ks)) (deeper-pieces depth F ks (λ l h. each l (times-tail l k ks h)))

-- what stands before a node's rows and behind them, whatever those are
pub record Context (at : Slots) (n depth levels : ℕ) (before after : List Row) : Type 0 where
  pub fills : (to : Slots) → Agree at to before → Agree at to after → rows_of to ≡ before ++ (rows_at levels to n ++ after)
  pub end : deeper depth after ≡ []

module _ {at : Slots} (linked : IsLinked at) where
  -- the rows of a node depend on the nodes of those rows alone
  pub same-rows : (to : Slots) (levels n : ℕ) (node : Node) → at n ≡ Some node → Agree at to (rows_at levels at n) → rows_at levels to n ≡ rows_at levels at n
  same-rows to zero n node h agree = rw (rows_at-zero to n, rows_at-zero at n) refl
  same-rows to (suc levels) n node h agree =
      let agree2 = rw (rows_at-node levels at n node h) at agree in
      let number : node.row.node.0 ≡ n = (linked.nodes n node h).numbered in
      let is : to n ≡ Some node = (let e = agree2.0 in rw number at e) ∙ h in
      rw (rows_at-node levels at n node h, rows_at-node levels to n node is)
      (ap (λ (z : List Row). plain node.row ∷ z) (same-pieces at to (rows_at levels at) (rows_at levels to) node.children
      (λ k among a. let (child, is2, parent, depth) = children_live linked n node h k among in same-rows to levels k child is2 a)
      agree2.1))

  pub same-children : (to : Slots) (levels : ℕ) (ks : List ℕ) → ((k : ℕ) → 0 < times k ks → Live at k)
      → Agree at to (flat_map (rows_at levels at) ks) → flat_map (rows_at levels to) ks ≡ flat_map (rows_at levels at) ks
  same-children to levels ks live agree =
      same-pieces at to (rows_at levels at) (rows_at levels to) ks
      (λ k among a. same-rows to levels k (live k among).0 (live k among).1 a) agree

  -- the rows of a node are deeper than its parent
  pub deep-rows : (levels n : ℕ) (node : Node) → at n ≡ Some node → (less : ℕ) → less < node.row.depth → AllDeeper less (rows_at levels at n)
  deep-rows zero n node h less lt = rw rows_at-zero tt
  deep-rows (suc levels) n node h less lt = rw (rows_at-node levels at n node h) (
    lt,
    deeper-pieces less (rows_at levels at) node.children
        (λ k among. let (child, is, parent, depth) = children_live linked n node h k among in deep-rows levels k child is less (omega (arith, depth, lt))),
  )

  pub deep-children : (levels n : ℕ) (node : Node) → at n ≡ Some node → AllDeeper node.row.depth (flat_map (rows_at levels at) node.children)
  deep-children levels n node h =
      deeper-pieces node.row.depth (rows_at levels at) node.children
      (λ k among. let (child, is, parent, depth) = children_live linked n node h k among in deep-rows levels k child is node.row.depth (omega (arith, depth)))

  -- the parent of a node other than the node 1
  pub parent_live : (n : ℕ) (node : Node) → at n ≡ Some node → n ≢ 1
      → (above : Node) × (at node.parent ≡ Some above) × (node.row.depth ≡ suc above.row.depth) × (times n above.children ≡ 1)
  parent_live n node h ne =
      let once = (linked.nodes n node h).listed ne in
      let (above, is, among) = node_of_child (at node.parent) n (omega (arith, once)) in
      let (child, is2, parent, depth) = children_live linked node.parent above is n among in
      let same : child.row.depth ≡ node.row.depth = ap depth_in (sym is2 ∙ h) in
      (above, is, sym same ∙ depth, (let o = rw is at once in o))

  -- behind some siblings nothing is deeper than they are
  end-pieces : (depth levels : ℕ) (ks : List ℕ) (after : List Row)
      → ((k : ℕ) → 0 < times k ks → (child : Node) × (at k ≡ Some child) × (child.row.depth ≡ depth))
      → deeper depth after ≡ [] → deeper depth (flat_map (rows_at (suc levels) at) ks ++ after) ≡ []
  end-pieces depth levels [] after each end = end
  end-pieces depth levels (k ∷ ks) after each end =
      let (child, is, same) = each k (times-head k ks) in
      let test : nat_lt depth child.row.depth ≡ false = le-ltb depth child.row.depth (omega (arith, same)) in
      rw (rows_at-node levels at k child is, test) refl

  -- from the rows around a node to those around one of its children
  pub context-step : (levels depth p n : ℕ) (above : Node) (before after : List Row) (left right : List ℕ)
      → at p ≡ Some above → above.row.depth ≡ depth → Context at p depth (suc levels) before after
      → above.children ≡ left ++ (n ∷ right) → (l : ℕ) × (levels ≡ suc l)
      → Context at n (suc depth) levels (before ++ (plain above.row ∷ flat_map (rows_at levels at) left)) (flat_map (rows_at levels at) right ++ after)
  context-step levels depth p n above before after left right is flat outer whole more =
      let F : ℕ → List Row = rows_at levels at in
      let number : above.row.node.0 ≡ p = (linked.nodes p above is).numbered in
      let child : (k : ℕ) → 0 < times k (left ++ (n ∷ right)) → (child : Node) × (at k ≡ Some child) × (child.row.depth ≡ suc depth) =
      λ k a. let (c, is2, parent, deep) = children_live linked p above is k (rw whole a) in (c, is2, omega (arith, deep, flat)) in
      let in_left : (k : ℕ) → 0 < times k left → 0 < times k (left ++ (n ∷ right)) = λ k a. omega (arith, times-append k left (n ∷ right), a) in
      let in_right : (k : ℕ) → 0 < times k right → 0 < times k (left ++ (n ∷ right)) = λ k a. omega (arith, times-append k left (n ∷ right), times-tail k n right a) in
      record {
        fills = λ to b a.
            let here : to p ≡ Some above = (let e = (Agree-right at to before _ b).0 in rw number at e) ∙ is in
            let lefts : flat_map (rows_at levels to) left ≡ flat_map F left =
            same-children to levels left (λ k m. ((child k (in_left k m)).0, (child k (in_left k m)).1)) (Agree-right at to before _ b).1 in
            let rights : flat_map (rows_at levels to) right ≡ flat_map F right =
            same-children to levels right (λ k m. ((child k (in_right k m)).0, (child k (in_right k m)).1)) (Agree-left at to (flat_map F right) after a) in
            outer.fills to (Agree-left at to before _ b) (Agree-right at to (flat_map F right) after a)
            ∙ rw (rows_at-node levels to p above here, whole, flat_map-append (rows_at levels to) left (n ∷ right), lefts, rights)
            (regroup before (plain above.row) (flat_map F left) (rows_at levels to n) (flat_map F right) after);
        end =
            let (l, e) = more in
            rw e (end-pieces (suc depth) l right after (λ k m. child k (in_right k m)) (deeper-more depth after outer.end));
      }

  -- what stands around a node's rows cuts the rows
  pub split_by : (n : ℕ) (node : Node) → at n ≡ Some node → (l : ℕ) (before after : List Row)
      → Context at n node.row.depth (suc l) before after
      → Splits n (rows_of at) before (plain node.row) (flat_map (rows_at l at) node.children) after
  split_by n node h l before after ctx =
      let whole : rows_of at ≡ before ++ (plain node.row ∷ (flat_map (rows_at l at) node.children ++ after)) =
      ctx.fills at (Agree-refl at before) (Agree-refl at after) ∙ rw (rows_at-node l at n node h) refl in
      let (top, is, parent, depth) = node_of_place (at 1) 0 0 linked.root in
      let most : count_of n (rows_of at) ≤ 1 = rw (rows_of-is at) (once linked 64 1 top is n) in
      record {
        whole = whole;
        here = (linked.nodes n node h).numbered;
        apart = none_before n (plain node.row) before _ (linked.nodes n node h).numbered (rw whole at most);
        deep = deep-children l n node h;
        end = ctx.end;
      }

  -- a node's rows stand between rows that no change below the node touches
  pub context : (depth levels n : ℕ) (node : Node) → levels + depth ≡ 64 → at n ≡ Some node → node.row.depth ≡ depth
      → (before : List Row) × (after : List Row) × Context at n depth levels before after
  context zero levels n node sum h flat = elim (cases_eq n 1) [
    | inl e ↦ (
      [],
      [],
      record {
        fills = λ to b a.
            let full : levels ≡ 64 = omega (arith, sum) in
            rw (rows_of-is to, full, e) (sym (append-nil (rows_at 64 to 1)));
        end = refl;
      },
    )
    | inr ne ↦
        let (above, is, deep, single) = parent_live n node h ne in
        absurd (omega (arith, deep, flat))
  ]
  context (suc depth) levels n node sum h flat =
      let ne : n ≢ 1 = not_root linked n node h (omega (arith, flat)) in
      let (above, is, deep, single) = parent_live n node h ne in
      let p = node.parent in
      let (before, after, outer) = context depth (suc levels) p above (omega (arith, sum)) is (omega (arith, deep, flat)) in
      let (left, right, c) = cut n above.children (omega (arith, single)) in (
        before ++ (plain above.row ∷ flat_map (rows_at levels at) left),
        flat_map (rows_at levels at) right ++ after,
        context-step levels depth p n above before after left right is (omega (arith, deep, flat)) outer c.whole (one_more levels depth sum (omega (arith, flat, (linked.nodes n node h).shallow))),
      )

  -- the rows, cut at a node
  pub cut_at : (n : ℕ) (node : Node) → at n ≡ Some node
      → (l : ℕ) × (before : List Row) × (after : List Row) × (suc l + node.row.depth ≡ 64)
      × Context at n node.row.depth (suc l) before after
      × Splits n (rows_of at) before (plain node.row) (flat_map (rows_at l at) node.children) after
  cut_at n node h =
      let (l, sum) = levels_below node.row.depth (linked.nodes n node h).shallow in
      let (before, after, ctx) = context node.row.depth (suc l) n node sum h refl in
      (l, before, after, sum, ctx, split_by n node h l before after ctx)
