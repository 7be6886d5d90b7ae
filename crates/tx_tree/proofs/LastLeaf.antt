-- The last node of a subtree, and the subtree without it.
use Rattle.std.proofs.Common.{◌≡◌, ◌≢◌, ℕ, suc, ◌<◌, true, List, [], ◌∷◌, ◌++◌, Some, is_some, refl, sym, ap, subst, ◌∙◌, arith, length, append_assoc, ◌⊎◌, inl, inr, length-append}
use Rattle.std.specs.Prelude.{flat_map}
use Rattle.std.proofs.lemmas.List.{append_cancel_right, same_from_push}
use Rattle.tx_tree.proofs.NextSiblings.{empty_or_last}
use Rattle.tx_tree.proofs.RowLists.{AllDeeper, Splits, before_of-split, after_of-split, subtree_of-split}
use Rattle.tx_tree.proofs.Linked.{not_root}
use Rattle.tx_tree.proofs.Context.{cut_at}
use Rattle.tx_tree.proofs.Lookups.{AllDeeper-left, not_nowhere, after_of-last}
use Rattle.tx_tree.proofs.DroppedNodes.{live_node}
use Rattle.tx_tree.specs.Row.{plain}
use Rattle.tx_tree.specs.Rows.{after_of, subtree_of, removed}
use Rattle.tx_tree.specs.Links.{Slots, rows_at, rows_of, children_in, last_or_zero, IsLinked}
use Rattle.tx_tree.specs.declared.row.Row.{Row}
use Rattle.tx_tree.specs.declared.tree.node.Node.{Node}

-- rows are none, or some and a last one
snoc_or_nil : (rows : List Row) → (rows ≡ []) ⊎ ((front : List Row) × (last : Row) × (rows ≡ front ++ (last ∷ [])))
snoc_or_nil [] = inl refl
snoc_or_nil (row ∷ rows) = elim (snoc_or_nil rows) [
  | inl e ↦ inr ([], row, ap (λ (z : List Row). row ∷ z) e)
  | inr s ↦ inr (row ∷ s.0, s.1, ap (λ (z : List Row). row ∷ z) s.2)
]

-- the rows of a subtree without its last row, which isn't its first
module _ {n c : ℕ} {rows : List Row} {before : List Row} {row : Row} {below after before2 : List Row} {row2 : Row} {after2 : List Row}
    (s : Splits n rows before row below after) (t : Splits c rows before2 row2 [] after2) (same : after2 ≡ after) (apart : c ≢ n) where
  fronts : before ++ (row ∷ below) ≡ before2 ++ (row2 ∷ [])
  fronts = append_cancel_right _ _ after
      (append_assoc before (row ∷ below) after ∙ (sym s.whole ∙ (t.whole ∙ (ap (λ (z : List Row). before2 ++ (row2 ∷ z)) same ∙ sym (append_assoc before2 (row2 ∷ []) after)))))

  not_alone : below ≢ []
  not_alone e =
      let both = same_from_push before before2 row row2 (ap (λ (z : List Row). before ++ (row ∷ z)) (sym e) ∙ fronts) in
      apart (sym t.here ∙ (ap (λ (r : Row). r.node.0) (sym both.1) ∙ s.here))

  shorter : (front : List Row) (last : Row) → below ≡ front ++ (last ∷ []) → before2 ≡ before ++ (row ∷ front)
  shorter front last e =
      sym (same_from_push (before ++ (row ∷ front)) before2 last row2
      (append_assoc before (row ∷ front) (last ∷ []) ∙ (ap (λ (z : List Row). before ++ (row ∷ z)) (sym e) ∙ fronts))).0

  -- the rest of the subtree still cuts the rows
  rest : (front : List Row) (last : Row) → below ≡ front ++ (last ∷ []) → (rows2 : List Row) → rows2 ≡ removed c rows → Splits n rows2 before row front after
  rest front last e rows2 done = record {
    whole =
        done ∙ (ap (λ (z : List Row). z ++ after_of c rows) (before_of-split t) ∙ (ap (λ (z : List Row). before2 ++ z) (after_of-split t ∙ same)
        ∙ (ap (λ (z : List Row). z ++ after) (shorter front last e) ∙ append_assoc before (row ∷ front) after)));
    here = s.here;
    apart = s.apart;
    deep = AllDeeper-left row.depth front (last ∷ []) (let P : List Row → Type 0 = λ z. AllDeeper row.depth z in subst P e s.deep);
    end = s.end;
  }

  pub without_last : (rows2 : List Row) → rows2 ≡ removed c rows
      → (removed n rows2 ≡ removed n rows) × (length (subtree_of n rows2) < length (subtree_of n rows))
  without_last rows2 done = elim (snoc_or_nil below) [
    | inl e ↦ absurd (not_alone e)
    | inr found ↦
        let r = rest found.0 found.1 found.2 rows2 done in (
          (ap (λ (z : List Row). z ++ after_of n rows2) (before_of-split r) ∙ ap (λ (z : List Row). before ++ z) (after_of-split r))
              ∙ sym (ap (λ (z : List Row). z ++ after_of n rows) (before_of-split s) ∙ ap (λ (z : List Row). before ++ z) (after_of-split s)),
          (let a = ap length (subtree_of-split r) in
              let b = ap length (subtree_of-split s) in
              let w = ap length found.2 in
              let l = length-append found.0 (found.1 ∷ []) in
              let x : length (row ∷ found.0) ≡ suc (length found.0) = refl in
              let y : length (row ∷ below) ≡ suc (length below) = refl in
              omega (arith, a, b, w, l, x, y)),
        )
  ]

module _ {at : Slots} (linked : IsLinked at) where
  -- a node whose last child is 0 has none
  pub bare : (n : ℕ) (node : Node) → at n ≡ Some node → last_or_zero node.children ≡ 0 → node.children ≡ []
  bare n node h last = elim (empty_or_last node.children) [
    | inl e ↦ e
    | inr found ↦
        let (child, is, deep, same) = after_of-last linked n (last_or_zero node.children) node h found.0 found.1 in
        absurd (not_nowhere linked (last_or_zero node.children) child is last)
  ]

  -- the last child ends where its parent does
  pub last_child : (n : ℕ) (node : Node) → at n ≡ Some node → (k : ℕ) → k ≡ last_or_zero node.children → k ≢ 0
      → (child : Node) × (at k ≡ Some child) × (child.row.depth ≡ suc node.row.depth) × (after_of k (rows_of at) ≡ after_of n (rows_of at)) × (k ≢ 1)
  last_child n node h k e ne = elim (empty_or_last node.children) [
    | inl none ↦ absurd (ne (e ∙ ap last_or_zero none))
    | inr found ↦
        let (child, is, deep, same) = after_of-last linked n k node h found.0 (found.1 ∙ ap (λ (z : ℕ). found.0 ++ (z ∷ [])) (sym e)) in
        (child, is, deep, same, not_root linked k child is (omega (arith, deep)))
  ]

  -- the rows without the last leaf of a subtree
  pub leaf_gone : (n c : ℕ) → is_some (at n) ≡ true → is_some (at c) ≡ true → children_in (at c) ≡ []
      → after_of c (rows_of at) ≡ after_of n (rows_of at) → c ≢ n → (rows2 : List Row) → rows2 ≡ removed c (rows_of at)
      → (removed n rows2 ≡ removed n (rows_of at)) × (length (subtree_of n rows2) < length (subtree_of n (rows_of at)))
  leaf_gone n c live_n live_c leaf same apart rows2 done =
      let (node, is) = live_node (at n) live_n in
      let (node2, is2) = live_node (at c) live_c in
      let (l, before, after, sum, ctx, s) = cut_at linked n node is in
      let (l2, before2, after2, sum2, ctx2, t) = cut_at linked c node2 is2 in
      let none : node2.children ≡ [] = ap children_in (sym is2) ∙ leaf in
      let P : List ℕ → Type 0 = λ ks. Splits c (rows_of at) before2 (plain node2.row) (flat_map (rows_at l2 at) ks) after2 in
      let t2 : Splits c (rows_of at) before2 (plain node2.row) [] after2 = subst P none t in
      without_last s t2 (sym (after_of-split t2) ∙ (same ∙ after_of-split s)) apart rows2 done
