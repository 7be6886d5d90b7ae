-- What is kept beside the nodes, after a mount.
use Rattle.std.proofs.Common.{◌≡◌, ◌≢◌, ℕ, ◌<◌, false, cond, List, [], ◌∷◌, ◌++◌, Option, Some, None, sym, ap, ◌∙◌, arith, append_assoc, length, set, inl, inr}
use Rattle.std.specs.Prelude.{slice_index, unwrap_or}
use Rattle.std.proofs.lemmas.Bool.{cases_eq, cases_Bool, cond-true, cond-false}
use Rattle.std.proofs.lemmas.List.{get_or-set_same, get_or-set_other, get_or_append_left, get_or_push, length-set}
use Rattle.tx_tree.proofs.Numbers.{times-head, times-append}
use Rattle.tx_tree.proofs.NextSiblings.{behind_in-at, behind_in-more, empty_or_last}
use Rattle.tx_tree.proofs.Linked.{node_of_place, children_live, children_once}
use Rattle.tx_tree.proofs.Lookups.{not_nowhere}
use Rattle.tx_tree.proofs.Mounting.{Mounts, same-place, no_child}
use Rattle.tx_tree.proofs.lemmas.NumbersAndIds.{id_from_test}
use Rattle.tx_tree.proofs.Ids.{test_from_id}
use Rattle.tx_tree.specs.Rows.{has_id}
use Rattle.tx_tree.specs.Links.{Slots, times, children_in, place_in, parent_in, behind_in, last_or_zero, id_in, IsLinked, KeepsNext, KeepsIds}
use Rattle.tx_tree.specs.declared.tree.node.Node.{Node}

module _ {at to : Slots} {p n : ℕ} {above new : Node} (linked : IsLinked at) (m : Mounts at to p n above new) where
  -- the children of the parent, with the new one
  children-parent : children_in (to p) ≡ above.children ++ (n ∷ [])
  children-parent = ap children_in m.at_parent

  -- the children of another node are as they were
  children-other : (q : ℕ) → q ≢ p → children_in (to q) ≡ children_in (at q)
  children-other q np = elim (cases_eq q n) [
    | inl e ↦ ap (λ (z : ℕ). children_in (to z)) e ∙ (ap children_in m.at_new ∙ (m.childless ∙ (ap children_in (sym m.free) ∙ ap (λ (z : ℕ). children_in (at z)) (sym e))))
    | inr nn ↦ ap children_in (m.others q np nn)
  ]

  -- the last child till then, where there is one, is a child of the parent
  last_child : (xs : List ℕ) (last : ℕ) → above.children ≡ xs ++ (last ∷ []) → (j q d : ℕ) → place_in (at j) ≡ Some (q, d) → j ≡ last → q ≡ p
  last_child xs last cut j q d place e =
      let among : 0 < times last above.children = rw cut (let sum = times-append last xs (last ∷ []) in let one = times-head last [] in omega (arith, sum, one)) in
      let (child, is, parent, depth) = children_live linked p above m.is last among in
      let (node, is2, parent2, depth2) = node_of_place (at j) q d place in
      sym parent2 ∙ (ap parent_in (sym is2 ∙ (ap at e ∙ is)) ∙ parent)

  last_place : (j q d : ℕ) → place_in (at j) ≡ Some (q, d) → j ≡ last_or_zero above.children → q ≡ p
  last_place j q d place e = elim (empty_or_last above.children) [
    | inl none ↦
        let (node, is, parent, depth) = node_of_place (at j) q d place in
        absurd (not_nowhere linked j node is (e ∙ ap last_or_zero none))
    | inr some ↦ last_child some.0 (last_or_zero above.children) some.1 j q d place e
  ]

  -- a child of the parent stands in its list
  in_list : (j d : ℕ) → place_in (at j) ≡ Some (p, d) → 0 < times j above.children
  in_list j d place =
      let (node, is, parent, depth) = node_of_place (at j) p d place in
      let single : times j (children_in (at node.parent)) ≡ 1 = (linked.nodes j node is).listed (λ e.
      let (top, is2, parent2, depth2) = node_of_place (at 1) 0 0 linked.root in
      let up : p ≡ 0 = sym parent ∙ (ap parent_in (sym is ∙ (ap at e ∙ is2)) ∙ parent2) in
      not_nowhere linked p above m.is up) in
      let list : children_in (at node.parent) ≡ above.children = ap (λ (z : ℕ). children_in (at z)) parent ∙ ap children_in m.is in
      rw (← list) (omega (arith, single))

  -- the next sibling of a child of the parent
  next-last : (behind : List ℕ) → KeepsNext at behind → (xs : List ℕ) (last : ℕ) → above.children ≡ xs ++ (last ∷ [])
      → (j d : ℕ) → j < length behind → place_in (at j) ≡ Some (p, d)
      → slice_index (set behind last n) j ≡ behind_in j (above.children ++ (n ∷ []))
  next-last behind keeps xs last cut j d lt place = elim (cases_eq j last) [
    | inl e ↦
        let among : 0 < times last above.children = rw (← e) (in_list j d place) in
        let single : times last above.children ≡ 1 = children_once linked p above m.is last among in
        let all : times last (xs ++ (last ∷ [])) ≡ 1 = rw (← cut) single in
        let sum = times-append last xs (last ∷ []) in
        let one = times-head last [] in
        let none : times last xs ≡ 0 = omega (arith, all, sum, one) in
        (ap (slice_index (set behind last n)) e ∙ get_or-set_same behind last n 0 (rw (← e) lt))
        ∙ sym (ap (λ (z : ℕ). behind_in z (above.children ++ (n ∷ []))) e
        ∙ (ap (λ (zs : List ℕ). behind_in last (zs ++ (n ∷ []))) cut
        ∙ (ap (behind_in last) (append_assoc xs (last ∷ []) (n ∷ [])) ∙ behind_in-at last xs (n ∷ []) none)))
    | inr ne ↦
        get_or-set_other behind last j n 0 ne
        ∙ (keeps j p d place ∙ (ap (behind_in j) (ap children_in m.is ∙ cut)
        ∙ (sym (behind_in-more j n last xs ne) ∙ ap (λ (zs : List ℕ). behind_in j (zs ++ (n ∷ []))) (sym cut))))
  ]

  next-child : (behind : List ℕ) → KeepsNext at behind → (j d : ℕ) → j < length behind → place_in (at j) ≡ Some (p, d)
      → slice_index (set behind (last_or_zero above.children) n) j ≡ behind_in j (above.children ++ (n ∷ []))
  next-child behind keeps j d lt place = elim (empty_or_last above.children) [
    | inl none ↦ absurd (let a = in_list j d place in let b = ap (times j) none in omega (arith, a, b))
    | inr some ↦ next-last behind keeps some.0 (last_or_zero above.children) some.1 j d lt place
  ]

  -- the next siblings are kept
  pub next-mount : (behind : List ℕ) → KeepsNext at behind → length behind ≡ n → ((j : ℕ) (node : Node) → at j ≡ Some node → j < n)
      → KeepsNext to (set behind (last_or_zero above.children) n ++ (0 ∷ []))
  next-mount behind keeps long bound j q d place =
      let front : List ℕ = set behind (last_or_zero above.children) n in
      let size : length front ≡ n = length-set behind (last_or_zero above.children) n ∙ long in
      elim (cases_eq j n) [
        | inl e ↦
            let (node, is, parent, depth) = node_of_place (to j) q d place in
            let up : q ≡ p = sym parent ∙ (ap parent_in (sym is ∙ (ap to e ∙ m.at_new)) ∙ m.parent) in
            (ap (slice_index (front ++ (0 ∷ []))) e ∙ get_or_push front 0 0 n size)
            ∙ sym (ap (λ (z : ℕ). behind_in j (children_in (to z))) up
            ∙ (ap (behind_in j) children-parent
            ∙ (ap (λ (z : ℕ). behind_in z (above.children ++ (n ∷ []))) e ∙ behind_in-at n above.children [] (no_child linked m p above m.is))))
        | inr ne ↦
            let was : place_in (at j) ≡ Some (q, d) = sym (same-place linked m j ne) ∙ place in
            let (node, is, parent, depth) = node_of_place (at j) q d was in
            let lt : j < n = bound j node is in
            get_or_append_left front (0 ∷ []) 0 j (rw size lt)
            ∙ elim (cases_eq q p) [
              | inl e ↦
                  next-child behind keeps j d (rw long lt) (was ∙ ap (λ (z : ℕ). Some (z, d)) e)
                  ∙ (ap (behind_in j) (sym children-parent) ∙ ap (λ (z : ℕ). behind_in j (children_in (to z))) (sym e))
              | inr np ↦
                  get_or-set_other behind (last_or_zero above.children) j n 0 (λ e. np (last_place j q d was e))
                  ∙ (keeps j q d was ∙ ap (behind_in j) (sym (children-other q np)))
            ]
      ]

  -- the ids are kept
  pub ids-mount : (find find2 : List ℕ → Option ℕ) → KeepsIds at find
      → ((name : List ℕ) → find2 name ≡ cond (has_id name new.row) (Some n) (find name))
      → ((name : List ℕ) → new.row.id ≡ Some name → find name ≡ None)
      → KeepsIds to find2
  ids-mount find find2 keeps finds fresh = record {
    found = λ name j h. elim (cases_eq j n) [
      | inl e ↦
          let id : new.row.id ≡ Some name = sym (ap id_in m.at_new) ∙ (ap (λ (z : ℕ). id_in (to z)) (sym e) ∙ h) in
          finds name ∙ (cond-true _ _ _ (test_from_id new.row.id name id) ∙ ap (λ (z : ℕ). Some z) (sym e))
      | inr ne ↦
          let was : find name ≡ Some j = keeps.found name j (sym (id-other j ne) ∙ h) in
          finds name ∙ (cond-false _ _ _ (not-new name j was) ∙ was)
    ];
    known = λ name j h. elim (cases_Bool (has_id name new.row)) [
      | inl same-id ↦
          let here : Some n ≡ Some j = sym (finds name ∙ cond-true _ _ _ same-id) ∙ h in
          let same : n ≡ j = ap (λ (o : Option ℕ). unwrap_or o n) here in
          ap (λ (z : ℕ). id_in (to z)) (sym same) ∙ (ap id_in m.at_new ∙ id_from_test new.row.id name same-id)
      | inr other-id ↦
          let was : find name ≡ Some j = sym (finds name ∙ cond-false _ _ _ other-id) ∙ h in
          let id : id_in (at j) ≡ Some name = keeps.known name j was in
          id-other j (λ e. let bad : None ≡ Some name = ap id_in (sym m.free) ∙ (ap (λ (z : ℕ). id_in (at z)) (sym e) ∙ id) in cc) ∙ id
    ];
  } where
    id-other : (j : ℕ) → j ≢ n → id_in (to j) ≡ id_in (at j)
    id-other j ne = elim (cases_eq j p) [
      | inl e ↦ ap (λ (z : ℕ). id_in (to z)) e ∙ (ap id_in m.at_parent ∙ (ap id_in (sym m.is) ∙ ap (λ (z : ℕ). id_in (at z)) (sym e)))
      | inr np ↦ ap id_in (m.others j np ne)
    ]

    not-new : (name : List ℕ) (j : ℕ) → find name ≡ Some j → has_id name new.row ≡ false
    not-new name j was = elim (cases_Bool (has_id name new.row)) [
      | inl same-id ↦ let bad : None ≡ Some j = sym (fresh name (id_from_test new.row.id name same-id)) ∙ was in cc
      | inr other-id ↦ other-id
    ]
