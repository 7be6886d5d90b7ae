-- When an edit is refused, by the slots.
use Rattle.std.proofs.Common.{◌≡◌, ◌≢◌, ℕ, ◌<◌, ◌==◌, true, false, cond, List, [], ◌∷◌, Option, Some, None, refl, sym, ap, ◌∙◌, arith, nat_eq, inl, inr}
use Rattle.std.specs.Prelude.{option_map, unwrap_or, is_none}
use Rattle.std.specs.Option.{option_eq}
use Rattle.std.proofs.lemmas.Bool.{cases_eq, eq-eqb, ne_eqb}
use Rattle.tx_tree.proofs.Linked.{node_of_place}
use Rattle.tx_tree.proofs.Context.{parent_live}
use Rattle.tx_tree.proofs.Lookups.{row_at-slot, parent_id, parent_of-slot, first_of, not_nowhere}
use Rattle.tx_tree.specs.Row.{number}
use Rattle.tx_tree.specs.Rows.{row_at, parent_of, first_row}
use Rattle.tx_tree.specs.Edits.{is_first, edit_refusal, remove_refusal, have_one_parent, move_refusal}
use Rattle.tx_tree.specs.Links.{Slots, rows_of, times, children_in, parent_in, IsLinked}
use Rattle.tx_tree.specs.declared.row.Row.{Row}
use Rattle.tx_tree.specs.declared.row.NodeId.{NodeId}
use Rattle.tx_tree.specs.declared.fault.TreeFault.TheVariants.{NoNode, Root, NotSiblings}
use Rattle.tx_tree.specs.declared.tree.node.Node.{Node}

-- whether the first row has a number, by that row
is_first-first : (n : ℕ) (rows : List Row) → option_map (λ row. row.node) (first_row rows) ≡ Some (record { 0 = 1 }) → is_first n rows ≡ (1 == n)
is_first-first n [] h = cc
is_first-first n (row ∷ rows) h = ap (λ (o : Option NodeId). (unwrap_or o (record { 0 = 0 })).0 == n) h

-- the numbers of parents
number-map : (o : Option Row) → option_map number o ≡ option_map (λ (id : NodeId). id.0) (option_map (λ (row : Row). row.node) o)
number-map None = refl
number-map (Some row) = refl

-- two parents are one, or both none
parents-eq : (p q : ℕ) → option_eq nat_eq (option_map (λ (id : NodeId). id.0) (cond (p == 0) None (Some (record { 0 = p })))) (option_map (λ (id : NodeId). id.0) (cond (q == 0) None (Some (record { 0 = q })))) ≡ (p == q)
parents-eq p q = elim (cases_eq p 0) [
  | inl ep ↦ elim (cases_eq q 0) [
    | inl eq ↦ rw (eq-eqb p 0 ep, eq-eqb q 0 eq) (sym (eq-eqb p q (ep ∙ sym eq)))
    | inr nq ↦ rw (eq-eqb p 0 ep, ne_eqb q 0 nq) (sym (ne_eqb p q (λ e. nq (sym e ∙ ep))))
  ]
  | inr np ↦ elim (cases_eq q 0) [
    | inl eq ↦ rw (ne_eqb p 0 np, eq-eqb q 0 eq) (sym (ne_eqb p q (λ e. np (e ∙ eq))))
    | inr nq ↦ rw (ne_eqb p 0 np, ne_eqb q 0 nq) refl
  ]
]

module _ {at : Slots} (linked : IsLinked at) where
  missing : (n : ℕ) → at n ≡ None → is_none (row_at n (rows_of at)) ≡ true
  missing n h = ap is_none (row_at-slot linked n None h)

  there : (n : ℕ) (node : Node) → at n ≡ Some node → is_none (row_at n (rows_of at)) ≡ false
  there n node h = ap is_none (row_at-slot linked n (Some node) h)

  pub edit-missing : (n : ℕ) → at n ≡ None → edit_refusal (rows_of at) n ≡ Some NoNode
  edit-missing n h = rw (missing n h) refl

  pub edit-there : (n : ℕ) (node : Node) → at n ≡ Some node → edit_refusal (rows_of at) n ≡ None
  edit-there n node h = rw (there n node h) refl

  pub remove-missing : (n : ℕ) → at n ≡ None → remove_refusal (rows_of at) n ≡ Some NoNode
  remove-missing n h = rw (missing n h) refl

  pub remove-first : (n : ℕ) (node : Node) → at n ≡ Some node → n ≡ 1 → remove_refusal (rows_of at) n ≡ Some Root
  remove-first n node h e = rw (there n node h) (rw (is_first-first n (rows_of at) (first_of linked), eq-eqb 1 n (sym e)) refl)

  pub remove-there : (n : ℕ) (node : Node) → at n ≡ Some node → n ≢ 1 → remove_refusal (rows_of at) n ≡ None
  remove-there n node h ne = rw (there n node h) (rw (is_first-first n (rows_of at) (first_of linked), ne_eqb 1 n (λ e. ne (sym e))) refl)

  one_parent : (n m : ℕ) (node other : Node) → at n ≡ Some node → at m ≡ Some other → have_one_parent (rows_of at) n m ≡ (node.parent == other.parent)
  one_parent n m node other h k =
      let a : option_map number (parent_of n (rows_of at)) ≡ option_map (λ (id : NodeId). id.0) (parent_id (Some node)) =
      number-map (parent_of n (rows_of at)) ∙ ap (option_map (λ (id : NodeId). id.0)) (sym (parent_of-slot linked n (Some node) h)) in
      let b : option_map number (parent_of m (rows_of at)) ≡ option_map (λ (id : NodeId). id.0) (parent_id (Some other)) =
      number-map (parent_of m (rows_of at)) ∙ ap (option_map (λ (id : NodeId). id.0)) (sym (parent_of-slot linked m (Some other) k)) in
      ap (λ (z : Option ℕ). option_eq nat_eq z (option_map number (parent_of m (rows_of at)))) a
      ∙ (ap (λ (z : Option ℕ). option_eq nat_eq (option_map (λ (id : NodeId). id.0) (parent_id (Some node))) z) b ∙ parents-eq node.parent other.parent)

  pub move-missing : (n m : ℕ) → at n ≡ None → move_refusal (rows_of at) n m ≡ Some NoNode
  move-missing n m h = rw (missing n h) refl

  pub move-missing-other : (n m : ℕ) (node : Node) → at n ≡ Some node → at m ≡ None → move_refusal (rows_of at) n m ≡ Some NoNode
  move-missing-other n m node h k = rw (there n node h, missing m k) refl

  pub move-same : (n m : ℕ) (node other : Node) → at n ≡ Some node → at m ≡ Some other → n ≡ m → move_refusal (rows_of at) n m ≡ Some NotSiblings
  move-same n m node other h k e = rw (there n node h, there m other k, eq-eqb n m e) refl

  pub move-apart : (n m : ℕ) (node other : Node) → at n ≡ Some node → at m ≡ Some other → n ≢ m → node.parent ≢ other.parent → move_refusal (rows_of at) n m ≡ Some NotSiblings
  move-apart n m node other h k ne np =
      rw (there n node h, there m other k, ne_eqb n m ne) (rw (one_parent n m node other h k, ne_eqb node.parent other.parent np) refl)

  pub move-there : (n m : ℕ) (node other : Node) → at n ≡ Some node → at m ≡ Some other → n ≢ m → node.parent ≡ other.parent → move_refusal (rows_of at) n m ≡ None
  move-there n m node other h k ne p =
      rw (there n node h, there m other k, ne_eqb n m ne) (rw (one_parent n m node other h k, eq-eqb node.parent other.parent p) refl)

  -- a node with a sibling is a child of its parent
  pub child-there : (n m : ℕ) (node other : Node) → at n ≡ Some node → at m ≡ Some other → n ≢ m → node.parent ≡ other.parent → 0 < times n (children_in (at node.parent))
  child-there n m node other h k ne p = elim (cases_eq n 1) [
    | inl e ↦
        let (top, is, parent, depth) = node_of_place (at 1) 0 0 linked.root in
        let up : node.parent ≡ 0 = ap parent_in (sym h ∙ (ap at e ∙ is)) ∙ parent in
        elim (cases_eq m 1) [
          | inl f ↦ absurd (ne (e ∙ sym f))
          | inr nf ↦
              let (above, is2, deep, single) = parent_live linked m other k nf in
              absurd (not_nowhere linked other.parent above is2 (sym p ∙ up))
        ]
    | inr n1 ↦
        let (above, is, deep, single) = parent_live linked n node h n1 in
        let f = ap (λ (o : Option Node). times n (children_in o)) is in omega (arith, f, single)
  ]
