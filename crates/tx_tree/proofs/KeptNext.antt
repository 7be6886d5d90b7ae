-- The kept next siblings, after a change of one list of children.
use Rattle.std.proofs.Common.{◌≡◌, ◌≢◌, ℕ, ◌<◌, List, Option, Some, sym, ap, ◌∙◌, arith, length, inl, inr}
use Rattle.std.specs.Prelude.{slice_index}
use Rattle.std.proofs.lemmas.Bool.{cases_eq, cases_lt}
use Rattle.tx_tree.proofs.Linked.{node_of_place, children_live, children_once}
use Rattle.tx_tree.proofs.Lookups.{not_nowhere}
use Rattle.tx_tree.proofs.MountedNodes.{in_bounds}
use Rattle.tx_tree.proofs.Follows.{Follows, Once}
use Rattle.tx_tree.specs.Links.{Slots, slots, times, children_in, place_in, parent_in, behind_in, IsLinked, KeepsNext, IsKept}
use Rattle.tx_tree.specs.declared.tree.node.Node.{Node}

pub keeps-next : (at to : Slots) (linked : IsLinked at) (behind behind2 : List ℕ) (p : ℕ) (above : Node) (children : List ℕ) → at p ≡ Some above
    → KeepsNext at behind
    → ((j q d : ℕ) → place_in (to j) ≡ Some (q, d) → place_in (at j) ≡ Some (q, d))
    → ((q : ℕ) → q ≢ p → children_in (to q) ≡ children_in (at q))
    → children_in (to p) ≡ children
    → ((j d : ℕ) → place_in (to j) ≡ Some (p, d) → 0 < times j children)
    → Follows behind2 children
    → ((j : ℕ) → times j above.children ≡ 0 → 0 < j → slice_index behind2 j ≡ slice_index behind j)
    → KeepsNext to behind2
keeps-next at to linked behind behind2 p above children is keeps place lists list kept follows stays j q d h = elim (cases_eq q p) [
  | inl e ↦
      follows j (kept j d (h ∙ ap (λ (z : ℕ). Some (z, d)) e))
      ∙ (ap (behind_in j) (sym list) ∙ ap (λ (z : ℕ). behind_in j (children_in (to z))) (sym e))
  | inr ne ↦
      let was : place_in (at j) ≡ Some (q, d) = place j q d h in
      let (node, there, parent, depth) = node_of_place (at j) q d was in
      let none : times j above.children ≡ 0 = elim (cases_lt 0 (times j above.children)) [
        | inl some ↦
            let (child, is2, parent2, depth2) = children_live linked p above is j some in
            absurd (ne (sym parent ∙ (ap parent_in (sym there ∙ is2) ∙ parent2)))
        | inr le ↦ omega (arith, le)
      ] in
      let positive : 0 < j = (let z = not_nowhere linked j node there in omega (arith, z)) in
      stays j none positive ∙ (keeps j q d was ∙ ap (behind_in j) (sym (lists q ne)))
]

-- the links of nodes, and what is kept of their next siblings
pub record Sound (nodes : List (Option Node)) (behind : List ℕ) : Type 0 where
  pub linked : IsLinked (slots nodes)
  pub next : KeepsNext (slots nodes) behind
  pub as_long : length behind ≡ length nodes

pub sound_of : {nodes : List (Option Node)} {behind : List ℕ} {find : List ℕ → Option ℕ} → IsKept nodes behind find → Sound nodes behind
sound_of kept = record { linked = kept.linked; next = kept.next; as_long = kept.as_long }

module _ {nodes : List (Option Node)} {behind : List ℕ} (sound : Sound nodes behind) (p : ℕ) (above : Node) (is : slots nodes p ≡ Some above) where
  -- the array has the next sibling of each child of a node
  pub follows-of : Follows behind above.children
  follows-of j a =
      let (child, there, parent, depth) = children_live sound.linked p above is j a in
      sound.next j p child.row.depth (ap place_in there ∙ ap (λ (z : ℕ). Some (z, child.row.depth)) parent) ∙ ap (λ (o : Option Node). behind_in j (children_in o)) is

  pub once-of : Once above.children
  once-of j = elim (cases_lt 0 (times j above.children)) [
    | inl some ↦ let e = children_once sound.linked p above is j some in omega (arith, e)
    | inr le ↦ omega (arith, le)
  ]

  pub bound-of : (j : ℕ) → 0 < times j above.children → (0 < j) × (j < length behind)
  bound-of j a =
      let (child, there, parent, depth) = children_live sound.linked p above is j a in
      let z = not_nowhere sound.linked j child there in
      let lt = in_bounds nodes j child there in
      let l = sound.as_long in
      (omega (arith, z), omega (arith, lt, l))

  -- a child of a node stands in its list
  pub stands-of : (j d : ℕ) → place_in (slots nodes j) ≡ Some (p, d) → 0 < times j above.children
  stands-of j d place =
      let (node, there, parent, depth) = node_of_place (slots nodes j) p d place in
      let single : times j (children_in (slots nodes node.parent)) ≡ 1 = (sound.linked.nodes j node there).listed (λ e.
      let (top, is2, parent2, depth2) = node_of_place (slots nodes 1) 0 0 sound.linked.root in
      not_nowhere sound.linked p above is (sym parent ∙ (ap parent_in (sym there ∙ (ap (slots nodes) e ∙ is2)) ∙ parent2))) in
      let list : times j (children_in (slots nodes node.parent)) ≡ times j above.children = ap (λ (z : ℕ). times j (children_in (slots nodes z))) parent ∙ ap (λ (o : Option Node). times j (children_in o)) is in
      omega (arith, single, list)
