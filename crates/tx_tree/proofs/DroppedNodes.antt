-- A node without children goes, over the list of nodes.
use Rattle.std.proofs.Common.{◌≡◌, ◌≢◌, ℕ, suc, ◌<◌, true, false, cond, List, [], ◌∷◌, ◌++◌, Option, Some, None, is_some, refl, sym, ap, subst, ◌∙◌, arith, length, set, inl, inr}
use Rattle.std.specs.Prelude.{slice_index, unwrap_or}
use Rattle.std.proofs.lemmas.Bool.{cases_eq, cases_Bool, cond-true, cond-false, false≢true}
use Rattle.std.proofs.lemmas.List.{get_or-set_same, get_or-set_other, length-set}
use Rattle.std.specs.Option.{option_eq}
use Rattle.std.specs.Str.{bytes_eq}
use Rattle.tx_tree.proofs.Numbers.{ahead_of-cut, past_of-cut, times-append}
use Rattle.tx_tree.proofs.NextSiblings.{empty_or_last}
use Rattle.tx_tree.proofs.Linked.{node_of_place}
use Rattle.tx_tree.proofs.Lookups.{Below, below}
use Rattle.tx_tree.proofs.Mounting.{node-same}
use Rattle.tx_tree.proofs.MountedNodes.{in_bounds}
use Rattle.tx_tree.proofs.lemmas.NumbersAndIds.{id_from_test}
use Rattle.tx_tree.proofs.Ids.{test_from_id}
use Rattle.tx_tree.proofs.Follows.{follows-drop, stays-drop, last-stands, Follows, Once}
use Rattle.tx_tree.proofs.KeptNext.{sound_of, keeps-next, follows-of, once-of, bound-of, stands-of}
use Rattle.tx_tree.proofs.Dropping.{Drops, linked-drop, rows-drop, same-place, times-kept}
use Rattle.tx_tree.specs.Rows.{has_id, removed}
use Rattle.tx_tree.specs.Links.{slots, rows_of, times, children_in, place_in, parent_in, last_or_zero, past_of, ahead_in, without_child, with_children, id_in, spare_in, KeepsNext, KeepsIds, IsKept, KeepsRoom}
use Rattle.tx_tree.specs.declared.row.Row.{Row}
use Rattle.tx_tree.specs.declared.tree.node.Node.{Node}

-- the nodes without one, which is taken out of its parent's list
abbrev pub drop_list : List (Option Node) → ℕ → ℕ → List (Option Node)
drop_list n1 p c = set n1 p (with_children (without_child c (children_in (slots n1 p))) (slots n1 p))

module _ {nodes : List (Option Node)} {behind : List ℕ} {find : List ℕ → Option ℕ} (kept : IsKept nodes behind find)
    (c : ℕ) (node : Node) (here : slots nodes c ≡ Some node) (childless : node.children ≡ []) (not_first : c ≢ 1)
    (n2 : List (Option Node)) (done : n2 ≡ drop_list (set nodes c None) node.parent c) where
  module _ (above : Node) (l : ℕ) (left right : List ℕ) (before after : List Row) (b : Below (slots nodes) c node above l left right before after) where
    not_parent : node.parent ≢ c
    not_parent e =
        let same : above ≡ node = node-same (sym b.is ∙ (ap (slots nodes) e ∙ here)) in
        let d = b.deep in
        let f : above.row.depth ≡ node.row.depth = ap (λ (z : Node). z.row.depth) same in
        omega (arith, d, f)

    slot-parent : slots (set nodes c None) node.parent ≡ Some above
    slot-parent = get_or-set_other nodes c node.parent None None not_parent ∙ b.is

    drops : Drops (slots nodes) (slots n2) c node above left right
    drops = record {
      here = here;
      childless = childless;
      not_first = not_first;
      is = b.is;
      whole = b.whole;
      none = b.none;
      at_parent =
          ap (λ (z : List (Option Node)). slots z node.parent) done
          ∙ (get_or-set_same (set nodes c None) node.parent _ None (rw (length-set nodes c None) (in_bounds nodes node.parent above b.is))
          ∙ (ap (λ (o : Option Node). with_children (without_child c (children_in o)) o) slot-parent
          ∙ ap (λ (ks : List ℕ). Some (record above { children = ks }))
          (ap (without_child c) b.whole ∙ (ap (λ (z : List ℕ). z ++ past_of c (left ++ (c ∷ right))) (ahead_of-cut c left right b.none) ∙ ap (λ (z : List ℕ). left ++ z) (past_of-cut c left right b.none)))));
      gone =
          ap (λ (z : List (Option Node)). slots z c) done
          ∙ (get_or-set_other (set nodes c None) node.parent c _ None (λ e. not_parent (sym e))
          ∙ get_or-set_same nodes c None None (in_bounds nodes c node here));
      others = λ j np nc.
          ap (λ (z : List (Option Node)). slots z j) done
          ∙ (get_or-set_other (set nodes c None) node.parent j _ None np ∙ get_or-set_other nodes c j None None nc);
    }

    live_apart : (j : ℕ) → is_some (slots n2 j) ≡ true → j ≢ c
    live_apart j h e = false≢true (ap is_some (sym drops.gone ∙ ap (slots n2) (sym e)) ∙ h)

    -- what a node that stays has besides its children is as it was
    same-of : {T : Type 0} (f : Option Node → T) → f (Some (record above { children = left ++ right })) ≡ f (Some above) → (j : ℕ) → j ≢ c → f (slots n2 j) ≡ f (slots nodes j)
    same-of f same j ne = elim (cases_eq j node.parent) [
      | inl e ↦ ap (λ (z : ℕ). f (slots n2 z)) e ∙ (ap f drops.at_parent ∙ (same ∙ (ap f (sym b.is) ∙ ap (λ (z : ℕ). f (slots nodes z)) (sym e))))
      | inr np ↦ ap f (drops.others j np ne)
    ]

    gone_apart : (j q d : ℕ) → place_in (slots n2 j) ≡ Some (q, d) → j ≢ c
    gone_apart j q d h e = let (stays, is, parent, depth) = node_of_place (slots n2 j) q d h in live_apart j (ap is_some is) e

    next : (behind2 : List ℕ) → behind2 ≡ set behind (ahead_in c above.children) (slice_index behind c) → KeepsNext (slots n2) behind2
    next behind2 e =
        let ahead : ahead_in c above.children ≡ last_or_zero left = ap (ahead_in c) b.whole ∙ ap last_or_zero (ahead_of-cut c left right b.none) in
        let e2 : behind2 ≡ set behind (last_or_zero left) (slice_index behind c) = e ∙ ap (λ (z : ℕ). set behind z (slice_index behind c)) ahead in
        rw e2 (keeps-next (slots nodes) (slots n2) kept.linked behind (set behind (last_or_zero left) (slice_index behind c)) node.parent above (left ++ right) b.is kept.next
        (λ j q d h. sym (same-place kept.linked drops j (gone_apart j q d h)) ∙ h)
        (λ q nq. elim (cases_eq q c) [
          | inl f ↦ ap (λ (z : ℕ). children_in (slots n2 z)) f ∙ (ap children_in drops.gone ∙ (sym childless ∙ (ap children_in (sym here) ∙ ap (λ (z : ℕ). children_in (slots nodes z)) (sym f))))
          | inr nf ↦ ap children_in (drops.others q nq nf)
        ])
        (ap children_in drops.at_parent)
        (λ j d h.
        let ne : j ≢ c = gone_apart j node.parent d h in
        let stands = stands-of (sound_of kept) node.parent above b.is j d (sym (same-place kept.linked drops j ne) ∙ h) in
        let t = times-kept kept.linked drops j ne in omega (arith, stands, t))
        (let P : List ℕ → Type 0 = λ z. Follows behind z in
        let O : List ℕ → Type 0 = λ z. Once z in
        let B : List ℕ → Type 0 = λ z. (j : ℕ) → 0 < times j z → (0 < j) × (j < length behind) in
        follows-drop behind c left right
        (subst P b.whole (follows-of (sound_of kept) node.parent above b.is))
        (subst O b.whole (once-of (sound_of kept) node.parent above b.is))
        (subst B b.whole (bound-of (sound_of kept) node.parent above b.is)))
        (λ j none some. stays-drop behind c left right j (ap (times j) (sym b.whole) ∙ none) some))

    ids : (find2 : List ℕ → Option ℕ) → ((name : List ℕ) → find2 name ≡ cond (has_id name node.row) None (find name)) → KeepsIds (slots n2) find2
    ids find2 finds = record {
      found = λ name j h.
          let ne : j ≢ c = λ e. (let bad : None ≡ Some name = ap id_in (sym drops.gone) ∙ (ap (λ (z : ℕ). id_in (slots n2 z)) (sym e) ∙ h) in cc) in
          let was : find name ≡ Some j = kept.ids.found name j (sym (same-of id_in refl j ne) ∙ h) in
          finds name ∙ (cond-false _ _ _ (other name j was ne) ∙ was);
      known = λ name j h. elim (cases_Bool (has_id name node.row)) [
        | inl same-id ↦ let bad : None ≡ Some j = sym (finds name ∙ cond-true _ _ _ same-id) ∙ h in cc
        | inr other-id ↦
            let was : find name ≡ Some j = sym (finds name ∙ cond-false _ _ _ other-id) ∙ h in
            let id : id_in (slots nodes j) ≡ Some name = kept.ids.known name j was in
            let ne : j ≢ c = λ e.
            (let own : node.row.id ≡ Some name = ap id_in (sym here) ∙ (ap (λ (z : ℕ). id_in (slots nodes z)) (sym e) ∙ id) in
            false≢true (sym other-id ∙ test_from_id node.row.id name own)) in
            same-of id_in refl j ne ∙ id
      ];
    } where
      other : (name : List ℕ) (j : ℕ) → find name ≡ Some j → j ≢ c → has_id name node.row ≡ false
      other name j was ne = elim (cases_Bool (has_id name node.row)) [
        | inl same-id ↦
            let there : find name ≡ Some c = kept.ids.found name c (ap id_in here ∙ id_from_test node.row.id name same-id) in
            absurd (ne (ap (λ (o : Option ℕ). unwrap_or o j) (sym was ∙ there)))
        | inr other-id ↦ other-id
      ]

    dropped : (behind2 : List ℕ) (find2 : List ℕ → Option ℕ) → behind2 ≡ set behind (ahead_in c above.children) (slice_index behind c)
        → ((name : List ℕ) → find2 name ≡ cond (has_id name node.row) None (find name))
        → IsKept n2 behind2 find2 × (rows_of (slots n2) ≡ removed c (rows_of (slots nodes))) × KeepsRoom nodes n2
        × ((j : ℕ) → j ≢ c → is_some (slots n2 j) ≡ is_some (slots nodes j))
    dropped behind2 find2 eb ef =
        let size : length n2 ≡ length nodes = ap length done ∙ (length-set (set nodes c None) node.parent _ ∙ length-set nodes c None) in
        let size2 : length behind2 ≡ length behind = ap length eb ∙ length-set behind (ahead_in c above.children) (slice_index behind c) in
        let w = kept.as_long in
        let few = kept.few in (
          record {
            linked = linked-drop kept.linked drops;
            next = next behind2 eb;
            ids = ids find2 ef;
            as_long = omega (arith, size, size2, w);
            few = omega (arith, size, few);
          },
          rows-drop kept.linked drops l before after b,
          λ j h. (let e = same-of spare_in refl j (live_apart j h) in omega (arith, e)),
          λ j ne. same-of is_some refl j ne,
        )

  -- what is left where a node without children goes
  pub drop-done : (behind2 : List ℕ) (find2 : List ℕ → Option ℕ)
      → behind2 ≡ set behind (ahead_in c (children_in (slots nodes node.parent))) (slice_index behind c)
      → ((name : List ℕ) → find2 name ≡ cond (has_id name node.row) None (find name))
      → IsKept n2 behind2 find2 × (rows_of (slots n2) ≡ removed c (rows_of (slots nodes))) × KeepsRoom nodes n2
      × ((j : ℕ) → j ≢ c → is_some (slots n2 j) ≡ is_some (slots nodes j))
  drop-done behind2 find2 eb ef =
      let (above, l, left, right, before, after, b) = below kept.linked c node here not_first in
      dropped above l left right before after b behind2 find2
      (eb ∙ ap (λ (o : Option Node). set behind (ahead_in c (children_in o)) (slice_index behind c)) b.is) ef

-- the parent of a node that goes
module _ {nodes : List (Option Node)} {behind : List ℕ} {find : List ℕ → Option ℕ} (kept : IsKept nodes behind find)
    (c : ℕ) (node : Node) (here : slots nodes c ≡ Some node) (not_first : c ≢ 1) where
  other : (above : Node) → node.row.depth ≡ suc above.row.depth → slots nodes node.parent ≡ Some above → node.parent ≢ c
  other above deep is e =
      let same : above ≡ node = node-same (sym is ∙ (ap (slots nodes) e ∙ here)) in
      let f : above.row.depth ≡ node.row.depth = ap (λ (z : Node). z.row.depth) same in
      omega (arith, deep, f)

  -- the parent's slot, once the node is taken out of its own
  pub parent-slot : slots (set nodes c None) node.parent ≡ slots nodes node.parent
  parent-slot =
      let (above, l, left, right, before, after, b) = below kept.linked c node here not_first in
      get_or-set_other nodes c node.parent None None (other above b.deep b.is)

  -- the child ahead of the node, or 0, has a place in the array
  pub ahead_in_bounds : ahead_in c (children_in (slots nodes node.parent)) < length behind
  ahead_in_bounds =
      let (above, l, left, right, before, after, b) = below kept.linked c node here not_first in
      let same : ahead_in c (children_in (slots nodes node.parent)) ≡ last_or_zero left =
      ap (λ (o : Option Node). ahead_in c (children_in o)) b.is ∙ (ap (ahead_in c) b.whole ∙ ap last_or_zero (ahead_of-cut c left right b.none)) in
      let size = in_bounds nodes c node here in
      let w = kept.as_long in
      elim (empty_or_last left) [
        | inl empty ↦ let z : last_or_zero left ≡ 0 = ap last_or_zero empty in omega (arith, same, z, size, w)
        | inr found ↦
            let stands : 0 < times (last_or_zero left) left = (let s = last-stands found.0 (last_or_zero left) in let e = ap (times (last_or_zero left)) found.1 in omega (arith, s, e)) in
            let among : 0 < times (last_or_zero left) above.children =
            (let e = ap (times (last_or_zero left)) b.whole in let t = times-append (last_or_zero left) left (c ∷ right) in omega (arith, e, t, stands)) in
            let lt = (bound-of (sound_of kept) node.parent above b.is (last_or_zero left) among).1 in
            omega (arith, same, lt)
      ]

-- a slot in use has a node
pub live_node : (slot : Option Node) → is_some slot ≡ true → (node : Node) × (slot ≡ Some node)
live_node None h = absurd (false≢true h)
live_node (Some node) h = (node, refl)

-- what a removal leaves, from its steps
pub drop-steps : (nodes n1 n2 : List (Option Node)) (behind b2 : List ℕ) (find f2 : List ℕ → Option ℕ) (c p ahead : ℕ) (id : Option (List ℕ))
    → IsKept nodes behind find → is_some (slots nodes c) ≡ true → children_in (slots nodes c) ≡ [] → c ≢ 1
    → p ≡ parent_in (slots nodes c) → id ≡ id_in (slots nodes c) → n1 ≡ set nodes c None → n2 ≡ drop_list n1 p c
    → ahead ≡ ahead_in c (children_in (slots n1 p)) → b2 ≡ set behind ahead (slice_index behind c)
    → ((name : List ℕ) → f2 name ≡ cond (option_eq bytes_eq id (Some name)) None (find name))
    → IsKept n2 b2 f2 × (rows_of (slots n2) ≡ removed c (rows_of (slots nodes))) × KeepsRoom nodes n2
    × ((j : ℕ) → j ≢ c → is_some (slots n2 j) ≡ is_some (slots nodes j))
drop-steps nodes n1 n2 behind b2 find f2 c p ahead id kept live leaf not_first ep ei e1 e2 ea eb ef =
    let (node, here) = live_node (slots nodes c) live in
    let up : p ≡ node.parent = ep ∙ ap parent_in here in
    let own : id ≡ node.row.id = ei ∙ ap id_in here in
    let done : n2 ≡ drop_list (set nodes c None) node.parent c = e2 ∙ (ap (λ (z : List (Option Node)). drop_list z p c) e1 ∙ ap (λ (z : ℕ). drop_list (set nodes c None) z c) up) in
    let before : ahead ≡ ahead_in c (children_in (slots nodes node.parent)) =
    ea ∙ (ap (λ (z : List (Option Node)). ahead_in c (children_in (slots z p))) e1
    ∙ (ap (λ (z : ℕ). ahead_in c (children_in (slots (set nodes c None) z))) up
    ∙ ap (λ (o : Option Node). ahead_in c (children_in o)) (parent-slot kept c node here not_first))) in
    drop-done kept c node here (sym (ap children_in here) ∙ leaf) not_first n2 done b2 f2
    (eb ∙ ap (λ (z : ℕ). set behind z (slice_index behind c)) before)
    (λ name. ef name ∙ ap (λ (o : Option (List ℕ)). cond (option_eq bytes_eq o (Some name)) None (find name)) own)

pub ahead-steps : (nodes n1 : List (Option Node)) (behind : List ℕ) (find : List ℕ → Option ℕ) (c p ahead : ℕ)
    → IsKept nodes behind find → is_some (slots nodes c) ≡ true → c ≢ 1
    → p ≡ parent_in (slots nodes c) → n1 ≡ set nodes c None → ahead ≡ ahead_in c (children_in (slots n1 p)) → ahead < length behind
ahead-steps nodes n1 behind find c p ahead kept live not_first ep e1 ea =
    let (node, here) = live_node (slots nodes c) live in
    let up : p ≡ node.parent = ep ∙ ap parent_in here in
    let before : ahead ≡ ahead_in c (children_in (slots nodes node.parent)) =
    ea ∙ (ap (λ (z : List (Option Node)). ahead_in c (children_in (slots z p))) e1
    ∙ (ap (λ (z : ℕ). ahead_in c (children_in (slots (set nodes c None) z))) up
    ∙ ap (λ (o : Option Node). ahead_in c (children_in o)) (parent-slot kept c node here not_first))) in
    let lt = ahead_in_bounds kept c node here not_first in
    omega (arith, before, lt)

-- the node that goes stands once in its parent's list
pub once-steps : (nodes n1 : List (Option Node)) (behind : List ℕ) (find : List ℕ → Option ℕ) (c p : ℕ)
    → IsKept nodes behind find → is_some (slots nodes c) ≡ true → c ≢ 1
    → p ≡ parent_in (slots nodes c) → n1 ≡ set nodes c None → times c (children_in (slots n1 p)) ≡ 1
once-steps nodes n1 behind find c p kept live not_first ep e1 =
    let (node, here) = live_node (slots nodes c) live in
    let up : p ≡ node.parent = ep ∙ ap parent_in here in
    ap (λ (z : List (Option Node)). times c (children_in (slots z p))) e1
    ∙ (ap (λ (z : ℕ). times c (children_in (slots (set nodes c None) z))) up
    ∙ (ap (λ (o : Option Node). times c (children_in o)) (parent-slot kept c node here not_first)
    ∙ (kept.linked.nodes c node here).listed not_first))
