-- A node moves among its siblings, over the list of nodes.
use Rattle.std.proofs.Common.{◌≡◌, ◌≢◌, ℕ, ◌+◌, ◌<◌, List, ◌∷◌, ◌++◌, Option, Some, None, refl, sym, ap, subst, ◌∙◌, arith, length, set, inl, inr}
use Rattle.std.specs.Prelude.{slice_index}
use Rattle.std.proofs.lemmas.Bool.{eq-eqb}
use Rattle.std.proofs.lemmas.List.{get_or-set_same, get_or-set_other, length-set}
use Rattle.tx_tree.proofs.Numbers.{ahead_of-cut, past_of-cut, times-append, times-head, times-other, cut}
use Rattle.tx_tree.proofs.NextSiblings.{empty_or_last}
use Rattle.tx_tree.proofs.Linked.{node_of_child, children_live, not_root}
use Rattle.tx_tree.proofs.Lookups.{Below, below}
use Rattle.tx_tree.proofs.MountedNodes.{in_bounds}
use Rattle.tx_tree.proofs.Follows.{follows-drop, stays-drop, follows-put, stays-put, last-stands, Follows, Once}
use Rattle.tx_tree.proofs.KeptNext.{Sound, keeps-next, follows-of, once-of, bound-of, stands-of}
use Rattle.tx_tree.proofs.Moving.{Moves, linked-move, rows-move, same-of}
use Rattle.tx_tree.specs.Rows.{moved}
use Rattle.tx_tree.specs.Links.{slots, rows_of, times, children_in, place_in, last_or_zero, past_of, ahead_in, without_child, with_before, with_children, id_in, IsLinked, KeepsNext, IsKept}
use Rattle.tx_tree.specs.declared.row.Row.{Row}
use Rattle.tx_tree.specs.declared.tree.node.Node.{Node}

-- the nodes with the children of one in another order
abbrev pub move_list : List (Option Node) → ℕ → ℕ → ℕ → List (Option Node)
move_list nodes p n b = set nodes p (with_children (with_before n b (without_child n (children_in (slots nodes p)))) (slots nodes p))

module _ {nodes : List (Option Node)} {behind : List ℕ} (sound : Sound nodes behind)
    (n b : ℕ) (node above : Node) (here : slots nodes n ≡ Some node) (l : ℕ) (left right first second : List ℕ) (before after : List Row)
    (s : Below (slots nodes) n node above l left right before after) (parted : left ++ right ≡ first ++ (b ∷ second)) (none : times b first ≡ 0) where
  without : without_child n above.children ≡ left ++ right
  without =
      ap (without_child n) s.whole
      ∙ (ap (λ (z : List ℕ). z ++ past_of n (left ++ (n ∷ right))) (ahead_of-cut n left right s.none) ∙ ap (λ (z : List ℕ). left ++ z) (past_of-cut n left right s.none))

  new-order : with_before n b (without_child n above.children) ≡ first ++ (n ∷ (b ∷ second))
  new-order =
      ap (with_before n b) (without ∙ parted)
      ∙ (ap (λ (z : List ℕ). z ++ (n ∷ (b ∷ past_of b (first ++ (b ∷ second))))) (ahead_of-cut b first second none)
      ∙ ap (λ (z : List ℕ). first ++ (n ∷ (b ∷ z))) (past_of-cut b first second none))

  moves : (n2 : List (Option Node)) → n2 ≡ move_list nodes node.parent n b → Moves (slots nodes) (slots n2) node.parent above (first ++ (n ∷ (b ∷ second)))
  moves n2 done = record {
    is = s.is;
    at_parent =
        ap (λ (z : List (Option Node)). slots z node.parent) done
        ∙ (get_or-set_same nodes node.parent _ None (in_bounds nodes node.parent above s.is)
        ∙ (ap (λ (o : Option Node). with_children (with_before n b (without_child n (children_in o))) o) s.is ∙ ap (λ (ks : List ℕ). Some (record above { children = ks })) new-order));
    others = λ j np. ap (λ (z : List (Option Node)). slots z j) done ∙ get_or-set_other nodes node.parent j _ None np;
    same = λ j.
        let w = ap (times j) s.whole in
        let c = ap (times j) parted in
        let a1 = times-append j left (n ∷ right) in
        let a2 = times-append j left right in
        let a3 = times-append j first (b ∷ second) in
        let a4 = times-append j first (n ∷ (b ∷ second)) in
        omega (arith, w, c, a1, a2, a3, a4);
  }

  -- the numbers of the children without the one that moves
  among : (j : ℕ) → 0 < times j (left ++ right) → 0 < times j above.children
  among j h = let w = ap (times j) s.whole in let a1 = times-append j left (n ∷ right) in let a2 = times-append j left right in omega (arith, h, w, a1, a2)

  once : Once above.children
  once = once-of sound node.parent above s.is

  apart : times n (left ++ right) ≡ 0
  apart =
      let w = ap (times n) s.whole in let a1 = times-append n left (n ∷ right) in let a2 = times-append n left right in let o = once n in
      let own : times n (n ∷ right) ≡ 1 + times n right = rw (eq-eqb n n refl) refl in
      omega (arith, w, a1, a2, o, own)

  next : (n2 : List (Option Node)) → n2 ≡ move_list nodes node.parent n b → (b2 : List ℕ)
      → b2 ≡ set (set (set behind (last_or_zero left) (slice_index behind n)) (last_or_zero first) n) n b → KeepsNext (slots n2) b2
  next n2 done b2 e =
      let b1 : List ℕ = set behind (last_or_zero left) (slice_index behind n) in
      let m = moves n2 done in
      let P : List ℕ → Type 0 = λ z. Follows behind z in
      let O : List ℕ → Type 0 = λ z. Once z in
      let B : List ℕ → Type 0 = λ z. (j : ℕ) → 0 < times j z → (0 < j) × (j < length behind) in
      let Q : List ℕ → Type 0 = λ z. Follows b1 z in
      let size = length-set behind (last_or_zero left) (slice_index behind n) in
      let bound = bound-of sound node.parent above s.is in
      let dropped : Follows b1 (left ++ right) =
      follows-drop behind n left right
      (subst P s.whole (follows-of sound node.parent above s.is)) (subst O s.whole once) (subst B s.whole bound) in
      let parted-times : (j : ℕ) → times j (first ++ (b ∷ second)) ≡ times j (left ++ right) = λ j. ap (times j) (sym parted) in
      let own = bound n (let w = ap (times n) s.whole in let a1 = times-append n left (n ∷ right) in let hd = times-head n right in omega (arith, w, a1, hd)) in
      let own0 = own.0 in
      let own1 = own.1 in
      let put : Follows (set (set b1 (last_or_zero first) n) n b) (first ++ (n ∷ (b ∷ second))) =
      follows-put b1 n b first second (subst Q parted dropped) (parted-times n ∙ apart)
      (λ j. let t = parted-times j in let w = ap (times j) s.whole in let a1 = times-append j left (n ∷ right) in let a2 = times-append j left right in let o = once j in omega (arith, t, w, a1, a2, o))
      (λ j h. let t = parted-times j in let bj = bound j (among j (omega (arith, h, t))) in let x = bj.0 in let y = bj.1 in (x, omega (arith, y, size)))
      (omega (arith, own1, size)) own0 in
      rw e (keeps-next (slots nodes) (slots n2) sound.linked behind (set (set b1 (last_or_zero first) n) n b) node.parent above (first ++ (n ∷ (b ∷ second))) s.is sound.next
      (λ j q d h. sym (same-of sound.linked m place_in refl j) ∙ h)
      (λ q nq. ap children_in (m.others q nq))
      (ap children_in m.at_parent)
      (λ j d h.
      let stands = stands-of sound node.parent above s.is j d (sym (same-of sound.linked m place_in refl j) ∙ h) in
      let t = m.same j in omega (arith, stands, t))
      put
      (λ j h some.
      let t = parted-times j in
      let w = ap (times j) s.whole in
      let a1 = times-append j left (n ∷ right) in
      let a2 = times-append j left right in
      let ne : j ≢ n = λ f. (let z = ap (λ (y : ℕ). times y (left ++ (n ∷ right))) f in let hd = times-head n right in let an = times-append n left (n ∷ right) in omega (arith, h, w, z, hd, an)) in
      stays-put b1 n b first second j (omega (arith, h, t, w, a1, a2)) ne some
      ∙ stays-drop behind n left right j (omega (arith, h, w)) some))

  -- the children ahead of the two have places in the array
  first-bound : (xs rest : List ℕ) → xs ++ rest ≡ first ++ (b ∷ second) → last_or_zero xs < length behind
  first-bound xs rest e = elim (empty_or_last xs) [
    | inl empty ↦ (let z : last_or_zero xs ≡ 0 = ap last_or_zero empty in let size = in_bounds nodes n node here in let w = sound.as_long in omega (arith, z, size, w))
    | inr found ↦
        let last : ℕ = last_or_zero xs in
        let stands : 0 < times last xs = (let t = last-stands found.0 last in let f = ap (times last) found.1 in omega (arith, t, f)) in
        let a = times-append last xs rest in
        let c = ap (times last) (e ∙ sym parted) in
        (bound-of sound node.parent above s.is last (among last (omega (arith, stands, a, c)))).1
  ]

-- two children of one node, with the rows around them
pub record Pair (nodes : List (Option Node)) (p n b : ℕ) : Type 0 where
  pub node : Node
  pub above : Node
  pub l : ℕ
  pub left : List ℕ
  pub right : List ℕ
  pub first : List ℕ
  pub second : List ℕ
  pub before : List Row
  pub after : List Row
  pub here : slots nodes n ≡ Some node
  pub up : p ≡ node.parent
  pub around : Below (slots nodes) n node above l left right before after
  pub parted : left ++ right ≡ first ++ (b ∷ second)
  pub none : times b first ≡ 0
  pub other : (bnode : Node) × (slots nodes b ≡ Some bnode)

pub pair_of : {nodes : List (Option Node)} {behind : List ℕ} (sound : Sound nodes behind) (p n b : ℕ)
    → 0 < times n (children_in (slots nodes p)) → 0 < times b (children_in (slots nodes p)) → n ≢ b → Pair nodes p n b
pair_of {nodes} sound p n b hn hb ne =
    let (top, is, a) = node_of_child (slots nodes p) n hn in
    let (child, there, parent, depth) = children_live sound.linked p top is n a in
    let (above, l, left, right, before, after, s) = below sound.linked n child there (not_root sound.linked n child there (omega (arith, depth))) in
    let same : above.children ≡ top.children = ap children_in (sym s.is ∙ (ap (slots nodes) parent ∙ is)) in
    let some : 0 < times b (left ++ right) =
    (let t = ap (times b) (sym s.whole ∙ same) in let f = ap (λ (o : Option Node). times b (children_in o)) is in
    let a1 = times-append b left (n ∷ right) in let a2 = times-append b left right in let o = times-other b n right ne in omega (arith, hb, t, f, a1, a2, o)) in
    let (first, second, c) = cut b (left ++ right) some in
    let (bchild, bis, bparent, bdepth) = children_live sound.linked p top is b (let f = ap (λ (o : Option Node). times b (children_in o)) is in omega (arith, hb, f)) in
    record {
      node = child;
      above = above;
      l = l;
      left = left;
      right = right;
      first = first;
      second = second;
      before = before;
      after = after;
      here = there;
      up = sym parent;
      around = s;
      parted = c.whole;
      none = c.none;
      other = (bchild, bis);
    }

module _ {nodes : List (Option Node)} {behind : List ℕ} (sound : Sound nodes behind) (p n b : ℕ) (k : Pair nodes p n b) where
  siblings : children_in (slots nodes p) ≡ k.above.children
  siblings = ap (λ (z : ℕ). children_in (slots nodes z)) k.up ∙ ap children_in k.around.is

  gone : without_child n (children_in (slots nodes p)) ≡ k.left ++ k.right
  gone = ap (without_child n) siblings ∙ without sound n b k.node k.above k.here k.l k.left k.right k.first k.second k.before k.after k.around k.parted k.none

  pub other_stands : 0 < times b (without_child n (children_in (slots nodes p)))
  other_stands = let e = ap (times b) (gone ∙ k.parted) in let a = times-append b k.first (b ∷ k.second) in let hd = times-head b k.second in omega (arith, e, a, hd)

  ahead : ahead_in n (children_in (slots nodes p)) ≡ last_or_zero k.left
  ahead = ap (ahead_in n) (siblings ∙ k.around.whole) ∙ ap last_or_zero (ahead_of-cut n k.left k.right k.around.none)

  ahead_other : ahead_in b (without_child n (children_in (slots nodes p))) ≡ last_or_zero k.first
  ahead_other = ap (ahead_in b) (gone ∙ k.parted) ∙ ap last_or_zero (ahead_of-cut b k.first k.second k.none)

  pub n_bound : n < length behind
  n_bound = let lt = in_bounds nodes n k.node k.here in let w = sound.as_long in omega (arith, lt, w)

  pub ahead_bound : ahead_in n (children_in (slots nodes p)) < length behind
  ahead_bound = let e = ahead in let lt = first-bound sound n b k.node k.above k.here k.l k.left k.right k.first k.second k.before k.after k.around k.parted k.none k.left k.right k.parted in omega (arith, e, lt)

  pub ahead_other_bound : ahead_in b (without_child n (children_in (slots nodes p))) < length behind
  ahead_other_bound = let e = ahead_other in let lt = first-bound sound n b k.node k.above k.here k.l k.left k.right k.first k.second k.before k.after k.around k.parted k.none k.first (b ∷ k.second) refl in omega (arith, e, lt)

  module _ (n2 : List (Option Node)) (done : n2 ≡ move_list nodes p n b) where
    here-done : n2 ≡ move_list nodes k.node.parent n b
    here-done = done ∙ ap (λ (z : ℕ). move_list nodes z n b) k.up

    the-moves : Moves (slots nodes) (slots n2) k.node.parent k.above (k.first ++ (n ∷ (b ∷ k.second)))
    the-moves = moves sound n b k.node k.above k.here k.l k.left k.right k.first k.second k.before k.after k.around k.parted k.none n2 here-done

    pub linked-done : IsLinked (slots n2)
    linked-done = linked-move sound.linked the-moves

    pub rows-done : rows_of (slots n2) ≡ moved n b (rows_of (slots nodes))
    rows-done =
        rows-move sound.linked n b k.node k.above k.l k.left k.right k.first k.second k.before k.after k.around k.here k.parted the-moves k.other.0 k.other.1

    pub next-done : (a c : ℕ) (b1 b2 : List ℕ) → a ≡ ahead_in n (children_in (slots nodes p)) → c ≡ ahead_in b (without_child n (children_in (slots nodes p)))
        → b1 ≡ set behind a (slice_index behind n) → b2 ≡ set (set b1 c n) n b → KeepsNext (slots n2) b2
    next-done a c b1 b2 ea ec e1 e2 =
        next sound n b k.node k.above k.here k.l k.left k.right k.first k.second k.before k.after k.around k.parted k.none n2 here-done b2
        (e2 ∙ (ap (λ (z : List ℕ). set (set z c n) n b) (e1 ∙ ap (λ (z : ℕ). set behind z (slice_index behind n)) (ea ∙ ahead))
        ∙ ap (λ (z : ℕ). set (set (set behind (last_or_zero k.left) (slice_index behind n)) z n) n b) (ec ∙ ahead_other)))

    pub same-slot : {T : Type 0} (f : Option Node → T) → ((node : Node) (ks : List ℕ) → f (Some (record node { children = ks })) ≡ f (Some node)) → (j : ℕ) → f (slots n2 j) ≡ f (slots nodes j)
    same-slot f same j = same-of sound.linked the-moves f (same k.above (k.first ++ (n ∷ (b ∷ k.second)))) j

-- what is kept of ids stays so, where the ids do
pub kept-ids : (nodes n2 : List (Option Node)) (behind b2 : List ℕ) (find : List ℕ → Option ℕ) → IsKept nodes behind find
    → IsLinked (slots n2) → KeepsNext (slots n2) b2 → length b2 ≡ length n2 → length n2 ≡ length nodes
    → ((j : ℕ) → id_in (slots n2 j) ≡ id_in (slots nodes j)) → IsKept n2 b2 find
kept-ids nodes n2 behind b2 find kept linked next long made same =
    let few = kept.few in
    record {
      linked = linked;
      next = next;
      ids = record {
        found = λ name j h. kept.ids.found name j (sym (same j) ∙ h);
        known = λ name j h. same j ∙ kept.ids.known name j h;
      };
      as_long = long;
      few = omega (arith, made, few);
    }
