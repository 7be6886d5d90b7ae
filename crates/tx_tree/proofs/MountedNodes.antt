-- A mount that isn't refused, over the list of nodes.
use Rattle.std.proofs.Common.{◌≡◌, ◌≢◌, ℕ, ◌+◌, ◌-◌, ◌<◌, ◌≤◌, Bool, true, false, cond, List, [], ◌∷◌, ◌++◌, Option, Some, None, is_some, refl, sym, ap, ◌∙◌, arith, length, set, inl, inr}
use Rattle.std.specs.Option.{option_map_or}
use Rattle.std.proofs.lemmas.Bool.{cases_eq, cases_lt, eqb-false, or_parts, not-false, false≢true}
use Rattle.std.proofs.lemmas.List.{get_or-set_same, get_or-set_other, get_or_append_left, get_or_push, get_or_past, length-set}
use Rattle.std.proofs.lemmas.List.{length-append}
use Rattle.tx_tree.proofs.Numbers.{times-append, times-head}
use Rattle.tx_tree.proofs.NextSiblings.{empty_or_last}
use Rattle.tx_tree.proofs.Linked.{children_live}
use Rattle.tx_tree.proofs.Lookups.{row_in, row_at-slot}
use Rattle.tx_tree.proofs.Mounting.{Mounts, linked-mount, rows-mount}
use Rattle.tx_tree.proofs.MountedLists.{next-mount, ids-mount}
use Rattle.tx_tree.proofs.Ids.{taken-found}
use Rattle.tx_tree.specs.Kind.{holds_children, is_screen}
use Rattle.tx_tree.specs.Row.{plain, placed}
use Rattle.tx_tree.specs.Rows.{depth_of, before_of, subtree_of, after_of, has_id}
use Rattle.tx_tree.specs.Mount.{is_taken, refusal_below, mount_refusal, mounted}
use Rattle.tx_tree.specs.Links.{slots, rows_of, times, children_in, depth_in, last_or_zero, with_children, spare_in, IsLinked, IsKept, KeepsRoom}
use Rattle.tx_tree.specs.declared.row.Row.{Row}
use Rattle.tx_tree.specs.declared.row.NewRow.{NewRow}
use Rattle.tx_tree.specs.declared.tree.node.Node.{Node}

-- a choice that gives nothing takes its second part
none-test : {T : Type 0} (b : Bool) (x : T) (o : Option T) → cond b (Some x) o ≡ None → b ≡ false
none-test true x o h = cc
none-test false x o h = refl

none-rest : {T : Type 0} (b : Bool) (x : T) (o : Option T) → cond b (Some x) o ≡ None → o ≡ None
none-rest true x o h = cc
none-rest false x o h = h

-- what holds where a mount isn't refused
pub record Allowed (nodes : List (Option Node)) (parent : ℕ) (row : NewRow) (above : Node) : Type 0 where
  pub is : slots nodes parent ≡ Some above
  pub holds : holds_children above.row.kind ≡ true
  pub no_screen : is_screen row.kind ≡ false
  pub shallow : above.row.depth ≢ 63
  pub few : length nodes - 1 ≢ 65536
  pub fresh : is_taken row.id (rows_of (slots nodes)) ≡ false

allowed-slot : (nodes : List (Option Node)) (parent : ℕ) (row : NewRow) (slot : Option Node) → slots nodes parent ≡ slot
    → refusal_below (rows_of (slots nodes)) (length nodes - 1) row (row_in slot) ≡ None
    → (above : Node) × Allowed nodes parent row above
allowed-slot nodes parent row None is h = cc
allowed-slot nodes parent row (Some above) is h =
    let leaf = none-test _ _ _ h in
    let h2 = none-rest _ _ _ h in
    let deep = none-test _ _ _ h2 in
    let h3 = none-rest _ _ _ h2 in
    let many = none-test _ _ _ h3 in
    let h4 = none-rest _ _ _ h3 in
    let both = or_parts _ _ leaf in (
      above,
      record {
        is = is;
        holds = not-false _ both.0;
        no_screen = both.1;
        shallow = eqb-false _ _ deep;
        few = eqb-false _ _ many;
        fresh = none-test _ _ _ h4;
      },
    )

pub allowed : (nodes : List (Option Node)) (parent : ℕ) (row : NewRow) → IsLinked (slots nodes)
    → mount_refusal (rows_of (slots nodes)) (length nodes - 1) parent row ≡ None
    → (above : Node) × Allowed nodes parent row above
allowed nodes parent row linked h =
    allowed-slot nodes parent row (slots nodes parent) refl
    (ap (refusal_below (rows_of (slots nodes)) (length nodes - 1) row) (sym (row_at-slot linked parent (slots nodes parent) refl)) ∙ h)

-- a number in use is below the length
pub in_bounds : (nodes : List (Option Node)) (j : ℕ) (node : Node) → slots nodes j ≡ Some node → j < length nodes
in_bounds nodes j node h = elim (cases_lt j (length nodes)) [
  | inl lt ↦ lt
  | inr le ↦ let bad : None ≡ Some node = sym (get_or_past nodes j None le) ∙ h in cc
]

-- a node without children
abbrev pub leaf_node : Row → ℕ → Node
leaf_node own parent = record { row = own; parent = parent; children = [] }

-- the nodes with one more in the list of children of a node
abbrev pub with_child : List (Option Node) → ℕ → List (Option Node)
with_child nodes parent = set nodes parent (with_children (children_in (slots nodes parent) ++ (length nodes ∷ [])) (slots nodes parent))

-- the nodes with one more
abbrev pub put : List (Option Node) → ℕ → Row → List (Option Node)
put nodes parent own = with_child nodes parent ++ (Some (leaf_node own parent) ∷ [])

module _ {nodes : List (Option Node)} {behind : List ℕ} {find : List ℕ → Option ℕ} (kept : IsKept nodes behind find)
    {parent : ℕ} {row : NewRow} {above : Node} (a : Allowed nodes parent row above) where
  size : length (with_child nodes parent) ≡ length nodes
  size = length-set nodes parent _

  not_deep : above.row.depth < 63
  not_deep = let lt = (kept.linked.nodes parent above a.is).shallow in let ne = a.shallow in omega (arith, lt, ne)

  room : length nodes ≤ 65536
  room = let most = kept.few in let ne = a.few in omega (arith, most, ne)

  module _ (own : Row) (own-is : plain own ≡ placed row (length nodes) (above.row.depth + 1)) where
    mounts : Mounts (slots nodes) (slots (put nodes parent own)) parent (length nodes) above (leaf_node own parent)
    mounts = record {
      is = a.is;
      free = get_or_past nodes (length nodes) None (omega arith);
      not_zero = λ e. let lt = in_bounds nodes parent above a.is in omega (arith, lt, e);
      at_parent =
          get_or_append_left _ (Some (leaf_node own parent) ∷ []) None parent (rw size (in_bounds nodes parent above a.is))
          ∙ (get_or-set_same nodes parent _ None (in_bounds nodes parent above a.is)
          ∙ ap (λ (o : Option Node). with_children (children_in o ++ (length nodes ∷ [])) o) a.is);
      at_new = get_or_push _ (Some (leaf_node own parent)) None (length nodes) size;
      others = λ j np nn. elim (cases_lt j (length nodes)) [
        | inl lt ↦ get_or_append_left _ (Some (leaf_node own parent) ∷ []) None j (rw size lt) ∙ get_or-set_other nodes parent j _ None np
        | inr le ↦
            get_or_past (put nodes parent own) j None (let l = length-append (with_child nodes parent) (Some (leaf_node own parent) ∷ []) in let s = size in omega (arith, l, s, le, nn))
            ∙ sym (get_or_past nodes j None le)
      ];
      parent = refl;
      childless = refl;
      number = ap (λ (r : Row). r.node.0) own-is;
      depth = ap (λ (r : Row). r.depth) own-is ∙ omega arith;
      shallow = (let d = ap (λ (r : Row). r.depth) own-is in let lt = not_deep in omega (arith, d, lt));
      holds = a.holds;
      no_screen = rw (ap (λ (r : Row). r.kind) own-is) a.no_screen;
    }

    fresh : (name : List ℕ) → own.id ≡ Some name → find name ≡ None
    fresh name e =
        let id : row.id ≡ Some name = sym (ap (λ (r : Row). r.id) own-is) ∙ e in
        not_found (find name) (sym (taken-found kept.linked find kept.ids name)
        ∙ (ap (λ (o : Option (List ℕ)). is_taken o (rows_of (slots nodes))) (sym id) ∙ a.fresh))
      where
        not_found : (o : Option ℕ) → is_some o ≡ false → o ≡ None
        not_found None h = refl
        not_found (Some k) h = absurd (false≢true (sym h))

    -- the nodes and what is kept beside them still agree
    pub kept-put : (nodes2 : List (Option Node)) (behind2 : List ℕ) (find2 : List ℕ → Option ℕ)
        → nodes2 ≡ put nodes parent own
        → behind2 ≡ set behind (last_or_zero (children_in (slots nodes parent))) (length nodes) ++ (0 ∷ [])
        → ((name : List ℕ) → find2 name ≡ cond (has_id name own) (Some (length nodes)) (find name))
        → IsKept nodes2 behind2 find2
    kept-put nodes2 behind2 find2 e f finds =
        let f2 : behind2 ≡ set behind (last_or_zero above.children) (length nodes) ++ (0 ∷ []) =
        f ∙ ap (λ (ks : List ℕ). set behind (last_or_zero ks) (length nodes) ++ (0 ∷ [])) (ap children_in a.is) in
        rw (e, f2) (record {
          linked = linked-mount kept.linked mounts;
          next = next-mount kept.linked mounts behind kept.next kept.as_long (in_bounds nodes);
          ids = ids-mount kept.linked mounts find find2 kept.ids finds fresh;
          as_long =
              (let b = length-append (set behind (last_or_zero above.children) (length nodes)) (0 ∷ []) in
              let b2 = length-set behind (last_or_zero above.children) (length nodes) in
              let c = length-append (with_child nodes parent) (Some (leaf_node own parent) ∷ []) in
              let s = size in
              let w = kept.as_long in omega (arith, b, b2, c, s, w));
          few =
              (let c = length-append (with_child nodes parent) (Some (leaf_node own parent) ∷ []) in
              let s = size in let r = room in omega (arith, c, s, r));
        })

    -- the rows have the new one behind its parent's subtree
    pub rows-put : (nodes2 : List (Option Node)) → nodes2 ≡ put nodes parent own
        → rows_of (slots nodes2) ≡ mounted parent (length nodes) row (rows_of (slots nodes))
    rows-put nodes2 e =
        let depth : depth_of parent (rows_of (slots nodes)) ≡ above.row.depth =
        ap (λ (o : Option Row). option_map_or (λ r. r.depth) o 0) (row_at-slot kept.linked parent (Some above) a.is) in
        ap (λ (z : List (Option Node)). rows_of (slots z)) e
        ∙ (rows-mount kept.linked mounts
        ∙ ap (λ (r : Row). before_of parent (rows_of (slots nodes)) ++ (subtree_of parent (rows_of (slots nodes)) ++ (r ∷ after_of parent (rows_of (slots nodes)))))
        (own-is ∙ ap (λ (d : ℕ). placed row (length nodes) (d + 1)) (sym depth)))

    -- no row has less room than before
    pub room-put : (nodes2 : List (Option Node)) → nodes2 ≡ put nodes parent own → KeepsRoom nodes nodes2
    room-put nodes2 e n live = rw e (elim (cases_eq n parent) [
      | inl same ↦
          let was : spare_in (slots nodes n) ≡ above.row.classes.spare = ap (λ (z : ℕ). spare_in (slots nodes z)) same ∙ ap spare_in a.is in
          let is : spare_in (slots (put nodes parent own) n) ≡ above.row.classes.spare = ap (λ (z : ℕ). spare_in (slots (put nodes parent own) z)) same ∙ ap spare_in mounts.at_parent in
          omega (arith, was, is)
      | inr np ↦ elim (cases_eq n (length nodes)) [
        | inl new ↦
            let was : spare_in (slots nodes n) ≡ 0 = ap (λ (z : ℕ). spare_in (slots nodes z)) new ∙ ap spare_in mounts.free in
            omega (arith, was)
        | inr nn ↦ let same = ap spare_in (mounts.others n np nn) in omega (arith, same)
      ]
    ])

-- what is kept stays so, where the map finds the same
pub kept-same : (nodes nodes2 : List (Option Node)) (behind behind2 : List ℕ) (find find2 : List ℕ → Option ℕ) → IsKept nodes behind find
    → nodes2 ≡ nodes → behind2 ≡ behind → ((name : List ℕ) → find2 name ≡ find name) → IsKept nodes2 behind2 find2
kept-same nodes nodes2 behind behind2 find find2 kept e f same = rw (e, f) (record {
  linked = kept.linked;
  next = kept.next;
  ids = record {
    found = λ name n h. same name ∙ kept.ids.found name n h;
    known = λ name n h. kept.ids.known name n (sym (same name) ∙ h);
  };
  as_long = kept.as_long;
  few = kept.few;
})

-- the steps of a mount, put together
pub put-steps : (nodes n1 n2 n3 : List (Option Node)) (own : Row) (parent n : ℕ) (children : List ℕ)
    → n1 ≡ nodes → n ≡ length nodes
    → n2 ≡ set n1 parent (with_children (children_in (slots n1 parent) ++ (n ∷ [])) (slots n1 parent))
    → children ≡ [] → n3 ≡ n2 ++ (Some (record { row = own; parent = parent; children = children }) ∷ [])
    → n3 ≡ put nodes parent own
put-steps nodes n1 n2 n3 own parent n children e1 en e2 ec e3 =
    e3 ∙ (ap (λ (z : List (Option Node)). z ++ (Some (record { row = own; parent = parent; children = children }) ∷ [])) e2
    ∙ (ap (λ (z : List (Option Node)). set z parent (with_children (children_in (slots z parent) ++ (n ∷ [])) (slots z parent)) ++ (Some (record { row = own; parent = parent; children = children }) ∷ [])) e1
    ∙ (ap (λ (k : ℕ). set nodes parent (with_children (children_in (slots nodes parent) ++ (k ∷ [])) (slots nodes parent)) ++ (Some (record { row = own; parent = parent; children = children }) ∷ [])) en
    ∙ ap (λ (ks : List ℕ). with_child nodes parent ++ (Some (record { row = own; parent = parent; children = ks }) ∷ [])) ec)))

-- the last child of a node, or 0, is a number below the length
last_lives : (nodes : List (Option Node)) (linked : IsLinked (slots nodes)) (parent : ℕ) (above : Node) → slots nodes parent ≡ Some above
    → (xs : List ℕ) (last : ℕ) → above.children ≡ xs ++ (last ∷ []) → last < length nodes
last_lives nodes linked parent above is xs last whole =
    let among : 0 < times last above.children = rw whole (let sum = times-append last xs (last ∷ []) in let one = times-head last [] in omega (arith, sum, one)) in
    let (child, is2, up, depth) = children_live linked parent above is last among in
    in_bounds nodes last child is2

pub last_in_bounds : (nodes : List (Option Node)) (linked : IsLinked (slots nodes)) (parent : ℕ) (above : Node) → slots nodes parent ≡ Some above
    → last_or_zero (children_in (slots nodes parent)) < length nodes
last_in_bounds nodes linked parent above is =
    let same : last_or_zero (children_in (slots nodes parent)) ≡ last_or_zero above.children = ap (λ (o : Option Node). last_or_zero (children_in o)) is in
    let lt : last_or_zero above.children < length nodes = elim (empty_or_last above.children) [
      | inl none ↦ let zero-last : last_or_zero above.children ≡ 0 = ap last_or_zero none in let lt2 = in_bounds nodes parent above is in omega (arith, zero-last, lt2)
      | inr some ↦ last_lives nodes linked parent above is some.0 (last_or_zero above.children) some.1
    ] in
    omega (arith, same, lt)

-- what a mount leaves, from its steps
pub mount-steps : (nodes n1 n2 n3 : List (Option Node)) (behind b1 b3 : List ℕ) (find f1 f3 : List ℕ → Option ℕ)
    (parent : ℕ) (row : NewRow) (own : Row) (n depth last : ℕ) (children : List ℕ)
    → IsKept nodes behind find → mount_refusal (rows_of (slots nodes)) (length nodes - 1) parent row ≡ None
    → n1 ≡ nodes → b1 ≡ behind → ((name : List ℕ) → f1 name ≡ find name)
    → n ≡ length n1
    → n2 ≡ set n1 parent (with_children (children_in (slots n1 parent) ++ (n ∷ [])) (slots n1 parent))
    → depth ≡ depth_in (slots n1 parent) → last ≡ last_or_zero (children_in (slots n1 parent))
    → children ≡ [] → plain own ≡ placed row n (depth + 1)
    → n3 ≡ n2 ++ (Some (record { row = own; parent = parent; children = children }) ∷ [])
    → b3 ≡ set b1 last own.node.0 ++ (0 ∷ [])
    → ((name : List ℕ) → f3 name ≡ cond (has_id name own) (Some own.node.0) (f1 name))
    → IsKept n3 b3 f3 × (rows_of (slots n3) ≡ mounted parent n row (rows_of (slots nodes))) × KeepsRoom nodes n3
mount-steps nodes n1 n2 n3 behind b1 b3 find f1 f3 parent row own n depth last children kept free e1 eb ef en e2 ed el ec eo e3 eb3 ef3 =
    let (above, a) = allowed nodes parent row kept.linked free in
    let size : n ≡ length nodes = en ∙ ap length e1 in
    let deep : depth ≡ above.row.depth = ed ∙ (ap (λ (z : List (Option Node)). depth_in (slots z parent)) e1 ∙ ap depth_in a.is) in
    let own-is : plain own ≡ placed row (length nodes) (above.row.depth + 1) =
    eo ∙ (ap (λ (z : ℕ). placed row z (depth + 1)) size ∙ ap (λ (z : ℕ). placed row (length nodes) (z + 1)) deep) in
    let number : own.node.0 ≡ length nodes = ap (λ (r : Row). r.node.0) own-is in
    let done : n3 ≡ put nodes parent own = put-steps nodes n1 n2 n3 own parent n children e1 size e2 ec e3 in
    let next : b3 ≡ set behind (last_or_zero (children_in (slots nodes parent))) (length nodes) ++ (0 ∷ []) =
    eb3 ∙ (ap (λ (z : List ℕ). set z last own.node.0 ++ (0 ∷ [])) eb
    ∙ (ap (λ (z : ℕ). set behind z own.node.0 ++ (0 ∷ [])) (el ∙ ap (λ (z : List (Option Node)). last_or_zero (children_in (slots z parent))) e1)
    ∙ ap (λ (z : ℕ). set behind (last_or_zero (children_in (slots nodes parent))) z ++ (0 ∷ [])) number)) in
    let finds : (name : List ℕ) → f3 name ≡ cond (has_id name own) (Some (length nodes)) (find name) =
    λ name. ef3 name ∙ (ap (λ (z : ℕ). cond (has_id name own) (Some z) (f1 name)) number ∙ ap (λ (z : Option ℕ). cond (has_id name own) (Some (length nodes)) z) (ef name)) in (
      kept-put kept a own own-is n3 b3 f3 done next finds,
      rows-put kept a own own-is n3 done ∙ ap (λ (z : ℕ). mounted parent z row (rows_of (slots nodes))) (sym size),
      room-put kept a own own-is n3 done,
    )
