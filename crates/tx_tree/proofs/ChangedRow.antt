-- One row changes.
use Rattle.std.proofs.Common.{◌≡◌, ◌≢◌, ℕ, suc, ◌+◌, ◌<◌, ◌≤◌, ◌==◌, Bool, true, false, cond, List, [], ◌∷◌, ◌++◌, Option, Some, None, is_some, refl, sym, ap, ◌∙◌, arith, length, set, inl, inr}
use Rattle.std.specs.Prelude.{flat_map}
use Rattle.std.specs.Option.{option_map_or}
use Rattle.std.proofs.lemmas.Bool.{cases_eq, eq-eqb}
use Rattle.std.proofs.lemmas.List.{get_or-set_same, get_or-set_other, length-set}
use Rattle.tx_tree.proofs.Counting.{none-head, none-tail}
use Rattle.tx_tree.proofs.RowLists.{split-once}
use Rattle.tx_tree.proofs.Linked.{rows_at-node, Live, children_live}
use Rattle.tx_tree.proofs.Context.{same-children, cut_at}
use Rattle.tx_tree.proofs.Lookups.{row_at-slot, not_nowhere, at_most_once}
use Rattle.tx_tree.proofs.Mounting.{Agree-apart, node-same}
use Rattle.tx_tree.proofs.MountedNodes.{in_bounds}
use Rattle.tx_tree.specs.Kind.{holds_children, is_screen}
use Rattle.tx_tree.specs.Row.{plain, has_number}
use Rattle.tx_tree.specs.Rows.{count_of}
use Rattle.tx_tree.proofs.DroppedNodes.{live_node}
use Rattle.tx_tree.specs.Classes.{ClassList}
use Rattle.tx_tree.specs.Edits.{changed_at, with_classes, classes_of}
use Rattle.tx_tree.specs.Changes.{changed_by}
use Rattle.tx_tree.specs.Links.{Slots, slots, rows_at, rows_of, times, children_in, place_in, id_in, spare_in, behind_in, with_row, with_own_classes, classes_in, IsNode, IsLinked, IsKept, KeepsRoom}
use Rattle.tx_tree.specs.declared.row.Row.{Row}
use Rattle.tx_tree.specs.declared.tree.node.Node.{Node}
use Rattle.tx_tree.specs.declared.tree.set.Change.{Change}
use Rattle.tx_tree.specs.declared.tree.set.Change.TheVariants.{Text, Inline, Disabled, State}

-- a change of one row leaves other rows
changed-none : (n : ℕ) (change : Row → Row) (rows : List Row) → count_of n rows ≡ 0 → changed_at n change rows ≡ rows
changed-none n change [] h = refl
changed-none n change (row ∷ rows) h =
    let test : has_number n row ≡ false = none-head _ _ h in
    rw test (ap (λ (z : List Row). row ∷ z) (changed-none n change rows (none-tail _ _ h)))

changed-append : (n : ℕ) (change : Row → Row) (xs ys : List Row) → changed_at n change (xs ++ ys) ≡ changed_at n change xs ++ changed_at n change ys
changed-append n change [] ys = refl
changed-append n change (row ∷ xs) ys = ap (λ (z : List Row). cond (has_number n row) (change row) row ∷ z) (changed-append n change xs ys)

-- the new row is the old one, changed in nothing that the tree goes by
pub record Keeps (node : Node) (row : Row) : Type 0 where
  pub number : row.node.0 ≡ node.row.node.0
  pub depth : row.depth ≡ node.row.depth
  pub kind : row.kind ≡ node.row.kind
  pub id : row.id ≡ node.row.id

module _ {at to : Slots} (linked : IsLinked at) (n : ℕ) (node : Node) (row : Row) (is : at n ≡ Some node) (new : to n ≡ Some (record node { row = row }))
    (others : (j : ℕ) → j ≢ n → to j ≡ at j) (keeps : Keeps node row) where
  -- what doesn't read the row's other parts is as it was
  pub same-slot : {T : Type 0} (f : Option Node → T) → f (Some (record node { row = row })) ≡ f (Some node) → (j : ℕ) → f (to j) ≡ f (at j)
  same-slot f same j = elim (cases_eq j n) [
    | inl e ↦ ap (λ (z : ℕ). f (to z)) e ∙ (ap f new ∙ (same ∙ (ap f (sym is) ∙ ap (λ (z : ℕ). f (at z)) (sym e))))
    | inr ne ↦ ap f (others j ne)
  ]

  pub same-place : (j : ℕ) → place_in (to j) ≡ place_in (at j)
  same-place j = same-slot place_in (ap (λ (d : ℕ). Some (node.parent, d)) keeps.depth) j

  pub same-children-in : (j : ℕ) → children_in (to j) ≡ children_in (at j)
  same-children-in j = same-slot children_in refl j

  kept-node : (j : ℕ) (stays changed : Node) → at j ≡ Some stays → changed.parent ≡ stays.parent → changed.children ≡ stays.children → Keeps stays changed.row → IsNode to j changed
  kept-node j stays changed h parent children same =
      let was = linked.nodes j stays h in
      record {
        numbered = same.number ∙ was.numbered;
        shallow = (let d = same.depth in let lt = was.shallow in omega (arith, d, lt));
        points_back = λ k a. same-place k ∙ (was.points_back k (let t = ap (times k) children in omega (arith, a, t)) ∙ ap (λ (d : ℕ). Some (j, suc d)) (sym same.depth));
        may_hold = λ k a. ap holds_children same.kind ∙ was.may_hold k (let t = ap (times k) children in omega (arith, a, t));
        listed = λ ne. ap (λ (z : ℕ). times j (children_in (to z))) parent ∙ (ap (times j) (same-children-in stays.parent) ∙ was.listed ne);
        not_screen = λ ne. ap is_screen same.kind ∙ was.not_screen ne;
        is_root = λ e. ap is_screen same.kind ∙ was.is_root e;
      }

  pub linked-change : IsLinked to
  linked-change = record {
    nowhere = others 0 (λ e. not_nowhere linked n node is (sym e)) ∙ linked.nowhere;
    root = same-place 1 ∙ linked.root;
    nodes = λ j stays h. elim (cases_eq j n) [
      | inl e ↦
          let same : record node { row = row } ≡ stays = node-same (sym new ∙ (ap to (sym e) ∙ h)) in
          rw (e, ← same) (kept-node n node (record node { row = row }) is refl refl keeps)
      | inr ne ↦
          let was : at j ≡ Some stays = sym (others j ne) ∙ h in
          kept-node j stays stays was refl refl (record { number = refl; depth = refl; kind = refl; id = refl })
    ];
  }

  pub rows-change : (change : Row → Row) → change (plain node.row) ≡ plain row → rows_of to ≡ changed_at n change (rows_of at)
  rows-change change same =
      let (l, before, after, sum, ctx, s) = cut_at linked n node is in
      let own = split-once s (at_most_once linked n) in
      let below : List Row = flat_map (rows_at l at) node.children in
      let apart = Agree-apart at to n n (λ j ne nf. others j ne) in
      let live : (k : ℕ) → 0 < times k node.children → Live at k = λ k a. let (child, there, parent, depth) = children_live linked n node is k a in (child, there) in
      let test : has_number n (plain node.row) ≡ true = eq-eqb node.row.node.0 n (linked.nodes n node is).numbered in
      let rest : changed_at n change (below ++ after) ≡ below ++ after = changed-append n change below after
      ∙ (ap (λ (z : List Row). z ++ changed_at n change after) (changed-none n change below own.0) ∙ ap (λ (z : List Row). below ++ z) (changed-none n change after own.1)) in
      ctx.fills to (apart before s.apart s.apart) (apart after own.1 own.1)
      ∙ (ap (λ (z : List Row). before ++ (z ++ after))
      (rows_at-node l to n (record node { row = row }) new ∙ ap (λ (z : List Row). plain row ∷ z) (same-children linked to l node.children live (apart below own.0 own.0)))
      ∙ sym (ap (changed_at n change) s.whole
      ∙ (changed-append n change before (plain node.row ∷ (below ++ after))
      ∙ (ap (λ (z : List Row). z ++ changed_at n change (plain node.row ∷ (below ++ after))) (changed-none n change before s.apart)
      ∙ (ap (λ (t : Bool). before ++ (cond t (change (plain node.row)) (plain node.row) ∷ changed_at n change (below ++ after))) test
      ∙ (ap (λ (r : Row). before ++ (r ∷ changed_at n change (below ++ after))) same
      ∙ ap (λ (z : List Row). before ++ (plain row ∷ z)) rest))))))

-- what is kept stays so where one row changes
pub changed-done : (nodes n2 : List (Option Node)) (behind : List ℕ) (find : List ℕ → Option ℕ) (n : ℕ) (node : Node) (row : Row) → IsKept nodes behind find
    → slots nodes n ≡ Some node → Keeps node row → n2 ≡ set nodes n (Some (record node { row = row }))
    → (change : Row → Row) → change (plain node.row) ≡ plain row
    → IsKept n2 behind find × (rows_of (slots n2) ≡ changed_at n change (rows_of (slots nodes)))
    × (node.row.classes.spare ≤ row.classes.spare → KeepsRoom nodes n2)
changed-done nodes n2 behind find n node row kept is keeps done change same =
    let new : slots n2 n ≡ Some (record node { row = row }) = ap (λ (z : List (Option Node)). slots z n) done ∙ get_or-set_same nodes n _ None (in_bounds nodes n node is) in
    let others : (j : ℕ) → j ≢ n → slots n2 j ≡ slots nodes j = λ j ne. ap (λ (z : List (Option Node)). slots z j) done ∙ get_or-set_other nodes n j _ None ne in
    let size : length n2 ≡ length nodes = ap length done ∙ length-set nodes n _ in
    let w = kept.as_long in
    let few = kept.few in (
      record {
        linked = linked-change kept.linked n node row is new others keeps;
        next = λ j parent depth h.
            kept.next j parent depth (sym (same-place kept.linked n node row is new others keeps j) ∙ h)
            ∙ ap (behind_in j) (sym (same-children-in kept.linked n node row is new others keeps parent));
        ids = record {
          found = λ name j h. kept.ids.found name j (sym (same-slot kept.linked n node row is new others keeps id_in keeps.id j) ∙ h);
          known = λ name j h. same-slot kept.linked n node row is new others keeps id_in keeps.id j ∙ kept.ids.known name j h;
        };
        as_long = omega (arith, size, w);
        few = omega (arith, size, few);
      },
      rows-change kept.linked n node row is new others keeps change same,
      λ more j live. elim (cases_eq j n) [
        | inl e ↦
            let was : spare_in (slots nodes j) ≡ node.row.classes.spare = ap (λ (z : ℕ). spare_in (slots nodes z)) e ∙ ap spare_in is in
            let now : spare_in (slots n2 j) ≡ row.classes.spare = ap (λ (z : ℕ). spare_in (slots n2 z)) e ∙ ap spare_in new in
            omega (arith, was, now, more)
        | inr ne ↦ let e = ap spare_in (others j ne) in omega (arith, e)
      ],
    )

-- a change that changes nothing
pub changed-same : (n : ℕ) (change : Row → Row) → ((row : Row) → change row ≡ row) → (rows : List Row) → changed_at n change rows ≡ rows
changed-same n change same [] = refl
changed-same n change same (row ∷ rows) =
    ap (λ (z : Row). cond (has_number n row) z row ∷ changed_at n change rows) (same row)
    ∙ (ap (λ (z : Row). z ∷ changed_at n change rows) (either (has_number n row)) ∙ ap (λ (z : List Row). row ∷ z) (changed-same n change same rows)) where
      either : (b : Bool) → cond b row row ≡ row
      either true = refl
      either false = refl

-- what a change of a row leaves, by the slot
pub change-done : (nodes n2 : List (Option Node)) (behind : List ℕ) (find : List ℕ → Option ℕ) (n : ℕ) (change : Change) → IsKept nodes behind find
    → is_some (slots nodes n) ≡ true → n2 ≡ set nodes n (with_row (changed_by change) (slots nodes n))
    → IsKept n2 behind find × (rows_of (slots n2) ≡ changed_at n (changed_by change) (rows_of (slots nodes))) × KeepsRoom nodes n2
change-done nodes n2 behind find n change kept live done =
    let (node, is) = live_node (slots nodes n) live in
    let r = changed-done nodes n2 behind find n node (changed_by change node.row) kept is (keeps change)
    (done ∙ ap (λ (o : Option Node). set nodes n (with_row (changed_by change) o)) is) (changed_by change) (commutes change node.row) in
    (r.0, r.1, r.2 (let e = spare change node.row in omega (arith, e)))
  where
    keeps : (change : Change) {node : Node} → Keeps node (changed_by change node.row)
    keeps (Text text) = record { number = refl; depth = refl; kind = refl; id = refl }
    keeps (Inline text) = record { number = refl; depth = refl; kind = refl; id = refl }
    keeps (Disabled to) = record { number = refl; depth = refl; kind = refl; id = refl }
    keeps (State text private) = record { number = refl; depth = refl; kind = refl; id = refl }

    commutes : (change : Change) (row : Row) → changed_by change (plain row) ≡ plain (changed_by change row)
    commutes (Text text) row = refl
    commutes (Inline text) row = refl
    commutes (Disabled to) row = refl
    commutes (State text private) row = refl

    spare : (change : Change) (row : Row) → (changed_by change row).classes.spare ≡ row.classes.spare
    spare (Text text) row = refl
    spare (Inline text) row = refl
    spare (Disabled to) row = refl
    spare (State text private) row = refl

-- and where the row's classes change
pub classes-done : (nodes n2 : List (Option Node)) (behind : List ℕ) (find : List ℕ → Option ℕ) (n : ℕ) (classes : ClassList) (change : List (List ℕ) → List (List ℕ)) → IsKept nodes behind find
    → is_some (slots nodes n) ≡ true → n2 ≡ set nodes n (with_own_classes classes (slots nodes n)) → classes.names ≡ change (classes_in (slots nodes n)).names
    → IsKept n2 behind find × (rows_of (slots n2) ≡ changed_at n (with_classes change) (rows_of (slots nodes)))
    × ((j : ℕ) → is_some (slots n2 j) ≡ true → j ≢ n → spare_in (slots nodes j) ≡ spare_in (slots n2 j))
    × (spare_in (slots nodes n) ≡ (classes_in (slots nodes n)).spare) × (spare_in (slots n2 n) ≡ classes.spare)
classes-done nodes n2 behind find n classes change kept live done names =
    let (node, is) = live_node (slots nodes n) live in
    let row : Row = record node.row { classes = classes } in
    let written : n2 ≡ set nodes n (Some (record node { row = row })) = done ∙ ap (λ (o : Option Node). set nodes n (with_own_classes classes o)) is in
    let changed : change node.row.classes.names ≡ classes.names = sym (names ∙ ap (λ (o : Option Node). change (classes_in o).names) is) in
    let r = changed-done nodes n2 behind find n node row kept is (record { number = refl; depth = refl; kind = refl; id = refl }) written (with_classes change)
    (ap (λ (z : List (List ℕ)). record (plain node.row) { classes = record { names = z; spare = 0 } }) changed) in (
      r.0,
      r.1,
      λ j there ne. ap spare_in (sym (ap (λ (z : List (Option Node)). slots z j) written ∙ get_or-set_other nodes n j _ None ne)),
      spare-classes (slots nodes n),
      ap spare_in (ap (λ (z : List (Option Node)). slots z n) written ∙ get_or-set_same nodes n _ None (in_bounds nodes n node is)),
    )
  where
    spare-classes : (slot : Option Node) → spare_in slot ≡ (classes_in slot).spare
    spare-classes None = refl
    spare-classes (Some node) = refl

-- the classes of a row are those of its node
pub classes_of-slot : {at : Slots} (linked : IsLinked at) (n : ℕ) (slot : Option Node) → at n ≡ slot → classes_of n (rows_of at) ≡ (classes_in slot).names
classes_of-slot linked n None h = ap (λ (o : Option Row). option_map_or (λ row. row.classes.names) o []) (row_at-slot linked n None h)
classes_of-slot linked n (Some node) h = ap (λ (o : Option Row). option_map_or (λ row. row.classes.names) o []) (row_at-slot linked n (Some node) h)

-- the room of all rows, where that of one doesn't fall
pub room-classes : (nodes n2 : List (Option Node)) (n : ℕ) (spare : ℕ)
    → ((j : ℕ) → is_some (slots n2 j) ≡ true → j ≢ n → spare_in (slots nodes j) ≡ spare_in (slots n2 j))
    → spare_in (slots nodes n) ≡ (classes_in (slots nodes n)).spare → spare_in (slots n2 n) ≡ spare
    → (classes_in (slots nodes n)).spare ≤ spare → KeepsRoom nodes n2
room-classes nodes n2 n spare others was now le j live = elim (cases_eq j n) [
  | inl e ↦ let a = ap (λ (z : ℕ). spare_in (slots nodes z)) e in let b = ap (λ (z : ℕ). spare_in (slots n2 z)) e in omega (arith, a, b, was, now, le)
  | inr ne ↦ let e = others j live ne in omega (arith, e)
]

pub room-lowers : (nodes n2 : List (Option Node)) (n : ℕ) (spare : ℕ)
    → ((j : ℕ) → is_some (slots n2 j) ≡ true → j ≢ n → spare_in (slots nodes j) ≡ spare_in (slots n2 j))
    → spare_in (slots nodes n) ≡ (classes_in (slots nodes n)).spare → spare_in (slots n2 n) ≡ spare
    → (classes_in (slots nodes n)).spare ≤ spare + 1 → (j : ℕ) → is_some (slots n2 j) ≡ true → spare_in (slots nodes j) ≤ spare_in (slots n2 j) + cond (j == n) 1 0
room-lowers nodes n2 n spare others was now le j live = elim (cases_eq j n) [
  | inl e ↦
      let a = ap (λ (z : ℕ). spare_in (slots nodes z)) e in
      let b = ap (λ (z : ℕ). spare_in (slots n2 z)) e in
      let one : cond {A = ℕ} (j == n) 1 0 ≡ 1 = rw (eq-eqb j n e) refl in
      omega (arith, a, b, was, now, le, one)
  | inr ne ↦ let e = others j live ne in omega (arith, e)
]
