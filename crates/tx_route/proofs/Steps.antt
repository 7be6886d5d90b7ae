-- Steps along the focus order, and the walks that take them.
use Rattle.std.proofs.Common.{◌≡◌, ℕ, ◌<◌, ◌≤◌, ◌↔◌, ◌⊎◌, ◌==◌, Bool, true, false, List, [], ◌∷◌, ◌++◌, length, drop, Option, Some, None, is_some, option_map, refl, sym, ap, subst, ◌∙◌, arith, inl, inr}
use Rattle.std.specs.Prelude.{filter, find, IfSome, unwrap_or}
use Rattle.std.specs.Option.{option_or, option_eq, option_map_or}
use Rattle.std.proofs.lemmas.Bool.{cases_Bool, false≢true, eq-eqb, eqb-true}
use Rattle.std.proofs.lemmas.List.{length-append}
use Rattle.tx_select.specs.Match.{last_row}
use Rattle.tx_tree.specs.Row.{number, has_number}
use Rattle.tx_tree.specs.Rows.{row_at, before_of, from_of, first_row, next_of, parent_of, count_of}
use Rattle.tx_tree.specs.Walk.{rest_from, rest_between, WalksOn}
use Rattle.tx_tree.specs.declared.row.NodeId.{NodeId}
use Rattle.tx_tree.specs.declared.row.Row.{Row}
use Rattle.tx_route.specs.Focus.{step_along, row_after}
use Rattle.tx_tree.proofs.lemmas.NumbersAndIds.{count_of-append}
use Rattle.tx_route.proofs.Counted.{row-number, not-there, parent-counted, count-before, count-from, count-behind, first-counted, last-counted}
use Rattle.tx_route.proofs.Kept.{split, before-none, from-none, filter-append, first-kept, from-kept, before-kept, dropped-out, kept-in}
use Rattle.tx_route.proofs.Paths.{or-none, or-assoc}

-- ---- nodes of rows

abbrev pub node_of : Option Row → Option NodeId
node_of o = option_map (λ row. row.node) o

pub no-node : (o : Option Row) → node_of o ≡ None → o ≡ None
no-node None e = refl
no-node (Some row) e = cc

pub node-or : (a b : Option Row) → node_of (option_or a b) ≡ option_or (node_of a) (node_of b)
node-or None b = refl
node-or (Some row) b = refl

-- ---- walks over rows

-- a walk from the first row goes over all
pub from-first : (rows : List Row) (node : NodeId) → node_of (first_row rows) ≡ Some node → from_of node.0 rows ≡ rows
from-first [] node is = cc
from-first (row ∷ rows) node is =
    let e : row.node ≡ node = ap (λ (o : Option NodeId). unwrap_or o node) is in
    let own : has_number node.0 row ≡ true = eq-eqb row.node.0 node.0 (ap (λ (k : NodeId). k.0) e) in
    rw own refl

last-some : (row : Row) (rows : List Row) → (last : Row) × (last_row (row ∷ rows) ≡ Some last)
last-some row [] = (row, refl)
last-some row (next ∷ rows) = last-some next rows

pub last-cons : (row : Row) (rows : List Row) → last_row (row ∷ rows) ≡ option_or (last_row rows) (Some row)
last-cons row [] = refl
last-cons row (next ∷ rows) =
    let (last, is) = last-some next rows in
    is ∙ sym (ap (λ (o : Option Row). option_or o (Some row)) is)

-- the last row of two lists one after the other
pub last-of-two : (xs ys : List Row) → last_row (xs ++ ys) ≡ option_or (last_row ys) (last_row xs)
last-of-two [] ys = sym (or-none (last_row ys))
last-of-two (row ∷ xs) ys =
    last-cons row (xs ++ ys)
    ∙ (ap (λ (o : Option Row). option_or o (Some row)) (last-of-two xs ys)
    ∙ (or-assoc (last_row ys) (last_row xs) (Some row) ∙ ap (option_or (last_row ys)) (sym (last-cons row xs))))

-- the rows before a row are those before one that stands above it, and those between
pub cut-above : (p h : ℕ) (rows : List Row) → 0 < count_of p (before_of h rows) → before_of h rows ≡ before_of p rows ++ before_of h (from_of p rows)
cut-above p h [] some = absurd (omega (arith, some))
cut-above p h (row ∷ rows) some = elim (cases_Bool (has_number h row)) [
  | inl same ↦ let was = rw same at some in absurd (omega (arith, was))
  | inr other ↦ elim (cases_Bool (has_number p row)) [
    | inl here ↦ rw (here, other) refl
    | inr past ↦
        let was = rw (other, past) at some in
        rw (past, other) (ap (λ (rs : List Row). row ∷ rs) (cut-above p h rows (omega (arith, was))))
  ]
]

-- the rows before a row don't have its number
before-without : (n : ℕ) (rows : List Row) → count_of n (before_of n rows) ≡ 0
before-without n [] = refl
before-without n (row ∷ rows) = elim (cases_Bool (has_number n row)) [
  | inl same ↦ rw same refl
  | inr other ↦ rw (other, other) (omega (arith, before-without n rows))
]

counted-long : (n : ℕ) (rows : List Row) → 0 < count_of n rows → 0 < length rows
counted-long n [] some = some
counted-long n (row ∷ rows) some = omega arith

-- there are fewer before a row that stands above it
pub fewer-above : (p h : ℕ) (rows : List Row) → 0 < count_of p (before_of h rows) → length (before_of p rows) < length (before_of h rows)
fewer-above p h rows some =
    let between : List Row = before_of h (from_of p rows) in
    let whole = cut-above p h rows some in
    let counted = ap (count_of p) whole ∙ count_of-append p (before_of p rows) between in
    let long = counted-long p between (omega (arith, some, counted, before-without p rows)) in
    omega (arith, ap length whole, length-append (before_of p rows) between, long)

-- a row's parent stands before it
pub parent-before : (rows : List Row) (h : ℕ) (parent : NodeId) (found : Option NodeId) → found ≡ Some parent → found ≡ node_of (parent_of h rows)
    → 0 < count_of parent.0 (before_of h rows)
parent-before rows h parent found is up = by (parent_of h rows) refl (sym is ∙ up)
  where
    by : (above : Option Row) → parent_of h rows ≡ above → Some parent ≡ node_of above → 0 < count_of parent.0 (before_of h rows)
    by None there e = cc
    by (Some row) there e =
        let same : row.node ≡ parent = sym (ap (λ (o : Option NodeId). unwrap_or o parent) e) in
        subst (λ (k : NodeId). 0 < count_of k.0 (before_of h rows)) same (parent-counted h rows row there)

-- where a walk between two nodes stands
abbrev same : Option NodeId → Option NodeId → Bool
same here end = option_eq (λ a b. a.0 == b.0) here end

before-from : (n : ℕ) (rows : List Row) → before_of n (from_of n rows) ≡ []
before-from n [] = refl
before-from n (row ∷ rows) = elim (cases_Bool (has_number n row)) [
  | inl same-it ↦ rw (same-it, same-it) refl
  | inr other-it ↦ rw other-it (before-from n rows)
]

-- no row is left at the end
pub at-end : (rows : List Row) (node : NodeId) (here end : Option NodeId) → here ≡ Some node → same (Some node) end ≡ true → rest_between here end rows ≡ []
at-end rows node here end is stops = ap (λ (o : Option NodeId). rest_between o end rows) is ∙ by end stops
  where
    by : (end : Option NodeId) → same (Some node) end ≡ true → rest_between (Some node) end rows ≡ []
    by None e = absurd (false≢true e)
    by (Some other) e = ap (λ (k : ℕ). before_of k (from_of node.0 rows)) (sym (eqb-true node.0 other.0 e)) ∙ before-from node.0 rows

-- nor from a number that no row has
pub nowhere : (rows : List Row) (node : NodeId) (here end : Option NodeId) → here ≡ Some node → row_at node.0 rows ≡ None → rest_between here end rows ≡ []
nowhere rows node here end is none = ap (λ (o : Option NodeId). rest_between o end rows) is ∙ by end
  where
    empty : from_of node.0 rows ≡ []
    empty = from-none node.0 rows (not-there node.0 rows none)

    by : (end : Option NodeId) → rest_between (Some node) end rows ≡ []
    by None = empty
    by (Some other) = ap (before_of other.0) empty

-- else the rows that are left are this one and those from the next one on
pub goes-on : WalksOn → (rows : List Row) → ((n : ℕ) → count_of n rows ≤ 1) → (node : NodeId) (here next : Option NodeId) (row : Row) → here ≡ Some node
    → row_at node.0 rows ≡ Some row → next ≡ node_of (next_of node.0 rows) → rest_from here rows ≡ row ∷ rest_from next rows
goes-on walks rows once node here next row is there goes =
    ap (λ (o : Option NodeId). rest_from o rows) is
    ∙ (walks rows once node.0 row there ∙ ap (λ (o : Option NodeId). row ∷ rest_from o rows) (sym goes))

pub goes-between : WalksOn → (rows : List Row) → ((n : ℕ) → count_of n rows ≤ 1) → (node : NodeId) (here end next : Option NodeId) (row : Row) → here ≡ Some node
    → same (Some node) end ≡ false → row_at node.0 rows ≡ Some row → next ≡ node_of (next_of node.0 rows) → rest_between here end rows ≡ row ∷ rest_between next end rows
goes-between walks rows once node here end next row is on there goes = by end on
  where
    rest : rest_from here rows ≡ row ∷ rest_from next rows
    rest = goes-on walks rows once node here next row is there goes

    by : (end : Option NodeId) → same (Some node) end ≡ false → rest_between here end rows ≡ row ∷ rest_between next end rows
    by None e = rest
    by (Some other) e =
        let test : has_number other.0 row ≡ false = ap (λ (k : ℕ). k == other.0) (row-number node.0 rows row there) ∙ e in
        ap (before_of other.0) rest ∙ rw test refl

-- ---- where a step leads

one-of : {T : Type 0} (a b : Option T) (x : T) → option_or a b ≡ Some x → (a ≡ Some x) ⊎ (b ≡ Some x)
one-of None b x is = inr is
one-of (Some y) b x is = inl is

-- the row is in the order
pub step-counted : (back : Bool) (from : Option NodeId) (order : List Row) (row : Row) → row_after back from order ≡ Some row → 0 < count_of (number row) order
step-counted false None order row is = first-counted order row is
step-counted false (Some node) order row is = elim (one-of (first_row (drop 1 (from_of node.0 order))) (first_row order) row is) [
  | inl behind ↦
      omega (arith, first-counted (drop 1 (from_of node.0 order)) row behind, count-behind (number row) (from_of node.0 order), count-from (number row) node.0 order)
  | inr first ↦ first-counted order row first
]
step-counted true None order row is = last-counted order row is
step-counted true (Some node) order row is = elim (one-of (last_row (before_of node.0 order)) (last_row order) row is) [
  | inl before ↦ omega (arith, last-counted (before_of node.0 order) row before, count-before (number row) node.0 order)
  | inr last ↦ last-counted order row last
]

-- there is none exactly where the order is empty
pub step-none : (back : Bool) (from : Option NodeId) (order : List Row) → step_along back order from ≡ None ↔ order ≡ []
step-none back from [] = (λ e. refl, λ e. empty back from)
  where
    empty : (back : Bool) (from : Option NodeId) → step_along back [] from ≡ None
    empty false None = refl
    empty false (Some node) = refl
    empty true None = refl
    empty true (Some node) = refl
step-none back from (row ∷ rows) = (λ e. absurd (some back from e), λ e. cc)
  where
    or-some : (a : Option Row) (b : Row) → node_of (option_or a (Some b)) ≡ None → ⊥
    or-some None b e = cc
    or-some (Some x) b e = cc

    some : (back : Bool) (from : Option NodeId) → step_along back (row ∷ rows) from ≡ None → ⊥
    some false None e = cc
    some false (Some node) e = or-some (first_row (drop 1 (from_of node.0 (row ∷ rows)))) row e
    some true None e = let (last, is) = last-some row rows in let was = ap node_of (sym is) ∙ e in cc
    some true (Some node) e =
        let (last, is) = last-some row rows in
        or-some (last_row (before_of node.0 (row ∷ rows))) last
        (ap (λ (o : Option Row). node_of (option_or (last_row (before_of node.0 (row ∷ rows))) o)) (sym is) ∙ e)

-- ---- steps along the rows that pass a test

module _ (test : Row → Bool) where
  passing : (o : Option Row) → option_map_or test o false ≡ true → (row : Row) × (o ≡ Some row) × (test row ≡ true)
  passing None passes = absurd (false≢true passes)
  passing (Some row) passes = (row, refl, passes)

  -- the first row that passes, from the first row on
  pub from-root : (rows : List Row) (root : NodeId) → node_of (first_row rows) ≡ Some root
      → node_of (find test (rest_from (Some root) rows)) ≡ node_of (first_row (filter test rows))
  from-root rows root is = ap (λ (rs : List Row). node_of (find test rs)) (from-first rows root is) ∙ ap node_of (first-kept test rows)

  -- and the last
  pub to-end : (rows : List Row) (root : NodeId) → node_of (first_row rows) ≡ Some root
      → node_of (last_row (filter test (rest_between (Some root) None rows))) ≡ node_of (last_row (filter test rows))
  to-end rows root is = ap (λ (rs : List Row). node_of (last_row (filter test rs))) (from-first rows root is)

  -- the rows that pass behind one that does
  behind-kept : WalksOn → (rows : List Row) → ((n : ℕ) → count_of n rows ≤ 1) → (n : ℕ) → option_map_or test (row_at n rows) false ≡ true
      → drop 1 (from_of n (filter test rows)) ≡ filter test (rest_from (node_of (next_of n rows)) rows)
  behind-kept walks rows once n passes =
      let (row, there, own) = passing (row_at n rows) passes in
      ap (drop 1) (from-kept test n rows passes ∙ ap (filter test) (walks rows once n row there))
      ∙ rw own refl

  -- the last row that passes, once a row that passes is gone over, and once another is
  pub last-kept : (row : Row) (rest : List Row) (last : Option NodeId) → test row ≡ true
      → option_or (node_of (last_row (filter test rest))) (Some row.node) ≡ option_or (node_of (last_row (filter test (row ∷ rest)))) last
  last-kept row rest last passes =
      let kept : List Row = filter test rest in
      sym (ap (λ (rs : List Row). option_or (node_of (last_row rs)) last) (let e : filter test (row ∷ rest) ≡ row ∷ kept = rw passes refl in e)
      ∙ (ap (λ (o : Option Row). option_or (node_of o) last) (last-cons row kept)
      ∙ (ap (λ (o : Option NodeId). option_or o last) (node-or (last_row kept) (Some row)) ∙ or-assoc (node_of (last_row kept)) (Some row.node) last)))

  pub last-dropped : (row : Row) (rest : List Row) (last : Option NodeId) → test row ≡ false
      → option_or (node_of (last_row (filter test rest))) last ≡ option_or (node_of (last_row (filter test (row ∷ rest)))) last
  last-dropped row rest last fails = rw fails refl

  -- the last row that passes before another one, by the rows between a row above it and itself
  before-cut : (p h : ℕ) (rows : List Row) → 0 < count_of p (before_of h rows)
      → last_row (filter test (before_of h rows)) ≡ option_or (last_row (filter test (before_of h (from_of p rows)))) (last_row (filter test (before_of p rows)))
  before-cut p h rows some =
      let between : List Row = before_of h (from_of p rows) in
      ap (λ (rs : List Row). last_row (filter test rs)) (cut-above p h rows some)
      ∙ (ap last_row (filter-append test (before_of p rows) between) ∙ last-of-two (filter test (before_of p rows)) (filter test between))

  pub between-some : (p h : ℕ) (rows : List Row) → 0 < count_of p (before_of h rows) → (last : Option NodeId)
      → last ≡ node_of (last_row (filter test (before_of h (from_of p rows)))) → is_some last ≡ true → last ≡ node_of (last_row (filter test (before_of h rows)))
  between-some p h rows above last is some =
      by (last_row (filter test (before_of h (from_of p rows)))) is (before-cut p h rows above)
    where
      by : (o : Option Row) → last ≡ node_of o → last_row (filter test (before_of h rows)) ≡ option_or o (last_row (filter test (before_of p rows)))
          → last ≡ node_of (last_row (filter test (before_of h rows)))
      by None e cut = absurd (false≢true (ap is_some (sym e) ∙ some))
      by (Some row) e cut = e ∙ ap node_of (sym cut)

  pub between-none : (p h : ℕ) (rows : List Row) → 0 < count_of p (before_of h rows) → (last : Option NodeId)
      → last ≡ node_of (last_row (filter test (before_of h (from_of p rows)))) → is_some last ≡ false
      → last_row (filter test (before_of p rows)) ≡ last_row (filter test (before_of h rows))
  between-none p h rows above last is none =
      by (last_row (filter test (before_of h (from_of p rows)))) is (before-cut p h rows above)
    where
      by : (o : Option Row) → last ≡ node_of o → last_row (filter test (before_of h rows)) ≡ option_or o (last_row (filter test (before_of p rows)))
          → last_row (filter test (before_of p rows)) ≡ last_row (filter test (before_of h rows))
      by None e cut = sym cut
      by (Some row) e cut = absurd (false≢true (sym none ∙ ap is_some e))

  -- one step forwards from a row that passes
  pub next-step : WalksOn → (rows : List Row) → ((n : ℕ) → count_of n rows ≤ 1) → (node : NodeId) → option_map_or test (row_at node.0 rows) false ≡ true
      → (next behind : Option NodeId) → next ≡ node_of (next_of node.0 rows) → behind ≡ node_of (find test (rest_from next rows))
      → step_along false (filter test rows) (Some node) ≡ option_or behind (node_of (first_row (filter test rows)))
  next-step walks rows once node passes next behind goes finds =
      let all : List Row = filter test rows in
      let rest : List Row = drop 1 (from_of node.0 all) in
      let same : rest ≡ filter test (rest_from next rows) = behind-kept walks rows once node.0 passes ∙ ap (λ (o : Option NodeId). filter test (rest_from o rows)) (sym goes) in
      node-or (first_row rest) (first_row all)
      ∙ ap (λ (o : Option NodeId). option_or o (node_of (first_row all)))
      (ap (λ (rs : List Row). node_of (first_row rs)) same ∙ (ap node_of (sym (first-kept test (rest_from next rows))) ∙ sym finds))

  -- one step back
  pub previous-step : (rows : List Row) (node : NodeId) → option_map_or test (row_at node.0 rows) false ≡ true
      → (before : Option NodeId) → before ≡ node_of (last_row (filter test (before_of node.0 rows)))
      → step_along true (filter test rows) (Some node) ≡ option_or before (node_of (last_row (filter test rows)))
  previous-step rows node passes before finds =
      let all : List Row = filter test rows in
      node-or (last_row (before_of node.0 all)) (last_row all)
      ∙ ap (λ (o : Option NodeId). option_or o (node_of (last_row all)))
      (ap (λ (rs : List Row). node_of (last_row rs)) (before-kept test node.0 rows passes) ∙ sym finds)

  -- where no row before a node passes, the last is the last from the node on
  pub last-from : (rows : List Row) (node : NodeId) → None ≡ node_of (last_row (filter test (before_of node.0 rows)))
      → node_of (last_row (filter test (rest_between (Some node) None rows))) ≡ node_of (last_row (filter test rows))
  last-from rows node none =
      let before : List Row = filter test (before_of node.0 rows) in
      let from : List Row = filter test (from_of node.0 rows) in
      sym (ap node_of
      (ap (λ (rs : List Row). last_row (filter test rs)) (sym (split node.0 rows))
      ∙ (ap last_row (filter-append test (before_of node.0 rows) (from_of node.0 rows))
      ∙ (last-of-two before from
      ∙ (ap (option_or (last_row from)) (no-node (last_row before) (sym none)) ∙ or-none (last_row from))))))

  -- a node that isn't in the order is as none
  pub outside : (back : Bool) (rows : List Row) → ((n : ℕ) → count_of n rows ≤ 1) → (node : NodeId) → option_map_or test (row_at node.0 rows) false ≡ false
      → step_along back (filter test rows) (Some node) ≡ step_along back (filter test rows) None
  outside false rows once node fails =
      let all : List Row = filter test rows in
      ap (λ (rs : List Row). node_of (option_or (first_row (drop 1 rs)) (first_row all))) (from-none node.0 all (dropped-out test node.0 rows (once node.0) fails))
  outside true rows once node fails =
      let all : List Row = filter test rows in
      ap (λ (rs : List Row). node_of (option_or (last_row rs) (last_row all))) (before-none node.0 all (dropped-out test node.0 rows (once node.0) fails))
      ∙ ap node_of (twice (last_row all))
    where
      twice : (o : Option Row) → option_or o o ≡ o
      twice None = refl
      twice (Some row) = refl

  -- where a step leads passes
  pub step-in : (back : Bool) (rows : List Row) → ((n : ℕ) → count_of n rows ≤ 1) → (from : Option NodeId)
      → IfSome (step_along back (filter test rows) from) (λ node. option_map_or test (row_at node.0 rows) false ≡ true)
  step-in back rows once from = by (row_after back from (filter test rows)) refl
    where
      by : (row : Option Row) → row_after back from (filter test rows) ≡ row → IfSome (node_of row) (λ node. option_map_or test (row_at node.0 rows) false ≡ true)
      by None is = tt
      by (Some row) is = kept-in test (number row) rows (once (number row)) (step-counted back from (filter test rows) row is)
