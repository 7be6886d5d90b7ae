-- Steps along an order in which no number stands twice.
use Rattle.std.proofs.Common.{◌≡◌, ℕ, zero, suc, ◌+◌, ◌-◌, ◌<◌, ◌≤◌, Bool, true, false, not, List, [], ◌∷◌, ◌++◌, length, drop, Option, Some, None, refl, sym, ap, subst, ◌∙◌, arith, append_assoc, append-nil, inl, inr}
use Rattle.std.specs.Prelude.{filter}
use Rattle.std.specs.Option.{option_or, option_map_or}
use Rattle.std.proofs.lemmas.Bool.{cases_Bool, cases_lt, eq-eqb, eqb-true}
use Rattle.std.proofs.lemmas.List.{length-append}
use Rattle.tx_select.specs.Match.{last_row}
use Rattle.tx_tree.specs.Row.{number, has_number}
use Rattle.tx_tree.specs.Rows.{row_at, before_of, from_of, first_row, count_of}
use Rattle.tx_tree.specs.Walk.{NumbersDiffer}
use Rattle.tx_tree.specs.declared.row.NodeId.{NodeId}
use Rattle.tx_tree.specs.declared.row.Row.{Row}
use Rattle.tx_tree.proofs.lemmas.NumbersAndIds.{count_of-append}
use Rattle.tx_widgets.specs.Frame.{FrameValue}
use Rattle.tx_route.specs.Focus.{is_in_order, takes_focus, focus_order, row_after, step_along, steps_along}
use Rattle.tx_route.specs.Laws.{StepsAreUndone, StepsComeIn, OrdersGoRound, GoesRound}
use Rattle.tx_route.proofs.Counted.{count-filter}
use Rattle.tx_route.proofs.Steps.{node_of, last-of-two, outside, step-none, step-counted}

-- an order that is cut at a row
pub record Cut (n : ℕ) (order front : List Row) (row : Row) (tail : List Row) : Type 0 where
  pub whole : order ≡ front ++ (row ∷ tail)
  pub here : number row ≡ n

pub cut-at : (n : ℕ) (order : List Row) → 0 < count_of n order → (front : List Row) × (row : Row) × (tail : List Row) × Cut n order front row tail
cut-at n [] some = absurd (omega (arith, some))
cut-at n (row ∷ order) some = elim (cases_Bool (has_number n row)) [
  | inl same ↦ ([], row, order, record { whole = refl; here = eqb-true row.node.0 n same })
  | inr other ↦
      let was = rw other at some in
      let (front, at, tail, cut) = cut-at n order (omega (arith, was)) in
      (row ∷ front, at, tail, record { whole = ap (λ (rs : List Row). row ∷ rs) cut.whole; here = cut.here })
]

-- where numbers differ, the row's number stands in no other part
before-cut : (n : ℕ) (front : List Row) (row : Row) (tail : List Row) → number row ≡ n → count_of n (front ++ (row ∷ tail)) ≤ 1 → before_of n (front ++ (row ∷ tail)) ≡ front
before-cut n [] row tail here once = let own : has_number n row ≡ true = eq-eqb _ _ here in rw own refl
before-cut n (first ∷ front) row tail here once =
    let own : has_number n row ≡ true = eq-eqb _ _ here in
    let rest : count_of n (row ∷ tail) ≡ 1 + count_of n tail = rw own refl in
    let sum = count_of-append n front (row ∷ tail) in
    elim (cases_Bool (has_number n first)) [
      | inl same ↦ let was = rw same at once in absurd (omega (arith, was, rest, sum))
      | inr other ↦ let was = rw other at once in rw other (ap (λ (rs : List Row). first ∷ rs) (before-cut n front row tail here (omega (arith, was))))
    ]

from-cut : (n : ℕ) (front : List Row) (row : Row) (tail : List Row) → number row ≡ n → count_of n (front ++ (row ∷ tail)) ≤ 1 → from_of n (front ++ (row ∷ tail)) ≡ row ∷ tail
from-cut n [] row tail here once = let own : has_number n row ≡ true = eq-eqb _ _ here in rw own refl
from-cut n (first ∷ front) row tail here once =
    let own : has_number n row ≡ true = eq-eqb _ _ here in
    let rest : count_of n (row ∷ tail) ≡ 1 + count_of n tail = rw own refl in
    let sum = count_of-append n front (row ∷ tail) in
    elim (cases_Bool (has_number n first)) [
      | inl same ↦ let was = rw same at once in absurd (omega (arith, was, rest, sum))
      | inr other ↦ let was = rw other at once in rw other (from-cut n front row tail here (omega (arith, was)))
    ]

-- a list that isn't empty has a last row
ended : (row : Row) (rows : List Row) → (front : List Row) × (last : Row) × (row ∷ rows ≡ front ++ (last ∷ []))
ended row [] = ([], row, refl)
ended row (next ∷ rows) =
    let (front, last, whole) = ended next rows in
    (row ∷ front, last, ap (λ (rs : List Row). row ∷ rs) whole)

last-end : (front : List Row) (last : Row) → last_row (front ++ (last ∷ [])) ≡ Some last
last-end front last = last-of-two front (last ∷ [])

module _ (order : List Row) (differ : NumbersDiffer order) where
  -- the step from a row at which the order is cut
  next-at : (front : List Row) (row : Row) (tail : List Row) → order ≡ front ++ (row ∷ tail)
      → step_along false order (Some row.node) ≡ node_of (option_or (first_row tail) (first_row order))
  next-at front row tail whole =
      let once : count_of (number row) (front ++ (row ∷ tail)) ≤ 1 = subst (λ (rs : List Row). count_of (number row) rs ≤ 1) whole (differ (number row)) in
      ap (λ (rs : List Row). node_of (option_or (first_row (drop 1 rs)) (first_row order))) (ap (from_of (number row)) whole ∙ from-cut (number row) front row tail refl once)

  previous-at : (front : List Row) (row : Row) (tail : List Row) → order ≡ front ++ (row ∷ tail)
      → step_along true order (Some row.node) ≡ node_of (option_or (last_row front) (last_row order))
  previous-at front row tail whole =
      let once : count_of (number row) (front ++ (row ∷ tail)) ≤ 1 = subst (λ (rs : List Row). count_of (number row) rs ≤ 1) whole (differ (number row)) in
      ap (λ (rs : List Row). node_of (option_or (last_row rs) (last_row order))) (ap (before_of (number row)) whole ∙ before-cut (number row) front row tail refl once)

  -- from the last row to the first, and back
  next-of-last : (front : List Row) (last : Row) → order ≡ front ++ (last ∷ []) → step_along false order (Some last.node) ≡ node_of (first_row order)
  next-of-last front last whole = next-at front last [] whole

  previous-of-first : (first : Row) (rows : List Row) → order ≡ first ∷ rows → step_along true order (Some first.node) ≡ node_of (last_row order)
  previous-of-first first rows whole = previous-at [] first rows whole

  back-again : (front : List Row) (row : Row) (tail : List Row) → order ≡ front ++ (row ∷ tail) → step_along true order (step_along false order (Some row.node)) ≡ Some row.node
  back-again front row (next ∷ tail) whole =
      ap (step_along true order) (next-at front row (next ∷ tail) whole)
      ∙ (previous-at (front ++ (row ∷ [])) next tail (whole ∙ sym (append_assoc front (row ∷ []) (next ∷ tail)))
      ∙ ap (λ (o : Option Row). node_of (option_or o (last_row order))) (last-end front row))
  back-again [] row [] whole =
      ap (step_along true order) (next-at [] row [] whole ∙ ap (λ (rs : List Row). node_of (first_row rs)) whole)
      ∙ (previous-of-first row [] whole ∙ ap (λ (rs : List Row). node_of (last_row rs)) whole)
  back-again (first ∷ front) row [] whole =
      ap (step_along true order) (next-at (first ∷ front) row [] whole ∙ ap (λ (rs : List Row). node_of (first_row rs)) whole)
      ∙ (previous-of-first first (front ++ (row ∷ [])) whole ∙ ap node_of (ap last_row whole ∙ last-end (first ∷ front) row))

  forth-again : (front : List Row) (row : Row) (tail : List Row) → order ≡ front ++ (row ∷ tail) → step_along false order (step_along true order (Some row.node)) ≡ Some row.node
  forth-again [] row tail whole =
      let (before, last, is) = ended row tail in
      ap (step_along false order) (previous-of-first row tail whole ∙ ap node_of (ap last_row (whole ∙ is) ∙ last-end before last))
      ∙ (next-of-last before last (whole ∙ is) ∙ ap (λ (rs : List Row). node_of (first_row rs)) whole)
  forth-again (first ∷ front) row tail whole =
      let (before, last, is) = ended first front in
      let also : order ≡ before ++ (last ∷ (row ∷ tail)) = whole ∙ (ap (λ (rs : List Row). rs ++ (row ∷ tail)) is ∙ append_assoc before (last ∷ []) (row ∷ tail)) in
      ap (step_along false order)
      (previous-at (first ∷ front) row tail whole ∙ ap (λ (o : Option Row). node_of (option_or o (last_row order))) (ap last_row is ∙ last-end before last))
      ∙ next-at before last (row ∷ tail) also

  -- the node of a row that stands in the order
  cut-node : (node : NodeId) (row : Row) → number row ≡ node.0 → row.node ≡ node
  cut-node node row here = ap (λ (k : ℕ). let made : NodeId = record { 0 = k } in made) here

  pub undone : (back : Bool) (node : NodeId) → 0 < count_of node.0 order → step_along (not back) order (step_along back order (Some node)) ≡ Some node
  undone false node some =
      let (front, row, tail, cut) = cut-at node.0 order some in
      subst (λ (k : NodeId). step_along true order (step_along false order (Some k)) ≡ Some k) (cut-node node row cut.here) (back-again front row tail cut.whole)
  undone true node some =
      let (front, row, tail, cut) = cut-at node.0 order some in
      subst (λ (k : NodeId). step_along false order (step_along true order (Some k)) ≡ Some k) (cut-node node row cut.here) (forth-again front row tail cut.whole)

  -- ---- many steps

  steps-add : (back : Bool) (a b : ℕ) (from : Option NodeId) → steps_along (a + b) back order from ≡ steps_along b back order (steps_along a back order from)
  steps-add back zero b from = let sum : zero + b ≡ b = omega arith in ap (λ (n : ℕ). steps_along n back order from) sum
  steps-add back (suc a) b from =
      let sum : suc a + b ≡ suc (a + b) = omega arith in
      ap (λ (n : ℕ). steps_along n back order from) sum ∙ steps-add back a b (step_along back order from)

  one-more : (back : Bool) (n : ℕ) (from : Option NodeId) → steps_along (suc n) back order from ≡ step_along back order (steps_along n back order from)
  one-more back zero from = refl
  one-more back (suc n) from = one-more back n (step_along back order from)

  -- a step from a row of the order leads to one of it
  step-some : (back : Bool) (node : NodeId) → 0 < count_of node.0 order → (next : NodeId) × (step_along back order (Some node) ≡ Some next) × (0 < count_of next.0 order)
  step-some back node some = by (row_after back (Some node) order) refl
    where
      by : (row : Option Row) → row_after back (Some node) order ≡ row → (next : NodeId) × (step_along back order (Some node) ≡ Some next) × (0 < count_of next.0 order)
      by None is =
          let empty : order ≡ [] = (step-none back (Some node) order).0 (ap node_of is) in
          absurd (let none = ap (count_of node.0) empty in omega (arith, some, none))
      by (Some row) is = (row.node, ap node_of is, step-counted back (Some node) order row is)

  all-undone : (back : Bool) (n : ℕ) (node : NodeId) → 0 < count_of node.0 order → steps_along n (not back) order (steps_along n back order (Some node)) ≡ Some node
  all-undone back zero node some = refl
  all-undone back (suc n) node some =
      let (next, is, more) = step-some back node some in
      one-more (not back) n (steps_along n back order (step_along back order (Some node)))
      ∙ (ap (λ (o : Option NodeId). step_along (not back) order (steps_along n (not back) order (steps_along n back order o))) is
      ∙ (ap (step_along (not back) order) (all-undone back n next more)
      ∙ (ap (step_along (not back) order) (sym is) ∙ undone back node some)))

  -- along a part of the order
  along : (front : List Row) (row : Row) (part tail : List Row) → order ≡ front ++ (row ∷ (part ++ tail)) → steps_along (length part) false order (Some row.node) ≡ node_of (last_row (row ∷ part))
  along front row [] tail whole = refl
  along front row (next ∷ part) tail whole =
      ap (steps_along (length part) false order) (next-at front row (next ∷ (part ++ tail)) whole)
      ∙ along (front ++ (row ∷ [])) next part tail (whole ∙ sym (append_assoc front (row ∷ []) (next ∷ (part ++ tail))))

  -- from the first row to another
  from-begin : (front : List Row) (row : Row) (tail : List Row) → order ≡ front ++ (row ∷ tail) → steps_along (length front) false order (node_of (first_row order)) ≡ Some row.node
  from-begin [] row tail whole = ap (λ (rs : List Row). node_of (first_row rs)) whole
  from-begin (first ∷ front) row tail whole =
      let size : suc (length front) ≡ length (front ++ (row ∷ [])) = omega (arith, length-append front (row ∷ [])) in
      ap (λ (n : ℕ). steps_along n false order (node_of (first_row order))) size
      ∙ (ap (λ (rs : List Row). steps_along (length (front ++ (row ∷ []))) false order (node_of (first_row rs))) whole
      ∙ (along [] first (front ++ (row ∷ [])) tail (whole ∙ ap (λ (rs : List Row). first ∷ rs) (sym (append_assoc front (row ∷ []) tail)))
      ∙ ap node_of (last-end (first ∷ front) row)))

  -- from a row to the first
  to-begin : (front : List Row) (row : Row) (tail : List Row) → order ≡ front ++ (row ∷ tail) → steps_along (suc (length tail)) false order (Some row.node) ≡ node_of (first_row order)
  to-begin front row tail whole =
      let (before, last, is) = ended row tail in
      let also : order ≡ (front ++ before) ++ (last ∷ []) = whole ∙ (ap (λ (rs : List Row). front ++ rs) is ∙ sym (append_assoc front before (last ∷ []))) in
      let plain_tail : order ≡ front ++ (row ∷ (tail ++ [])) = whole ∙ ap (λ (rs : List Row). front ++ (row ∷ rs)) (sym (append-nil tail)) in
      one-more false (length tail) (Some row.node)
      ∙ (ap (step_along false order) (along front row tail [] plain_tail ∙ ap node_of (ap last_row is ∙ last-end before last))
      ∙ next-of-last (front ++ before) last also)

  -- from a row to any
  onwards : (node other : NodeId) → 0 < count_of node.0 order → 0 < count_of other.0 order
      → (n : ℕ) × (n < length order + length order) × (steps_along n false order (Some node) ≡ Some other)
  onwards node other some more =
      let (front, row, tail, cut) = cut-at node.0 order some in
      let (start, to, rest, at) = cut-at other.0 order more in
      let size = ap length cut.whole ∙ length-append front (row ∷ tail) in
      let wide = ap length at.whole ∙ length-append start (to ∷ rest) in (
        suc (length tail) + length start,
        omega (arith, size, wide),
        steps-add false (suc (length tail)) (length start) (Some node)
            ∙ (ap (steps_along (length start) false order) (ap (λ (k : NodeId). steps_along (suc (length tail)) false order (Some k)) (sym (cut-node node row cut.here)) ∙ to-begin front row tail cut.whole)
            ∙ (from-begin start to rest at.whole ∙ ap (λ (k : NodeId). Some k) (cut-node other to at.here))),
      )

  home-again : (node : NodeId) → 0 < count_of node.0 order → steps_along (length order) false order (Some node) ≡ Some node
  home-again node some =
      let (front, row, tail, cut) = cut-at node.0 order some in
      let size : length order ≡ suc (length tail) + length front = omega (arith, ap length cut.whole, length-append front (row ∷ tail)) in
      ap (λ (n : ℕ). steps_along n false order (Some node)) size
      ∙ (steps-add false (suc (length tail)) (length front) (Some node)
      ∙ (ap (steps_along (length front) false order) (ap (λ (k : NodeId). steps_along (suc (length tail)) false order (Some k)) (sym (cut-node node row cut.here)) ∙ to-begin front row tail cut.whole)
      ∙ (from-begin front row tail cut.whole ∙ ap (λ (k : NodeId). Some k) (cut-node node row cut.here))))

  onwards-soon : (node other : NodeId) → 0 < count_of node.0 order → 0 < count_of other.0 order → (n : ℕ) × (n < length order) × (steps_along n false order (Some node) ≡ Some other)
  onwards-soon node other some more =
      let (n, below, is) = onwards node other some more in
      elim (cases_lt n (length order)) [
        | inl less ↦ (n, less, is)
        | inr past ↦
            let rest : ℕ = n - length order in
            let sum : n ≡ length order + rest = omega (arith, past) in (
              rest,
              omega (arith, below, past),
              ap (steps_along rest false order) (sym (home-again node some)) ∙ (sym (steps-add false (length order) rest (Some node)) ∙ (ap (λ (k : ℕ). steps_along k false order (Some node)) (sym sum) ∙ is)),
            )
      ]

  -- the way back is the way there, undone
  turned : (n : ℕ) (node other : NodeId) → 0 < count_of other.0 order → steps_along n false order (Some other) ≡ Some node → steps_along n true order (Some node) ≡ Some other
  turned n node other more is = ap (steps_along n true order) (sym is) ∙ all-undone false n other more

  pub goes-round : (back : Bool) (node : NodeId) → 0 < count_of node.0 order → (among : NodeId → Type 0) → ((other : NodeId) → among other → 0 < count_of other.0 order)
      → GoesRound order back node among
  goes-round false node some among stands = record {
    home = home-again node some;
    through = λ other is. onwards-soon node other some (stands other is);
  }
  goes-round true node some among stands = record {
    home = turned (length order) node node some (home-again node some);
    through = λ other is.
        let (n, below, leads) = onwards-soon other node (stands other is) some in
        (n, below, turned n node other (stands other is) leads);
  }

-- ---- the focus order

order-differs : (frame : FrameValue) (rows : List Row) → NumbersDiffer rows → NumbersDiffer (focus_order frame rows)
order-differs frame rows differ n = omega (arith, differ n, count-filter (takes_focus frame rows) n rows)

kept-counted : (test : Row → Bool) (n : ℕ) (rows : List Row) → option_map_or test (row_at n rows) false ≡ true → 0 < count_of n (filter test rows)
kept-counted test n [] passes = cc
kept-counted test n (row ∷ rows) passes = elim (cases_Bool (has_number n row)) [
  | inl same ↦ let own = rw same at passes in rw (own, same) (omega arith)
  | inr other ↦
      let rest = rw other at passes in
      elim (cases_Bool (test row)) [
        | inl kept ↦ rw (kept, other) (omega (arith, kept-counted test n rows rest))
        | inr dropped ↦ rw dropped (kept-counted test n rows rest)
      ]
]

order-counted : (frame : FrameValue) (rows : List Row) (n : ℕ) → is_in_order frame rows n ≡ true → 0 < count_of n (focus_order frame rows)
unfolding is_in_order
order-counted frame rows n is = kept-counted (takes_focus frame rows) n rows is

pub steps-are-undone : StepsAreUndone
steps-are-undone frame rows differ node is back =
    undone (focus_order frame rows) (order-differs frame rows differ) back node (order-counted frame rows node.0 is)

pub steps-come-in : StepsComeIn
unfolding is_in_order
steps-come-in frame rows differ None is = record { forwards = refl; back = refl }
steps-come-in frame rows differ (Some node) is = record {
  forwards = outside (takes_focus frame rows) false rows differ node is;
  back = outside (takes_focus frame rows) true rows differ node is;
}

pub orders-go-round : OrdersGoRound
orders-go-round frame rows differ node is back =
    goes-round (focus_order frame rows) (order-differs frame rows differ) back node (order-counted frame rows node.0 is) (λ other. is_in_order frame rows other.0 ≡ true)
    (λ other in_it. order-counted frame rows other.0 in_it)
