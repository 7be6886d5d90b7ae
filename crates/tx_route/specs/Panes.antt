-- The frames of the tests: panes that lie one over the other on a screen, the topmost first.
use Rattle.std.proofs.Common.{◌≡◌, ℕ, ◌-◌, ◌<◌, ◌≤◌, ◌==◌, ◌&&◌, pos, nat_le, nat_lt, Bool, true, false, List, [], ◌∷◌, Option, Some, None, is_some, option_map, refl, sym, ap, subst, ◌∙◌, arith, inl, inr}
use Rattle.std.specs.Prelude.{option_and_then, unwrap_or, find}
use Rattle.std.proofs.lemmas.Int.{ints}
use Rattle.std.proofs.lemmas.Bool.{cases_Bool, and_parts, leb-true, ltb-true, eqb-true, false≢true}
use Rattle.std.specs.Option.{option_eq, option_map_or}
use Rattle.tx_geom.specs.declared.places.Region.{Region}
use Rattle.tx_tree.specs.declared.row.NodeId.{NodeId}
use Rattle.tx_geom.specs.Region.{IsAmong, Holds}
use Rattle.tx_widgets.specs.Frame.{FrameValue, IsFrame, place}

-- a row, the column and the row of its corner, its width and height, and the column and the row of a cell of it
abbrev pub Pane : Type 0
Pane = ℕ × ℕ × ℕ × ℕ × ℕ × ℕ × ℕ

abbrev pub node_of : Pane → NodeId
node_of pane = record { 0 = pane.0 }

abbrev pub region_of : Pane → Region
region_of pane = record { x = pos pane.1; y = pos pane.2; width = pane.3; height = pane.4 }

-- whether a cell lies in a pane
abbrev pub covers : ℕ → ℕ → Pane → Bool
covers x y pane = (nat_le pane.1 x && nat_lt (x - pane.1) pane.3) && (nat_le pane.2 y && nat_lt (y - pane.2) pane.4)

-- the pane of a row
abbrev pub pane_of : ℕ → List Pane → Option Pane
pane_of n panes = find (λ pane. pane.0 == n) panes

-- the topmost pane that covers a cell
abbrev pub owner_in : List Pane → ℕ → ℕ → Option NodeId
owner_in panes x y = option_map node_of (find (λ pane. option_map_or (covers x y) (pane_of pane.0 panes) false) panes)

-- the cell of a pane, where it isn't covered
abbrev pub spot_if : Pane → Bool → Option (ℕ × ℕ)
spot_if pane true = Some (pane.5, pane.6)
spot_if pane false = None

abbrev pub spot_of : List Pane → Pane → Option (ℕ × ℕ)
spot_of panes pane = spot_if pane (option_eq (λ a b. a.0 == b.0) (owner_in panes pane.5 pane.6) (Some (node_of pane)))

abbrev pub frame_of : List Pane → FrameValue
frame_of panes = record {
  owner = owner_in panes;
  spot = λ node. option_and_then (spot_of panes) (pane_of node.0 panes);
  region = λ node. option_map region_of (pane_of node.0 panes);
  shown = λ node. is_some (pane_of node.0 panes);
}

-- ---- these are frames

find-passes : (test : Pane → Bool) (panes : List Pane) (pane : Pane) → find test panes ≡ Some pane → test pane ≡ true
find-passes test [] pane is = cc
find-passes test (first ∷ panes) pane is = elim (cases_Bool (test first)) [
  | inl passes ↦
      let was = rw passes at is in
      let same : first ≡ pane = ap (λ (o : Option Pane). unwrap_or o first) was in
      ap test (sym same) ∙ passes
  | inr fails ↦ let was = rw fails at is in find-passes test panes pane was
]

among : (from size at : ℕ) → nat_le from at ≡ true → nat_lt (at - from) size ≡ true → IsAmong (pos from) size (pos at)
among from size at low high =
    let low_is : from ≤ at = leb-true from at low in
    let high_is : at - from < size = ltb-true (at - from) size high in
    record { from_on = omega (arith, ints); before = omega (arith, ints) }

covered : (x y : ℕ) (pane : Pane) → covers x y pane ≡ true → Holds (region_of pane) (place x y)
covered x y pane is =
    let (across, down) = and_parts (nat_le pane.1 x && nat_lt (x - pane.1) pane.3) (nat_le pane.2 y && nat_lt (y - pane.2) pane.4) is in
    let (left, right) = and_parts (nat_le pane.1 x) (nat_lt (x - pane.1) pane.3) across in
    let (top, bottom) = and_parts (nat_le pane.2 y) (nat_lt (y - pane.2) pane.4) down in
    record { column = among pane.1 pane.3 x left right; row = among pane.2 pane.4 y top bottom }

owns-place : (panes : List Pane) (x y : ℕ) (n : ℕ) (found : Option Pane) → pane_of n panes ≡ found → option_map_or (covers x y) found false ≡ true
    → (region : Region) × ((option_map region_of (pane_of n panes) ≡ Some region) × Holds region (place x y))
owns-place panes x y n None is covers_it = absurd (false≢true covers_it)
owns-place panes x y n (Some pane) is covers_it = (region_of pane, (ap (option_map region_of) is, covered x y pane covers_it))

owner-has : (panes : List Pane) (x y : ℕ) (node : NodeId) (found : Option Pane)
    → find (λ pane. option_map_or (covers x y) (pane_of pane.0 panes) false) panes ≡ found → option_map node_of found ≡ Some node
    → (region : Region) × ((option_map region_of (pane_of node.0 panes) ≡ Some region) × Holds region (place x y))
owner-has panes x y node None finds is = cc
owner-has panes x y node (Some pane) finds is =
    let same : node_of pane ≡ node = ap (λ (o : Option NodeId). unwrap_or o node) is in
    let passes = find-passes (λ p. option_map_or (covers x y) (pane_of p.0 panes) false) panes pane finds in
    subst (λ (k : NodeId). (region : Region) × ((option_map region_of (pane_of k.0 panes) ≡ Some region) × Holds region (place x y))) same
    (owns-place panes x y pane.0 (pane_of pane.0 panes) refl passes)

told-same : (owner : Option NodeId) (node : NodeId) → option_eq (λ a b. a.0 == b.0) owner (Some node) ≡ true → owner ≡ Some node
told-same None node is = absurd (false≢true is)
told-same (Some owner) node is = ap (λ (k : ℕ). let made : NodeId = record { 0 = k } in Some made) (eqb-true owner.0 node.0 is)

spot-owned : (panes : List Pane) (pane : Pane) (x y : ℕ) (b : Bool) → option_eq (λ a b. a.0 == b.0) (owner_in panes pane.5 pane.6) (Some (node_of pane)) ≡ b
    → spot_if pane b ≡ Some (x, y) → owner_in panes x y ≡ Some (node_of pane)
spot-owned panes pane x y true told is =
    let same : (pane.5, pane.6) ≡ (x, y) = ap (λ (o : Option (ℕ × ℕ)). unwrap_or o (x, y)) is in
    ap (λ (p : ℕ × ℕ). owner_in panes p.0 p.1) (sym same) ∙ told-same (owner_in panes pane.5 pane.6) (node_of pane) told
spot-owned panes pane x y false told is = cc

spot-has : (panes : List Pane) (node : NodeId) (x y : ℕ) (found : Option Pane) → pane_of node.0 panes ≡ found
    → option_and_then (spot_of panes) found ≡ Some (x, y) → owner_in panes x y ≡ Some node
spot-has panes node x y None there is = cc
spot-has panes node x y (Some pane) there is =
    let number : pane.0 ≡ node.0 = eqb-true pane.0 node.0 (find-passes (λ p. p.0 == node.0) panes pane there) in
    spot-owned panes pane x y (option_eq (λ a b. a.0 == b.0) (owner_in panes pane.5 pane.6) (Some (node_of pane))) refl is
    ∙ ap (λ (k : ℕ). let made : NodeId = record { 0 = k } in Some made) number

pub are-frames : (panes : List Pane) → IsFrame (frame_of panes)
are-frames panes = record {
  owned = λ x y node is. owner-has panes x y node (find (λ pane. option_map_or (covers x y) (pane_of pane.0 panes) false) panes) refl is;
  spotted = λ node x y is. spot-has panes node x y (pane_of node.0 panes) refl is;
}
