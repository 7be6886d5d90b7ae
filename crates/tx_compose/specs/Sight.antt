-- A frame as far as it keeps the law of frames. Of a screen that is all of it.
use Rattle.std.proofs.Common.{◌≡◌, ℕ, ◌<◌, ◌≤◌, ◌+◌, pos, ℤ, Bool, true, false, cond, refl, sym, ap, ap₂, ◌∙◌, subst, inl, inr, arith}
use Rattle.std.proofs.lemmas.Bool.{and_parts, cases_Bool, eqb-true, false≢true}
use Rattle.std.proofs.lemmas.Option.{some_pair_parts}
use Rattle.std.proofs.lemmas.Int.{ints}
use Rattle.std.specs.Prelude.{◌==◌, ◌&&◌, ◌+ℤ◌, int_lt, not, Option, Some, None, if◌then◌else◌}
use Rattle.std.specs.Option.{option_and_then, option_map_or}
use Rattle.tx_geom.specs.Region.{Holds, IsAmong}
use Rattle.tx_geom.specs.declared.places.Region.{Region}
use Rattle.tx_owner.specs.Owner.{is_among, is_within}
use Rattle.tx_tree.specs.declared.row.NodeId.{NodeId}
use Rattle.tx_widgets.specs.Frame.{FrameValue, HasPlace, IsFrame, place}

-- a row, where its region holds the cell
abbrev pub if_held : FrameValue → ℕ → ℕ → NodeId → Option NodeId
if_held frame x y node = if option_map_or (λ region. is_within region x y) (frame.region node) false then Some node else None

-- the owners whose regions hold their cells
abbrev pub held_owner : FrameValue → ℕ → ℕ → Option NodeId
held_owner frame x y = option_and_then (if_held frame x y) (frame.owner x y)

abbrev pub is_node : NodeId → Option NodeId → Bool
is_node node None = false
is_node node (Some other) = other.0 == node.0

-- a cell, where the row owns it
abbrev pub if_owned : FrameValue → NodeId → ℕ × ℕ → Option (ℕ × ℕ)
if_owned frame node cell = if is_node node (held_owner frame cell.0 cell.1) then Some cell else None

abbrev pub lawful : FrameValue → FrameValue
lawful frame =
    record frame {
      owner = held_owner frame;
      spot = λ node. option_and_then (if_owned frame node) (frame.spot node);
    }

-- ---- it keeps the law

among : (from x : ℤ) (count : ℕ) (at : ℕ) → x ≡ pos at → is_among from count at ≡ true → IsAmong from count x
among from x count at is inside =
    let parts = and_parts (not (int_lt (pos at) from)) (int_lt (pos at) (from +ℤ pos count)) inside in
    record { from_on = grind (arith, ints); before = grind (arith, ints) }

pub within : (region : Region) (x y : ℕ) → is_within region x y ≡ true → Holds region (place x y)
within region x y inside =
    let parts = and_parts (is_among region.x region.width x) (is_among region.y region.height y) inside in
    record { column = among region.x (pos x) region.width x refl parts.0; row = among region.y (pos y) region.height y refl parts.1 }

is_among_by : (from x : ℤ) (count at : ℕ) → x ≡ pos at → IsAmong from count x → is_among from count at ≡ true
is_among_by from x count at is among =
    let from_on = among.from_on in
    let before = among.before in
    let low : int_lt (pos at) from ≡ false = grind (arith, ints) in
    let high : int_lt (pos at) (from +ℤ pos count) ≡ true = grind (arith, ints) in
    ap₂ (λ a b. not a && b) low high

pub is_held : (region : Region) (x y : ℕ) → Holds region (place x y) → is_within region x y ≡ true
is_held region x y holds =
    ap₂ (λ a b. a && b) (is_among_by region.x (pos x) region.width x refl holds.column) (is_among_by region.y (pos y) region.height y refl holds.row)

-- a row that is told of a cell is the owner there, and its region holds the cell
record IsHeld (frame : FrameValue) (x y : ℕ) (owner : Option NodeId) (node : NodeId) : Type 0 where
  is : owner ≡ Some node
  region : Region
  has : frame.region node ≡ Some region
  holds : is_within region x y ≡ true

held_by : (frame : FrameValue) (x y : ℕ) (other node : NodeId) (region : Option Region) → frame.region other ≡ region
    → (if option_map_or (λ r. is_within r x y) region false then Some other else None) ≡ Some node → IsHeld frame x y (Some other) node
held_by frame x y other node None at is = absurd (let none : None ≡ Some node = is in cc)
held_by frame x y other node (Some region) at is = elim (cases_Bool (is_within region x y)) [
  | inl inside ↦
      let was : Some other ≡ Some node = rw inside at is in
      let same : other ≡ node = cc in
      subst (λ n. IsHeld frame x y (Some other) n) same (record { is = refl; region = region; has = at; holds = inside })
  | inr outside ↦ absurd (let none : None ≡ Some node = rw outside at is in cc)
]

held : (frame : FrameValue) (x y : ℕ) (owner : Option NodeId) (node : NodeId) → option_and_then (if_held frame x y) owner ≡ Some node → IsHeld frame x y owner node
held frame x y None node is = absurd (let none : None ≡ Some node = is in cc)
held frame x y (Some other) node is = held_by frame x y other node (frame.region other) refl is

has_place : (frame : FrameValue) (x y : ℕ) (node : NodeId) → held_owner frame x y ≡ Some node → HasPlace (lawful frame) node x y
has_place frame x y node is =
    let h = held frame x y (frame.owner x y) node is in
    (h.region, (h.has, within h.region x y h.holds))

owns : (node : NodeId) (owner : Option NodeId) → is_node node owner ≡ true → owner ≡ Some node
owns node None is = absurd (false≢true is)
owns node (Some other) is = let same : other.0 ≡ node.0 = eqb-true other.0 node.0 is in ap (λ n. Some (record { 0 = n })) same

spotted_by : (frame : FrameValue) (node : NodeId) (cell : ℕ × ℕ) (x y : ℕ) → if_owned frame node cell ≡ Some (x, y) → held_owner frame x y ≡ Some node
spotted_by frame node cell x y is = elim (cases_Bool (is_node node (held_owner frame cell.0 cell.1))) [
  | inl owned ↦
      let was : Some cell ≡ Some (x, y) = rw owned at is in
      let at = some_pair_parts cell.0 x cell.1 y was in
      ap₂ (held_owner frame) (sym at.0) (sym at.1) ∙ owns node (held_owner frame cell.0 cell.1) owned
  | inr not_owned ↦ absurd (let none : ◌≡◌ {A = Option (ℕ × ℕ)} None (Some (x, y)) = rw not_owned at is in cc)
]

spotted : (frame : FrameValue) (node : NodeId) (spot : Option (ℕ × ℕ)) (x y : ℕ) → option_and_then (if_owned frame node) spot ≡ Some (x, y) → held_owner frame x y ≡ Some node
spotted frame node None x y is = absurd (let none : ◌≡◌ {A = Option (ℕ × ℕ)} None (Some (x, y)) = is in cc)
spotted frame node (Some cell) x y is = spotted_by frame node cell x y is

pub is_lawful : (frame : FrameValue) → IsFrame (lawful frame)
is_lawful frame =
    record {
      owned = has_place frame;
      spotted = λ node x y is. spotted frame node (frame.spot node) x y is;
    }
