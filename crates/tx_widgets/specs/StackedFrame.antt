-- A frame for tests: three rows, one over another: row 1 has 10 columns and 5 rows, row 2 over it has 8 and 4 at the same corner, and row 3
-- over both has 4 and 2 from column 2 and row 1 on.
use Rattle.std.proofs.Common.{◌≡◌, ◌-◌, ◌<◌, ◌≤◌, ℕ, pos, Bool, true, false, ◌&&◌, if◌then◌else◌, refl, sym, ap, ap₂, ◌∙◌, subst, arith}
use Rattle.std.proofs.lemmas.Int.{ints}
use Rattle.std.proofs.lemmas.Bool.{and_parts, leb-true, eqb-true}
use Rattle.std.specs.Prelude.{Option, Some, None, unwrap_or, nat_lt, nat_le, ◌==◌}
use Rattle.tx_geom.specs.Region.{Holds, IsAmong}
use Rattle.tx_geom.specs.declared.places.Region.{Region}
use Rattle.tx_tree.specs.declared.row.NodeId.{NodeId}
use Rattle.tx_widgets.specs.Frame.{FrameValue, HasPlace, IsFrame, place}

-- whether a cell lies in a part of so many columns and rows from a cell on
abbrev pub lies_in : ℕ → ℕ → ℕ → ℕ → ℕ → ℕ → Bool
lies_in left top width height x y = (nat_le left x && nat_lt (x - left) width) && (nat_le top y && nat_lt (y - top) height)

abbrev numbered : ℕ → NodeId
numbered n = record { 0 = n }

-- the same as a region
abbrev pub part : ℕ → ℕ → ℕ → ℕ → Region
part left top width height = record { x = pos left; y = pos top; width = width; height = height }

abbrev owner_by : Bool → Bool → Bool → Option NodeId
owner_by three two one = if three then Some (numbered 3) else (if two then Some (numbered 2) else (if one then Some (numbered 1) else None))

abbrev region_by : Bool → Bool → Bool → Option Region
region_by three two one = if three then Some (part 2 1 4 2) else (if two then Some (part 0 0 8 4) else (if one then Some (part 0 0 10 5) else None))

abbrev spot_by : Bool → Bool → Bool → Option (ℕ × ℕ)
spot_by three two one = if three then Some (2, 1) else (if two then Some (0, 0) else (if one then Some (8, 0) else None))

abbrev shown_by : Bool → Bool → Bool → Bool
shown_by three two one = if three then true else (if two then true else one)

-- what it tells
abbrev pub stacked : FrameValue
stacked =
    record {
      owner = λ x y. owner_by (lies_in 2 1 4 2 x y) (lies_in 0 0 8 4 x y) (lies_in 0 0 10 5 x y);
      spot = λ node. spot_by (node.0 == 3) (node.0 == 2) (node.0 == 1);
      region = λ node. region_by (node.0 == 3) (node.0 == 2) (node.0 == 1);
      shown = λ node. shown_by (node.0 == 3) (node.0 == 2) (node.0 == 1);
    }

among : (from width x : ℕ) → (nat_le from x && nat_lt (x - from) width) ≡ true → IsAmong (pos from) width (pos x)
among from width x inside =
    let parts = and_parts (nat_le from x) (nat_lt (x - from) width) inside in
    let least : from ≤ x = leb-true from x parts.0 in
    let less : x - from < width = leb-true _ width parts.1 in
    record { from_on = omega (arith, ints); before = omega (arith, ints) }

holds : (left top width height x y : ℕ) → lies_in left top width height x y ≡ true → Holds (part left top width height) (place x y)
holds left top width height x y inside =
    let parts = and_parts (nat_le left x && nat_lt (x - left) width) (nat_le top y && nat_lt (y - top) height) inside in
    record { column = among left width x parts.0; row = among top height y parts.1 }

owned-by : (x y : ℕ) (node : NodeId) (three two one : Bool) → lies_in 2 1 4 2 x y ≡ three → lies_in 0 0 8 4 x y ≡ two → lies_in 0 0 10 5 x y ≡ one
    → owner_by three two one ≡ Some node → HasPlace stacked node x y
owned-by x y node true two one third second first is =
    let same : numbered 3 ≡ node = cc in
    subst (λ n. HasPlace stacked n x y) same (part 2 1 4 2, (refl, holds 2 1 4 2 x y third))
owned-by x y node false true one third second first is =
    let same : numbered 2 ≡ node = cc in
    subst (λ n. HasPlace stacked n x y) same (part 0 0 8 4, (refl, holds 0 0 8 4 x y second))
owned-by x y node false false true third second first is =
    let same : numbered 1 ≡ node = cc in
    subst (λ n. HasPlace stacked n x y) same (part 0 0 10 5, (refl, holds 0 0 10 5 x y first))
owned-by x y node false false false third second first is = absurd (let none : None ≡ Some node = is in cc)

column_of : {a b x y : ℕ} → ◌≡◌ {A = Option (ℕ × ℕ)} (Some (a, b)) (Some (x, y)) → a ≡ x
column_of is = ap (λ (o : Option (ℕ × ℕ)). (unwrap_or o (0, 0)).0) is

row_of : {a b x y : ℕ} → ◌≡◌ {A = Option (ℕ × ℕ)} (Some (a, b)) (Some (x, y)) → b ≡ y
row_of is = ap (λ (o : Option (ℕ × ℕ)). (unwrap_or o (0, 0)).1) is

spotted-by : (node : NodeId) (x y : ℕ) (three two one : Bool) → (node.0 == 3) ≡ three → (node.0 == 2) ≡ two → (node.0 == 1) ≡ one
    → spot_by three two one ≡ Some (x, y) → stacked.owner x y ≡ Some node
spotted-by node x y true two one third second first is =
    ap₂ stacked.owner (sym (column_of is)) (sym (row_of is)) ∙ ap (λ n. Some (numbered n)) (sym (eqb-true node.0 3 third))
spotted-by node x y false true one third second first is =
    ap₂ stacked.owner (sym (column_of is)) (sym (row_of is)) ∙ ap (λ n. Some (numbered n)) (sym (eqb-true node.0 2 second))
spotted-by node x y false false true third second first is =
    ap₂ stacked.owner (sym (column_of is)) (sym (row_of is)) ∙ ap (λ n. Some (numbered n)) (sym (eqb-true node.0 1 first))
spotted-by node x y false false false third second first is = absurd (let none : None ≡ Some (x, y) = is in cc)

pub stacked-law : IsFrame stacked
stacked-law = record {
  owned = λ x y node is. owned-by x y node _ _ _ refl refl refl is;
  spotted = λ node x y is. spotted-by node x y _ _ _ refl refl refl is;
}
