-- The frame of a picture keeps the law of frames.
use Rattle.std.proofs.Common.{◌≡◌, ℕ, ◌+◌, ◌<◌, Bool, true, false, cond, List, [], ◌∷◌, length, map, Option, Some, None, ◌∙◌, refl, sym, ap, ap₂, subst, inl, inr, arith}
use Rattle.std.proofs.lemmas.Bool.{and_parts, cases_Bool, eqb-true, false≢true, ltb-true}
use Rattle.std.proofs.lemmas.List.Elements.{All-get_or}
use Rattle.std.proofs.lemmas.Option.{get_or_from_slice_get, same_Some, slice_get_within}
use Rattle.std.specs.Prelude.{◌==◌, nat_lt, is_some, option_map, slice_get, if◌then◌else◌}
use Rattle.std.specs.Option.{option_and_then}
use Rattle.tx_compose.specs.Frame.{frame_with, is_on}
use Rattle.tx_compose.specs.Kept.{AreOwned, node_at}
use Rattle.tx_compose.specs.Presented.{Presented, styles_of}
use Rattle.tx_compose.specs.Sight.{within}
use Rattle.tx_compose.proofs.Spots.{IsFrom, IsMet, IsMetIn, from_range, met_in}
use Rattle.tx_geom.specs.declared.places.Size.{Size}
use Rattle.tx_map.specs.Laws.{FillsScreen, HasOneEach}
use Rattle.tx_map.specs.Lookup.{entry_of, is_of}
use Rattle.tx_map.specs.declared.entry.Entry.{Entry}
use Rattle.tx_owner.specs.Laws.{EachCellIsOwned, IsTopmost, OwnersAreOfCells, TopmostIsThat}
use Rattle.tx_owner.specs.Owner.{Placed, at_cell, is_entry_of, is_seen, is_within, line_owners, owner, owner_node, owners, shows_at, spot, topmost}
use Rattle.tx_sizes.specs.Forest.{Styles}
use Rattle.tx_tree.specs.declared.row.NodeId.{NodeId}
use Rattle.tx_widgets.specs.Frame.{HasPlace, IsFrame}

-- ---- the owner of a cell

-- an entry at its place owns a cell, and its region holds it
record IsOwner (styles : Styles) (entries : List Entry) (x y : ℕ) : Type 0 where
  placed : Placed
  is : topmost styles entries x y ≡ Some placed
  stands : slice_get entries placed.place ≡ Some placed.entry
  holds : is_within placed.entry.region x y ≡ true

shown_within : (styles : Styles) (x y : ℕ) (entry : Entry) → shows_at styles x y entry ≡ true → is_within entry.region x y ≡ true
unfolding shows_at
shown_within styles x y entry shows =
    (and_parts (is_within entry.region x y) (is_within entry.clip x y) (and_parts (is_seen styles entry) _ shows).1).0

owner_by : TopmostIsThat → (styles : Styles) (entries : List Entry) (x y : ℕ) (placed : Placed) → topmost styles entries x y ≡ Some placed → IsOwner styles entries x y
owner_by that styles entries x y placed is =
    let t = that styles entries x y placed is in
    record { placed = placed; is = is; stands = t.stands; holds = shown_within styles x y placed.entry t.shows }

-- what a frame's entries are: the first one fills the screen, and each is found by its node
pub record HasEntries (shown : Presented) (entries : List Entry) : Type 0 where
  pub first : Entry
  pub rest : List Entry
  pub all : entries ≡ first ∷ rest
  pub fills : FillsScreen shown.size first
  pub one_each : HasOneEach entries

-- what is known of owners
pub record KnowsOwners : Type 0 where
  pub that : TopmostIsThat
  pub of_cells : OwnersAreOfCells
  pub each : EachCellIsOwned

module _ (know : KnowsOwners) (shown : Presented) (entries : List Entry) (has : HasEntries shown entries) where
  sides : (x y : ℕ) → is_on shown.size x y ≡ true → (x < shown.size.width) × (y < shown.size.height)
  sides x y on =
      let parts = and_parts (nat_lt x shown.size.width) (nat_lt y shown.size.height) on in
      (ltb-true x shown.size.width parts.0, ltb-true y shown.size.height parts.1)

  some_owner : (x y : ℕ) → x < shown.size.width → y < shown.size.height → IsOwner (styles_of shown) entries x y
  some_owner x y less lower =
      let found = know.each (styles_of shown) has.first has.rest shown.size has.fills x y less lower in
      owner_by know.that (styles_of shown) entries x y found.0 (ap (λ (l : List Entry). topmost (styles_of shown) l x y) has.all ∙ found.1)

  place_of : (x y : ℕ) → x < shown.size.width → y < shown.size.height → (o : IsOwner (styles_of shown) entries x y)
      → at_cell (owners (styles_of shown) entries shown.size) x y ≡ Some o.placed.place
  unfolding owner
  place_of x y less lower o = know.of_cells (styles_of shown) entries shown.size x y less lower ∙ ap (option_map (λ placed. placed.place)) o.is

  node_of : (x y : ℕ) (o : IsOwner (styles_of shown) entries x y) → owner_node (styles_of shown) entries x y ≡ Some o.placed.entry.node
  node_of x y o = ap (option_map (λ placed. placed.entry.node)) o.is

  pub are_owned : AreOwned shown entries (owners (styles_of shown) entries shown.size)
  are_owned =
      record {
        owner = λ x y on.
            let s = sides x y on in
            let o = some_owner x y s.0 s.1 in
            ap (node_at entries) (place_of x y s.0 s.1 o) ∙ (ap (option_map (λ (entry : Entry). entry.node)) o.stands ∙ sym (node_of x y o));
        some = λ x y on.
            let s = sides x y on in
            ap is_some (node_of x y (some_owner x y s.0 s.1));
      }

  -- ---- the region of an owner

  found_at : (place : ℕ) (entry : Entry) → slice_get entries place ≡ Some entry → entry_of entry.node.0 entries ≡ Some entry
  found_at place entry stands =
      let inside = slice_get_within entries place entry stands in
      let whole = All-get_or (λ (e : Entry). entry_of e.node.0 entries ≡ Some e) entries place entry inside has.one_each.itself in
      subst (λ (e : Entry). entry_of e.node.0 entries ≡ Some e) (get_or_from_slice_get entries place entry entry stands) whole

  owner_has : (x y : ℕ) (o : IsOwner (styles_of shown) entries x y) → HasPlace (frame_with shown entries) o.placed.entry.node x y
  owner_has x y o =
      (o.placed.entry.region, (ap (option_map (λ (entry : Entry). entry.region)) (found_at o.placed.place o.placed.entry o.stands), within o.placed.entry.region x y o.holds))

  owned_by : (x y : ℕ) (node : NodeId) (on : Bool) → is_on shown.size x y ≡ on
      → (if on then owner_node (styles_of shown) entries x y else None) ≡ Some node → HasPlace (frame_with shown entries) node x y
  owned_by x y node true on is =
      let s = sides x y on in
      let o = some_owner x y s.0 s.1 in
      let same : o.placed.entry.node ≡ node = same_Some o.placed.entry.node node (sym (node_of x y o) ∙ is) in
      subst (λ n. HasPlace (frame_with shown entries) n x y) same (owner_has x y o)
  owned_by x y node false on is = absurd (let none : None ≡ Some node = is in cc)

  -- ---- the cell that a row owns first

  -- the place that passes the test of a node is that of an entry of it
  record IsPlaceOf (n : ℕ) (cell : Option ℕ) : Type 0 where
    place : ℕ
    entry : Entry
    is : cell ≡ Some place
    stands : slice_get entries place ≡ Some entry
    of : is_of n entry ≡ true

  place_from : (n place : ℕ) (entry : Option Entry) → slice_get entries place ≡ entry → is_entry_of entries n (Some place) ≡ true → IsPlaceOf n (Some place)
  place_from n place None here passes = absurd (false≢true (let e : false ≡ true = rw here at passes in e))
  place_from n place (Some entry) here passes = record { place = place; entry = entry; is = refl; stands = here; of = (let e : is_of n entry ≡ true = rw here at passes in e) }

  place_by : (n : ℕ) (cell : Option ℕ) → is_entry_of entries n cell ≡ true → IsPlaceOf n cell
  place_by n None passes = absurd (false≢true passes)
  place_by n (Some place) passes = place_from n place (slice_get entries place) refl passes

  node_by : (n : NodeId) (entry : Entry) → is_of n.0 entry ≡ true → entry.node ≡ n
  node_by n entry is = ap (λ m. record { 0 = m }) (sym (eqb-true n.0 entry.node.0 is))

  spotted_at : (n : NodeId) (x y : ℕ) (line : List (Option ℕ)) (cell : Option ℕ) → x < shown.size.width → y < shown.size.height
      → slice_get (owners (styles_of shown) entries shown.size) y ≡ Some line → slice_get line x ≡ Some cell → is_entry_of entries n.0 cell ≡ true
      → owner_node (styles_of shown) entries x y ≡ Some n
  spotted_at n x y line cell less lower there here passes =
      let o = some_owner x y less lower in
      let at : at_cell (owners (styles_of shown) entries shown.size) x y ≡ cell =
      ap (option_and_then (λ l. option_and_then (λ (place : Option ℕ). place) (slice_get l x))) there ∙ ap (option_and_then (λ (place : Option ℕ). place)) here in
      let p = place_by n.0 cell passes in
      let same : o.placed.place ≡ p.place = same_Some o.placed.place p.place (sym (place_of x y less lower o) ∙ (at ∙ p.is)) in
      let one : o.placed.entry ≡ p.entry = same_Some o.placed.entry p.entry (sym o.stands ∙ (ap (slice_get entries) same ∙ p.stands)) in
      node_of x y o ∙ ap (λ m. Some m) (ap (λ (e : Entry). e.node) one ∙ node_by n p.entry p.of)

  spotted_in : (n : NodeId) (x y : ℕ) → spot entries (owners (styles_of shown) entries shown.size) n.0 ≡ Some (x, y)
      → (x < shown.size.width) × (y < shown.size.height) × (owner_node (styles_of shown) entries x y ≡ Some n)
  spotted_in n x y is =
      let m = met_in (is_entry_of entries n.0) 0 (owners (styles_of shown) entries shown.size) x y is in
      let row : m.above ≡ y = omega (arith, m.is) in
      let column : m.at.place ≡ x = omega (arith, m.at.is) in
      let there : slice_get (owners (styles_of shown) entries shown.size) y ≡ Some m.line = ap (slice_get (owners (styles_of shown) entries shown.size)) (sym row) ∙ m.stands in
      let here : slice_get m.line x ≡ Some m.at.item = ap (slice_get m.line) (sym column) ∙ m.at.stands in
      let down = from_range (λ j. line_owners (styles_of shown) entries shown.size.width j) shown.size.height y m.line there in
      let across = from_range (λ i. owner (styles_of shown) entries i y) shown.size.width x m.at.item (ap (λ l. slice_get l x) (sym down.is) ∙ here) in
      (across.within, down.within, spotted_at n x y m.line m.at.item across.within down.within there here m.at.passes)

  owned_on : (x y : ℕ) (owner : Option NodeId) → x < shown.size.width → y < shown.size.height → (if is_on shown.size x y then owner else None) ≡ owner
  owned_on x y owner less lower = elim (cases_Bool (is_on shown.size x y)) [
    | inl on ↦ rw on refl
    | inr off ↦ absurd (false≢true (sym off ∙ grind (arith, less, lower)))
  ]

  pub is_frame : IsFrame (frame_with shown entries)
  is_frame =
      record {
        owned = λ x y node is. owned_by x y node (is_on shown.size x y) refl is;
        spotted = λ node x y is.
            let s = spotted_in node x y is in
            owned_on x y (owner_node (styles_of shown) entries x y) s.0 s.1 ∙ s.2;
      }
