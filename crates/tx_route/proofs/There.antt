-- Each row to which something is delivered is in the tree.
use Rattle.std.proofs.Common.{◌≡◌, ℕ, zero, suc, Bool, true, false, List, [], ◌∷◌, ◌++◌, Option, Some, None, is_some, option_map, reverse, refl, sym, ap, subst, ◌∙◌, arith}
use Rattle.std.specs.Prelude.{unwrap_or, option_and_then, ◌&&◌, if◌then◌else◌}
use Rattle.std.specs.Option.{option_map_or, option_or}
use Rattle.std.proofs.lemmas.List.{reverse-append}
use Rattle.tx_geom.specs.declared.places.Region.{Region}
use Rattle.tx_tree.specs.Edits.{edit_refusal, remove_refusal, move_refusal}
use Rattle.tx_tree.specs.Mount.{mount_refusal}
use Rattle.tx_tree.specs.Row.{number}
use Rattle.tx_tree.specs.Rows.{row_at, first_row, parent_of, ancestors_within, ancestors_of, depth_of}
use Rattle.tx_tree.specs.TreeValue.{TreeValue}
use Rattle.tx_tree.specs.declared.bind.Action.{Action}
use Rattle.tx_tree.specs.declared.bind.Key.{Key}
use Rattle.tx_tree.specs.declared.fault.TreeFault.{TreeFault}
use Rattle.tx_tree.specs.declared.row.NodeId.{NodeId}
use Rattle.tx_tree.specs.declared.row.Row.{Row}
use Rattle.tx_widgets.specs.Frame.{FrameValue}
use Rattle.tx_widgets.specs.declared.reactions.message.Message.{Message}
use Rattle.tx_route.specs.Bindings.{action_on}
use Rattle.tx_route.specs.Changing.{why_of, changed, changed_both, advanced}
use Rattle.tx_route.specs.Deliveries.{nothing, missed_by, IsThere, AreThere}
use Rattle.tx_route.specs.Focus.{is_enabled}
use Rattle.tx_route.specs.Pointing.{click_in, at_row, at_owner, at_cell, at_spot, at_target}
use Rattle.tx_route.specs.Pressing.{acted_or_put, priority_on, path_to, key_row}
use Rattle.tx_route.specs.Routing.{delivered}
use Rattle.tx_route.specs.declared.deliveries.Deliveries.{Deliveries}
use Rattle.tx_route.specs.declared.deliveries.Why.{Why}
use Rattle.tx_route.specs.declared.deliveries.Why.TheVariants.{NoTarget, OffScreen, NotShown}
use Rattle.tx_route.specs.declared.input.Input.{Input}
use Rattle.tx_route.specs.declared.input.Input.TheVariants.{Press, ClickAt, Click, HoverAt, Hover, Pause, Resize, AddClass, RemoveClass, SetText, SetInline, Disable, Enable, Mount, Remove, Before, Advance, Theme}
use Rattle.tx_route.proofs.Counted.{counted-there, row-number, parent-counted, count-before, first-counted}

-- a row of the rows is in them
abbrev Stands : List Row → Row → Type 0
Stands rows row = is_some (row_at (number row) rows) ≡ true

found-stands : (n : ℕ) (rows : List Row) (row : Row) → row_at n rows ≡ Some row → Stands rows row
found-stands n rows row is = ap (λ (k : ℕ). is_some (row_at k rows)) (row-number n rows row is) ∙ ap is_some is

no-one : (rows : List Row) → IsThere rows None
no-one rows n is = cc

one : (rows : List Row) (node : NodeId) → is_some (row_at node.0 rows) ≡ true → IsThere rows (Some node)
one rows node there n is =
    let e : node ≡ n = ap (λ (o : Option NodeId). unwrap_or o node) is in
    ap (λ (k : NodeId). is_some (row_at k.0 rows)) (sym e) ∙ there

-- rows of a path are in the tree
abbrev AllStand : List Row → List Row → Type 0
AllStand rows [] = Unit {0}
AllStand rows (row ∷ path) = Stands rows row × AllStand rows path

append-stand : (rows xs ys : List Row) → AllStand rows xs → AllStand rows ys → AllStand rows (xs ++ ys)
append-stand rows [] ys all more = more
append-stand rows (row ∷ xs) ys all more = (all.0, append-stand rows xs ys all.1 more)

reverse-stand : (rows xs : List Row) → AllStand rows xs → AllStand rows (reverse xs)
reverse-stand rows [] all = tt
reverse-stand rows (row ∷ xs) all =
    subst (AllStand rows) (sym (reverse-append (row ∷ []) xs)) (append-stand rows (reverse xs) (row ∷ []) (reverse-stand rows xs all.1) (all.0, tt))

above-stand : (rows : List Row) (count n : ℕ) → AllStand rows (ancestors_within count n rows)
above-stand rows zero n = tt
above-stand rows (suc count) n = by (above-stand rows count) (parent_of n rows) refl
  where
    by : ((k : ℕ) → AllStand rows (ancestors_within count k rows)) → (parent : Option Row) → parent_of n rows ≡ parent
        → AllStand rows (option_map_or (λ row. row ∷ ancestors_within count row.node.0 rows) parent [])
    by more None is = tt
    by more (Some parent) is =
        (counted-there (number parent) rows (omega (arith, parent-counted n rows parent is, count-before (number parent) n rows)), more (number parent))

path-stands : (rows : List Row) (n : ℕ) → AllStand rows (path_to n rows)
unfolding path_to
path-stands rows n = by (row_at n rows) refl
  where
    by : (row : Option Row) → row_at n rows ≡ row → AllStand rows (option_map_or (λ r. reverse (r ∷ ancestors_of n rows)) row [])
    by None is = tt
    by (Some row) is = reverse-stand rows (row ∷ ancestors_of n rows) (found-stands n rows row is, above-stand rows (depth_of n rows) n)

-- a row that has a priority binding on a path is in the tree
abbrev row_of : Option (NodeId × Action) → Option NodeId
row_of bound = option_map (λ action. action.0) bound

bound-there : (rows : List Row) (key : Key) (path : List Row) → AllStand rows path → IsThere rows (row_of (priority_on key path))
unfolding priority_on
bound-there rows key [] all = no-one rows
bound-there rows key (row ∷ path) all = by (bound-there rows key path all.1) (action_on key true row.binds)
  where
    by : IsThere rows (row_of (priority_on key path)) → (action : Option Action)
        → IsThere rows (row_of (option_or (option_map (λ a. (row.node, a)) action) (priority_on key path)))
    by more None = more
    by more (Some action) = one rows row.node all.0

-- a row that is put a message is in the tree
abbrev put_of : Option (NodeId × Message) → Option NodeId
put_of put = option_map (λ p. p.0) put

-- nothing but these
none-there : (rows : List Row) (d : Deliveries) → d.pointed ≡ None → d.action ≡ None → d.put ≡ None → d.target ≡ None → d.other ≡ None → AreThere rows d
none-there rows d pointed action put target other = record {
  pointed = subst (IsThere rows) (sym pointed) (no-one rows);
  action = subst (λ o. IsThere rows (row_of o)) (sym action) (no-one rows);
  put = subst (λ o. IsThere rows (put_of o)) (sym put) (no-one rows);
  target = subst (IsThere rows) (sym target) (no-one rows);
  other = subst (IsThere rows) (sym other) (no-one rows);
}

missed-there : (rows : List Row) (why : Why) → AreThere rows (missed_by why)
missed-there rows why = none-there rows (missed_by why) refl refl refl refl refl

nothing-there : (rows : List Row) → AreThere rows nothing
nothing-there rows = none-there rows nothing refl refl refl refl refl

acted-there : (rows : List Row) (key : Key) (node : NodeId) → is_some (row_at node.0 rows) ≡ true → (bound : Option (NodeId × Action)) → IsThere rows (row_of bound)
    → AreThere rows (acted_or_put key node bound)
acted-there rows key node there None acts = record {
  pointed = no-one rows;
  action = no-one rows;
  put = one rows node there;
  target = no-one rows;
  other = no-one rows;
}
acted-there rows key node there (Some bound) acts = record {
  pointed = no-one rows;
  action = acts;
  put = no-one rows;
  target = no-one rows;
  other = no-one rows;
}

keys-there : (rows : List Row) (key : Key) (node : Option NodeId) → IsThere rows node
    → AreThere rows (option_map_or (λ n. acted_or_put key n (priority_on key (path_to n.0 rows))) node nothing)
keys-there rows key None there = nothing-there rows
keys-there rows key (Some node) there =
    acted-there rows key node (there node refl) (priority_on key (path_to node.0 rows)) (bound-there rows key (path_to node.0 rows) (path-stands rows node.0))

first-there : (rows : List Row) (row : Option Row) → first_row rows ≡ row → IsThere rows (option_map (λ r. r.node) row)
first-there rows None is = no-one rows
first-there rows (Some row) is = one rows row.node (counted-there (number row) rows (first-counted rows row is))

key-row-there : (rows : List Row) (focused : Option NodeId) → IsThere rows focused → IsThere rows (key_row rows focused)
key-row-there rows None there = first-there rows (first_row rows) refl
key-row-there rows (Some node) there = there

module _ (rows : List Row) (frame : FrameValue) (is_click : Bool) (x y : ℕ) where
  region-there : (row : Row) → Stands rows row → (region : Option Region) → IsThere rows (put_of (option_map (λ r. (row.node, click_in x y r)) region))
  region-there row stands None = no-one rows
  region-there row stands (Some region) = one rows row.node stands

  click-there : (row : Row) → Stands rows row → (goes : Bool) → IsThere rows (put_of (if goes then option_map (λ r. (row.node, click_in x y r)) (frame.region row.node) else None))
  click-there row stands true = region-there row stands (frame.region row.node)
  click-there row stands false = no-one rows

  row-there : (row : Row) → Stands rows row → AreThere rows (at_row rows frame is_click x y row)
  row-there row stands = record {
    pointed = one rows row.node stands;
    action = no-one rows;
    put = click-there row stands (is_click && is_enabled rows row);
    target = no-one rows;
    other = no-one rows;
  }

  owner-there : (owner : Option NodeId) → AreThere rows (at_owner rows frame is_click x y owner)
  owner-there None = missed-there rows OffScreen
  owner-there (Some owner) = by (row_at owner.0 rows) refl
    where
      by : (row : Option Row) → row_at owner.0 rows ≡ row → AreThere rows (option_map_or (at_row rows frame is_click x y) row (missed_by NoTarget))
      by None is = missed-there rows NoTarget
      by (Some row) is = row-there row (found-stands owner.0 rows row is)

  cell-there : AreThere rows (at_cell rows frame is_click x y)
  unfolding at_cell
  cell-there = owner-there (frame.owner x y)

module _ (rows : List Row) (frame : FrameValue) (is_click : Bool) where
  spot-there : (node : NodeId) → is_some (row_at node.0 rows) ≡ true → (spot : Option (ℕ × ℕ)) → AreThere rows (at_spot rows frame is_click node spot)
  spot-there node there None = missed-there rows NotShown
  spot-there node there (Some spot) =
      let cell = cell-there rows frame is_click spot.0 spot.1 in
      record { pointed = cell.pointed; action = cell.action; put = cell.put; target = one rows node there; other = cell.other }

  target-there : (target : Option NodeId) → IsThere rows target → AreThere rows (at_target rows frame is_click target)
  target-there None there = missed-there rows NoTarget
  target-there (Some node) there = spot-there node (there node refl) (frame.spot node)

refused-there : (rows : List Row) (refused : Option Why) (d : Deliveries) → AreThere rows d → AreThere rows (option_map_or missed_by refused d)
refused-there rows None d all = all
refused-there rows (Some why) d all = missed-there rows why

changed-there : (rows : List Row) (refusal : NodeId → Option TreeFault) (target : Option NodeId) → IsThere rows target → AreThere rows (changed refusal target)
changed-there rows refusal None there = missed-there rows NoTarget
changed-there rows refusal (Some node) there =
    refused-there rows (option_and_then why_of (refusal node)) (record nothing { target = Some node })
    (record { pointed = no-one rows; action = no-one rows; put = no-one rows; target = there; other = no-one rows })

both-there : (rows : List Row) (refusal : NodeId → NodeId → Option TreeFault) (target other : Option NodeId) → IsThere rows target → IsThere rows other
    → AreThere rows (changed_both refusal target other)
both-there rows refusal None other there also = missed-there rows NoTarget
both-there rows refusal (Some node) None there also = missed-there rows NoTarget
both-there rows refusal (Some node) (Some other) there also =
    refused-there rows (option_and_then why_of (refusal node other)) (record nothing { target = Some node; other = Some other })
    (record { pointed = no-one rows; action = no-one rows; put = no-one rows; target = there; other = also })

advanced-there : (rows : List Row) (by : ℕ) (target : Option NodeId) → IsThere rows target → AreThere rows (advanced by target)
advanced-there rows by None there = missed-there rows NoTarget
advanced-there rows by (Some node) there = record {
  pointed = no-one rows;
  action = no-one rows;
  put = one rows node (there node refl);
  target = there;
  other = no-one rows;
}

pub delivered-there : (tree : TreeValue) (focused : Option NodeId) (frame : FrameValue) (input : Input) (target other : Option NodeId)
    → IsThere tree.rows focused → IsThere tree.rows target → IsThere tree.rows other → AreThere tree.rows (delivered tree focused frame input target other)
unfolding delivered
delivered-there tree focused frame (Press key) target other f t o = keys-there tree.rows key (key_row tree.rows focused) (key-row-there tree.rows focused f)
delivered-there tree focused frame (ClickAt x y) target other f t o = cell-there tree.rows frame true x y
delivered-there tree focused frame (Click selector) target other f t o = target-there tree.rows frame true target t
delivered-there tree focused frame (HoverAt x y) target other f t o = cell-there tree.rows frame false x y
delivered-there tree focused frame (Hover selector) target other f t o = target-there tree.rows frame false target t
delivered-there tree focused frame Pause target other f t o = nothing-there tree.rows
delivered-there tree focused frame (Resize size) target other f t o = nothing-there tree.rows
delivered-there tree focused frame (AddClass selector name) target other f t o = changed-there tree.rows (λ node. edit_refusal tree.rows node.0) target t
delivered-there tree focused frame (RemoveClass selector name) target other f t o = changed-there tree.rows (λ node. edit_refusal tree.rows node.0) target t
delivered-there tree focused frame (SetText selector text) target other f t o = changed-there tree.rows (λ node. edit_refusal tree.rows node.0) target t
delivered-there tree focused frame (SetInline selector text) target other f t o = changed-there tree.rows (λ node. edit_refusal tree.rows node.0) target t
delivered-there tree focused frame (Disable selector) target other f t o = changed-there tree.rows (λ node. edit_refusal tree.rows node.0) target t
delivered-there tree focused frame (Enable selector) target other f t o = changed-there tree.rows (λ node. edit_refusal tree.rows node.0) target t
delivered-there tree focused frame (Mount selector row) target other f t o = changed-there tree.rows (λ node. mount_refusal tree.rows tree.made node.0 row) target t
delivered-there tree focused frame (Remove selector) target other f t o = changed-there tree.rows (λ node. remove_refusal tree.rows node.0) target t
delivered-there tree focused frame (Before selector second) target other f t o = both-there tree.rows (λ node before. move_refusal tree.rows node.0 before.0) target other t o
delivered-there tree focused frame (Advance selector by) target other f t o = advanced-there tree.rows by target t
delivered-there tree focused frame (Theme dark) target other f t o = nothing-there tree.rows
