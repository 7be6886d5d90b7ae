-- What a mount does, and when it is refused.
use Rattle.std.specs.Prelude.{ℕ, ◌+◌, ◌==◌, ◌||◌, Bool, false, not, if◌then◌else◌, List, ◌∷◌, ◌++◌, Option, Some, None}
use Rattle.std.specs.List.{list_any}
use Rattle.tx_tree.specs.Kind.{holds_children, is_screen}
use Rattle.tx_tree.specs.Row.{placed}
use Rattle.tx_tree.specs.Rows.{row_at, depth_of, before_of, subtree_of, after_of, has_id}
use Rattle.tx_tree.specs.declared.row.Row.{Row}
use Rattle.tx_tree.specs.declared.row.NewRow.{NewRow}
use Rattle.tx_tree.specs.declared.fault.TreeFault.{TreeFault}
use Rattle.tx_tree.specs.declared.fault.TreeFault.TheVariants.{NoNode, Leaf, TooDeep, TooMany, DuplicateId}

-- whether a row has the id, if there is one
abbrev pub is_taken : Option (List ℕ) → List Row → Bool
is_taken None rows = false
is_taken (Some name) rows = list_any (has_id name) rows

-- why a row can't be mounted below this one
abbrev pub refusal_below : List Row → ℕ → NewRow → Option Row → Option TreeFault
refusal_below rows made new None = Some NoNode
refusal_below rows made new (Some parent) =
    if not (holds_children parent.kind) || is_screen new.kind then Some Leaf
    else if parent.depth == 63 then Some TooDeep
    else if made == 65536 then Some TooMany
    else if is_taken new.id rows then Some DuplicateId
    else None

-- why a row can't be mounted below the row with a number, where so many nodes were made
abbrev pub mount_refusal : List Row → ℕ → ℕ → NewRow → Option TreeFault
mount_refusal rows made parent new = refusal_below rows made new (row_at parent rows)

-- the rows with a new one, of the number n, as the last child of the row with a number
abbrev pub mounted : ℕ → ℕ → NewRow → List Row → List Row
mounted parent n new rows =
    before_of parent rows ++ (subtree_of parent rows ++ (placed new n (depth_of parent rows + 1) ∷ after_of parent rows))
