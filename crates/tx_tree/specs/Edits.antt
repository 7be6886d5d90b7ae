-- What the edits of a tree do, and when they are refused.
use Rattle.std.specs.Prelude.{ℕ, ◌==◌, ◌||◌, Bool, false, not, if◌then◌else◌, List, [], ◌∷◌, length, map, Option, Some, None, is_none, option_map, nat_eq}
use Rattle.std.specs.Option.{option_eq, option_map_or}
use Rattle.tx_tree.specs.Kind.{private_at}
use Rattle.tx_tree.specs.Row.{number, has_number}
use Rattle.tx_tree.specs.Rows.{row_at, parent_of}
use Rattle.tx_tree.specs.declared.kind.Private.{Private}
use Rattle.tx_tree.specs.declared.row.Row.{Row}
use Rattle.tx_tree.specs.declared.fault.TreeFault.{TreeFault}
use Rattle.tx_tree.specs.declared.fault.TreeFault.TheVariants.{NoNode, Root, NotSiblings}

-- whether the first row has this number
abbrev pub is_first : ℕ → List Row → Bool
is_first n [] = false
is_first n (row ∷ rows) = has_number n row

-- why an edit of the row with a number is refused
abbrev pub edit_refusal : List Row → ℕ → Option TreeFault
edit_refusal rows n = if is_none (row_at n rows) then Some NoNode else None

-- why the row with a number can't be removed
abbrev pub remove_refusal : List Row → ℕ → Option TreeFault
remove_refusal rows n =
    if is_none (row_at n rows) then Some NoNode
    else if is_first n rows then Some Root
    else None

-- whether two rows have one parent
abbrev pub have_one_parent : List Row → ℕ → ℕ → Bool
have_one_parent rows n m = option_eq nat_eq (option_map number (parent_of n rows)) (option_map number (parent_of m rows))

-- why a row can't be moved before another
abbrev pub move_refusal : List Row → ℕ → ℕ → Option TreeFault
move_refusal rows n before =
    if is_none (row_at n rows) || is_none (row_at before rows) then Some NoNode
    else if n == before || not (have_one_parent rows n before) then Some NotSiblings
    else None

-- the rows with the row of a number changed
abbrev pub changed_at : ℕ → (Row → Row) → List Row → List Row
changed_at n change rows = map (λ row. if has_number n row then change row else row) rows

-- a row with another text
abbrev pub with_text : List ℕ → Row → Row
with_text text row = record row { text = text; private = private_at (length text) row.private }

-- a row with another inline text
abbrev pub with_inline : List ℕ → Row → Row
with_inline text row = record row { inline = text }

-- a row that is disabled or not
abbrev pub with_disabled : Bool → Row → Row
with_disabled to row = record row { disabled = to }

-- a row with another text and another private state
abbrev pub with_state : List ℕ → Private → Row → Row
with_state text private row = record row { text = text; private = private }

-- a row with other classes
abbrev pub with_classes : (List (List ℕ) → List (List ℕ)) → Row → Row
with_classes change row = record row { classes = record row.classes { names = change row.classes.names } }

-- the classes of the row with a number
abbrev pub classes_of : ℕ → List Row → List (List ℕ)
classes_of n rows = option_map_or (λ row. row.classes.names) (row_at n rows) []
