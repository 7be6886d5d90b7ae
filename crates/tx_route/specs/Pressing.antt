-- What a key does: a priority binding acts on the path down to the focused row, or the key goes to that row.
use Rattle.std.specs.Prelude.{ℕ, true, List, [], ◌∷◌, Option, Some, None, option_map, reverse}
use Rattle.std.specs.Option.{option_map_or, option_or}
use Rattle.tx_tree.specs.Rows.{row_at, first_row, ancestors_of}
use Rattle.tx_tree.specs.declared.bind.Action.{Action}
use Rattle.tx_tree.specs.declared.bind.Key.{Key}
use Rattle.tx_tree.specs.declared.row.NodeId.{NodeId}
use Rattle.tx_tree.specs.declared.row.Row.{Row}
use Rattle.tx_widgets.specs.declared.reactions.message.Message.TheVariants.{Key as key_pressed}
use Rattle.tx_route.specs.Bindings.{action_on}
use Rattle.tx_route.specs.Deliveries.{nothing}
use Rattle.tx_route.specs.declared.deliveries.Deliveries.{Deliveries}

-- the path from the Screen down to the row with a number
unfoldable pub path_to : ℕ → List Row → List Row
path_to n rows = option_map_or (λ row. reverse (row ∷ ancestors_of n rows)) (row_at n rows) []

-- a row's own priority binding on a key: the row, and the action of that binding
abbrev pub own_priority : Key → Row → Option (NodeId × Action)
own_priority key row = option_map (λ action. (row.node, action)) (action_on key true row.binds)

-- that of the first row of a path that has one
unfoldable pub priority_on : Key → List Row → Option (NodeId × Action)
priority_on key [] = None
priority_on key (row ∷ path) = option_or (own_priority key row) (priority_on key path)

-- the action of a priority binding, or else the key itself for a row
abbrev pub acted_or_put : Key → NodeId → Option (NodeId × Action) → Deliveries
acted_or_put key node (Some action) = record nothing { action = Some action }
acted_or_put key node None = record nothing { put = Some (node, key_pressed key) }

-- the row to which keys go: the focused one, or else the Screen, which is the first
abbrev pub key_row : List Row → Option NodeId → Option NodeId
key_row rows focused = option_or focused (option_map (λ row. row.node) (first_row rows))

abbrev pub pressed : List Row → Option NodeId → Key → Deliveries
pressed rows focused key =
    option_map_or (λ node. acted_or_put key node (priority_on key (path_to node.0 rows))) (key_row rows focused) nothing
