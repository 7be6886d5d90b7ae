-- What is delivered: nothing, or nothing but why an input is missed.
use Rattle.std.specs.Prelude.{◌≡◌, true, List, Option, Some, None, is_some, option_map}
use Rattle.tx_tree.specs.Rows.{row_at}
use Rattle.tx_tree.specs.declared.row.NodeId.{NodeId}
use Rattle.tx_tree.specs.declared.row.Row.{Row}
use Rattle.tx_route.specs.declared.deliveries.Deliveries.{Deliveries}
use Rattle.tx_route.specs.declared.deliveries.Why.{Why}

abbrev pub nothing : Deliveries
nothing = record { missed = None; pointed = None; action = None; put = None; target = None; other = None }

-- the input is missed
abbrev pub missed_by : Why → Deliveries
missed_by why = record nothing { missed = Some why }

-- where an input is missed, nothing else is delivered
abbrev pub IsAlone : Deliveries → Type 0
IsAlone d = (why : Why) → d.missed ≡ Some why → d ≡ missed_by why

-- a row is in the tree, if there is one
abbrev pub IsThere : List Row → Option NodeId → Type 0
IsThere rows node = (n : NodeId) → node ≡ Some n → is_some (row_at n.0 rows) ≡ true

-- each row to which something is delivered is in the tree
pub record AreThere (rows : List Row) (d : Deliveries) : Type 0 where
  pub pointed : IsThere rows d.pointed
  pub action : IsThere rows (option_map (λ action. action.0) d.action)
  pub put : IsThere rows (option_map (λ put. put.0) d.put)
  pub target : IsThere rows d.target
  pub other : IsThere rows d.other
