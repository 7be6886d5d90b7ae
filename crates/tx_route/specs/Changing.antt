-- What changes of the tree come to, and work that is done.
use Rattle.std.specs.Prelude.{ℕ, Option, Some, None, option_and_then}
use Rattle.std.specs.Option.{option_map_or}
use Rattle.tx_tree.specs.declared.fault.TreeFault.{TreeFault}
use Rattle.tx_tree.specs.declared.fault.TreeFault.TheVariants.{Grammar, NoNode, DuplicateId, TooMany, TooDeep, Root, Leaf, NotSiblings, NoMemory}
use Rattle.tx_tree.specs.declared.row.NodeId.{NodeId}
use Rattle.tx_widgets.specs.declared.reactions.message.Message.TheVariants.{Advance}
use Rattle.tx_route.specs.Deliveries.{nothing, missed_by}
use Rattle.tx_route.specs.declared.deliveries.Deliveries.{Deliveries}
use Rattle.tx_route.specs.declared.deliveries.Why.{Why}
use Rattle.tx_route.specs.declared.deliveries.Why.TheVariants.{NoTarget, DuplicateId as duplicate_id, TooMany as too_many, TooDeep as too_deep, Root as root, Leaf as leaf, NotSiblings as not_siblings}

-- Why an input is missed that a tree refuses. No tree refuses a change for a fault of a text, and `NoMemory` isn't a miss.
abbrev pub why_of : TreeFault → Option Why
why_of (Grammar line kind) = None
why_of NoNode = Some NoTarget
why_of DuplicateId = Some duplicate_id
why_of TooMany = Some too_many
why_of TooDeep = Some too_deep
why_of Root = Some root
why_of Leaf = Some leaf
why_of NotSiblings = Some not_siblings
why_of NoMemory = None

-- these deliveries, unless a tree refuses
abbrev pub unless_refused : Option TreeFault → Deliveries → Deliveries
unless_refused refusal d = option_map_or missed_by (option_and_then why_of refusal) d

-- a change of the row that is meant, where a tree may refuse it
abbrev pub changed : (NodeId → Option TreeFault) → Option NodeId → Deliveries
changed refusal None = missed_by NoTarget
changed refusal (Some node) = unless_refused (refusal node) (record nothing { target = Some node })

-- a change of two rows
abbrev pub changed_both : (NodeId → NodeId → Option TreeFault) → Option NodeId → Option NodeId → Deliveries
changed_both refusal (Some node) (Some other) =
    unless_refused (refusal node other) (record nothing { target = Some node; other = Some other })
changed_both refusal _ _ = missed_by NoTarget

-- so much more is done of the work of the row that is meant
abbrev pub advanced : ℕ → Option NodeId → Deliveries
advanced by None = missed_by NoTarget
advanced by (Some node) = record nothing { target = Some node; put = Some (node, Advance by) }
