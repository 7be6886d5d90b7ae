-- What a call that goes over the rows answers.
use Rattle.std.specs.Prelude.{◌≡◌, List, ◌++◌, Option, Some, None, Result, Ok, Err}
use Rattle.tx_geom.specs.declared.choices.Axis.{Axis}
use Rattle.tx_map.specs.LayoutMap.{Mapped}
use Rattle.tx_map.specs.declared.fault.ComposeFault.{ComposeFault}
use Rattle.tx_map.specs.declared.fault.ComposeFault.TheVariants.{Fraction, NoMemory}
use Rattle.tx_box.specs.declared.items.LayoutFault.{LayoutFault}
use Rattle.tx_box.specs.declared.items.LayoutFault.TheVariants as layout
use Rattle.tx_read.specs.Answer.{Tells}
use Rattle.tx_tree.specs.declared.row.NodeId.{NodeId}

-- what a fault tells: the container that is undefined, with its axis
abbrev pub told : ComposeFault → Option (NodeId × Axis)
told (Fraction node axis) = Some (node, axis)
told NoMemory = None

-- what is meant was added after a list
pub record IsBehind {A : Type 0} (old new : List A) (meant : Mapped (List A)) : Type 0 where
  pub added : List A
  pub all : meant ≡ Ok added
  pub behind : new ≡ old ++ added

-- what a call added after a list, or why it added not all of it, is what is meant, unless it ran out of memory
abbrev pub Adds : {A R : Type 0} → List A → List A → Result R ComposeFault → Mapped (List A) → Type 0
Adds old new (Ok done) meant = IsBehind old new meant
Adds old new (Err fault) meant = Tells (told fault) meant

-- the fault of a container
abbrev pub fault_at : NodeId → LayoutFault → ComposeFault
fault_at node (layout.Fraction axis) = Fraction node axis
fault_at node layout.NoMemory = NoMemory
