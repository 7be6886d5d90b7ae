use Rattle.std.proofs.Common.{◌≡◌, ◌-◌, ◌≤◌, length}
use Rattle.tx_owner.specs.Lines.{LeadsTo, LinksLead}
use Rattle.tx_owner.proofs.line.Line.free_from.Given as goal

abbrev pub invariant-loop-at : goal.invariant-loop-at
invariant-loop-at l = record {
  links : LinksLead l.self-inside.cells.items l.self-inside.links.items;
  leads : LeadsTo l.self-inside.cells.items l.from l.at;
  same : l.self-inside.cells.items ≡ l.initial.self-inside.cells.items;
  wide : length l.self-inside.cells.items ≡ l.self-inside.width;
  width : l.self-inside.width ≡ l.initial.self-inside.width;
}

abbrev pub decreases-loop-at : goal.decreases-loop-at
decreases-loop-at l = l.initial.self-inside.width - l.at
