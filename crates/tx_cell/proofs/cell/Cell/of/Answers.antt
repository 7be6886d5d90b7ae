use Rattle.std.proofs.Common.{◌≡◌, ℕ, List, Option, Some, None, IfSome, get_or, sym, rules}
use Rattle.tx_cell.proofs.CellLemmas.{single_from_clusters}
use Rattle.tx_cell.proofs.PrintableLemmas.{IsOfItsText-printable}
use Rattle.tx_cell.proofs.lemmas.MadeCells.{IsMade-own, cell_of-IsMade}
use Rattle.tx_cell.specs.Cell.{CellValue, IsMade, cell_of}
use Rattle.tx_cell.specs.declared.pen.Pen.{Pen}
use Rattle.tx_cell.proofs.cell.Cell.of.Goals as goal

pub of_cluster-requires : goal.of_cluster-requires
of_cluster-requires c = record { single = single_from_clusters c.args.cluster.now _ c.utf8.cluster (search rules) }

of_text : (text : List ℕ) (pen : Pen) (made : Option CellValue) → made ≡ cell_of text pen → IfSome made (λ cell. IsMade pen cell)
of_text text pen None is = tt
of_text text pen (Some cell) is = cell_of-IsMade text pen cell (sym is)

pub returns-in-32-to-126-clause-made : goal.returns-in-32-to-126-clause-made
returns-in-32-to-126-clause-made c =
    rw c.printable.ensures.cell (IsMade-own _ (IsOfItsText-printable (get_or c.as_bytes.result.now 0 0) c.args.pen (search rules) (search rules)))

pub returns-in-None-clause-made : goal.returns-in-None-clause-made
unfolding cell_of
returns-in-None-clause-made c = of_text c.args.cluster.now c.args.pen c.of_cluster.result (search rules)

pub returns-in-Some-clause-made : goal.returns-in-Some-clause-made
unfolding cell_of
returns-in-Some-clause-made c = of_text c.args.cluster.now c.args.pen (Some c.replacement.result) (search rules)
