use Rattle.std.proofs.Common.{[], length, sym, ap, ◌∙◌}
use Rattle.std.specs.Option.{option_map_or}
use Rattle.std.specs.Prelude.{Option}
use Rattle.tx_cell.specs.Cell.{CellValue}
use Rattle.tx_cell.specs.Strip.{with_tail}
use Rattle.tx_cell.proofs.StripLemmas.{same_columns, length-with_tail_width}
use Rattle.tx_cell.proofs.columns.cluster_columns.Goals as goal

pub returns-in-None : goal.returns-in-None
returns-in-None c = record {
  columns = λ pen. ap (λ (made : Option CellValue). length (option_map_or with_tail made [])) c.in-None.ensures.cell ∙ same_columns c.args.cluster.now c.default.result pen;
}

pub returns-in-Some : goal.returns-in-Some
returns-in-Some c =
    record {
      columns = λ pen. c.width.ensures.width ∙ sym (length-with_tail_width c.default.result c.in-Some.cell c.in-Some.ensures.made)
          ∙ ap (λ (made : Option CellValue). length (option_map_or with_tail made [])) c.in-Some.ensures.cell
          ∙ same_columns c.args.cluster.now c.default.result pen;
    }
