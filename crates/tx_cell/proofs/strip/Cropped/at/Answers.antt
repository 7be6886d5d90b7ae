use Rattle.std.proofs.Common.{◌+◌, ◌<◌, Some, length, ap, ◌∙◌, sym}
use Rattle.std.specs.Prelude.{◌==◌}
use Rattle.tx_cell.specs.Cell.{CellValue}
use Rattle.tx_cell.specs.Strip.{cut_front, behind_start, before_end}
use Rattle.tx_cell.proofs.StripLemmas.{slice_get-cut, length-cut_end, length-cut_front}
use Rattle.tx_cell.proofs.strip.Cropped.at.Goals as goal

pub bounds-self-inside-index : goal.bounds-self-inside-index
bounds-self-inside-index c =
    let asked = rw (← c.self.view_is) at c.requires in
    rw (← length-cut_front c.self.inside.cells.now, ← length-cut_end (cut_front c.self.inside.cells.now)) asked.inside

pub returns : goal.returns
returns c =
    let cells = c.self.inside.cells.now in
    let asked = rw (← c.self.view_is) at c.requires in
    let inside : c.args.x < length cells = rw (← length-cut_front cells, ← length-cut_end (cut_front cells)) asked.inside in
    record {
      cell = rw (← c.self.view_is) (slice_get-cut cells c.args.x c.index-self-index.result inside c.index-self-index.is
          ∙ ap (λ (cell : CellValue). Some (before_end (c.args.x + 1 == length cells) cell)) (ap (behind_start (c.args.x == 0)) c.index-self-index.is ∙ sym c.behind_start.ensures) ∙ ap (λ (cell : CellValue). Some cell) (sym c.before_end.ensures));
    }
