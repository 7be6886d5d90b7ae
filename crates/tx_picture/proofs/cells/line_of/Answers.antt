use Rattle.std.proofs.Common.{◌++◌, List, [], ◌∷◌, map, sym, ap, ◌∙◌, arith}
use Rattle.std.specs.List.{range_with_len}
use Rattle.std.proofs.lemmas.List.FromFn.{map-range_with_len_more}
use Rattle.tx_cell.specs.Cell.{CellValue}
use Rattle.tx_picture.proofs.TickLemmas.{composed_both}
use Rattle.tx_picture.proofs.cells.line_of.Goals as goal
use Rattle.tx_picture.specs.Cells.{cell_by}
use Rattle.tx_picture.specs.Picture.{shown_cell}

pub loop-x-preserved : goal.loop-x-preserved
loop-x-preserved g c =
    let cells = cell_by c.args.entries.now c.args.drawings.now c.args.y in
    record {
      cells = c.in_ok-push.ensures.items ∙ ap (λ (cs : List CellValue). cs ++ (c.shown_cell.result ∷ [])) c.loop-x.invariant.cells
          ∙ ap (λ (cell : CellValue). map (shown_cell cells c.args.owners.now) (range_with_len 0 c.loop-x.x) ++ (cell ∷ [])) c.shown_cell.ensures
          ∙ sym (map-range_with_len_more (shown_cell cells c.args.owners.now) 0 c.loop-x.x c.loop-x.x (omega arith));
      ticks = composed_both g.L.Ledger.ticked c.loop-x.x 1 c.args.steps.now.ledger c.loop-x.steps.ledger c.tick.new.self.ledger c.loop-x.invariant.ticks c.tick.ensures;
    }
