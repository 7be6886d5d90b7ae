use Rattle.std.proofs.Common.{◌≡◌, ◌-◌, suc, length, sym, ap, set, ◌∙◌, arith}
use Rattle.tx_cell.specs.Strip.{without_tail}
use Rattle.tx_cell.proofs.StripLemmas.{cut_end-set, cut_end-nil}
use Rattle.tx_cell.proofs.cut.blank_wide_end.Goals as goal

pub returns-then-len-gt0 : goal.returns-then-len-gt0
returns-then-len-gt0 c =
    let cells = c.args.cells.now in
    let last : length cells ≡ suc (length cells - 1) = omega arith in
    record {
      cells = ap (set cells (length cells - 1)) (c.without_tail.ensures.cell ∙ ap without_tail c.index-cells-len.is)
          ∙ sym (cut_end-set cells (length cells - 1) c.index-cells-len.result last);
    }

pub returns-else-len-gt0 : goal.returns-else-len-gt0
returns-else-len-gt0 c = record { cells = cut_end-nil _ c.if-len-gt0.false }
