use Rattle.std.proofs.Common.{◌≡◌, ◌+◌, ◌-◌, ℕ, List, length, take, drop, sym, ap, ap₂, ◌∙◌, arith}
use Rattle.tx_cell.specs.Cell.{CellValue}
use Rattle.tx_cell.specs.Wrap.{fit_count, last_blank, broken_at}
use Rattle.tx_cell.proofs.WrapLemmas.{columns-all, columns-more, next_line-fits, next_line-breaks}
use Rattle.tx_cell.proofs.wrapping.next_line.Goals as goal

past_one : (n m : ℕ) → n ≡ m → n + 1 - 1 ≡ m
past_one n m same = omega arith

pub returns-then-count-cells : goal.returns-then-count-cells
returns-then-count-cells c =
    let all : fit_count c.args.width c.args.cells.now ≡ length c.args.cells.now = sym c.fit_count-count.ensures.count ∙ c.if-count-cells.true in
    let next = sym (next_line-fits c.args.width c.args.cells.now (columns-all c.args.width c.args.cells.now all)) in
    record { line = ap (λ (p : List CellValue × List CellValue). p.0) next; rest = ap (λ (p : List CellValue × List CellValue). p.1) next }

pub returns-else-count-cells : goal.returns-else-count-cells
returns-else-count-cells c =
    let differ = λ (all : fit_count c.args.width c.args.cells.now ≡ length c.args.cells.now). c.if-count-cells.false (c.fit_count-count.ensures.count ∙ all) in
    let next = sym (next_line-breaks c.args.width c.args.cells.now (columns-more c.args.width c.args.cells.now differ)) in
    let width = c.args.width in
    let cells = c.args.cells.now in
    let count = c.fit_count-count.ensures.count in
    let index = c.last_blank.ensures.index ∙ ap (λ n. last_blank (take n (drop 1 cells))) (past_one c.fit_count-count.result (fit_count width cells) count) in
    let same = ap₂ (λ blank n. broken_at blank n cells) index count ∙ next in
    record {
      line = c.broken_at.ensures.line ∙ ap (λ (p : List CellValue × List CellValue). p.0) same;
      rest = c.broken_at.ensures.rest ∙ ap (λ (p : List CellValue × List CellValue). p.1) same;
    }
