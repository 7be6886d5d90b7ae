use Rattle.std.proofs.Common.{◌≡◌, ◌<◌, ◌-◌, suc, None, length, drop, sym, ap, ◌∙◌, arith}
use Rattle.tx_cell.specs.Wrap.{last_blank}
use Rattle.tx_cell.proofs.WrapLemmas.{last_blank-found}
use Rattle.tx_cell.proofs.wrapping.last_blank.Goals as goal

pub returns-then-is_blank-clause-index : goal.returns-then-is_blank-clause-index
returns-then-is_blank-clause-index c =
    let cells = c.args.cells.now in
    let index = c.loop-index.index - 1 in
    let next : suc index ≡ c.loop-index.index = omega arith in
    let inside : index < length cells = omega arith in
    let none : last_blank (drop (suc index) cells) ≡ None = ap (λ n. last_blank (drop n cells)) next ∙ c.loop-index.invariant in
    sym (last_blank-found cells index c.index-cells-index.result inside c.index-cells-index.is (sym c.is_blank.ensures ∙ c.if-is_blank.true) none)
