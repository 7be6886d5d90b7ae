use Rattle.std.proofs.Common.{sym, ◌∙◌, rules}
use Rattle.tx_cell.proofs.CellLemmas.{IsOfItsText-fit}
use Rattle.tx_cell.proofs.cell.Cell.of_cluster.Goals as goal

pub by_width-requires : goal.by_width-requires
by_width-requires c = record {
  own = IsOfItsText-fit _ _ c.args.pen (search rules) c.utf8.cluster c.requires.single (sym c.is_tab.ensures ∙ c.if-is_tab.false) (sym c.is_unfit.ensures ∙ c.if-is_unfit.false) c.width.ensures.value;
}
