use Rattle.tx_layout.proofs.Ordinary.{ordinary_children}
use Rattle.tx_layout.proofs.laws.ordinary_children.Goals as goal

pub returns : goal.returns
returns c =
    ordinary_children
    (record {
      forms = c.one_form.ensures;
      axis = c.ordinary_axis.ensures;
      box = c.ordinary_box.ensures;
      cells = c.ordinary_cells.ensures;
      spans = c.ordinary_spans.ensures;
      follow = c.spans_follow.ensures;
      placed = c.all_are_placed.ensures;
    })
