use Rattle.std.proofs.Common.{◌∙◌, ap}
use Rattle.tx_widgets.specs.Form.{is_edge}
use Rattle.tx_widgets.proofs.EditLemmas.{IsEdge-after, IsEdge-before, IsEdge-start}
use Rattle.tx_widgets.proofs.reactions.fields.field_reaction.Goals as goal

pub taken_out-requires-clause-from : goal.taken_out-requires-clause-from
taken_out-requires-clause-from c =
    ap (is_edge c.args.text.now) c.edge_before.ensures ∙ IsEdge-before c.args.text.now c.args.at c.utf8.text c.requires.edge

pub taken_out-requires-in-Key-Delete-clause-to : goal.taken_out-requires-in-Key-Delete-clause-to
taken_out-requires-in-Key-Delete-clause-to c =
    ap (is_edge c.args.text.now) c.edge_after.ensures ∙ IsEdge-after c.args.text.now c.args.at c.utf8.text c.requires.edge

pub moved-requires-clause-edge : goal.moved-requires-clause-edge
moved-requires-clause-edge c =
    ap (is_edge c.args.text.now) c.edge_before-in-Key-Left.ensures ∙ IsEdge-before c.args.text.now c.args.at c.utf8.text c.requires.edge

pub moved-requires-in-Key-Right-clause-edge : goal.moved-requires-in-Key-Right-clause-edge
moved-requires-in-Key-Right-clause-edge c =
    ap (is_edge c.args.text.now) c.edge_after-in-Key-Right.ensures ∙ IsEdge-after c.args.text.now c.args.at c.utf8.text c.requires.edge

pub moved-requires-in-Key-Home-clause-edge : goal.moved-requires-in-Key-Home-clause-edge
moved-requires-in-Key-Home-clause-edge c = IsEdge-start c.args.text.now c.utf8.text
