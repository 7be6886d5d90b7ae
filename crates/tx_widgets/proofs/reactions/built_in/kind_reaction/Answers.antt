use Rattle.std.proofs.Common.{◌∙◌, ap}
use Rattle.tx_widgets.specs.Form.{is_edge}
use Rattle.tx_widgets.proofs.EditLemmas.{IsEdge-cursor}
use Rattle.tx_widgets.proofs.reactions.built_in.kind_reaction.Goals as goal

pub field_reaction-requires-clause-edge : goal.field_reaction-requires-clause-edge
field_reaction-requires-clause-edge c =
    ap (is_edge c.args.text.now) c.cursor_of.ensures ∙ IsEdge-cursor c.args.text.now c.args.private c.utf8.text c.requires.suits
