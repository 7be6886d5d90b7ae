use Rattle.std.proofs.Common.{◌∙◌, ap, subst}
use Rattle.std.specs.Str.{IsUtf8}
use Rattle.tx_widgets.specs.Form.{state_of}
use Rattle.tx_widgets.proofs.ReactionLemmas.{unbound-ok}
use Rattle.tx_widgets.proofs.reactions.built_in.react.Goals as goal

pub returns-in-None-clause-modest : goal.returns-in-None-clause-modest
returns-in-None-clause-modest c =
    unbound-ok c.unbound_reaction.result c.args.held.now c.state_of-private.result c.args.message.now (subst IsUtf8 c.as_str.ensures c.as_str.utf8)
    (c.state_of-private.ensures.state ∙ ap (λ text. state_of c.args.held.now.kind text c.args.held.now.private) c.as_str.ensures) c.unbound_reaction.ensures
