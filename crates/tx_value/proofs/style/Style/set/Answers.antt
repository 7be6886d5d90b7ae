use Rattle.std.proofs.Common.{List, get_or, ◌∙◌, ap}
use Rattle.std.proofs.lemmas.List.{get_or-set_other}
use Rattle.tx_value.specs.Style.{number}
use Rattle.tx_value.specs.declared.value.Value.{Value}
use Rattle.tx_value.specs.declared.value.Value.TheVariants.{Initial}
use Rattle.tx_value.proofs.Numbered.{same_number}
use Rattle.tx_value.proofs.style.Style.set.Goals as goal

pub returns-clause-others : goal.returns-clause-others
returns-clause-others c other differs =
    get_or-set_other c.self.inside.values.items c.number.result (number other) c.args.value Initial (λ e. differs (same_number other c.args.property (e ∙ c.number.ensures.number))) ∙ ap (λ (s : List Value). get_or s (number other) Initial) c.self.view_is
