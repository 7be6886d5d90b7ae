use Rattle.std.proofs.Common.{rules, length, ◌∙◌, ap}
use Rattle.std.proofs.lemmas.List.Sorted.{All-permutation, answers_always}
use Rattle.tx_layout.specs.Children.{IsChild, layer_of, layers}
use Rattle.tx_layout.proofs.Sorted.{runs_are_layers}
use Rattle.tx_layout.proofs.layers.by_layer.Goals as goal

pub returns-clause-layers : goal.returns-clause-layers
returns-clause-layers c =
    runs_are_layers c.in_ok-children.children.items c.sort_by_key.new.self.items
    c.sort_by_key.ensures.permutation
    ((c.in_ok-sort_by_key.ensures {u = tt}).sorted layer_of (answers_always _ _ _ (λ f a r g h. search rules)))
    (c.sort_by_key.ensures.stable layer_of (answers_always _ _ _ (λ f a r g h. search rules)))
    ∙ ap (λ l. layers l) (c.in_ok-children.ensures {u = tt}).exact

pub returns-clause-children : goal.returns-clause-children
returns-clause-children c =
    All-permutation (IsChild (length c.args.styles.now)) c.in_ok-children.children.items c.sort_by_key.new.self.items c.sort_by_key.ensures.permutation (c.in_ok-children.ensures {u = tt}).children
