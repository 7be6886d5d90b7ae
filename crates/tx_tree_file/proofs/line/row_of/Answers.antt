use Rattle.std.proofs.Common.{sym, ◌∙◌, ap, arith, option_map}
use Rattle.tx_tree_file.proofs.FoundLines.{short_text}
use Rattle.tx_tree_file.proofs.line.row_of.Goals as goal

pub kept-private-requires : goal.kept-private-requires
kept-private-requires c =
    let classes = sym c.in_ok-classes.ensures ∙ ap (option_map (λ found. (found.0.items, found.1.now))) c.in-Some-2.is in
    let text = sym c.in_ok-text.ensures ∙ ap (option_map (λ found. (found.0, found.1.now))) c.in-Some-3.is in
    let short = short_text c.in-Some.kind c.args.bytes.now c.split_word.result.1.now _ _ c.flag-disabled.result.1.now _ _ c.split_word.ensures.rest (sym c.in-Some-id_of.ensures) classes c.flag-disabled.ensures.rest (sym c.in-Some-private_of.ensures) text in
    omega (arith, short, c.requires)
