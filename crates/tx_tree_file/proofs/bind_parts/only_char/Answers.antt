use Rattle.std.proofs.Common.{sym, ◌∙◌}
use Rattle.tx_tree_file.proofs.CharLemmas.{one_char, two_chars}
use Rattle.tx_tree_file.proofs.bind_parts.only_char.Goals as goal

pub returns-in-Some-next : goal.returns-in-Some-next
returns-in-Some-next c =
    let same = c.chars-chars.ensures.rest in
    two_chars c.args.text.now c.next.new.self.rest.now c.next-2.new.self.rest.now c.in-Some.first c.in-Some-next.field-0 c.utf8.text (sym same ∙ c.in-Some.ensures.steps.0) c.in-Some-next.ensures.steps.0

pub returns-in-None : goal.returns-in-None
returns-in-None c =
    let same = c.chars-chars.ensures.rest in
    one_char c.args.text.now c.next.new.self.rest.now c.in-Some.first c.utf8.text (sym same ∙ c.in-Some.ensures.steps.0) c.in-None.ensures.steps.0.0
