use Rattle.std.proofs.Common.{◌∙◌, sym}
use Rattle.tx_value.proofs.LeftOut.{left_out, none_left_out}
use Rattle.tx_value.proofs.declaration.pairs_without_blanks.Goals as goal

pub returns-then-are_parts : goal.returns-then-are_parts
returns-then-are_parts c = rw (none_left_out c.args.text.now c.args.tokens.now (sym c.are_parts.ensures ∙ c.if-are_parts.true)) c.pairs_of.ensures

pub returns : goal.returns
returns c = rw (left_out c.args.text.now c.args.tokens.now, ← (c.as_slice.ensures.value ∙ c.in_ok-parts.ensures)) c.pairs_of-2.ensures
