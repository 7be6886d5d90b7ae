use Rattle.std.proofs.Common.{◌∙◌, sym}
use Rattle.tx_parse.specs.Texts.{inline_of}
use Rattle.tx_cascade.proofs.Rules.{long-text, short-text, given-text, faulty-text}
use Rattle.tx_cascade.proofs.reaching.inline_declarations.Goals as goal

pub returns-then-text-ge-MOST_BYTES : goal.returns-then-text-ge-MOST_BYTES
returns-then-text-ge-MOST_BYTES c = c.new.ensures.items ∙ sym (long-text c.args.text.now c.if-text-ge-MOST_BYTES.true)

pub returns-in-Ok : goal.returns-in-Ok
returns-in-Ok c = given-text c.args.text.now (inline_of c.args.text.now) c.in-Ok.declarations c.in-Ok.ensures.exact ∙ sym (short-text c.args.text.now c.if-text-ge-MOST_BYTES.false)

pub returns-in-Err-Text : goal.returns-in-Err-Text
returns-in-Err-Text c =
    c.new-in-Err-Text.ensures.items
    ∙ (faulty-text c.args.text.now (inline_of c.args.text.now) c.in-Err-Text.field-0 c.in-Err-Text.field-0-0 c.in-Err-Text.field-0-1 c.in-Err-Text.field-0-2 c.in-Err-Text.field-0-is c.in-Err-Text.ensures.exact
    ∙ sym (short-text c.args.text.now c.if-text-ge-MOST_BYTES.false))
