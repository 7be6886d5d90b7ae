use Rattle.std.proofs.Common.{subst}
use Rattle.tx_read.specs.Answer.{Gives}
use Rattle.tx_parse.specs.Grammar.{Body}
use Rattle.tx_parse.specs.Texts.{located, told, inline_of, IsInlineText}
use Rattle.tx_parse.proofs.WholeAnswers.{answer_read, read_answered}
use Rattle.tx_parse.proofs.lemmas.TextLaws.{inline_text, text_inline}
use Rattle.tx_parse.proofs.texts.read_inline.Goals as goal

pub returns-clause-found : goal.returns-clause-found
returns-clause-found c =
    let gives = subst (λ bytes. Gives (λ declarations. declarations.items) told c.inline_declarations.result (located (λ (body : Body). body.declarations) bytes (inline_of bytes))) c.as_bytes.ensures.value c.inline_declarations.ensures in
    answer_read (λ declarations. declarations.items) (λ (body : Body). body.declarations) (IsInlineText c.args.text.now) c.args.text.now c.inline_declarations.result (inline_of c.args.text.now) (inline_text c.args.text.now) gives

pub returns-clause-only : goal.returns-clause-only
returns-clause-only c body is =
    let gives = subst (λ bytes. Gives (λ declarations. declarations.items) told c.inline_declarations.result (located (λ (body : Body). body.declarations) bytes (inline_of bytes))) c.as_bytes.ensures.value c.inline_declarations.ensures in
    read_answered (λ declarations. declarations.items) (λ (body : Body). body.declarations) c.args.text.now c.inline_declarations.result (inline_of c.args.text.now) body (text_inline c.args.text.now body is) gives
