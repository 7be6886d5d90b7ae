use Rattle.std.proofs.Common.{Ok, ap, sym, ◌∙◌, length, arith}
use Rattle.tx_read.specs.Reading.{behind_items, many}
use Rattle.tx_lex.specs.Lexemes.{lexemes_from, first_is}
use Rattle.tx_select.specs.Lexemes.{begins_part}
use Rattle.tx_select.specs.SelectorReading.{part_at}
use Rattle.tx_select.proofs.Steps.{parts-item, parts-end, parts-err}
use Rattle.tx_select.proofs.reader.parts.Goals as goal

pub returns-in-Err-clause-gives : goal.returns-in-Err-clause-gives
returns-in-Err-clause-gives c = parts-err c.args.text.now c.args.tokens.now _ _ _ c.in-Err.fault
    (sym (c.part_begins.ensures.kind c.args.text.now) ∙ c.loop-found-test.true) c.in-Err.ensures.gives c.loop-found.invariant.read

pub loop-found-preserved : goal.loop-found-preserved
loop-found-preserved c = record {
  within = omega (arith, c.loop-found.invariant.within, c.in-Ok.ensures.behind);
  read = ap (λ items. behind_items items (many length (first_is begins_part) part_at (lexemes_from c.args.text.now c.args.tokens.now c.in-Ok.found.1))) c.in-Ok-push.ensures.items
      ∙ parts-item _ _ _ _ c.in-Ok.found.0 (sym (c.part_begins.ensures.kind c.args.text.now) ∙ c.loop-found-test.true) c.in-Ok.ensures.gives c.loop-found.invariant.read;
}

pub returns-clause-gives : goal.returns-clause-gives
returns-clause-gives c =
    parts-end _ _ _ (sym (c.part_begins.ensures.kind c.args.text.now) ∙ c.loop-found-test.false) c.loop-found.invariant.read
    ∙ ap (λ items. Ok (items, lexemes_from c.args.text.now c.args.tokens.now c.loop-found.behind)) (sym c.of.ensures)
