use Rattle.std.proofs.Common.{ap, ◌+◌}
use Rattle.tx_lex.specs.Lexemes.{lexeme, lexemes, lexemes_from}
use Rattle.tx_parse.specs.Seen.{found_in}
use Rattle.tx_parse.proofs.SheetSteps.{sheet_init, sheet_next, fewer_left}
use Rattle.tx_parse.proofs.sheets.sheet.Goals as goal

pub loop-first-init : goal.loop-first-init
loop-first-init c = sheet_init _ _ _ c.nothing_found-found.ensures (c.past_blanks-behind.ensures.gives c.args.text.now)

pub loop-first-preserved : goal.loop-first-preserved
loop-first-preserved c = sheet_next (found_in c.args.text.now c.loop-first.found) _ _ _ _ _ (lexeme c.args.text.now c.in-Some.first) (lexemes_from c.args.text.now c.args.tokens.now (c.loop-first.behind + 1))
    c.loop-first.invariant (ap (lexemes c.args.text.now) c.in-Some.ensures.0) c.in_ok-more.ensures (c.past_blanks-behind-in-Some.ensures.gives c.args.text.now)

pub loop-first-smaller : goal.loop-first-smaller
loop-first-smaller c = fewer_left c.args.text.now c.args.tokens.now (found_in c.args.text.now c.loop-first.found) _ c.loop-first.behind c.in_ok-more.more.1 c.past_blanks-behind-in-Some.result c.in_ok-more.ensures (c.past_blanks-behind-in-Some.ensures.gives c.args.text.now)
