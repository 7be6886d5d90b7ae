use Rattle.std.proofs.lemmas.Bool.{not-false, not-true}
use Rattle.std.proofs.Common.{◌≡◌, ◌+◌, ◌-◌, ◌≤◌, ◌<◌, ℕ, suc, [], ◌∷◌, length, length-append, ap, sym, ◌∙◌, subst, arith}
use Rattle.tx_lex.specs.Lexemes.{lexemes_from}
use Rattle.tx_read.specs.Answer.{Tells}
use Rattle.tx_parse.specs.Answers.{told_in}
use Rattle.tx_parse.specs.SheetReading.{selectors_at, expected}
use Rattle.tx_parse.specs.Seen.{selectors_in}
use Rattle.tx_parse.proofs.Turns.{passed_on}
use Rattle.tx_parse.proofs.SelectorSteps.{selectors_next, selectors_last, selectors_bad, selectors_stop, selectors_past}
use Rattle.tx_parse.proofs.rules.selectors.Goals as goal

one_less : (n : ℕ) → n < 64 → 64 - n ≡ suc (64 - (n + 1))
one_less n less = omega (arith, less)

none_left : (n : ℕ) → 64 ≤ n → 64 - n ≡ 0
none_left n above = omega (arith, above)

pub returns-in_err-selector-clause-gives : goal.returns-in_err-selector-clause-gives
returns-in_err-selector-clause-gives c =
    passed_on selectors_in c.args.text.now c.args.tokens.now c.from_residual.result c.in_err-selector.field-0.0 _ c.from_residual.ensures.1
    (selectors_bad (told_in c.args.text.now c.args.tokens.now c.in_err-selector.field-0.0) (64 - c.loop-count._count) (64 - (c.loop-count._count + 1)) c.loop-count.found.items _ _
    (one_less c.loop-count._count c.loop-count-test.true) c.loop-count.invariant.gives c.in_err-selector.ensures)

pub returns-in_err-more-clause-gives : goal.returns-in_err-more-clause-gives
returns-in_err-more-clause-gives c =
    passed_on selectors_in c.args.text.now c.args.tokens.now c.from_residual-in_err-more.result c.in_err-more.field-0.0 _ c.from_residual-in_err-more.ensures.1
    (selectors_stop (told_in c.args.text.now c.args.tokens.now c.in_err-more.field-0.0) (64 - c.loop-count._count) (64 - (c.loop-count._count + 1)) c.loop-count.found.items _ _ _ c.in_ok-selector.selector.0
    (one_less c.loop-count._count c.loop-count-test.true) c.loop-count.invariant.gives c.in_ok-selector.ensures c.in_err-more.ensures)

pub returns-then-not-more-clause-gives : goal.returns-then-not-more-clause-gives
returns-then-not-more-clause-gives c = selectors_last (64 - c.loop-count._count) (64 - (c.loop-count._count + 1)) c.loop-count.found.items _ _ _ _ c.in_ok-selector.selector.0 c.in_ok-more.more.0 c.push.new.self.items
    (one_less c.loop-count._count c.loop-count-test.true) c.loop-count.invariant.gives c.in_ok-selector.ensures c.in_ok-more.ensures (not-true c.in_ok-more.more.0 c.if-not-more.true) c.in-Ok.ensures.items

pub loop-count-preserved : goal.loop-count-preserved
loop-count-preserved c = record {
  gives = selectors_next (64 - c.loop-count._count) (64 - (c.loop-count._count + 1)) c.loop-count.found.items _ _ _ _ c.in_ok-selector.selector.0 c.in_ok-more.more.0 c.push.new.self.items
      (one_less c.loop-count._count c.loop-count-test.true) c.loop-count.invariant.gives c.in_ok-selector.ensures c.in_ok-more.ensures (not-false c.in_ok-more.more.0 c.if-not-more.false) c.in-Ok.ensures.items;
  few = omega (arith, c.loop-count.invariant.few, ap length c.in-Ok.ensures.items, length-append c.loop-count.found.items (c.in_ok-selector.selector.0 ∷ []));
}

pub returns-clause-gives : goal.returns-clause-gives
returns-clause-gives c = subst (λ stop. Tells (told_in c.args.text.now c.args.tokens.now stop) (selectors_at (lexemes_from c.args.text.now c.args.tokens.now c.args.at))) (sym c.expected.ensures)
    (selectors_past (64 - c.loop-count._count) c.loop-count.found.items _ _ (none_left c.loop-count._count c.loop-count-test.false) c.loop-count.invariant.gives
    ∙ ap (λ ts. expected ts) (sym (c.past_blanks.ensures.gives c.args.text.now)))

pub returns-then-not-more-clause-few : goal.returns-then-not-more-clause-few
returns-then-not-more-clause-few c =
    omega (arith, c.loop-count.invariant.few, c.loop-count-test.true, ap length c.in-Ok.ensures.items, length-append c.loop-count.found.items (c.in_ok-selector.selector.0 ∷ []))
