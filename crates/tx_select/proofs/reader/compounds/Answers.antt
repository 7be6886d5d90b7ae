use Rattle.std.proofs.Common.{◌≡◌, ◌+◌, ◌-◌, ◌≤◌, ◌<◌, ℕ, suc, Ok, Err, ap, sym, ◌∙◌, subst, arith}
use Rattle.tx_lex.specs.Lexemes.{lexemes_from}
use Rattle.tx_select.specs.SelectorReading.{compounds_at, selector_at}
use Rattle.tx_select.specs.Answers.{GivesAmong}
use Rattle.tx_select.proofs.Steps.{with_front, compounds-next, compounds-last, compounds-err, compounds-past}
use Rattle.tx_select.proofs.reader.compounds.Goals as goal

one_less : (n : ℕ) → n < 16 → 16 - n ≡ suc (16 - (n + 1))
one_less n less = omega (arith, less)

none_left : (n : ℕ) → 16 ≤ n → 16 - n ≡ 0
none_left n above = omega (arith, above)

pub returns-in-Err-clause-gives : goal.returns-in-Err-clause-gives
returns-in-Err-clause-gives c = compounds-err c.args.text.now c.args.tokens.now (16 - c.loop-count._count) (16 - (c.loop-count._count + 1)) c.loop-count.child c.loop-count.compounds.items _ _ c.in-Err.fault
    (one_less c.loop-count._count c.loop-count-test.true) c.in-Err.ensures.gives c.loop-count.invariant.read

pub returns-in-None-clause-gives : goal.returns-in-None-clause-gives
returns-in-None-clause-gives c =
    compounds-last (16 - c.loop-count._count) (16 - (c.loop-count._count + 1)) c.loop-count.child c.loop-count.compounds.items _ _ _ _ c.in-Ok.found.0
    (one_less c.loop-count._count c.loop-count-test.true) c.in-Ok.ensures.gives
    (c.link-link.ensures.gives c.args.text.now ∙ ap (λ n. (n, lexemes_from c.args.text.now c.args.tokens.now c.link-link.result.1)) c.in-None.is) c.loop-count.invariant.read
    ∙ ap (λ items. Ok (items, lexemes_from c.args.text.now c.args.tokens.now c.link-link.result.1)) (sym (c.of.ensures ∙ c.in-Ok-push.ensures.items))

pub loop-count-preserved : goal.loop-count-preserved
loop-count-preserved c = record {
  within = omega (arith, c.loop-count.invariant.within, c.in-Ok.ensures.behind, c.link-link.ensures.behind);
  read = ap (λ items. with_front items (compounds_at (16 - (c.loop-count._count + 1)) c.in-Some.next (lexemes_from c.args.text.now c.args.tokens.now c.link-link.result.1))) c.in-Ok-push.ensures.items
      ∙ compounds-next (16 - c.loop-count._count) (16 - (c.loop-count._count + 1)) c.loop-count.child c.in-Some.next c.loop-count.compounds.items _ _ _ _ c.in-Ok.found.0
      (one_less c.loop-count._count c.loop-count-test.true) c.in-Ok.ensures.gives
      (c.link-link.ensures.gives c.args.text.now ∙ ap (λ n. (n, lexemes_from c.args.text.now c.args.tokens.now c.link-link.result.1)) c.in-Some.is) c.loop-count.invariant.read;
}

pub returns-clause-gives : goal.returns-clause-gives
returns-clause-gives c = subst (λ fault. GivesAmong c.args.text.now c.args.tokens.now (Err fault) (selector_at (lexemes_from c.args.text.now c.args.tokens.now c.args.at))) (sym c.expected.ensures)
    (compounds-past (16 - c.loop-count._count) c.loop-count.child c.loop-count.compounds.items _ _ (none_left c.loop-count._count c.loop-count-test.false) c.loop-count.invariant.read)
