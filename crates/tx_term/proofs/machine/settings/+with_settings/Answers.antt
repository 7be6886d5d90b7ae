use Rattle.std.proofs.Common.{arith, sym, ◌∙◌}
use Rattle.tx_term.proofs.SettingLemmas.{with_settings-colour_slice, with_settings-mark_slice, with_settings-short_slice}
use Rattle.tx_term.proofs.machine.settings.+with_settings.Goals.{in_default-rest, in-len4-up+else-is_colour}
use Rattle.tx_term.proofs.machine.settings.+with_settings.Goals as goal

pub returns-then-is_colour : goal.returns-then-is_colour
returns-then-is_colour t c =
    c.with_settings.ensures
    ∙ with_settings-colour_slice c.args.numbers.now c.args.pen c.in_ok-next.next c.in-len1-up.len_at_least c.in-len4-up.len_at_least (sym c.is_colour.ensures ∙ c.if-is_colour.true) (sym c.with_colour.ensures ∙ c.in_ok-next.was)

pub returns : goal.returns
returns t c =
    let made = sym c.with_mark.ensures ∙ c.in_ok-next-2.was in
    c.with_settings-2.ensures ∙ elim c.if-rest-lt4.branch [
      | in_default-rest w ↦ with_settings-short_slice c.args.numbers.now c.args.pen c.in_ok-next-2.next c.in-len1-up.len_at_least (omega (arith, w.in_default-rest.len_below)) made
      | in-len4-up+else-is_colour w ↦ with_settings-mark_slice c.args.numbers.now c.args.pen c.in_ok-next-2.next c.in-len1-up.len_at_least (sym w.is_colour.ensures ∙ w.if-is_colour.false) made
    ]
