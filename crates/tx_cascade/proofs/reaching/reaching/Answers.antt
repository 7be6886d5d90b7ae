use Rattle.std.proofs.Common.{ap, ◌∙◌, arith}
use Rattle.tx_cascade.specs.Reaching.{selectors_of}
use Rattle.tx_cascade.specs.Matchers.{matchers_of}
use Rattle.tx_cascade.proofs.Rules.{all-reaching}
use Rattle.tx_cascade.proofs.Ticks.{both-tested, more-tested}
use Rattle.tx_cascade.proofs.reaching.reaching.Goals as goal

pub returns-in_err-push_rules-2-clause-ticks : goal.returns-in_err-push_rules-2-clause-ticks
returns-in_err-push_rules-2-clause-ticks g c =
    more-tested (both-tested c.push_rules.ensures.ticks c.push_rules-2.ensures.ticks)
    (omega (arith, ap selectors_of (c.as_slice-defaults.ensures ∙ c.defaults.ensures.rules), ap selectors_of (c.as_slice-rules.ensures ∙ c.rules.ensures.rules)))

pub returns-in_err-push_inline-clause-ticks : goal.returns-in_err-push_inline-clause-ticks
returns-in_err-push_inline-clause-ticks g c =
    more-tested (both-tested c.push_rules.ensures.ticks c.push_rules-2.ensures.ticks)
    (omega (arith, ap selectors_of (c.as_slice-defaults.ensures ∙ c.defaults.ensures.rules), ap selectors_of (c.as_slice-rules.ensures ∙ c.rules.ensures.rules)))

pub returns-clause-exact : goal.returns-clause-exact
returns-clause-exact g c =
    all-reaching (matchers_of c.args.pseudo.now c.args.tree.now.rows c.args.row.now.node.0) c.args.sheet.now c.args.row.now.inline c.as_str.result.now c.as_slice-defaults.result.now c.as_slice-rules.result.now
    c.new-all.result.items c.push_rules.new.all.items c.push_rules-2.new.all.items c.push_inline.new.all.items
    (c.as_slice-defaults.ensures ∙ c.defaults.ensures.rules) (c.as_slice-rules.ensures ∙ c.rules.ensures.rules) c.as_str.ensures c.new-all.ensures.items
    c.in_ok-push_rules.ensures.exact c.in_ok-push_rules-2.ensures.exact c.in_ok-push_inline.ensures

pub returns-clause-ticks : goal.returns-clause-ticks
returns-clause-ticks g c =
    more-tested (both-tested c.push_rules.ensures.ticks c.push_rules-2.ensures.ticks)
    (omega (arith, ap selectors_of (c.as_slice-defaults.ensures ∙ c.defaults.ensures.rules), ap selectors_of (c.as_slice-rules.ensures ∙ c.rules.ensures.rules)))
