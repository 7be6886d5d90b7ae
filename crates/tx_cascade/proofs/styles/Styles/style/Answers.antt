use Rattle.std.proofs.Common.{◌≡◌, subst, ◌∙◌}
use Rattle.std.specs.Prelude.{MatchOption, None, option_copied}
use Rattle.tx_node_map.specs.Held.{held}
use Rattle.tx_tree.specs.Rows.{row_at}
use Rattle.tx_cascade.specs.Cascade.{IsStyleOf}
use Rattle.tx_cascade.specs.Styles.{StylesValue, all_styles}
use Rattle.tx_cascade.proofs.Placing.{placed-is}
use Rattle.tx_cascade.proofs.StyleSteps.{shown}
use Rattle.tx_cascade.proofs.styles.Styles.style.Goals as goal

pub returns-clause-exact : goal.returns-clause-exact
returns-clause-exact c =
    let rows = c.self.inside.tree.value.rows in
    let styles = all_styles c.self.inside.sheet.value c.self.inside.pseudo.value rows in
    subst (λ (v : StylesValue). option_copied c.get.result ≡ all_styles v.sheet v.state v.rows c.args.node.0) c.self.view_is
    (c.get.ensures ∙ placed-is c.self.inside.styles.made.items (held c.self.inside.styles.places) styles c.self.invariant.0 c.args.node.0)

pub returns-clause-style : goal.returns-clause-style
returns-clause-style c =
    let rows = c.self.inside.tree.value.rows in
    let styles = all_styles c.self.inside.sheet.value c.self.inside.pseudo.value rows in
    subst (λ (v : StylesValue). MatchOption c.get.result (row_at c.args.node.0 v.rows ≡ None) (λ style. IsStyleOf v.sheet v.state v.rows c.args.node.0 style.now)) c.self.view_is
    (shown rows c.self.invariant.1 c.self.inside.sheet.value c.self.inside.pseudo.value c.args.node.0 c.get.result
    (c.get.ensures ∙ placed-is c.self.inside.styles.made.items (held c.self.inside.styles.places) styles c.self.invariant.0 c.args.node.0))
