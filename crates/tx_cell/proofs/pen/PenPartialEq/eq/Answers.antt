use Rattle.std.proofs.Common.{sym, ap, ◌∙◌}
use Rattle.tx_cell.specs.Pen.{colour_eq-decides, style_eq-decides}
use Rattle.tx_cell.specs.declared.pen.Pen.{Pen}
use Rattle.tx_cell.proofs.pen.PenPartialEq.eq.Goals as goal

pub returns-then-eq-2-clause-same : goal.returns-then-eq-2-clause-same
returns-then-eq-2-clause-same c =
    let fore = (colour_eq-decides _ _).0 (sym c.eq.ensures ∙ c.if-eq.true) in
    let back = (colour_eq-decides _ _).0 (sym c.eq-then-eq.ensures ∙ c.if-eq-2.true) in
    let styles = style_eq-decides c.args.self.now.style c.args.other.now.style in (
      λ is. λ i. record { fore = fore i; back = back i; style = styles.0 (sym c.eq-then-eq-2.ensures ∙ is) i },
      λ same. c.eq-then-eq-2.ensures ∙ styles.1 (ap (λ (p : Pen). p.style) same),
    )
