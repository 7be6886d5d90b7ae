use Rattle.std.proofs.Common.{ℕ, ◌<◌, Option, sym, subst}
use Rattle.tx_layout.specs.Ask.{IsAnswer}
use Rattle.tx_map.proofs.Bars.{child_answer}
use Rattle.tx_node_map.specs.Held.{nothing}
use Rattle.tx_sizes.specs.Forest.{forest, under}
use Rattle.tx_sizes.specs.Measures.{answer_of, measures}
use Rattle.tx_map.proofs.barring.bars_beside.Goals as goal

pub returns-clause-exact : goal.returns-clause-exact
returns-clause-exact g c =
    rw (sym c.overflow_x.ensures, sym c.overflow_y.ensures, sym c.layout.ensures, sym c.in_ok-grid.ensures.exact, sym c.align.ensures, sym c.requires.children.boxes)
    (c.bars.ensures.exact (answer_of (measures nothing c.args.screen (under c.args.depth (forest c.args.rows.now)))) (record {
      each = λ ask h r p.
          subst (λ (m : Option ℕ). IsAnswer m r) (child_answer c.requires.children c.args.screen ask (subst (λ (n : ℕ). ask.child < n) c.requires.as_many h)) p.1;
    }))
