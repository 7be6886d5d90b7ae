use Rattle.std.proofs.Common.{◌≡◌, ◌<◌, ◌≤◌, ◌++◌, [], ◌∷◌, length, length-append, sym, ap, ◌∙◌, arith}
use Rattle.std.proofs.lemmas.Bool.{le-ltb, lt-ltb}
use Rattle.std.proofs.lemmas.List.Elements.{All-push}
use Rattle.tx_layout.specs.Style.{IsBoxStyle}
use Rattle.tx_look.specs.Boxes.{box_style}
use Rattle.tx_sizes.specs.Forest.{depth}
use Rattle.tx_sizes.proofs.Counting.{child_at}
use Rattle.tx_sizes.proofs.lemmas.RowsBelow.{length-counts}
use Rattle.tx_sizes.proofs.Gathering.{gathered_all, gathered_here, gathered_one, gathered_out}
use Rattle.tx_sizes.proofs.children.children_of.Goals as goal

pub returns-then-depth-clause-exact : goal.returns-then-depth-clause-exact
returns-then-depth-clause-exact c =
    let row = c.index-rows-at.result in
    let least : depth row ≤ c.args.depth = omega (arith, c.if-depth.true, c.depth.ensures) in
    gathered_here row c.loop-at.invariant.gathered c.loop-at-test.true c.index-rows-at.is (le-ltb c.args.depth (depth row) least)

pub bounds-below-at : goal.bounds-below-at
bounds-below-at c = omega (arith, ap length c.requires.below, length-counts c.args.rows.now, c.loop-at-test.true)

pub returns-clause-exact : goal.returns-clause-exact
returns-clause-exact c = gathered_all c.loop-at.invariant.gathered (omega (arith, c.loop-at-test.false))

pub loop-at-preserved-then-not-is_taking_part : goal.loop-at-preserved-then-not-is_taking_part
loop-at-preserved-then-not-is_taking_part c =
    let i = c.loop-at.invariant in
    let row = c.index-rows-at.result in
    let less : c.args.depth < depth row = omega (arith, c.if-depth.false, c.depth.ensures) in
    let child = child_at c.args.depth c.args.rows.now c.loop-at.at row c.loop-at-test.true c.index-rows-at.is (lt-ltb c.args.depth (depth row) less) in
    record { gathered = rw c.requires.below (gathered_out i.gathered child (sym c.is_taking_part.ensures ∙ c.if-not-is_taking_part.true)); accepted = i.accepted; few = omega (arith, i.few); as_many = i.as_many }

pub loop-at-preserved : goal.loop-at-preserved
loop-at-preserved c =
    let i = c.loop-at.invariant in
    let row = c.index-rows-at.result in
    let less : c.args.depth < depth row = omega (arith, c.if-depth.false, c.depth.ensures) in
    let child = child_at c.args.depth c.args.rows.now c.loop-at.at row c.loop-at-test.true c.index-rows-at.is (lt-ltb c.args.depth (depth row) less) in
    let box = box_style c.args.container.now row.style in
    let pushed : c.push.new.self.items ≡ c.loop-at.styles.items ++ box ∷ [] = c.in_ok-push.ensures.items ∙ ap (λ b. c.loop-at.styles.items ++ b ∷ []) (c.box_style.ensures.exact ∙ ap (box_style c.args.container.now) c.style.ensures) in
    record {
      gathered = rw (c.requires.below, pushed, c.in_ok-push-2.ensures.items) (gathered_one i.gathered child c.loop-at-test.true (sym c.is_taking_part.ensures ∙ c.if-not-is_taking_part.false));
      accepted = rw c.in_ok-push.ensures.items (All-push IsBoxStyle c.loop-at.styles.items c.box_style.result i.accepted c.box_style.ensures.accepted);
      few = rw pushed (omega (arith, i.few, length-append c.loop-at.styles.items (box ∷ [])));
      as_many = rw (pushed, c.in_ok-push-2.ensures.items) (omega (arith, i.as_many, length-append c.loop-at.styles.items (box ∷ []), length-append c.loop-at.starts.items (c.loop-at.at ∷ [])));
    }

pub returns-then-depth-clause-few : goal.returns-then-depth-clause-few
returns-then-depth-clause-few c = omega (arith, c.loop-at.invariant.few, c.loop-at.invariant.gathered.reached, c.requires.few)

pub returns-clause-few : goal.returns-clause-few
returns-clause-few c = omega (arith, c.loop-at.invariant.few, c.loop-at.invariant.gathered.reached, c.requires.few)
