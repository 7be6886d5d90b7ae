use Rattle.std.proofs.Common.{◌≡◌, ◌<◌, ◌≤◌, ◌++◌, ◌∷◌, [], length, map, sym, ap, ◌∙◌, arith, rules, append_assoc}
use Rattle.tx_cell.specs.Cell.{IsOfItsText}
use Rattle.tx_cell.specs.Wrap.{next_line, with_tails, lines_until}
use Rattle.tx_cell.proofs.WrapLaws.{All-next_line, All-next_rest, columns-next, length-next_rest, length-with_tails, lines_until-next}
use Rattle.tx_cell.proofs.wrapping.wrap_heads.Goals as goal

pub strip_of-requires-clause-own : goal.strip_of-requires-clause-own
strip_of-requires-clause-own c = rw c.next_line.ensures.line (All-next_line IsOfItsText c.args.width c.loop-rest.rest.now c.loop-rest.invariant.own)

pub strip_of-requires-clause-short : goal.strip_of-requires-clause-short
strip_of-requires-clause-short c =
    let own = All-next_line IsOfItsText c.args.width c.loop-rest.rest.now c.loop-rest.invariant.own in
    let columns = length-with_tails _ own in
    let parts = columns-next c.args.width c.loop-rest.rest.now in
    rw c.next_line.ensures.line (omega (arith, columns, parts, c.loop-rest.invariant.short))

pub loop-rest-smaller : goal.loop-rest-smaller
loop-rest-smaller c =
    let some : 0 < length c.loop-rest.rest.now = search rules in
    rw c.next_line.ensures.rest (length-next_rest c.args.width c.loop-rest.rest.now some c.loop-rest.invariant.narrow)

pub loop-rest-preserved : goal.loop-rest-preserved
loop-rest-preserved c =
    let rest = c.loop-rest.rest.now in
    let parts = columns-next c.args.width rest in
    let some : 0 < length rest = search rules in
    let added : c.push.new.self.items ≡ c.loop-rest.lines.items ++ with_tails (next_line c.args.width rest).0 ∷ [] =
    c.in_ok-push.ensures.items ∙ ap (λ line. c.loop-rest.lines.items ++ line ∷ []) (c.in_ok-strip_of.ensures.cells ∙ ap with_tails c.next_line.ensures.line) in
    rw c.next_line.ensures.rest (record {
      own = All-next_rest IsOfItsText c.args.width rest c.loop-rest.invariant.own;
      narrow = All-next_rest (λ cell. cell.width ≤ c.args.width) c.args.width rest c.loop-rest.invariant.narrow;
      short = omega (arith, parts, c.loop-rest.invariant.short);
      lines =
          ap (λ items. items ++ map with_tails (lines_until (length (next_line c.args.width rest).1) c.args.width (next_line c.args.width rest).1)) added
          ∙ append_assoc c.loop-rest.lines.items _ _
          ∙ ap (λ lines. c.loop-rest.lines.items ++ map with_tails lines) (sym (lines_until-next c.args.width rest some c.loop-rest.invariant.narrow))
          ∙ c.loop-rest.invariant.lines;
    })
