use Rattle.std.proofs.Common.{◌≡◌, ◌+◌, suc, arith, ap, ◌∙◌, drop}
use Rattle.std.proofs.lemmas.List.{drop-drop}
use Rattle.tx_read.proofs.PiecesLemmas.{pieces_at_mark, pieces_without_mark}
use Rattle.tx_read.proofs.pieces.split_once.Goals as goal

pub returns-then-byte-mark-clause-pieces : goal.returns-then-byte-mark-clause-pieces
returns-then-byte-mark-clause-pieces c =
    let at = pieces_at_mark c.args.mark c.args.bytes.now c.loop-i.i c.loop-i.invariant c.loop-i-test.true c.if-byte-mark.true in
    let rest = c.split_at-then-byte-mark.ensures.back ∙ ap (drop 1) c.split_at.ensures.back ∙ drop-drop 1 c.loop-i.i c.args.bytes.now in
    let next : c.loop-i.i + 1 ≡ suc c.loop-i.i = omega arith in
    rw (c.split_at.ensures.front, rest, next) at

pub returns-clause-pieces : goal.returns-clause-pieces
returns-clause-pieces c = pieces_without_mark _ _ (λ k h. c.loop-i.invariant k (omega arith))
