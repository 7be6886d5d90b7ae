-- A child of a node moves before another.
use Rattle.std.proofs.Common.{length, arith, ap, ◌∙◌}
use Rattle.std.proofs.lemmas.List.{length-set}
use Rattle.std.specs.Prelude.{slice_index}
use Rattle.tx_tree.proofs.KeptNext.{Sound}
use Rattle.tx_tree.proofs.MovedNodes.{pair_of, other_stands, n_bound, ahead_bound, ahead_other_bound, linked-done, rows-done, next-done}
use Rattle.tx_tree.proofs.tree.moves.move_node.Goals as goal

pub move_child-ahead-requires-clause-other : goal.move_child-ahead-requires-clause-other
move_child-ahead-requires-clause-other c =
    let sound : Sound c.args.nodes.now.items c.args.behind.now.items = record { linked = c.requires.linked; next = c.requires.next; as_long = c.requires.as_long } in
    other_stands sound c.args.parent c.args.n c.args.other (pair_of sound c.args.parent c.args.n c.args.other c.requires.child c.requires.other c.requires.apart)

pub pass_next-requires-clause-from : goal.pass_next-requires-clause-from
pass_next-requires-clause-from c =
    let sound : Sound c.args.nodes.now.items c.args.behind.now.items = record { linked = c.requires.linked; next = c.requires.next; as_long = c.requires.as_long } in
    n_bound sound c.args.parent c.args.n c.args.other (pair_of sound c.args.parent c.args.n c.args.other c.requires.child c.requires.other c.requires.apart)

pub pass_next-requires-clause-to : goal.pass_next-requires-clause-to
pass_next-requires-clause-to c =
    let sound : Sound c.args.nodes.now.items c.args.behind.now.items = record { linked = c.requires.linked; next = c.requires.next; as_long = c.requires.as_long } in
    let lt = ahead_bound sound c.args.parent c.args.n c.args.other (pair_of sound c.args.parent c.args.n c.args.other c.requires.child c.requires.other c.requires.apart) in
    let e = c.move_child-ahead.ensures.ahead in
    omega (arith, lt, e)

pub put_between-requires-clause-ahead : goal.put_between-requires-clause-ahead
put_between-requires-clause-ahead c =
    let sound : Sound c.args.nodes.now.items c.args.behind.now.items = record { linked = c.requires.linked; next = c.requires.next; as_long = c.requires.as_long } in
    let lt = ahead_other_bound sound c.args.parent c.args.n c.args.other (pair_of sound c.args.parent c.args.n c.args.other c.requires.child c.requires.other c.requires.apart) in
    let e = c.move_child-ahead.ensures.ahead_of_other in
    let size = ap length c.pass_next.ensures ∙ length-set c.args.behind.now.items c.move_child-ahead.result.0 (slice_index c.args.behind.now.items c.args.n) in
    omega (arith, lt, e, size)

pub put_between-requires-clause-n : goal.put_between-requires-clause-n
put_between-requires-clause-n c =
    let sound : Sound c.args.nodes.now.items c.args.behind.now.items = record { linked = c.requires.linked; next = c.requires.next; as_long = c.requires.as_long } in
    let lt = n_bound sound c.args.parent c.args.n c.args.other (pair_of sound c.args.parent c.args.n c.args.other c.requires.child c.requires.other c.requires.apart) in
    let size = ap length c.pass_next.ensures ∙ length-set c.args.behind.now.items c.move_child-ahead.result.0 (slice_index c.args.behind.now.items c.args.n) in
    omega (arith, lt, size)

pub returns-clause-linked : goal.returns-clause-linked
returns-clause-linked c =
    let sound : Sound c.args.nodes.now.items c.args.behind.now.items = record { linked = c.requires.linked; next = c.requires.next; as_long = c.requires.as_long } in
    let k = pair_of sound c.args.parent c.args.n c.args.other c.requires.child c.requires.other c.requires.apart in
    linked-done sound c.args.parent c.args.n c.args.other k _ c.move_child-ahead.ensures.nodes

pub returns-clause-next : goal.returns-clause-next
returns-clause-next c =
    let sound : Sound c.args.nodes.now.items c.args.behind.now.items = record { linked = c.requires.linked; next = c.requires.next; as_long = c.requires.as_long } in
    let k = pair_of sound c.args.parent c.args.n c.args.other c.requires.child c.requires.other c.requires.apart in
    next-done sound c.args.parent c.args.n c.args.other k _ c.move_child-ahead.ensures.nodes c.move_child-ahead.result.0 c.move_child-ahead.result.1 c.pass_next.new.behind.items c.put_between.new.behind.items
    c.move_child-ahead.ensures.ahead c.move_child-ahead.ensures.ahead_of_other c.pass_next.ensures c.put_between.ensures

pub returns-clause-rows : goal.returns-clause-rows
returns-clause-rows c =
    let sound : Sound c.args.nodes.now.items c.args.behind.now.items = record { linked = c.requires.linked; next = c.requires.next; as_long = c.requires.as_long } in
    let k = pair_of sound c.args.parent c.args.n c.args.other c.requires.child c.requires.other c.requires.apart in
    rows-done sound c.args.parent c.args.n c.args.other k _ c.move_child-ahead.ensures.nodes
