use Rattle.std.proofs.Common.{◌∙◌, ap, arith, true, Ok}
use Rattle.tx_tree_file.proofs.LastRows.{leads-fault, keeps-bind, leads-row, widget-read, unended, piece_short}
use Rattle.tx_tree_file.proofs.section.read_section.Goals as goal

pub item_of-requires-clause-size : goal.item_of-requires-clause-size
item_of-requires-clause-size c =
    let short = piece_short c.loop-text.left.now c.in-Some.text.now _ c.in-Some.ensures.pieces in
    omega (arith, short, c.loop-text.invariant.lines, c.requires.size)

pub returns-in-Err-clause-leads : goal.returns-in-Err-clause-leads
returns-in-Err-clause-leads c = leads-fault c.args.depth c.args.done c.loop-text.line c.args.rest.now c.loop-text.left.now c.in-Some.text.now c.in-Some.behind.now c.loop-text.binds.items c.in-Err.refusal c.loop-text.invariant.so c.in-Some.ensures.pieces c.in-Err.ensures.gives

pub returns-in-Widget-clause-leads : goal.returns-in-Widget-clause-leads
returns-in-Widget-clause-leads c =
    leads-row c.args.depth c.args.done c.loop-text.line c.in-Widget.depth c.args.rest.now c.loop-text.left.now c.in-Some.text.now c.in-Some.behind.now c.loop-text.binds.items c.in-Widget.row c.loop-text.invariant.so c.in-Some.ensures.pieces
    (c.in-Ok.ensures.gives ∙ ap Ok c.in-Widget.is)

pub returns-in-Widget-clause-met : goal.returns-in-Widget-clause-met
returns-in-Widget-clause-met c = record {
  widget = widget-read c.args.depth c.in-Some.text.now true c.in-Widget.depth c.in-Widget.row c.requires.deep (c.in-Ok.ensures.gives ∙ ap Ok c.in-Widget.is);
  later = omega (arith, c.loop-text.invariant.later);
  lines = omega (arith, c.loop-text.invariant.lines, c.in-Some.ensures.shorter);
}

pub loop-text-preserved : goal.loop-text-preserved
loop-text-preserved c = record {
  lines = omega (arith, c.loop-text.invariant.lines, c.in-Some.ensures.shorter);
  later = omega (arith, c.loop-text.invariant.later);
  so = rw c.in_ok-add-in-Binding.ensures (keeps-bind c.args.depth c.args.done c.loop-text.line c.args.rest.now c.loop-text.left.now c.in-Some.text.now c.in-Some.behind.now c.loop-text.binds.items c.in-Binding.bind c.loop-text.invariant.so c.in-Some.ensures.pieces
      (c.in-Ok.ensures.gives ∙ ap Ok c.in-Binding.is));
}

pub returns-clause-leads : goal.returns-clause-leads
returns-clause-leads c = unended c.args.depth c.loop-text.left.now c.in-Ok-item_of.field-0 c.in-Ok-item_of.ensures.gives
