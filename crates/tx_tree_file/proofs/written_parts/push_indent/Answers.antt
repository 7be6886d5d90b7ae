use Rattle.std.proofs.Common.{ap, ◌∙◌, ◌++◌, ◌∷◌, []}
use Rattle.tx_tree_file.proofs.Appends.{deeper_by_one}
use Rattle.tx_tree_file.proofs.written_parts.push_indent.Goals as goal

pub loop-preserved : goal.loop-preserved
loop-preserved c = c.in_ok-extend_from_slice.ensures.items ∙ ap (λ items. items ++ (32 ∷ 32 ∷ [])) c.loop.invariant ∙ deeper_by_one c.args.out.now.items c.loop.counter
