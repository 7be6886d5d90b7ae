use Rattle.std.proofs.Common.{rules, ◌≡◌, ◌∙◌, ap, min, length}
use Rattle.std.specs.Vec.{vec_len}
use Rattle.tx_widgets.specs.Measures.{most}
use Rattle.tx_widgets.proofs.HeightLemmas.{wrapped_text-same}
use Rattle.tx_widgets.proofs.drawing.measures.text_height.Goals as goal

pub returns : goal.returns
returns c = λ pen.
    let count : vec_len c.in_ok-lines.lines ≡ length c.in_ok-lines.lines.items = search rules in
    c.capped_count.ensures ∙ ap (λ count. min count most) (c.len.ensures ∙ (count ∙ (ap length c.in_ok-lines.ensures.lines ∙ wrapped_text-same c.args.width pen _ c.args.text.now)))
