use Rattle.std.proofs.Common.{◌≡◌, Some, option_map, sym, ap, ◌∙◌}
use Rattle.tx_picture.proofs.DrawingLemmas.{built-in, drawing-is}
use Rattle.tx_picture.proofs.drawings.entry_drawing.Goals as goal
use Rattle.tx_picture.specs.Picture.{background_under}
use Rattle.tx_tree.specs.Row.{plain}
use Rattle.tx_tree.specs.Rows.{row_at}

pub row_drawing-requires : goal.row_drawing-requires
row_drawing-requires c = record { built_in = built-in c.args.present.now.tree.now.rows c.args.entry.now.node.0 (plain c.in-Some.row.now) c.requires.built_in (sym c.in-Some.ensures) }

pub returns : goal.returns
returns c =
    let shown = c.args.styles.now in
    let entry = c.args.entry.now in
    let row = plain c.in-Some.row.now in
    let there : row_at entry.node.0 shown.rows ≡ Some row = ap (row_at entry.node.0) c.requires.same ∙ sym c.in-Some.ensures in
    let under : Some c.in-Some-get.under.now ≡ Some (background_under shown entry.node.0) =
    c.in-Some-get.ensures ∙ c.requires.backgrounds entry.node.0 ∙ ap (option_map (λ row. background_under shown entry.node.0)) (sym c.in-Some.ensures)
    in
    drawing-is shown entry row c.args.present.now.pseudo.now c.in-Some-style.style.now c.in-Some-get.under.now c.in_ok-drawing.drawing there c.requires.state c.in-Some-style.ensures.exact under c.in_ok-drawing.ensures
