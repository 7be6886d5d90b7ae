use Rattle.std.proofs.Common.{◌≡◌, ◌++◌, [], ◌∷◌, List, length, subst, sym, ap₂, ◌∙◌}
use Rattle.std.proofs.lemmas.List.Elements.{All-append, All-cons, All-nil}
use Rattle.std.specs.List.{All}
use Rattle.tx_cell.specs.Cell.{CellValue}
use Rattle.tx_widgets.proofs.RowLemmas.{drawn-is, drawn_rows-more, drawn_rows-none}
use Rattle.tx_widgets.proofs.drawing.rows.lines.Goals as goal

pub loop-y-init : goal.loop-y-init
loop-y-init c =
    let P = λ (row : List CellValue). length row ≡ c.args.face.now.content.width in
    record {
      rows = c.new-rows.ensures.items ∙ sym (drawn_rows-none c.args.face.now);
      width = subst (All P) (sym c.new-rows.ensures.items) (All-nil P);
    }

pub loop-y-preserved : goal.loop-y-preserved
loop-y-preserved c =
    let P = λ (row : List CellValue). length row ≡ c.args.face.now.content.width in
    let row = c.in_ok-row.field-0 in
    let added : c.push.new.self.items ≡ c.loop-y.rows.items ++ row ∷ [] = c.in_ok-push.ensures.items in
    let drawn = drawn-is c.args.face.now c.loop-y.y c.state_of-private.result c.as_str.result.now row c.as_str.ensures c.state_of-private.ensures.state c.in_ok-row.ensures.row in
    record {
      rows = added ∙ ap₂ (λ rows last. rows ++ last ∷ []) c.loop-y.invariant.rows drawn ∙ drawn_rows-more c.args.face.now c.loop-y.y;
      width = subst (All P) (sym added) (All-append P c.loop-y.rows.items (row ∷ []) c.loop-y.invariant.width (All-cons P row [] c.in_ok-row.ensures.width (All-nil P)));
    }
