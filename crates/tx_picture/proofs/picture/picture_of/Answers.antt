use Rattle.std.proofs.Common.{◌≡◌, ℕ, List, Option, length, sym, ap, subst, ◌∙◌}
use Rattle.std.specs.List.{All}
use Rattle.std.specs.Prelude.{IfSome, slice_get}
use Rattle.tx_cell.specs.Cell.{CellValue}
use Rattle.tx_geom.specs.declared.places.Size.{Size}
use Rattle.tx_map.specs.declared.entry.Entry.{Entry}
use Rattle.tx_node_map.specs.Held.{held}
use Rattle.tx_owner.specs.Owner.{owners}
use Rattle.tx_paint.specs.Drawing.{DrawingValue, IsDrawing}
use Rattle.tx_picture.proofs.PictureLemmas.{all-cover, all-drawn, all-wide, each-drawing, own-count}
use Rattle.tx_picture.proofs.picture.picture_of.Goals as goal
use Rattle.tx_picture.specs.Cells.{AllCover, drawn_lines}
use Rattle.tx_picture.specs.Drawings.{drawings}
use Rattle.tx_picture.specs.Picture.{shown_lines, styles_of}

pub compose_lines-requires-clause-lines : goal.compose_lines-requires-clause-lines
compose_lines-requires-clause-lines g c =
    let are = c.requires.owners in
    ap (λ (lines : List (List (Option ℕ))). length lines) are.lines ∙ own-count c.args.styles.now c.args.map.now c.args.present.now.size ∙ sym (ap (λ (s : Size). s.height) are.size)

pub compose_lines-requires-clause-widths : goal.compose_lines-requires-clause-widths
compose_lines-requires-clause-widths g c y line is =
    let are = c.requires.owners in
    all-wide c.args.styles.now c.args.map.now c.args.present.now.size y line (ap (λ (lines : List (List (Option ℕ))). slice_get lines y) (sym are.lines) ∙ is)
    ∙ sym (ap (λ (s : Size). s.width) are.size)

pub compose_lines-requires-clause-covers : goal.compose_lines-requires-clause-covers
compose_lines-requires-clause-covers g c =
    let are = c.requires.owners in
    let shown = c.args.styles.now in
    let all = c.deref-2.result.now in
    let spots = held c.args.owners.now.spots in
    let same = c.entries-entries.ensures in
    let all_is : all ≡ drawings shown spots c.args.map.now = c.deref-2.ensures.value ∙ c.in_ok-drawings.ensures ∙ ap (λ (entries : List Entry). drawings shown spots entries) same in
    let some = each-drawing all (subst (λ (ds : List (Option DrawingValue)). All (λ drawing. IfSome drawing IsDrawing) ds) (c.deref.ensures.value ∙ sym c.deref-2.ensures.value) c.see_drawings.ensures) in
    subst (λ (entries : List Entry). AllCover entries all c.args.owners.now.lines) (sym same)
    (subst (λ (lines : List (List (Option ℕ))). AllCover c.args.map.now all lines) (sym are.lines)
    (all-cover shown c.args.map.now c.args.present.now.size c.topmost_is_that.ensures c.within_is_held.ensures spots all all_is some))

pub returns-clause-picture : goal.returns-clause-picture
returns-clause-picture g c =
    let are = c.requires.owners in
    let shown = c.args.styles.now in
    let all = c.deref-2.result.now in
    let spots = held c.args.owners.now.spots in
    let same = c.entries-entries.ensures in
    let size = c.args.owners.now.size in
    let all_is : all ≡ drawings shown spots c.args.map.now = c.deref-2.ensures.value ∙ c.in_ok-drawings.ensures ∙ ap (λ (entries : List Entry). drawings shown spots entries) same in
    c.in_ok-compose_lines.ensures.rows
    ∙ ap (λ (entries : List Entry). record { size = size; rows = drawn_lines entries all c.args.owners.now.lines }) same
    ∙ ap (λ (rows : List (List CellValue)). record { size = size; rows = rows })
    (all-drawn shown c.args.map.now c.args.present.now.size c.topmost_is_that.ensures c.within_is_held.ensures c.args.owners.now all are all_is)
    ∙ ap (λ (s : Size). record { size = s; rows = shown_lines shown c.args.map.now (owners (styles_of shown) c.args.map.now c.args.present.now.size) }) are.size
