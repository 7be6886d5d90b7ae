use Rattle.std.proofs.Common.{◌<◌, ◌^◌, ap, length, sym, ◌∙◌, arith}
use Rattle.tx_widgets.proofs.CutLemmas.{length-window}
use Rattle.tx_widgets.proofs.FieldLemmas.{field-end, field-first-inside, field-mark-inside, field-mark-length, field-mark-same, field-marked, field-none, field-plain, field-room, plain-few}
use Rattle.tx_widgets.proofs.ResultLemmas.{ok_length, ok_same}
use Rattle.tx_widgets.proofs.drawing.field.field_row.Goals as goal

pub returns-then-width-eq0-clause-row : goal.returns-then-width-eq0-clause-row
returns-then-width-eq0-clause-row c =
    ok_same c.nothing.result _ _ (field-none c.args.focused c.args.at c.args.width c.args.pen c.args.text.now c.if-width-eq0.true) c.nothing.ensures

pub place_of-place-requires : goal.place_of-place-requires
place_of-place-requires c =
    let small : length c.in_ok-plain.plain < 2 ^ 32 = omega (arith, ap length c.plain.view_is, c.plain.invariant.short) in
    record { few = plain-few (2 ^ 32) c.in_ok-plain.plain c.args.text.now c.args.pen c.in_ok-plain.ensures.cells small }

pub window-requires : goal.window-requires
window-requires c =
    let some : 0 < c.args.width = omega (arith, c.if-width-eq0.false) in
    record {
      inside = field-first-inside c.args.at c.args.pen c.args.text.now c.in_ok-plain.plain c.place_of-place.result.column _ c.args.width c.in_ok-plain.ensures.cells c.place_of-place.ensures.column c.first_column-first.ensures some;
    }

pub returns-then-not-focused-clause-row : goal.returns-then-not-focused-clause-row
returns-then-not-focused-clause-row c =
    ok_same c.window.result _ _
    (field-plain c.args.focused c.args.at c.args.pen c.args.text.now c.in_ok-plain.plain c.place_of-place.result.column _ c.args.width c.if-not-focused.true c.in_ok-plain.ensures.cells c.place_of-place.ensures.column c.first_column-first.ensures)
    c.window.ensures.cells

pub end_row-requires-clause-inside : goal.end_row-requires-clause-inside
end_row-requires-clause-inside c =
    let some : 0 < c.args.width = omega (arith, c.if-width-eq0.false) in
    field-first-inside c.args.at c.args.pen c.args.text.now c.in_ok-plain.plain c.place_of-place.result.column _ c.args.width c.in_ok-plain.ensures.cells c.place_of-place.ensures.column c.first_column-first.ensures some

pub end_row-requires-clause-room : goal.end_row-requires-clause-room
end_row-requires-clause-room c =
    let some : 0 < c.args.width = omega (arith, c.if-width-eq0.false) in
    field-room c.args.at c.args.pen c.args.text.now c.in_ok-plain.plain c.place_of-place.result.column _ c.args.width c.in_ok-plain.ensures.cells (sym c.place_of-place.ensures.columns ∙ c.in-None.is) c.place_of-place.ensures.column c.first_column-first.ensures some

pub returns-in-None-clause-row : goal.returns-in-None-clause-row
returns-in-None-clause-row c =
    let some : 0 < c.args.width = omega (arith, c.if-width-eq0.false) in
    ok_same c.end_row.result _ _
    (field-end c.args.focused c.args.at c.args.pen c.args.text.now c.in_ok-plain.plain c.place_of-place.result.column _ c.args.width c.if-not-focused.false c.in_ok-plain.ensures.cells (sym c.place_of-place.ensures.columns ∙ c.in-None.is) c.place_of-place.ensures.column c.first_column-first.ensures some)
    c.end_row.ensures

pub returns-in-None-clause-width : goal.returns-in-None-clause-width
returns-in-None-clause-width c =
    let some : 0 < c.args.width = omega (arith, c.if-width-eq0.false) in
    ok_length c.end_row.result _ _
    (ap length (field-end c.args.focused c.args.at c.args.pen c.args.text.now c.in_ok-plain.plain c.place_of-place.result.column _ c.args.width c.if-not-focused.false c.in_ok-plain.ensures.cells (sym c.place_of-place.ensures.columns ∙ c.in-None.is) c.place_of-place.ensures.column c.first_column-first.ensures some)
    ∙ length-window _ c.args.width c.args.pen _)
    c.end_row.ensures

pub with_mark-requires-clause-inside : goal.with_mark-requires-clause-inside
with_mark-requires-clause-inside c =
    field-mark-inside c.args.at c.args.pen c.args.text.now c.in_ok-plain.plain c.place_of-place.result.column c.in-Some.columns c.in_ok-plain.ensures.cells (sym c.place_of-place.ensures.columns ∙ c.in-Some.is) c.place_of-place.ensures.column

pub with_mark-requires-clause-same : goal.with_mark-requires-clause-same
with_mark-requires-clause-same c = field-mark-same c.args.text.now c.args.pen c.reversed.result c.in_ok-plain.plain c.in_ok-marked-in-Some.marked c.in_ok-plain.ensures.cells c.in_ok-marked-in-Some.ensures.cells

pub window-requires-in-Some : goal.window-requires-in-Some
window-requires-in-Some c =
    let some : 0 < c.args.width = omega (arith, c.if-width-eq0.false) in
    let inside = field-mark-inside c.args.at c.args.pen c.args.text.now c.in_ok-plain.plain c.place_of-place.result.column c.in-Some.columns c.in_ok-plain.ensures.cells (sym c.place_of-place.ensures.columns ∙ c.in-Some.is) c.place_of-place.ensures.column in
    let same = field-mark-same c.args.text.now c.args.pen c.reversed.result c.in_ok-plain.plain c.in_ok-marked-in-Some.marked c.in_ok-plain.ensures.cells c.in_ok-marked-in-Some.ensures.cells in
    let long = field-mark-length c.in_ok-plain.plain c.in_ok-marked-in-Some.marked c.in_ok-cells-in-Some.cells c.place_of-place.result.column c.in-Some.columns inside same c.in_ok-cells-in-Some.ensures in
    let first = field-first-inside c.args.at c.args.pen c.args.text.now c.in_ok-plain.plain c.place_of-place.result.column c.first_column-first.result c.args.width c.in_ok-plain.ensures.cells c.place_of-place.ensures.column c.first_column-first.ensures some in
    record { inside = omega (arith, long, first) }

pub returns-clause-row : goal.returns-clause-row
returns-clause-row c =
    ok_same c.window-in-Some.result _ _
    (field-marked c.args.focused c.args.at c.args.pen c.reversed.result c.args.text.now c.in_ok-plain.plain c.in_ok-marked-in-Some.marked c.in_ok-cells-in-Some.cells c.place_of-place.result.column c.in-Some.columns c.first_column-first.result c.args.width
    c.if-not-focused.false c.in_ok-plain.ensures.cells c.in_ok-marked-in-Some.ensures.cells c.reversed.ensures (sym c.place_of-place.ensures.columns ∙ c.in-Some.is) c.place_of-place.ensures.column c.first_column-first.ensures c.in_ok-cells-in-Some.ensures)
    c.window-in-Some.ensures.cells
