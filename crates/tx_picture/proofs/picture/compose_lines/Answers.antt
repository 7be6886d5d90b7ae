use Rattle.std.proofs.Common.{◌≡◌, ℕ, ◌+◌, ◌*◌, ◌<◌, List, [], get_or, replicate, Some, Option, sym, ap, subst, ◌∙◌, arith}
use Rattle.std.specs.Prelude.{slice_get}
use Rattle.tx_cell.specs.Grid.{GridValue, changed_at}
use Rattle.tx_geom.specs.declared.places.Size.{Size}
use Rattle.tx_picture.proofs.PictureLemmas.{done-blank, done-next, few-cells, line-at}
use Rattle.tx_picture.proofs.TickLemmas.{composed_both, composed_more, composed_same}
use Rattle.tx_picture.proofs.picture.compose_lines.Goals as goal
use Rattle.tx_picture.specs.Cells.{OwnersCover, cell_by}
use Rattle.tx_picture.specs.Picture.{empty, shown_line}

pub compose_line-requires-clause-covers : goal.compose_line-requires-clause-covers
compose_line-requires-clause-covers g c =
    subst (λ (line : List (Option ℕ)). OwnersCover c.args.entries.now c.args.drawings.now c.loop-y.y line) (line-at c.args.owners.now.lines c.loop-y.y c.in-Some.line.now (sym c.in-Some.ensures)) (c.requires.covers c.loop-y.y)

pub returns-in_err-compose_line-clause-ticks : goal.returns-in_err-compose_line-clause-ticks
returns-in_err-compose_line-clause-ticks g c =
    let size = c.args.owners.now.size in
    let wide = ap (λ (g : GridValue). g.size.width) c.loop-y.invariant.grid in
    let tall = ap (λ (s : Size). s.height) c.size-y-end.ensures in
    let below : c.loop-y.y < size.height = omega (arith, c.loop-y-test.true, c.loop-y.auto.y-end, tall) in
    composed_more g.L.Ledger.ticked (size.width * c.loop-y.y) c.loop-y.grid.size.width (size.width * size.height) c.args.steps.now.ledger c.loop-y.steps.ledger c.compose_line.new.steps.ledger
    (omega (arith, few-cells size.width size.height c.loop-y.y below, wide)) c.loop-y.invariant.ticks c.compose_line.ensures.ticks

pub compose_line-requires-clause-blank : goal.compose_line-requires-clause-blank
compose_line-requires-clause-blank g c =
    let tall = ap (λ (s : Size). s.height) c.size-y-end.ensures in
    subst (λ (g : GridValue). slice_get g.rows c.loop-y.y ≡ Some (replicate g.size.width empty)) (sym c.loop-y.invariant.grid)
    (done-blank c.args.owners.now.size (λ y. shown_line (cell_by c.args.entries.now c.args.drawings.now y) (get_or c.args.owners.now.lines y [])) c.loop-y.y (omega (arith, c.loop-y-test.true, c.loop-y.auto.y-end, tall)))

pub loop-y-preserved : goal.loop-y-preserved
loop-y-preserved g c =
    let size = c.args.owners.now.size in
    let tall = ap (λ (s : Size). s.height) c.size-y-end.ensures in
    let y = c.loop-y.y in
    let cells = cell_by c.args.entries.now c.args.drawings.now y in
    let line = c.in-Some.line.now in
    let wide = ap (λ (g : GridValue). g.size.width) c.loop-y.invariant.grid in
    record {
      grid = c.in_ok-compose_line.ensures.row
          ∙ ap (λ (g : GridValue). record g { rows = changed_at y (λ _. shown_line cells line) g.rows }) c.loop-y.invariant.grid
          ∙ done-next size (λ y. shown_line (cell_by c.args.entries.now c.args.drawings.now y) (get_or c.args.owners.now.lines y [])) y (shown_line cells line)
          (omega (arith, c.loop-y-test.true, c.loop-y.auto.y-end, tall)) (ap (λ (l : List (Option ℕ)). shown_line cells l) (sym (line-at c.args.owners.now.lines y line (sym c.in-Some.ensures))));
      ticks = composed_same g.L.Ledger.ticked (size.width * y + c.loop-y.grid.size.width) (size.width * (y + 1)) c.args.steps.now.ledger c.compose_line.new.steps.ledger (omega (arith, wide))
          (composed_both g.L.Ledger.ticked (size.width * y) c.loop-y.grid.size.width c.args.steps.now.ledger c.loop-y.steps.ledger c.compose_line.new.steps.ledger c.loop-y.invariant.ticks c.in_ok-compose_line.ensures.cells);
    }
