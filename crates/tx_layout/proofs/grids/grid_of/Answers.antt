use Rattle.std.proofs.Common.{◌∙◌, sym, ap, subst, length, All, List, Option}
use Rattle.std.specs.Prelude.{IfSome}
use Rattle.tx_grid.specs.declared.places.Cells.{Cells}
use Rattle.tx_grid.specs.Standing.{IsInside}
use Rattle.tx_layout.specs.Grid.{row_count}
use Rattle.tx_layout.proofs.InTracks.{in_tracks}
use Rattle.tx_layout.proofs.grids.grid_of.Goals as goal

pub framed-requires-clause-inside : goal.framed-requires-clause-inside
framed-requires-clause-inside g c =
    let grid = c.args.grid.now in
    in_tracks grid.columns grid.rows c.deref-2.result.now c.deref-3.result.now c.deref-4.result.now
    (ap length c.deref-2.ensures.value ∙ (c.in_ok-columns.ensures {u = tt}).count)
    (ap length c.deref-3.ensures.value ∙ ((c.in_ok-rows.ensures {u = tt}).count ∙ ap (row_count grid.rows) (c.deref.ensures.value ∙ sym c.deref-4.ensures.value)))
    (subst (λ (l : List (Option Cells)). All (λ place. IfSome place (IsInside grid.columns grid.rows)) l) (sym c.deref-4.ensures.value) (c.in_ok-places.ensures {u = tt}).inside)
