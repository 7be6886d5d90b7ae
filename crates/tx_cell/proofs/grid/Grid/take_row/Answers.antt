use Rattle.std.proofs.Common.{◌≡◌, ◌++◌, length, take, drop, ap, ◌∙◌}
use Rattle.std.proofs.Math.Seq.{take_at}
use Rattle.std.specs.Prelude.{slice_get, unwrap_or}
use Rattle.tx_geom.specs.declared.places.Size.{Size}
use Rattle.tx_cell.proofs.GridLemmas.{IsArray-taken, rows_of-taken, IsArray-same}
use Rattle.tx_cell.specs.Grid.{changed_at, rows_of}
use Rattle.tx_cell.proofs.grid.Grid.take_row.Goals as goal

pub invariant_of-self : goal.invariant_of-self
invariant_of-self c =
    let all = c.copy_at.new.all in
    let back : take c.self.inside.cells.len (all ++ drop (length all) c.self.inside.cells.items) ≡ all = take_at all _ _ (c.copy_at.auto.all ∙ c.deref_mut.ensures.len) in
    let same = rw (← c.self.view_is, ← c.from.view_is) at c.requires.same_size in
    let row = rw (← c.self.view_is) at c.requires.row in
    let from = IsArray-same _ _ _ same c.from.invariant in
    rw (back, c.copy_at.ensures.row, c.deref_mut.ensures.value, c.deref.ensures.value) (IsArray-taken _ _ _ _ c.self.invariant from row)

pub returns : goal.returns
returns c =
    let all = c.copy_at.new.all in
    let back : take c.self.inside.cells.len (all ++ drop (length all) c.self.inside.cells.items) ≡ all = take_at all _ _ (c.copy_at.auto.all ∙ c.deref_mut.ensures.len) in
    let same = rw (← c.self.view_is, ← c.from.view_is) at c.requires.same_size in
    let row = rw (← c.self.view_is) at c.requires.row in
    let from = IsArray-same _ _ _ same c.from.invariant in
    record {
      grid = rw (← c.self.view_is, ← c.from.view_is, back, c.copy_at.ensures.row, c.deref_mut.ensures.value, c.deref.ensures.value) (ap (λ rows. record { size = c.self.inside.size; rows = rows })
          (rows_of-taken _ _ _ _ c.self.invariant from row
          ∙ ap (λ (s : Size). changed_at c.args.y (λ row. unwrap_or (slice_get (rows_of s.width s.height c.from.inside.cells.items) c.args.y) row) (rows_of c.self.inside.size.width c.self.inside.size.height c.self.inside.cells.items)) same));
    }
