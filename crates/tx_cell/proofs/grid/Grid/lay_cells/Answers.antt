use Rattle.std.proofs.Common.{◌≡◌, ◌++◌, length, take, drop, ap, ◌∙◌}
use Rattle.std.proofs.Math.Seq.{take_at}
use Rattle.tx_cell.proofs.GridLemmas.{IsArray-laid, rows_of-laid}
use Rattle.tx_cell.proofs.grid.Grid.lay_cells.Goals as goal

pub invariant_of-self : goal.invariant_of-self
invariant_of-self c =
    let all = c.lay_at.new.all in
    let back : take c.self.inside.cells.len (all ++ drop (length all) c.self.inside.cells.items) ≡ all = take_at all _ _ (c.lay_at.auto.all ∙ c.deref_mut.ensures.len) in
    let asked = rw (← c.self.view_is) at c.requires in
    rw (back, c.lay_at.ensures.row, c.deref_mut.ensures.value) (IsArray-laid _ _ _ _ _ c.self.invariant asked.row asked.columns c.requires.formed)

pub returns : goal.returns
returns c =
    let all = c.lay_at.new.all in
    let size = c.self.inside.size in
    let back : take c.self.inside.cells.len (all ++ drop (length all) c.self.inside.cells.items) ≡ all = take_at all _ _ (c.lay_at.auto.all ∙ c.deref_mut.ensures.len) in
    let asked = rw (← c.self.view_is) at c.requires in
    record {
      grid = rw (← c.self.view_is, back, c.lay_at.ensures.row, c.deref_mut.ensures.value) (ap (λ rows. record { size = size; rows = rows }) (rows_of-laid size _ _ _ _ c.self.invariant asked.row asked.columns));
    }
