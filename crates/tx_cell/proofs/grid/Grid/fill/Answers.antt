use Rattle.std.proofs.Common.{◌≡◌, ◌*◌, replicate, ap, ◌∙◌, length, rules}
use Rattle.std.specs.Vec.{vec_len}
use Rattle.tx_cell.proofs.GridLemmas.{IsArray-filled, rows_of-replicate}
use Rattle.tx_cell.specs.Grid.{GridValue, filled}
use Rattle.tx_cell.proofs.grid.Grid.fill.Goals as goal

pub invariant_of-self : goal.invariant_of-self
invariant_of-self c =
    let size = c.self.inside.size in
    let length_is : vec_len c.self.inside.cells ≡ length c.self.inside.cells.items = search rules in
    let items : c.fill.new.self.items ≡ replicate (size.width * size.height) c.args.fill = c.fill.ensures.items (λ y is. is) ∙ ap (λ n. replicate n c.args.fill) (length_is ∙ c.self.invariant.area) in
    rw items (IsArray-filled size c.args.fill c.width-is_narrow.ensures.known c.requires.narrow)

pub returns : goal.returns
returns c =
    let size = c.self.inside.size in
    let length_is : vec_len c.self.inside.cells ≡ length c.self.inside.cells.items = search rules in
    let items : c.fill.new.self.items ≡ replicate (size.width * size.height) c.args.fill = c.fill.ensures.items (λ y is. is) ∙ ap (λ n. replicate n c.args.fill) (length_is ∙ c.self.invariant.area) in
    record { grid = rw items (ap (λ rows. record { size = size; rows = rows }) (rows_of-replicate size.width size.height c.args.fill) ∙ ap (λ (g : GridValue). filled g.size c.args.fill) c.self.view_is) }
