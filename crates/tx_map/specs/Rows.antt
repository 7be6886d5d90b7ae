-- A pair of numbers as the logic holds it, for the clause on what a `&mut` lends.
use Rattle.std.specs.Prelude.{[], ◌∷◌}
use Rattle.std.specs.Borrow.{u32}
use denote.RattleType.{RattleType}
use denote.Struct.Tuple.{Tuple}

abbrev pub pair_row : RattleType
pair_row = Tuple (u32 ∷ (u32 ∷ []))
