use Rattle.std.proofs.Common.{◌<◌, ◌^◌, [], ◌∷◌, length, rules, arith}
use Rattle.tx_cell.specs.Strip.{AreCuts, joined, parts_from}
use Rattle.tx_cell.proofs.StripLemmas.{length-parts_from}
use Rattle.tx_cell.proofs.tests.strips_are_divided_and_joined.Goals as goal

pub check_joined-requires : goal.check_joined-requires
check_joined-requires g c =
    let strip = c.in_ok-strip.strip in
    let cuts : AreCuts 0 (length strip) (2 ∷ []) = search rules in
    let len = length-parts_from strip 0 (2 ∷ []) cuts in
    let short : length strip < 2 ^ 32 = search rules in
    let few : length (joined (parts_from strip 0 (2 ∷ []))) < 2 ^ 32 = omega (arith, len, short) in
    rw (c.deref-2.ensures.value, c.in_ok-parts.ensures.parts) few
