use Rattle.std.proofs.Common.{ap, length, arith}
use Rattle.tx_select.proofs.Small.{whole-small}
use Rattle.tx_select.proofs.texts.read.Goals as goal

pub of-requires : goal.of-requires
of-requires c = whole-small _ _ _ _ c.in-Ok.ensures
    (omega (arith, c.requires, c.in_ok-tokens.ensures.few, ap length c.as_slice.ensures, ap length c.as_bytes-text.ensures.value))
