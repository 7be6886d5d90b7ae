use Rattle.std.proofs.Common.{ap, ◌∙◌}
use Rattle.tx_term.proofs.CanvasLemmas.{held-put_held}
use Rattle.tx_term.specs.Machine.{Machine}
use Rattle.tx_term.proofs.machine.Terminal.last_byte.Goals as goal

pub run-requires : goal.run-requires
run-requires c = record { nothing_held = ap (λ (m : Machine). m.canvas.held) c.end.ensures ∙ held-put_held _ }
