use Rattle.tx_term.proofs.GatherLemmas.{Queues-sent}
use Rattle.tx_term.proofs.update.gather.Gather.flush.Goals as goal

pub returns-clause-added : goal.returns-clause-added
returns-clause-added g c = record {
  behind = λ before all q.
      let queued = rw (← c.self.view_is) at q in
      let sends = rw c.as_slice.ensures.value at c.send_all-sent.ensures in
      rw c.clear.ensures (Queues-sent before _ _ all _ _ c.if-self.false sends queued);
}
