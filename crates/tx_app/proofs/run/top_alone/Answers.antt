use Rattle.tx_app.proofs.CauseLemmas.{Runs-read_fault, Runs-sink_fault, Runs-complete}
use Rattle.tx_app.proofs.HeadlineLemmas.{Runs-shows}
use Rattle.tx_app.proofs.run.top_alone.Goals as goal

pub returns-clause-read_fault : goal.returns-clause-read_fault
returns-clause-read_fault g c = Runs-read_fault _ _ _ _ _ _ _ c.run-cause.ensures.runs

pub returns-clause-sink_fault : goal.returns-clause-sink_fault
returns-clause-sink_fault g c = Runs-sink_fault _ _ _ _ _ _ _ c.run-cause.ensures.runs

pub returns-clause-complete : goal.returns-clause-complete
returns-clause-complete g c = Runs-complete _ _ _ _ _ _ _ c.run-cause.ensures.runs

pub returns-clause-shows : goal.returns-clause-shows
returns-clause-shows g c = rw c.of.ensures (Runs-shows c.whole_updates_lead.ensures.law _ _ _ _ _ _ _ c.run-cause.ensures.runs)
