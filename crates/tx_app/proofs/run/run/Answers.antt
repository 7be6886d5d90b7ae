use Rattle.tx_app.proofs.CourseLemmas.{Runs-done}
use Rattle.tx_app.proofs.TickLemmas.{RunTicks-of}
use Rattle.tx_app.proofs.run.run.Goals as goal

pub returns-clause-runs : goal.returns-clause-runs
returns-clause-runs g c = Runs-done _ _ _ _ _ _ _ _ c.open_words-opened.ensures.planned c.perform.ensures.does

pub returns-clause-ticks : goal.returns-clause-ticks
returns-clause-ticks g c = RunTicks-of _ _ _ _ _ _ _ _ c.open_words-opened.ensures.planned c.perform.ensures.ticks
