use Rattle.tx_map.proofs.tests.chains.+chained.Given as goal

abbrev pub decreases-measured : goal.decreases-measured
decreases-measured l = l.left

abbrev pub decreases-answer : goal.decreases-answer
decreases-answer l = l.fewer
