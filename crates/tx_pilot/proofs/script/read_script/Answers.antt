use Rattle.tx_pilot.proofs.ScriptLaws.{clause-found, clause-only, clause-fault, clause-refused}
use Rattle.tx_pilot.proofs.script.read_script.Goals as goal

pub returns-clause-found : goal.returns-clause-found
returns-clause-found c = clause-found c.args.bytes.now c.track_of.result c.track_of.ensures

pub returns-clause-only : goal.returns-clause-only
returns-clause-only c = clause-only c.args.bytes.now c.track_of.result c.track_of.ensures

pub returns-clause-fault : goal.returns-clause-fault
returns-clause-fault c = clause-fault c.args.bytes.now c.track_of.result c.track_of.ensures

pub returns-clause-refused : goal.returns-clause-refused
returns-clause-refused c = clause-refused c.args.bytes.now c.track_of.result c.track_of.ensures
