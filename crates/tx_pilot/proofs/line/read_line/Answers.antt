use Rattle.tx_pilot.proofs.LineLaws.{clause-found, clause-only, clause-fault, clause-refused}
use Rattle.tx_pilot.proofs.line.read_line.Goals as goal

pub returns-clause-found : goal.returns-clause-found
returns-clause-found c = clause-found c.args.line.now c.line_of.result c.line_of.ensures

pub returns-clause-only : goal.returns-clause-only
returns-clause-only c = clause-only c.args.line.now c.line_of.result c.line_of.ensures

pub returns-clause-fault : goal.returns-clause-fault
returns-clause-fault c = clause-fault c.args.line.now c.line_of.result c.line_of.ensures

pub returns-clause-refused : goal.returns-clause-refused
returns-clause-refused c = clause-refused c.args.line.now c.line_of.result c.line_of.ensures
