use Rattle.std.proofs.Common.{Result, Ok, Err, List, ℕ, IfOk, IfErr}
use Rattle.tx_tree.specs.TreeValue.{TreeValue}
use Rattle.tx_tree.specs.declared.fault.TreeFault.{TreeFault}
use Rattle.tx_tree_file.specs.TreeFile.{IsReading}
use Rattle.tx_tree_file.specs.TreeReading.{tree_of, Reads}
use Rattle.tx_tree_file.specs.FirstFault.{IsFaultOf}
use Rattle.tx_tree_file.proofs.AgainFile.{gives-rows, reading-again}
use Rattle.tx_tree_file.proofs.Faults.{fault-of}
use Rattle.tx_tree_file.proofs.Whole.{reading-of}
use Rattle.tx_tree_file.proofs.read.read_tree.Goals as goal

pub returns-clause-found : goal.returns-clause-found
returns-clause-found c = by c.args.bytes.now c.read_lines.result c.read_lines.ensures
  where
    by : (bytes : List ℕ) (r : Result TreeValue TreeFault) → Reads (tree_of bytes) r → IfOk r (λ tree. IsReading bytes tree)
    by bytes (Ok tree) h = reading-of bytes tree h.0 h.1
    by bytes (Err fault) h = tt

pub returns-clause-fault : goal.returns-clause-fault
returns-clause-fault c = by c.args.bytes.now c.read_lines.result c.read_lines.ensures
  where
    by : (bytes : List ℕ) (r : Result TreeValue TreeFault) → Reads (tree_of bytes) r → IfErr r (λ fault. IsFaultOf bytes fault)
    by bytes (Ok tree) h = tt
    by bytes (Err fault) h = fault-of bytes fault h

pub returns-clause-only : goal.returns-clause-only
returns-clause-only c = λ tree whole reading. gives-rows tree.rows _ c.read_lines.result (reading-again c.args.bytes.now tree whole reading) c.read_lines.ensures
