use Rattle.tx_tree_file.proofs.Faults.{file-fault}
use Rattle.tx_tree_file.proofs.OneFault.{fault-once}
use Rattle.tx_tree_file.proofs.laws.one_fault.Goals as goal

pub returns : goal.returns
returns c = λ bytes number kind. (file-fault bytes (record { line = number; kind = kind }), fault-once bytes number kind)
