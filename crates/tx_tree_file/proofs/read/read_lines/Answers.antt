use Rattle.std.proofs.Common.{arith, true, subst, Result, List}
use Rattle.tx_tree.specs.declared.row.Row.{Row}
use Rattle.tx_tree_file.specs.TreeReading.{LineFault, Reads}
use Rattle.tx_tree_file.proofs.LastRows.{piece_short}
use Rattle.tx_tree_file.proofs.FoundLines.{row-found}
use Rattle.tx_tree_file.proofs.Whole.{first-inv, first-read, first-fault}
use Rattle.tx_tree_file.proofs.read.read_lines.Goals as goal

pub first_item-requires-2 : goal.first_item-requires-2
first_item-requires-2 c =
    let short = piece_short c.args.bytes.now c.in-Some.line.now _ c.in-Some.ensures.pieces in
    record { size = omega (arith, short, c.requires) }

pub read_behind-requires-clause-screen : goal.read_behind-requires-clause-screen
read_behind-requires-clause-screen c = (first-inv c.in-Some.line.now true c.in-Ok-first_item.screen c.in-Ok-first_item.ensures.gives).1.screen

pub read_behind-requires-clause-alone : goal.read_behind-requires-clause-alone
read_behind-requires-clause-alone c = (row-found c.in-Some.line.now c.in-Ok-first_item.screen (first-inv c.in-Some.line.now true c.in-Ok-first_item.screen c.in-Ok-first_item.ensures.gives).1.row).alone

pub returns-in-Ok-first_item : goal.returns-in-Ok-first_item
returns-in-Ok-first_item c =
    subst (λ (r : Result (List Row) LineFault). Reads r c.read_behind.result) (first-read c.args.bytes.now c.in-Some.line.now c.in-Some.rest.now c.in-Ok-first_item.screen c.in-Some.ensures.pieces c.in-Ok-first_item.ensures.gives) c.read_behind.ensures

pub returns-in-Err-first_item : goal.returns-in-Err-first_item
returns-in-Err-first_item c = first-fault c.args.bytes.now c.in-Some.line.now c.in-Some.rest.now c.in-Err-first_item.refusal c.in-Some.ensures.pieces c.in-Err-first_item.ensures.gives
