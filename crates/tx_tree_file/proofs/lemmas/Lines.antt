-- A text is its lines with a line feed between them.
pub use Rattle.tx_tree_file.proofs.AgainFile.{cut-again}
pub use Rattle.tx_tree_file.proofs.LastRows.{some_piece}
pub use Rattle.tx_tree_file.proofs.OneFault.{cut-last}
pub use Rattle.tx_tree_file.proofs.Whole.{joined, joined-pieces, pieces-whole}
