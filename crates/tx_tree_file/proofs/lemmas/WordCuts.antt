-- Words and what stands behind a prefix, cut off and put together.
pub use Rattle.tx_tree_file.proofs.AgainLines.{is_low, low-utf8}
pub use Rattle.tx_tree_file.proofs.AgainParts.{word-again, name-no_blank, brace-again, same-bytes, digits-no_blank}
pub use Rattle.tx_tree_file.proofs.FoundLines.{all-behind, find-found}
pub use Rattle.tx_tree_file.proofs.FoundParts.{word_split, before_brace-found, same_bytes}
pub use Rattle.tx_tree_file.proofs.Fronts.{some-same, none-some, same-byte, self-byte, front_of, behind-front}
