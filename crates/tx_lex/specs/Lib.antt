pub mod Answers
pub mod Blanks
pub mod Bytes
pub mod Digits
pub mod IsLexed
pub mod Lexemes
pub mod Lexing
pub mod Tokens
