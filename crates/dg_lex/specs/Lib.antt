pub mod Bytes
pub mod Tokens
pub mod LexFaults
pub mod Lexemes
pub mod LexLaws
