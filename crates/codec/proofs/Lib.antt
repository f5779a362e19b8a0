-- Lemmas on what was read, and on lent bytes that an answer is written to.
pub mod Read
pub mod Lent
