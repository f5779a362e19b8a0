-- Calls and answers as bytes: numbers, how each is written and read, and what is promised of that.
pub mod Bytes
pub mod Formats
pub mod CallBytes
pub mod AnswerBytes
pub mod Laws
