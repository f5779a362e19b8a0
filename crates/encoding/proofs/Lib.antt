-- Laws of numbers as bytes and of formats, from the bottom up.
pub mod Numbers
pub mod Stops
pub mod Counted
pub mod Values
pub mod CallLaws
pub mod Misfits
pub mod Refusals
pub mod AnswerLaws
