-- What reading rests on.
pub mod Lines
pub mod Texts
