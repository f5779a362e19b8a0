-- Texts as rows, rows as frames, and what is said of both.
pub mod Rows
pub mod Taken
pub mod Flaws
pub mod Judged
pub mod Says
