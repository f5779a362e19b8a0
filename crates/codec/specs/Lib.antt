-- What the code's calls, answers and refusals mean, and what is said of bytes that are none of them.
pub mod Meaning
pub mod Says
