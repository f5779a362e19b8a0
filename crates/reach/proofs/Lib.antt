-- What can be reached, for every size, from the bottom up.
pub mod Parts
pub mod Restricted
pub mod Blocks
pub mod Walks
pub mod Brings
pub mod Below
pub mod Place
pub mod Rows
pub mod Solve
pub mod Fill
pub mod Four
pub mod Sizes
pub mod Targets
pub mod Promises
