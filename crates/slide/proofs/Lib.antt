-- The laws of one frame, from the bottom up.
pub mod Exchange
pub mod Sums
pub mod Counts
pub mod Pigeonhole
pub mod Parity
pub mod Cells
pub mod Gap
pub mod Proper
pub mod Ways
pub mod Moves
pub mod Back
pub mod Sign
pub mod Distance
pub mod Home
pub mod Worked
