-- What frames, moves and signs are, and what is promised.
pub mod Tiles
pub mod Calls
pub mod Promise
pub mod Examples
