-- What the code of frames rests on.
pub mod Fits
pub mod Missing
pub mod Inversions
pub mod Verdict
