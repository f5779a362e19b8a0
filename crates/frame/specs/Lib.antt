-- Sides in range, and cells as frames.
pub mod Range
pub mod Cells
