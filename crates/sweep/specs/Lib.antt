-- What the functions of a sweep promise to each other.
-- Assumes nothing.
pub mod Marks
pub mod Sweep
