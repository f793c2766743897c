-- The answers of calls, as numbers, and when they fit into them.
-- Assumes nothing.
pub mod Answer
pub mod Fits
