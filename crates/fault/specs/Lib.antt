-- What the search for the lowest record at fault does, step by step.
-- Assumes nothing.
pub mod Fault
