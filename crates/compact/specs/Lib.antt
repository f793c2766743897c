-- What compacting is: which records survive, what becomes of them, the file that they make, and the operation `compact`.
-- Assumes nothing.
pub mod Survivors
pub mod Part
pub mod Call
