-- What trimming is: the file that trim writes, and the operations `trim` and `trim_by`.
-- Assumes nothing.
pub mod Trimmed
pub mod Call
pub mod CallBy
