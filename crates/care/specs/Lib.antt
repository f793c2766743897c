-- The care masks: the smallest under the care rules, what any list of them calls for, their tally, and the operation `masks`.
-- Assumes nothing.
pub mod Least
pub mod Called
pub mod Call
