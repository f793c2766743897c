-- What clocking is: the values of a cycle, the states that follow, and the operations `start` and `cycle`.
-- Assumes nothing.
pub mod Values
pub mod Call
