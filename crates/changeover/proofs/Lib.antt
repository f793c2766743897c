-- What the crates above may cite: the words that go over, and what a call of change_over comes to.
-- Assumes nothing.
pub mod CarriedLaws
pub mod CallLaws
pub mod Promises
