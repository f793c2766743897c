-- How the code holds what a record asks.
-- Assumes nothing.
pub mod Held
