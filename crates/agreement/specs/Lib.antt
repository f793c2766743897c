-- What two whole runs have in common: runs of calls, scrambled runs, and the claims about two runs.
-- Assumes nothing.
pub mod Runs
pub mod Scrambled
pub mod Claim
pub mod Compacted
pub mod ChangedOver
