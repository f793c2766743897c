-- The claims about two runs, and what they rest on.
-- Assumes nothing.
pub mod RunLaws
pub mod Chains
pub mod InStep
pub mod ScrambleLaws
pub mod Follow
pub mod OneCycle
pub mod Between
pub mod TwoRuns
pub mod PartCycle
pub mod CompactedCycle
pub mod CompactedRuns
pub mod CompactedAccepts
pub mod ChangedOver
