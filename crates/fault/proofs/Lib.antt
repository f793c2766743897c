-- The laws of the search, for the proofs of this crate.
-- Assumes nothing.
mod FaultLaws
