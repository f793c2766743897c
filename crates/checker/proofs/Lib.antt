-- The laws that the proofs of this crate cite.
-- Assumes nothing.
pub mod VerdictLaws
