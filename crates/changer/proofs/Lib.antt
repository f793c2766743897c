-- The laws that the proofs of this crate cite: the new list as it is being filled.
-- Assumes nothing.
pub mod CarryLaws
