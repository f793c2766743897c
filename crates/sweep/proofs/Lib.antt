-- The laws of sweeps, for the proofs of this crate.
-- Assumes nothing.
mod MarkLaws
mod NotedLaws
mod SweepLaws
