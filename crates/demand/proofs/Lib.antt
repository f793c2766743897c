-- What a file's constants are, and that the operands of an accepted file's records can be read, for the proofs of this crate.
-- Assumes nothing.
mod Constants
mod Reading
