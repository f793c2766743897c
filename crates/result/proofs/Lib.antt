-- That the operands of an accepted file's records can be read, for the proofs of code that reads them.
-- Assumes nothing.
pub mod Reading
