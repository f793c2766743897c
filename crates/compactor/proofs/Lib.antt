-- The laws that the proofs of this crate cite: marks and numbers of survivors, the bytes of a survivor, and the file as it is being written.
-- Assumes nothing.
pub mod MarkLaws
pub mod NumberLaws
pub mod RecordBytes
pub mod WriteLaws
