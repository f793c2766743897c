-- What acceptance means, and that every accepted file is the encoding of its design; the laws on the way.
-- Assumes nothing.
pub mod FieldLaws
pub mod OperandLaws
pub mod Acceptance
pub mod Canonical
pub mod CheckLaws
pub mod Encoded
pub mod EncodedBytes
pub mod SoundLaws
