-- The laws of words and masks that proofs cite, here and in the crates above.
-- Assumes nothing.
pub mod Counts
pub mod CutLaws
pub mod Modulo
pub mod ProductLaws
pub mod Digits
pub mod Order
pub mod Shifts
pub mod Agreement
pub mod Congruence
pub mod Growth
