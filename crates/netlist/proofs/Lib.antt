-- The laws of kinds, of rules and of the records that a test picks, which proofs cite here and in the crates above.
-- Assumes nothing.
pub mod KindLaws
pub mod LowestLaws
pub mod PickedLaws
pub mod OperandLists
pub mod RefusalLaws
pub mod RoleLaws
pub mod Tests
