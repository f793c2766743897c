-- What the crates above may cite: the laws of results, those of the care rules, and those that join the two.
-- Assumes nothing.
pub mod ShiftLaws
pub mod ConstantLaws
pub mod SignedLaws
pub mod ResultWidths
pub mod RuleLaws
pub mod ResultLaws
pub mod AskedNothing
pub mod AskedOperands
