-- What a netlist file says: kinds, records, their places, the limits, and the numbers of the refusals; and the records that a test picks.
-- Assumes nothing.
pub mod Kinds
pub mod Layout
pub mod Limits
pub mod Lowest
pub mod Picked
pub mod Refusals
pub mod Rules
