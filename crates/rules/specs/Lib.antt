-- When a netlist file is accepted, what acceptance says of its design, and what the code below the operations asks.
-- Assumes nothing.
pub mod Fit
pub mod Check
pub mod Encode
pub mod Sound
pub mod Lent
