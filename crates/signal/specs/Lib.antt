-- One record's meaning: its result, and what it asks of its operands.
-- Assumes nothing.
pub mod Results
pub mod Asks
pub mod AskLists
